use Rattle.std.proofs.Common.{◌≡◌, ◌<◌, ◌==◌, ℕ, false, Some}
use Rattle.std.specs.Prelude.{slice_get}
use Rattle.std.specs.FinMap.Entries.{find}
use Rattle.rdb_types.specs.declared.keys.Line.{Line}
use Rattle.rdb_types.specs.Order.{dbkey_order}
use Rattle.disk_store.specs.declared.member.Member.{Member}
use Rattle.disk_store.proofs.changing.is_anothers.Given as goal

abbrev pub invariant-loop-place : goal.invariant-loop-place
invariant-loop-place l = (t : ℕ) (n : Member) (line : Line) → t < l.place → (t == l.s.number) ≡ false → slice_get l.members t ≡ Some n → find dbkey_order l.key n.written.lines ≡ Some line → ⊥
