use Rattle.std.proofs.Common.{◌≡◌, ◌<◌, ℕ, Some}
use Rattle.std.specs.Prelude.{slice_get}
use Rattle.line_view.specs.declared.writes.Write.{Write}
use Rattle.disk_store.specs.Changing.{IsFit}
use Rattle.disk_store.proofs.changing.first_unfit.Given as goal

abbrev pub invariant-loop-write : goal.invariant-loop-write
invariant-loop-write l = (i : ℕ) (w : Write) → i < l.write-index → slice_get l.writes i ≡ Some w → IsFit l.s.number l.tables l.members w
