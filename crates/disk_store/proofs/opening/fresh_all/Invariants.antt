use Rattle.std.proofs.Common.{◌≡◌, length}
use Rattle.disk_store.specs.Opening.{AreFresh}
use Rattle.disk_store.proofs.opening.fresh_all.Given as goal

abbrev pub invariant-loop-place : goal.invariant-loop-place
invariant-loop-place l = record { long : length l.members.items ≡ l._place; fresh : AreFresh l.members.items }
