use Rattle.std.proofs.Common.{◌≡◌, ◌<◌, ℕ, slice_get, Some}
use Rattle.committed_lines.specs.Seen.{Seen}
use Rattle.committed_lines.proofs.seen.bearer.Given as goal

abbrev pub invariant-loop-member : goal.invariant-loop-member
invariant-loop-member g l = (i : ℕ) (its : _) (seen : Seen) → i < l.member → slice_get l.members i ≡ Some its → g.T.HasBeforeImages.seen its ≡ Some seen → seen.tsn.number ≡ l.tsn.number → ⊥
