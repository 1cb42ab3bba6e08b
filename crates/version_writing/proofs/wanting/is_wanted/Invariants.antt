use Rattle.std.proofs.Common.{◌≡◌, ◌<◌, ℕ, Some}
use Rattle.std.specs.Prelude.{slice_get}
use Rattle.version_writing.proofs.wanting.is_wanted.Given as goal

abbrev pub invariant-loop-place : goal.invariant-loop-place
invariant-loop-place g l = (s : ℕ) (m : _) → s < l.place → slice_get l.members s ≡ Some m → g.T.MayWant.unwanted m l.tsn.number
