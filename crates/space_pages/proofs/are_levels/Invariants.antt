use Rattle.std.specs.Prelude.{ℕ, ◌<◌, ◌≤◌}
use Rattle.space_pages.specs.Space.{level_at}
use Rattle.space_pages.proofs.are_levels.Given as goal

abbrev pub invariant-loop-index : goal.invariant-loop-index
invariant-loop-index l = (k : ℕ) → k < l.index → level_at k l.spam ≤ 3
