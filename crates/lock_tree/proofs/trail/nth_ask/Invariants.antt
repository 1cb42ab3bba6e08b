use Rattle.std.proofs.Common.{◌≡◌, drop}
use Rattle.std.specs.Prelude.{slice_get}
use Rattle.lock_tree_laws.specs.Forest.{asks_of}
use Rattle.lock_tree.proofs.trail.nth_ask.Given as goal

abbrev pub invariant-loop-asked : goal.invariant-loop-asked
invariant-loop-asked l = slice_get (asks_of (drop l.asked-index l.trail) l.owner) l.left ≡ slice_get (asks_of l.trail l.owner) l.nth
