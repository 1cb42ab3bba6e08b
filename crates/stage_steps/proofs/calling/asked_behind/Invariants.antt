use Rattle.std.proofs.Common.{◌≡◌, ◌≤◌, ◌-◌, length, map, take, drop}
use Rattle.lock_tree_laws.specs.Forest.{asks_of}
use Rattle.stage_steps.proofs.calling.asked_behind.Given as goal

abbrev pub invariant-loop-at : goal.invariant-loop-at
invariant-loop-at l = record {
  told : l.nodes ≡ map (λ a. a.node) (take (l.at - l.before) (drop l.before (asks_of l.tree.trail l.s.number)));
  long : length l.nodes ≤ l.at - l.before;
}
