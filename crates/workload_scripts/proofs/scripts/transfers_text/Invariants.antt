use Rattle.std.proofs.Common.{◌≡◌, ◌++◌}
use Rattle.workload_scripts.specs.Draws.{behind_transfers}
use Rattle.workload_scripts.specs.Scripts.{transfers_to}
use Rattle.workload_scripts.proofs.scripts.transfers_text.Given as goal

abbrev pub invariant-loop-made : goal.invariant-loop-made
invariant-loop-made l = record {
  text : l.out ≡ l.initial.out ++ transfers_to l.accounts l.number l._made;
  last : l.last ≡ behind_transfers l.number l._made;
}
