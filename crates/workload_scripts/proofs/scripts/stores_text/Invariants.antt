use Rattle.std.proofs.Common.{◌≡◌, ◌++◌}
use Rattle.workload_scripts.specs.Scripts.{stores_to}
use Rattle.workload_scripts.proofs.scripts.stores_text.Given as goal

abbrev pub invariant-loop-account : goal.invariant-loop-account
invariant-loop-account l = l.out ≡ l.initial.out ++ stores_to l.account
