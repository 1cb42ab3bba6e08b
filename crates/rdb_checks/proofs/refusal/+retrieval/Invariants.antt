use Rattle.std.proofs.Common.{◌≡◌, map, drop}
use Rattle.rdo_ast.specs.Views.{act_of, acts_of}
use Rattle.rdb_meaning.specs.Checks.{are_retrievals}
use Rattle.rdb_checks.proofs.refusal.+retrieval.Given as goal

abbrev pub invariant-are_retrievals-loop-action : goal.invariant-are_retrievals-loop-action
invariant-are_retrievals-loop-action l =
    are_retrievals (acts_of (map act_of l.actions)) ≡ are_retrievals (acts_of (map act_of (drop l.action-index l.actions)))
