use Rattle.std.proofs.Common.{◌≡◌, ◌++◌, Some}
use Rattle.statement_view.specs.Over.{knows_over}
use Rattle.schema_writes.proofs.deletions.keys_in.Given as goal

abbrev pub invariant-loop-key : goal.invariant-loop-key
invariant-loop-key l =
    goal.iterator-loop-key.can_next l.key-iterator ×
    goal.iterator-loop-key.is_finite l.key-iterator ×
    ((knows_over l.view).area l.area ≡ Some (l.keys ++ l.key-iterator))
