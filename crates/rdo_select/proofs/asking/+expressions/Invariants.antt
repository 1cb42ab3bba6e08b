use Rattle.std.proofs.Common.{◌≡◌, drop}
use Rattle.rdo_select.proofs.Asks.{operations_asked}
use Rattle.rdo_select.proofs.asking.+expressions.Given as goal

abbrev pub invariant-operations_ask-loop-operation : goal.invariant-operations_ask-loop-operation
invariant-operations_ask-loop-operation l = operations_asked l.operations ≡ operations_asked (drop l.operation-index l.operations)
