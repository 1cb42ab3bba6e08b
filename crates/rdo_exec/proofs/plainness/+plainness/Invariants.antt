use Rattle.std.proofs.Common.{◌≡◌, map, drop}
use Rattle.rdo_ast.specs.Views.{applied_of, operations_of}
use Rattle.rdo_exec.specs.Ways.{are_plain}
use Rattle.rdo_exec.proofs.plainness.+plainness.Given as goal

abbrev pub invariant-are_plain-loop-operation : goal.invariant-are_plain-loop-operation
invariant-are_plain-loop-operation l = are_plain (operations_of (map applied_of l.operations)) ≡ are_plain (operations_of (map applied_of (drop l.operation-index l.operations)))
