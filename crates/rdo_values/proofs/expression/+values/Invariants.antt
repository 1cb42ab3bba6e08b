use Rattle.std.proofs.Common.{◌≡◌, drop}
use Rattle.rdb_meaning.specs.Numbers.{is}
use Rattle.rdo_values.proofs.Chains.{chained}
use Rattle.rdo_values.proofs.expression.+values.Given as goal

abbrev pub invariant-chain_value-loop-operation : goal.invariant-chain_value-loop-operation
invariant-chain_value-loop-operation l =
    chained l.rows (is l.fn.first) l.operations ≡ chained l.rows (is l.value) (drop l.operation-index l.operations)
