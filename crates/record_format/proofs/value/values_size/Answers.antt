use Rattle.std.proofs.Common.{arith}
use Rattle.record_format.specs.Values.{value_fields}
use Rattle.record_format.proofs.Lists.{size_up_to, size_more}
use Rattle.record_format.proofs.value.values_size.Goals as goal

pub returns-then-limit-bytes-clause-none : goal.returns-then-limit-bytes-clause-none
returns-then-limit-bytes-clause-none c =
    let within = size_up_to value_fields c.args.values.now c.loop-value.value-index c.value-item.result c.loop-value-test.true c.value-item.is in
    omega (arith, within, c.loop-value.invariant.0, c.loop-value.invariant.1, c.value_size-more.ensures, c.if-limit-bytes.true)

pub loop-value-preserved : goal.loop-value-preserved
loop-value-preserved c =
    let more = size_more value_fields c.args.values.now c.loop-value.value-index c.value-item.result c.loop-value-test.true c.value-item.is in
    (omega (arith, more, c.loop-value.invariant.0, c.value_size-more.ensures), omega (arith, c.loop-value.invariant.1, c.if-limit-bytes.false))
