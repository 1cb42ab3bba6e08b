use Rattle.std.proofs.Common.{arith}
use Rattle.record_format.proofs.Lists.{size_up_to, size_more}
use Rattle.index_node.specs.Node.{entry_fields}
use Rattle.index_node.proofs.node.entries_size.Goals as goal

pub returns-then-limit-bytes-clause-none : goal.returns-then-limit-bytes-clause-none
returns-then-limit-bytes-clause-none c =
    let within = size_up_to entry_fields c.args.entries.now c.loop-entry.entry-index c.entry-item.result c.loop-entry-test.true c.entry-item.is in
    omega (arith, within, c.loop-entry.invariant.0, c.loop-entry.invariant.1, c.entry_size-more.ensures.value, c.if-limit-bytes.true)

pub loop-entry-preserved : goal.loop-entry-preserved
loop-entry-preserved c =
    let more = size_more entry_fields c.args.entries.now c.loop-entry.entry-index c.entry-item.result c.loop-entry-test.true c.entry-item.is in
    (omega (arith, more, c.loop-entry.invariant.0, c.entry_size-more.ensures.value), omega (arith, c.loop-entry.invariant.1, c.if-limit-bytes.false))
