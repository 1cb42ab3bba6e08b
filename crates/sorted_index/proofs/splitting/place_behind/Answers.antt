use Rattle.std.proofs.Common.{arith}
use Rattle.record_format.proofs.Lists.{size_more}
use Rattle.index_node.specs.Node.{entry_fields}
use Rattle.sorted_index.proofs.splitting.place_behind.Goals as goal

pub loop-at-preserved : goal.loop-at-preserved
loop-at-preserved c =
    let more = size_more entry_fields c.args.entries.now c.loop-at.at c.index-entries-at.result c.loop-at-test.true c.index-entries-at.is in
    (omega (arith, more, c.loop-at.invariant.0, c.entry_size-more.ensures.value), omega (arith, c.loop-at.invariant.1, c.if-limit-bytes.false))
