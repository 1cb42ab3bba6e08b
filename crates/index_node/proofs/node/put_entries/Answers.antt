use Rattle.std.proofs.Common.{take, arith}
use Rattle.std.specs.List.{flat_map}
use Rattle.record_format.proofs.Laying.{laid_then}
use Rattle.record_format.proofs.Lists.{size_up_to, fields_more}
use Rattle.index_node.specs.Node.{entry_fields}
use Rattle.index_node.proofs.node.put_entries.Goals as goal

pub put_entry-end-requires-clause-room : goal.put_entry-end-requires-clause-room
put_entry-end-requires-clause-room c =
    let within = size_up_to entry_fields c.args.entries.now c.loop-entry.entry-index c.entry-item.result c.loop-entry-test.true c.entry-item.is in
    omega (arith, within, c.loop-entry.invariant.ends, c.requires.room, c.loop-entry.auto.slot)

pub loop-entry-preserved : goal.loop-entry-preserved
loop-entry-preserved c =
    let i = c.loop-entry.entry-index in
    let entry = c.entry-item.result in
    let put = c.put_entry-end.ensures in
    rw (fields_more entry_fields c.args.entries.now i entry c.loop-entry-test.true c.entry-item.is)
    (laid_then c.args.slot.now c.loop-entry.slot c.put_entry-end.new.slot c.args.at c.loop-entry.end c.put_entry-end.result (flat_map entry_fields (take i c.args.entries.now)) (entry_fields entry)
    c.loop-entry.invariant (record { ends = put.end; front = put.front; rest = put.rest; fits = put.fits }))
