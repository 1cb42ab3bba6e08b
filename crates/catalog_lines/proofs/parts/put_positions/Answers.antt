use Rattle.std.proofs.Common.{◌+◌, take, slice_index, sym, arith}
use Rattle.std.proofs.lemmas.Grind.{get_or_default_zero}
use Rattle.record_format.proofs.Laying.{laid_then}
use Rattle.record_format.proofs.Lists.{size_up_to, fields_more}
use Rattle.catalog_lines.specs.Parts.{position_fields, positions_fields}
use Rattle.catalog_lines.proofs.parts.put_positions.Goals as goal

pub put_u16-requires : goal.put_u16-requires
put_u16-requires c =
    let i = c.loop-position.position-index in
    let ps = c.args.positions.now in
    let within = size_up_to position_fields ps i (slice_index ps i) c.loop-position-test.true (sym (get_or_default_zero ps i (slice_index ps i) c.loop-position-test.true)) in
    omega (arith, within, c.loop-position.invariant.ends, c.requires, c.loop-position.auto.slot)

pub overflow_add-end : goal.overflow_add-end
overflow_add-end c =
    let i = c.loop-position.position-index in
    let ps = c.args.positions.now in
    let within = size_up_to position_fields ps i (slice_index ps i) c.loop-position-test.true (sym (get_or_default_zero ps i (slice_index ps i) c.loop-position-test.true)) in
    omega (arith, within, c.loop-position.invariant.ends, c.requires, c.loop-position.auto.slot)

pub loop-position-preserved : goal.loop-position-preserved
loop-position-preserved c =
    let i = c.loop-position.position-index in
    let ps = c.args.positions.now in
    let p = slice_index ps i in
    let put = c.put_u16.ensures in
    rw (fields_more position_fields ps i p c.loop-position-test.true (sym (get_or_default_zero ps i p c.loop-position-test.true)))
    (laid_then c.args.slot.now c.loop-position.slot c.put_u16.new.slot c.args.at c.loop-position.end (c.loop-position.end + 2) (positions_fields (take i ps)) (position_fields p)
    c.loop-position.invariant (record { ends = omega arith; front = put.front; rest = put.rest; fits = (put.fits, tt) }))
