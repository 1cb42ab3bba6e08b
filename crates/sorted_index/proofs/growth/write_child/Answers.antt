use Rattle.std.proofs.Common.{◌+◌, List, get_or, drop, Some, arith, sym, ap, ◌∙◌, inl}
use Rattle.index_node.specs.declared.entry.NodeEntry.{NodeEntry}
use Rattle.sorted_index_laws.specs.Changes.{goes_on, with_pair}
use Rattle.sorted_index_laws.specs.Inner.Growth.{is_up_to_own}
use Rattle.sorted_index_laws.specs.Inner.Growth.IsKept.{lower, upper}
use Rattle.sorted_index_laws.proofs.Cutting.{is_halved, first_again, two_writes, wrote_two}
use Rattle.sorted_index.proofs.growth.write_child.Goals as goal

pub returns-then-is_up_to_own-clause-writes : goal.returns-then-is_up_to_own-clause-writes
returns-then-is_up_to_own-clause-writes g c =
    let l = c.in_ok-lower.field-0.lower in
    let u = c.in_ok-lower.field-0.upper in
    let high = c.index-as_slice-0.result in
    let low = get_or l.entries 0 high in
    let e = c.in_ok-lower.ensures in
    let halved = is_halved c.args.grown l u low high e.levels.0 e.levels.1 e.entries e.some.0 e.some.1 (first_again l.entries high e.some.0) (c.index-as_slice-0.is ∙ ap (λ (es : List NodeEntry). get_or es 0 high) c.as_slice.ensures) in
    let past = ap (λ (es : List NodeEntry). is_up_to_own c.args.at high (drop c.args.at es)) (sym c.as_slice-2.ensures) ∙ (sym c.is_up_to_own.ensures ∙ c.if-is_up_to_own.true) in
    inl (record {
      left = u;
      image = c.in_ok-write_node-2.ensures.ok.0;
      kept = upper l low high halved past;
      bears = c.in_ok-write_node-2.ensures.ok.1.0;
      writes = c.in_ok-write_node-2.ensures.ok.1.1;
      rooms = omega arith;
      entries_are = λ i. c.args.entries;
    })

pub returns-then-is_past-clause-writes : goal.returns-then-is_past-clause-writes
returns-then-is_past-clause-writes g c =
    let l = c.in_ok-lower.field-0.lower in
    let u = c.in_ok-lower.field-0.upper in
    let high = c.index-as_slice-0.result in
    let low = get_or l.entries 0 high in
    let e = c.in_ok-lower.ensures in
    let halved = is_halved c.args.grown l u low high e.levels.0 e.levels.1 e.entries e.some.0 e.some.1 (first_again l.entries high e.some.0) (c.index-as_slice-0.is ∙ ap (λ (es : List NodeEntry). get_or es 0 high) c.as_slice.ensures) in
    let past = ap (λ (es : List NodeEntry). goes_on high (drop (c.args.at + 1) es)) (sym c.as_slice-3.ensures) ∙ (sym c.is_past.ensures ∙ c.if-is_past.true) in
    inl (record {
      left = l;
      image = c.in_ok-write_node-3.ensures.ok.0;
      kept = lower u low high halved past;
      bears = c.in_ok-write_node-3.ensures.ok.1.0;
      writes = c.in_ok-write_node-3.ensures.ok.1.1;
      rooms = omega arith;
      entries_are = λ i. c.args.entries;
    })

pub returns-clause-writes : goal.returns-clause-writes
returns-clause-writes g c =
    let known = g.V.View.knows c.args.view.now in
    let l = c.in_ok-lower.field-0.lower in
    let u = c.in_ok-lower.field-0.upper in
    let high = c.index-as_slice-0.result in
    let low = c.index-as_slice-0-2.result in
    let e = c.in_ok-lower.ensures in
    let halved = is_halved c.args.grown l u low high e.levels.0 e.levels.1 e.entries e.some.0 e.some.1 (c.index-as_slice-0-2.is ∙ ap (λ (es : List NodeEntry). get_or es 0 low) c.as_slice-4.ensures) (c.index-as_slice-0.is ∙ ap (λ (es : List NodeEntry). get_or es 0 high) c.as_slice.ensures) in
    let many = c.fits.ensures.no c.if-fits.false in
    wrote_two known c.args.work.now.area c.args.entries c.args.at c.args.child c.args.grown c.args.work.now.rooms c.take_room.new.work.rooms c.args.work.now.writes c.write_node-3.new.writes (with_pair c.in_ok-bound.field-0 c.lower_first-entries.result) c.put_in_order.result c.put_in_order.ensures.ok c.put_in_order.ensures.err
    (record {
      lower = l;
      upper = u;
      low = low;
      high = high;
      halved = halved;
      past_own = ap (λ (es : List NodeEntry). is_up_to_own c.args.at high (drop c.args.at es)) (sym c.as_slice-2.ensures) ∙ (sym c.is_up_to_own.ensures ∙ c.if-is_up_to_own.false);
      before_next = ap (λ (es : List NodeEntry). goes_on high (drop (c.args.at + 1) es)) (sym c.as_slice-3.ensures) ∙ (sym c.is_past.ensures ∙ c.if-is_past.false);
      room = c.in_ok-room.room;
      is_room = c.in_ok-room.ensures.ok;
      lower_image = c.in_ok-write_node-4.ensures.ok.0;
      upper_image = c.in_ok-write_node-5.ensures.ok.0;
      lower_bears = c.in_ok-write_node-4.ensures.ok.1.0;
      upper_bears = c.in_ok-write_node-5.ensures.ok.1.0;
      writes = two_writes c.write_node-3.new.writes c.write_node-2.new.writes c.take_room.new.work.writes c.args.work.now.writes (record { key = c.args.child; image = Some c.in_ok-write_node-4.ensures.ok.0 }) (record { key = c.in_ok-room.room; image = Some c.in_ok-write_node-5.ensures.ok.0 }) c.in_ok-write_node-5.ensures.ok.1.1 c.in_ok-write_node-4.ensures.ok.1.1 c.in_ok-room.ensures.writes;
      rooms = c.in_ok-room.ensures.counted;
      long = omega (arith, many);
      entries_are = λ i. with_pair (c.in_ok-bound.ensures.ok i) (c.lower_first-entries.ensures i);
    })
