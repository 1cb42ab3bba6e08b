use Rattle.std.proofs.Common.{take, subst, arith}
use Rattle.std.proofs.lemmas.List.Elements.{All-more}
use Rattle.record_format.specs.Values.{value_fields, values_fields, IsValue}
use Rattle.record_format.proofs.Laying.{laid_then}
use Rattle.record_format.proofs.Lists.{size_up_to, fields_more}
use Rattle.record_format.proofs.value.put_values.Goals as goal

pub put_value-end-requires-clause-room : goal.put_value-end-requires-clause-room
put_value-end-requires-clause-room c =
    let within = size_up_to value_fields c.args.values.now c.loop-value.value-index c.value-item.result c.loop-value-test.true c.value-item.is in
    omega (arith, within, c.loop-value.invariant.so_far.ends, c.requires.room, c.loop-value.auto.slot)

pub loop-value-preserved : goal.loop-value-preserved
loop-value-preserved c =
    let i = c.loop-value.value-index in
    let value = c.value-item.result in
    let inside = c.loop-value-test.true in
    let put = c.put_value-end.ensures in
    record {
      so_far = rw (fields_more value_fields c.args.values.now i value inside c.value-item.is)
          (laid_then c.args.slot.now c.loop-value.slot c.put_value-end.new.slot c.args.at c.loop-value.end c.put_value-end.result (values_fields (take i c.args.values.now)) (value_fields value)
          c.loop-value.invariant.so_far (record { ends = put.end; front = put.front; rest = put.rest; fits = put.fits }));
      values = All-more IsValue c.args.values.now i value inside c.loop-value.invariant.values (subst IsValue c.value-item.is put.value);
    }
