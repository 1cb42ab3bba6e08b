use Rattle.std.proofs.Common.{◌+◌, ◌∙◌, length, arith}
use Rattle.slot_fields.proofs.Laws.{drop_behind}
use Rattle.record_format.proofs.value.put_value.Goals as goal

pub returns-in-Number-clause-rest : goal.returns-in-Number-clause-rest
returns-in-Number-clause-rest c =
    let end = c.args.at + 9 in
    drop_behind end (c.args.at + 1 + 8) c.put_u8-in-Number.new.slot c.put_u64.new.slot (omega arith) c.put_u64.ensures.rest
    ∙ drop_behind end (c.args.at + 1) c.args.slot.now c.put_u8-in-Number.new.slot (omega arith) c.put_u8-in-Number.ensures.rest

pub returns-in-Text-clause-rest : goal.returns-in-Text-clause-rest
returns-in-Text-clause-rest c =
    let end = c.args.at + 3 + length c.as_slice-bytes.result.now in
    c.put_bytes.ensures.rest
    ∙ drop_behind end (c.args.at + 1 + 2) c.put_u8-in-Text.new.slot c.put_u16.new.slot (omega arith) c.put_u16.ensures.rest
    ∙ drop_behind end (c.args.at + 1) c.args.slot.now c.put_u8-in-Text.new.slot (omega arith) c.put_u8-in-Text.ensures.rest
