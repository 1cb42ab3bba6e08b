use Rattle.std.proofs.Common.{◌+◌, ◌∙◌, arith}
use Rattle.slot_fields.proofs.Laws.{drop_behind}
use Rattle.record_format.proofs.dbkey.put_dbkey.Goals as goal

pub returns-clause-rest : goal.returns-clause-rest
returns-clause-rest c =
    let end = c.args.at + 10 in
    drop_behind end (c.args.at + 8 + 2) c.put_u32-2.new.slot c.put_u16.new.slot (omega arith) c.put_u16.ensures.rest
    ∙ drop_behind end (c.args.at + 4 + 4) c.put_u32.new.slot c.put_u32-2.new.slot (omega arith) c.put_u32-2.ensures.rest
    ∙ drop_behind end (c.args.at + 4) c.args.slot.now c.put_u32.new.slot (omega arith) c.put_u32.ensures.rest
