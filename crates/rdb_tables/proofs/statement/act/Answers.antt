use Rattle.std.proofs.Common.{◌∙◌, ap}
use Rattle.rdo_ast.specs.Views.{act_of}
use Rattle.rdb_meaning.specs.Usual.{is_refusal_of_means}
use Rattle.rdb_tables.specs.declared.told.Told.{Told}
use Rattle.rdb_tables.proofs.Telling.{refused_tells, act_answers, act_same}
use Rattle.rdb_tables.proofs.UsualReplies.{usual_refusal}
use Rattle.rdb_tables.proofs.statement.act.Goals as goal

pub returns-in-Err-Refused-clause-meaning : goal.returns-in-Err-Refused-clause-meaning
returns-in-Err-Refused-clause-meaning c =
    refused_tells (act_of c.args.action.now) c.args.standing.now c.in_ok-after.after c.args.choices.now c.args.tables.now c.plain.result c.in-Err-Refused.reply
    (rw c.in-Err-Refused.field-0-is at c.in-Err-Refused.ensures) c.in_ok-after.ensures c.plain.ensures

pub returns-in-Err-Refused-clause-usual : goal.returns-in-Err-Refused-clause-usual
returns-in-Err-Refused-clause-usual c =
    ap (λ (d : Told). is_refusal_of_means d.reply) c.plain.ensures
    ∙ usual_refusal (act_of c.args.action.now) c.args.standing.now c.args.tables.now c.in-Err-Refused.reply (rw c.in-Err-Refused.field-0-is at c.in-Err-Refused.ensures)

pub returns-clause-meaning : goal.returns-clause-meaning
returns-clause-meaning c =
    act_answers (act_of c.args.action.now) c.args.standing.now c.args.tables.now c.new-work.result c.run_action-end.new.tables c.answer.new.tables
    c.run_action-end.new.work.undo c.run_action-end.result c.new-work.ensures c.run_action-end.ensures.kept c.answer.ensures.done c.answer.ensures.undone
    c.answer.result c.args.choices.now c.run_action-end.new.work.taken c.run_action-end.new.work.lines c.in_ok-after.after c.in-Ok.ensures c.in_ok-after.ensures
    c.answer.ensures.reply c.answer.ensures.standing c.answer.ensures.taken c.run_action-end.ensures.runs

pub returns-clause-refused : goal.returns-clause-refused
returns-clause-refused c =
    act_same (act_of c.args.action.now) c.args.standing.now c.args.tables.now c.new-work.result c.run_action-end.new.tables c.answer.new.tables
    c.run_action-end.new.work.undo c.run_action-end.result c.new-work.ensures c.run_action-end.ensures.kept c.answer.ensures.done c.answer.ensures.undone
    c.answer.result c.answer.ensures.memory
