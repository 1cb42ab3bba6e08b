use Rattle.std.proofs.Common.{◌≡◌, [], None, sym, subst}
use Rattle.rdb_meaning.specs.Checks.{act_uses}
use Rattle.used_areas.specs.Areas.{areas_read, areas_changed}
use Rattle.std.specs.Prelude.{IfOk, Ok}
use Rattle.rdo_ast.specs.Tree.{Act, said, perform}
use Rattle.rdo_ast.specs.Views.{act_of}
use Rattle.rdb_meaning.specs.Meaning.{act_refusal, standing_for}
use Rattle.line_view.specs.Held.{knows}
use Rattle.rdo_exec.specs.Coming.{Comes, ActStays}
use Rattle.rdo_exec.proofs.RightRecords.{barred_by}
use Rattle.rdo_exec.proofs.Answered.{answer_stays}
use Rattle.rdo_exec.specs.Needed.{ActNeeds}
use Rattle.rdo_exec.proofs.Answered.{answer_names}
use Rattle.rdo_exec.proofs.FirstNeeds.{no_needs}
use Rattle.rdo_exec.proofs.acting.act_by.Goals as goal

pub returns-in-Ok-clause-comes : goal.returns-in-Ok-clause-comes
returns-in-Ok-clause-comes c = λ word.
    let a = c.args in
    subst (λ (x : Act). Comes word a.standing.now (said (perform x)) (knows a.known) c.run_behind.result.found) c.in-Ok.ensures.written
    (c.run_behind.ensures.comes word a.standing.now
    (subst (λ (x : Act). act_refusal x a.standing.now a.schema.now.tables ≡ None) (sym c.in-Ok.ensures.written) c.in-Ok.ensures.refusal)
    (subst (λ (x : Act). IfOk c.standing_for-behind.result (λ left. left ≡ standing_for x a.standing.now)) (sym c.in-Ok.ensures.written) c.standing_for-behind.ensures))

pub returns-in-Err-Refused-clause-comes : goal.returns-in-Err-Refused-clause-comes
returns-in-Err-Refused-clause-comes c = λ word.
    let a = c.args in
    let x = c.in-Err-Refused in
    rw c.answered_by.ensures
    (barred_by word a.standing.now (act_of a.action.now) a.schema.now (knows a.known) c.requires.catalog x.reply c.standing_for-behind.result c.standing_for-behind.ensures (rw x.field-0-is at x.ensures.refusal))

pub returns-in-Ok-clause-stays : goal.returns-in-Ok-clause-stays
returns-in-Ok-clause-stays c = subst (λ (x : Act). ActStays x (knows c.args.known) c.run_behind.result.found) c.in-Ok.ensures.written c.run_behind.ensures.stays

pub returns-in-Err-Refused-clause-stays : goal.returns-in-Err-Refused-clause-stays
returns-in-Err-Refused-clause-stays c = λ all t sound agrees.
    let us = act_uses (act_of c.args.action.now) [] in
    rw c.answered_by.ensures (answer_stays (areas_read t us) (areas_changed t us) (Ok c.in-Err-Refused.reply) c.standing_for-behind.result)

pub returns-in-Err-Memory-clause-stays : goal.returns-in-Err-Memory-clause-stays
returns-in-Err-Memory-clause-stays c = λ all t sound agrees. tt

pub returns-in-Ok-clause-needs : goal.returns-in-Ok-clause-needs
returns-in-Ok-clause-needs c = subst (λ (x : Act). ActNeeds x (knows c.args.known) c.run_behind.result.found) c.in-Ok.ensures.written c.run_behind.ensures.needs

pub returns-in-Err-Refused-clause-needs : goal.returns-in-Err-Refused-clause-needs
returns-in-Err-Refused-clause-needs c = λ all t sound agrees.
    rw c.answered_by.ensures (no_needs _ _ (answer_names (Ok c.in-Err-Refused.reply) c.standing_for-behind.result))

pub returns-in-Err-Memory-clause-needs : goal.returns-in-Err-Memory-clause-needs
returns-in-Err-Memory-clause-needs c = λ all t sound agrees. tt
