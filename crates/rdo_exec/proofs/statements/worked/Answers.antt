use Rattle.std.proofs.Common.{sym, subst}
use Rattle.rdo_ast.specs.Views.{uttered_of}
use Rattle.std.specs.Prelude.{Ok}
use Rattle.line_view.specs.Held.{knows}
use Rattle.session_jobs.specs.declared.jobs.Found.{Found}
use Rattle.session_jobs.specs.Jobs.{IsFound, NamesOnce}
use Rattle.sound_maps.specs.Maps.{IsSoundWith}
use Rattle.rdo_exec.specs.Coming.{Comes}
use Rattle.rdo_exec.proofs.Answered.{why_left, refused_comes, answer_asks, answer_names}
use Rattle.rdo_exec.specs.Acted.{IsSettled}
use Rattle.rdo_exec.proofs.Outside.{refused_settled}
use Rattle.rdo_exec.proofs.Locks.{found_by}
use Rattle.rdo_exec.specs.Needed.{ItemNeeds}
use Rattle.rdo_exec.proofs.FirstNeeds.{uttered_names_none}
use Rattle.rdo_exec.proofs.statements.worked.Goals as goal

pub returns-in-Some-clause-right : goal.returns-in-Some-clause-right
returns-in-Some-clause-right c =
    let a = c.args in
    let item = uttered_of c.args.item.now in
    subst (λ (f : Found). IsFound IsSoundWith a.word.now a.standing.now item (knows a.known) f) (sym c.answered_by.ensures)
    (found_by a.word.now a.standing.now item (knows a.known) _
    (λ all t sound agrees. answer_asks a.standing.now item t (Ok c.in-Some.reply) c.copied.result)
    (refused_comes a.word.now a.standing.now item (knows a.known) c.in-Some.reply c.copied.result (sym c.in-Some.ensures) c.copied.ensures))

pub returns-in-Some-clause-outside : goal.returns-in-Some-clause-outside
returns-in-Some-clause-outside c = λ shut nothing. subst IsSettled (sym c.answered_by.ensures) (refused_settled c.args.standing.now (uttered_of c.args.item.now) c.in-Some.reply c.copied.result shut (sym c.in-Some.ensures))

pub returns-in-None-clause-right : goal.returns-in-None-clause-right
returns-in-None-clause-right c = found_by c.args.word.now c.args.standing.now (uttered_of c.args.item.now) (knows c.args.known) c.work_on.result.found c.work_on.ensures.asked c.work_on.ensures.comes

pub returns-in-Some-clause-left : goal.returns-in-Some-clause-left
returns-in-Some-clause-left c = why_left c.args.word.now c.args.standing.now (uttered_of c.args.item.now) (knows c.args.known) c.answered_by.result
    (subst (λ (f : Found). Comes c.args.word.now c.args.standing.now (uttered_of c.args.item.now) (knows c.args.known) f) (sym c.answered_by.ensures)
    (refused_comes c.args.word.now c.args.standing.now (uttered_of c.args.item.now) (knows c.args.known) c.in-Some.reply c.copied.result (sym c.in-Some.ensures) c.copied.ensures))

pub returns-in-Some-clause-once : goal.returns-in-Some-clause-once
returns-in-Some-clause-once c =
    subst NamesOnce (sym c.answered_by.ensures)
    (refused_comes c.args.word.now c.args.standing.now (uttered_of c.args.item.now) (knows c.args.known) c.in-Some.reply c.copied.result (sym c.in-Some.ensures) c.copied.ensures).once

pub returns-in-None-clause-left : goal.returns-in-None-clause-left
returns-in-None-clause-left c = why_left c.args.word.now c.args.standing.now (uttered_of c.args.item.now) (knows c.args.known) c.work_on.result.found c.work_on.ensures.comes

pub returns-in-None-clause-once : goal.returns-in-None-clause-once
returns-in-None-clause-once c = c.work_on.ensures.comes.once

pub returns-in-Some-clause-needs : goal.returns-in-Some-clause-needs
returns-in-Some-clause-needs c =
    let item = uttered_of c.args.item.now in
    subst (λ (f : Found). ItemNeeds item (knows c.args.known) f) (sym c.answered_by.ensures) (uttered_names_none item (knows c.args.known) _ (answer_names (Ok c.in-Some.reply) c.copied.result))

pub returns-in-None-clause-needs : goal.returns-in-None-clause-needs
returns-in-None-clause-needs c = c.work_on.ensures.needs
