use Rattle.std.proofs.Common.{◌≡◌, ◌∙◌, ap, refl, subst, sym, ℕ, List}
use Rattle.rdo_ast.specs.Views.{uttered_of}
use Rattle.line_view.specs.Held.{knows}
use Rattle.session_jobs.specs.declared.jobs.Job.{Job}
use Rattle.session_jobs.specs.Jobs.{IsFound}
use Rattle.job_steps.specs.session_stands.Seated.{IsSeated}
use Rattle.job_steps.proofs.of_session_stands.Seats.{writing-seat, reader-seat}
use Rattle.job_steps.specs.stage_steps.Scenes.{ComesIn, scene}
use Rattle.answered_steps.specs.Absences.{phase_with}
use Rattle.answered_steps.specs.declared.answered.Absence.{Absence}
use Rattle.answered_steps.specs.declared.answered.Absence.TheVariants.{Writing, Reading}
use Rattle.answered_steps.proofs.answered.take_answered.Goals as goal

pub take_found-requires-clause-seat : goal.take_found-requires-clause-seat
take_found-requires-clause-seat g c =
    let seated = subst (λ (a : Absence). IsSeated (g.L.LineStore.sight c.args.common.now.store).stand c.args.common.now.tree c.args.s.number (phase_with a c.args.worked.job)) c.in-Writing.is c.requires.seated in
    writing-seat ((g.L.LineStore.sight c.args.common.now.store).stand c.args.s.number) seated.seat

pub take_found-requires-clause-found : goal.take_found-requires-clause-found
take_found-requires-clause-found g c =
    let job = c.into_parts-job.result.0 in
    let same : job.word ≡ c.args.common.now.word = ap (λ (j : Job). j.word) c.into_parts-job.ensures.job ∙ c.requires.word in
    subst (λ (w : List ℕ). IsFound g.S.Statements.stands w job.standing (uttered_of job.item) (knows job.known) c.into_parts-job.result.1) same c.into_parts-job.ensures.right

pub take_found_reading-requires-clause-seat : goal.take_found_reading-requires-clause-seat
take_found_reading-requires-clause-seat g c =
    let seated = subst (λ (a : Absence). IsSeated (g.L.LineStore.sight c.args.common.now.store).stand c.args.common.now.tree c.args.s.number (phase_with a c.args.worked.job)) c.in-Reading.is c.requires.seated in
    reader-seat ((g.L.LineStore.sight c.args.common.now.store).stand c.args.s.number) seated.seat

pub returns-in-Writing-clause-comes : goal.returns-in-Writing-clause-comes
returns-in-Writing-clause-comes g c =
    rw c.in-Writing.is (subst (λ (j : Job). ComesIn g.S.Statements.stands c.args.s.number (scene c.args.common.now.word (g.L.LineStore.sight c.args.common.now.store) c.args.common.now.tree) (phase_with (Writing c.in-Writing.spoken c.in-Writing.waits) j)
    (scene c.take_found.new.common.word (g.L.LineStore.sight c.take_found.new.common.store) c.take_found.new.common.tree) c.take_found.result.phase c.take_found.result.happened) c.into_parts-job.ensures.job c.take_found.ensures.comes)

pub returns-clause-comes : goal.returns-clause-comes
returns-clause-comes g c =
    let job = c.into_parts-job.result.0 in
    let same : job.word ≡ c.args.common.now.word = ap (λ (j : Job). j.word) c.into_parts-job.ensures.job ∙ c.requires.word in
    let found = subst (λ (w : List ℕ). IsFound g.S.Statements.stands w job.standing (uttered_of job.item) (knows job.known) c.into_parts-job.result.1) same c.into_parts-job.ensures.right in
    rw c.in-Reading.is (subst (λ (j : Job). ComesIn g.S.Statements.stands c.args.s.number (scene c.args.common.now.word (g.L.LineStore.sight c.args.common.now.store) c.args.common.now.tree) (phase_with (Reading c.in-Reading.spoken) j)
    (scene c.args.common.now.word (g.L.LineStore.sight c.take_found_reading.new.store) c.args.common.now.tree) c.take_found_reading.result.phase c.take_found_reading.result.happened) c.into_parts-job.ensures.job
    (c.take_found_reading.ensures.comes c.args.common.now.word c.args.common.now.tree found))

pub returns-in-Writing-clause-rounds : goal.returns-in-Writing-clause-rounds
returns-in-Writing-clause-rounds g c rounds = rw c.in-Writing.is refl

pub returns-clause-rounds : goal.returns-clause-rounds
returns-clause-rounds g c rounds = rw c.in-Reading.is refl
