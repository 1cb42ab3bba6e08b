use Rattle.std.proofs.Common.{ap, subst, refl, ◌≡◌, ◌∙◌, ℕ, List}
use Rattle.rdo_ast.specs.Views.{uttered_of}
use Rattle.line_view.specs.Held.{knows}
use Rattle.session_jobs.specs.declared.jobs.Job.{Job}
use Rattle.session_jobs.specs.Jobs.{IsFound}
use Rattle.session_limits.specs.session_states.declared.stage.ReaderWork.TheVariants.{Out}
use Rattle.session_limits.specs.session_states.declared.stage.ReaderStage.TheVariants.{Working}
use Rattle.stage_steps.specs.Scenes.{ComesIn, scene}
use Rattle.stage_steps.specs.Turns.{reads_at}
use Rattle.stage_steps.proofs.reading.compute_reading.Goals as goal

pub returns-in_default-clause-comes : goal.returns-in_default-clause-comes
returns-in_default-clause-comes g c locks = c.forgo_reading.ensures.forgoes c.args.word.now locks (Working c.args.item Out) refl

pub returns-clause-comes : goal.returns-clause-comes
returns-clause-comes g c locks =
    let job = c.into_parts-job.result.0 in
    let e = c.into_parts-job.ensures.job ∙ c.of.ensures in
    let same : job.word ≡ c.args.word.now = ap (λ (j : Job). j.word) e ∙ c.in-Ok.ensures in
    subst (λ (j : Job). ComesIn g.S.Statements.stands c.args.s.number (scene c.args.word.now (g.L.LineStore.sight c.args.store.now) locks) (reads_at (record { standing = j.standing; known = j.known; spoken = c.args.terms.spoken }) (Working j.item Out)) (scene c.args.word.now (g.L.LineStore.sight c.take_found_reading.new.store) locks) c.take_found_reading.result.phase c.take_found_reading.result.happened) e
    (c.take_found_reading.ensures.comes c.args.word.now locks
    (subst (λ (w : List ℕ). IsFound g.S.Statements.stands w job.standing (uttered_of job.item) (knows job.known) c.into_parts-job.result.2) same c.into_parts-job.ensures.right))
