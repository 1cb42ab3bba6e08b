use Rattle.std.proofs.Common.{refl, ◌∙◌, subst}
use Rattle.gathering_steps.specs.session_states.declared.stage.Work.TheVariants.{Out}
use Rattle.gathering_steps.specs.session_states.declared.stage.Stage.TheVariants.{Working}
use Rattle.session_jobs.specs.declared.jobs.Job.{Job}
use Rattle.gathering_steps.specs.stage_steps.Turns.{at_stage}
use Rattle.gathering_steps.specs.stage_steps.Scenes.{ComesIn, scene}
use Rattle.gathering_steps.proofs.of_stage_steps.Resting.{as-before}
use Rattle.job_steps.proofs.jobs.compute.Goals as goal

pub returns-in_default-clause-comes : goal.returns-in_default-clause-comes
returns-in_default-clause-comes g c =
    c.forgo.ensures.forgoes c.args.common.now.tree (Working c.args.item Out) (as-before c.args.common.now.tree) refl refl

pub returns-clause-comes : goal.returns-clause-comes
returns-clause-comes g c =
    subst (λ (j : Job). ComesIn g.S.Statements.stands c.args.s.number (scene c.args.common.now.word (g.L.LineStore.sight c.args.common.now.store) c.args.common.now.tree) (at_stage (record { standing = j.standing; known = j.known; spoken = c.args.terms.spoken; waits = c.args.terms.waits }) (Working j.item Out)) (scene c.take_found.new.common.word (g.L.LineStore.sight c.take_found.new.common.store) c.take_found.new.common.tree) c.take_found.result.phase c.take_found.result.happened) (c.into_parts-job.ensures.job ∙ c.of.ensures) c.take_found.ensures.comes
