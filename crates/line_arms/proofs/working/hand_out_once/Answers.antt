use Rattle.std.proofs.Common.{refl}
use Rattle.job_steps.specs.session_states.declared.stage.Work.TheVariants.{Due}
use Rattle.job_steps.specs.session_states.declared.stage.Stage.TheVariants.{Working}
use Rattle.job_steps.specs.stage_steps.Scenes.{scene}
use Rattle.job_steps.proofs.of_stage_steps.Resting.{as-before}
use Rattle.line_arms.proofs.Arms.{quiet-comes, passes}
use Rattle.line_arms.proofs.working.hand_out_once.Goals as goal

pub returns-then-allotment-eq0-clause-comes : goal.returns-then-allotment-eq0-clause-comes
returns-then-allotment-eq0-clause-comes g c = c.forgo.ensures.forgoes c.args.common.now.tree (Working c.args.item Due) (as-before c.args.common.now.tree) refl refl

pub returns-clause-comes : goal.returns-clause-comes
returns-clause-comes g c = quiet-comes _ _ _ _ _ _ _ _ c.quiet.ensures.phase c.quiet.ensures.happened (passes _ c.args.s.number (scene c.args.common.now.word (g.L.LineStore.sight c.args.common.now.store) c.args.common.now.tree) _ _ c.hand_out.ensures.passes)
