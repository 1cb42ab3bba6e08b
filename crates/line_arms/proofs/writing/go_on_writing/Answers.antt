use Rattle.line_arms.proofs.Arms.{goes-on}
use Rattle.job_steps.specs.session_states.declared.stage.Phase.TheVariants.{Writing}
use Rattle.line_arms.proofs.Taken.{takes-none}
use Rattle.line_arms.proofs.writing.go_on_writing.Goals as goal

pub returns-in_default-clause-goes : goal.returns-in_default-clause-goes
returns-in_default-clause-goes g c = goes-on _ _ _ _ _ _ _ _ c.go_on_stage.ensures.comes

pub returns-in_default-clause-one : goal.returns-in_default-clause-one
returns-in_default-clause-one g c = takes-none c.args.left.now (Writing c.args.writer)
