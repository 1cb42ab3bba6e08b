use Rattle.std.proofs.Common.{refl}
use Rattle.job_steps.specs.stage_steps.declared.happening.Happening.TheVariants.{Quiet}
use Rattle.line_arms.proofs.Arms.{quiet-goes, takes, ends}
use Rattle.job_steps.specs.session_states.declared.stage.Stage.TheVariants.{Between}
use Rattle.job_steps.specs.stage_steps.Turns.{at_stage}
use Rattle.line_arms.proofs.Taken.{takes-first}
use Rattle.line_arms.proofs.writing.take_next.Goals as goal

pub returns-in-Some-clause-goes : goal.returns-in-Some-clause-goes
returns-in-Some-clause-goes g c = quiet-goes _ _ _ _ _ _ _ _ _ _ c.quiet.ensures.phase c.quiet.ensures.happened (takes _ _ _ _ _ _ Quiet _ _ _ c.in-Some.ensures refl (c.take_up.ensures c.args.common.now.word c.args.common.now.tree))

pub returns-in-None-clause-goes : goal.returns-in-None-clause-goes
returns-in-None-clause-goes g c = quiet-goes _ _ _ _ _ _ _ _ _ _ c.quiet-in-None.ensures.phase c.quiet-in-None.ensures.happened (ends _ _ _ _ _ _ Quiet _ _ c.in-None.ensures.0 c.in-None.ensures.1 (c.leave.ensures c.args.common.now.word c.args.common.now.tree))

pub returns-in-Some-clause-one : goal.returns-in-Some-clause-one
returns-in-Some-clause-one g c = takes-first c.in-Some.item c.args.left.now c.pop.new.self (at_stage c.args.terms Between) refl c.in-Some.ensures
