use Rattle.std.proofs.Common.{◌++◌, refl}
use Rattle.job_steps.specs.stage_steps.Happenings.{handed_back}
use Rattle.line_arms.proofs.Arms.{takes, takes-up, ends}
use Rattle.job_steps.specs.session_states.declared.stage.ReaderStage.TheVariants.{Between}
use Rattle.job_steps.specs.stage_steps.Turns.{reads_at}
use Rattle.line_arms.proofs.Taken.{takes-first}
use Rattle.line_arms.proofs.reading.read_next.Goals as goal

pub returns-in-Some-clause-goes : goal.returns-in-Some-clause-goes
returns-in-Some-clause-goes g c = λ none. takes _ _ _ _ _ _ _ _ _ _ c.in-Some.ensures none (c.take_up_reading.ensures c.args.common.now.word c.args.common.now.tree)

pub returns-in-Some-clause-some : goal.returns-in-Some-clause-some
returns-in-Some-clause-some g c = (handed_back c.take_up_reading.result.happened ++ c.pop.new.self, takes-up _ _ _ _ _ _ _ _ _ _ c.in-Some.ensures (c.take_up_reading.ensures c.args.common.now.word c.args.common.now.tree))

pub returns-in-None-clause-goes : goal.returns-in-None-clause-goes
returns-in-None-clause-goes g c = λ none. ends _ _ _ _ _ _ _ _ _ c.in-None.ensures.0 c.in-None.ensures.1 (c.leave_reading.ensures c.args.common.now.word c.args.common.now.tree)

pub returns-in-None-clause-some : goal.returns-in-None-clause-some
returns-in-None-clause-some g c = (c.pop.new.self, ends _ _ _ _ _ _ _ _ _ c.in-None.ensures.0 c.in-None.ensures.1 (c.leave_reading.ensures c.args.common.now.word c.args.common.now.tree))

pub returns-in-Some-clause-one : goal.returns-in-Some-clause-one
returns-in-Some-clause-one g c = takes-first c.in-Some.item c.args.left.now c.pop.new.self (reads_at c.args.terms Between) refl c.in-Some.ensures
