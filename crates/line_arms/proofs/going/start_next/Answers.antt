use Rattle.std.proofs.Common.{◌++◌, refl}
use Rattle.job_steps.specs.stage_steps.Happenings.{handed_back}
use Rattle.line_arms.proofs.Arms.{takes, takes-up}
use Rattle.job_steps.specs.session_states.declared.stage.Phase.TheVariants.{Outside}
use Rattle.line_arms.proofs.Taken.{takes-first}
use Rattle.line_arms.proofs.going.start_next.Goals as goal

pub returns-clause-goes : goal.returns-clause-goes
returns-clause-goes g c = λ none. takes _ _ _ _ _ _ _ _ _ _ c.in-Some.ensures none (c.start.ensures.starts c.args.common.now.tree)

pub returns-clause-some : goal.returns-clause-some
returns-clause-some g c = (handed_back c.start.result.happened ++ c.pop.new.self, takes-up _ _ _ _ _ _ _ _ _ _ c.in-Some.ensures (c.start.ensures.starts c.args.common.now.tree))

pub returns-clause-one : goal.returns-clause-one
returns-clause-one g c = takes-first c.in-Some.item c.args.left.now c.pop.new.self Outside refl c.in-Some.ensures
