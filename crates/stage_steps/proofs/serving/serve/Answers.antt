use Rattle.session_limits.specs.session_states.Shared.{with_locks}
use Rattle.session_limits.proofs.of_session_states.Serving.{serves-on}
use Rattle.stage_steps.proofs.Serves.{locks-still}
use Rattle.stage_steps.proofs.serving.serve.Goals as goal

pub returns-in-Ok-Some-clause-served : goal.returns-in-Ok-Some-clause-served
returns-in-Ok-Some-clause-served g c c' w left total =
    serves-on g.S.Statements.stands g.met.S.Statements.orderly c.args.to.number (with_locks c.args.tree.now c') c.deliver_notice.new.self left total w c.args.node c.in-Ok-Some.demotion.from c.in-Ok-Some.demotion.to c.deliver_notice.ensures.parties c.deliver_notice.ensures.trail

pub returns-in-Ok-None-clause-served : goal.returns-in-Ok-None-clause-served
returns-in-Ok-None-clause-served g c c' w =
    locks-still g.S.Statements.stands g.met.S.Statements.orderly c.args.to.number (with_locks c.args.tree.now c') c.deliver_notice.new.self w c.deliver_notice.ensures.parties c.deliver_notice.ensures.trail

pub returns-in-Err-clause-err : goal.returns-in-Err-clause-err
returns-in-Err-clause-err g c c' w =
    locks-still g.S.Statements.stands g.met.S.Statements.orderly c.args.to.number (with_locks c.args.tree.now c') c.deliver_notice.new.self w c.deliver_notice.ensures.parties c.deliver_notice.ensures.trail
