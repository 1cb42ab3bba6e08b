use Rattle.session_limits.specs.session_states.declared.stage.Life.TheVariants.{Alive}
use Rattle.std.proofs.Common.{ap, arith}
use Rattle.line_store.specs.Seats.{done_at}
use Rattle.session_limits.proofs.of_session_states.Starting.{start-answered-on}
use Rattle.session_measure.proofs.Nearer.{nearer-answered}
use Rattle.stage_steps.specs.Turns.{shared}
use Rattle.stage_steps.proofs.Goes.{goes}
use Rattle.stage_steps.proofs.Resting.{as-before, released}
use Rattle.stage_steps.proofs.Seated.{sits-closing}
use Rattle.stage_steps.proofs.Tests.{neither}
use Rattle.stage_steps.proofs.saying.refuse_start.Goals as goal

pub returns : goal.returns
returns g c place =
    let n = neither c.args.terms.spoken _ c.requires.undone in
    let rests = released c.args.s.number c.args.common.now.tree c.args.common.now.tree c.release_all.new.self (as-before c.args.common.now.tree) c.release_all.ensures.others c.release_all.ensures.idle c.release_all.ensures.trail in
    rw n.0 (goes c.args.s.number _ Alive _ Alive _ _ _ _ _ (λ e f. sits-closing _ _ c.args.s.number (ap done_at e) c.release_all.ensures.idle) rests.others (nearer-answered c.args.s.number _ _ _ _ (omega arith))
    (λ h k shown told r dead left total. start-answered-on g.S.Statements.stands g.met.S.Statements.orderly c.args.s.number (shared c.args.common.now.word h c.args.common.now.tree dead) k c.release_all.new.self left total c.args.terms.standing c.args.terms.known c.args.terms.waits c.args.item c.args.worked place n.1 r rests)
    c.roll_back.ensures.does)
