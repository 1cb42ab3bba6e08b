use Rattle.std.proofs.Common.{refl, arith, []}
use Rattle.session_limits.specs.session_states.declared.stage.Life.TheVariants.{Alive}
use Rattle.session_limits.proofs.of_session_states.ReadingEnds.{reader-leaves-on}
use Rattle.session_measure.proofs.Nearer.{nearer-by-rank}
use Rattle.stage_steps.specs.Turns.{shared}
use Rattle.stage_steps.proofs.Goes.{goes}
use Rattle.stage_steps.proofs.Seated.{reads-over}
use Rattle.stage_steps.proofs.reading.leave_reading.Goals as goal

pub returns : goal.returns
returns g c word locks =
    goes c.args.s.number _ Alive _ Alive _ _ _ _ _ (λ e f. reads-over _ _ locks c.args.s.number _ e f) (λ u other. refl) (nearer-by-rank c.args.s.number _ _ _ _ refl (omega arith) [])
    (λ h k shown told r dead total. reader-leaves-on g.S.Statements.stands g.met.S.Statements.orderly c.args.s.number (shared word h locks dead) k total c.args._terms.standing c.args._terms.known c.args._terms.spoken r)
    c.end_reading.ensures.does
