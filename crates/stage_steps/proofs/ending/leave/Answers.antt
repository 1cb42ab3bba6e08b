use Rattle.std.proofs.Common.{refl, arith, []}
use Rattle.session_limits.specs.session_states.declared.stage.Life.TheVariants.{Alive}
use Rattle.session_limits.proofs.of_session_states.Ending.{leaves-on}
use Rattle.session_measure.proofs.Nearer.{nearer-by-rank}
use Rattle.stage_steps.specs.Turns.{shared}
use Rattle.stage_steps.proofs.Goes.{goes}
use Rattle.stage_steps.proofs.Seated.{rests-at}
use Rattle.stage_steps.proofs.ending.leave.Goals as goal

pub returns : goal.returns
returns g c word locks =
    rw c.at.ensures (goes c.args.s.number _ Alive _ Alive _ _ _ _ _ (λ e f. rests-at _ locks c.args.s.number _ e f.wants f.needs tt) (λ u other. refl) (nearer-by-rank c.args.s.number _ _ _ _ refl (omega arith) [])
    (λ h k shown told r dead total. leaves-on g.S.Statements.stands g.met.S.Statements.orderly c.args.s.number (shared word h locks dead) k total c.args.terms.standing c.args.terms.known c.args.terms.spoken c.args.terms.waits r) c.roll_back.ensures.does)
