use Rattle.std.proofs.Common.{refl, arith}
use Rattle.session_limits.specs.session_states.declared.stage.Life.TheVariants.{Alive}
use Rattle.session_limits.specs.session_states.declared.stage.Phase.TheVariants.{Outside}
use Rattle.session_limits.proofs.of_session_states.Reading.{begins-to-read}
use Rattle.session_limits.proofs.of_session_states.Outside.{forgoes-outside}
use Rattle.session_measure.proofs.Nearer.{nearer-taken-up, nearer-said}
use Rattle.stage_steps.specs.Turns.{shared}
use Rattle.stage_steps.proofs.Goes.{goes, goes-staying}
use Rattle.stage_steps.proofs.outside.begin_reading.Goals as goal

pub returns-in-Ok-clause-begins : goal.returns-in-Ok-clause-begins
returns-in-Ok-clause-begins g c word locks =
    rw c.begun.ensures.phase (rw c.begun.ensures.happened (goes c.args.s.number Outside Alive _ Alive _ _ _ _ _
    (λ e f. record { seat = e; wants = f.wants; beside = f.beside; needs = f.needs; statement = tt }) (λ u other. refl) (nearer-taken-up c.args.s.number _ _ _ _ c.args.item refl (omega arith))
    (λ h k shown told r dead left total. begins-to-read g.S.Statements.stands g.met.S.Statements.orderly c.args.s.number (shared word h locks dead) k c.args.item left total c.requires.kind c.requires.plain r)
    c.in-Ok.ensures.ok))

pub returns-in-Err-clause-begins : goal.returns-in-Err-clause-begins
returns-in-Err-clause-begins g c word locks =
    rw c.unbegun.ensures.phase (rw c.unbegun.ensures.happened (goes-staying c.args.s.number Outside word locks _ _ _ c.in-Err.ensures.err (nearer-said c.args.s.number _ _ _ _ c.args.item refl) (λ h dead left total. forgoes-outside g.S.Statements.stands g.met.S.Statements.orderly c.args.s.number (shared word h locks dead) c.args.item left total)))
