use Rattle.std.proofs.Common.{refl, arith, ap, ◌∙◌, sym, [], Option, ℕ}
use Rattle.std.specs.Prelude.{is_some}
use Rattle.session_limits.specs.session_states.declared.stage.Life.TheVariants.{Alive}
use Rattle.session_limits.specs.session_states.declared.stage.Phase.TheVariants.{Outside}
use Rattle.session_limits.specs.session_states.States.{seat_of_reader}
use Rattle.session_limits.proofs.of_session_states.Copying.{begins-to-copy}
use Rattle.session_limits.proofs.of_session_states.Outside.{forgoes-outside}
use Rattle.session_limits.proofs.of_session_states.ReaderSeats.{backup-is}
use Rattle.session_measure.proofs.Nearer.{nearer-taken-up, nearer-said}
use Rattle.stage_steps.specs.Turns.{shared}
use Rattle.stage_steps.proofs.Goes.{goes, goes-staying}
use Rattle.stage_steps.proofs.copying.begin_copying.Goals as goal

pub returns-in-Ok-clause-begins : goal.returns-in-Ok-clause-begins
returns-in-Ok-clause-begins g c word locks =
    rw c.begun.ensures.phase (rw c.begun.ensures.happened (goes c.args.s.number Outside Alive _ Alive _ _ _ _ _
    (λ e f. record { seat = e ∙ sym (ap (λ (n : Option ℕ). seat_of_reader n []) c.requires.asked); wants = f.wants; beside = f.beside; needs = f.needs; statement = ap is_some c.requires.asked }) (λ u other. refl) (nearer-taken-up c.args.s.number _ _ _ _ c.args.item refl (omega arith))
    (λ h k shown told r dead left total. begins-to-copy g.S.Statements.stands g.met.S.Statements.orderly c.args.s.number (shared word h locks dead) k c.args.item left total c.args.number (backup-is _ c.args.number c.requires.asked) r)
    c.in-Ok.ensures.ok))

pub returns-in-Err-clause-begins : goal.returns-in-Err-clause-begins
returns-in-Err-clause-begins g c word locks =
    rw c.unbegun.ensures.phase (rw c.unbegun.ensures.happened (goes-staying c.args.s.number Outside word locks _ _ _ c.in-Err.ensures.err (nearer-said c.args.s.number _ _ _ _ c.args.item refl) (λ h dead left total. forgoes-outside g.S.Statements.stands g.met.S.Statements.orderly c.args.s.number (shared word h locks dead) c.args.item left total)))
