use Rattle.session_limits.specs.session_states.declared.stage.Life.TheVariants.{Alive}
use Rattle.std.proofs.Common.{refl, arith}
use Rattle.session_limits.proofs.of_session_states.Ending.{rolls-on}
use Rattle.session_limits.proofs.of_session_states.Working.{takes-statement, takes-commit}
use Rattle.session_measure.proofs.Nearer.{nearer-taken-up}
use Rattle.stage_steps.specs.Turns.{shared}
use Rattle.stage_steps.proofs.Goes.{goes, goes-still}
use Rattle.stage_steps.proofs.Seated.{rests-at}
use Rattle.stage_steps.proofs.working.take_up.Goals as goal

pub returns-in-Nothing : goal.returns-in-Nothing
returns-in-Nothing g c word locks =
    rw c.at.ensures (goes-still c.args.s.number _ Alive _ Alive _ _ _ refl (λ f. rests-at _ locks c.args.s.number _ f.seat f.wants f.needs c.in-Nothing.ensures) (λ u other. refl) (nearer-taken-up c.args.s.number _ _ _ _ c.args.item refl (omega arith))
    (λ h shown dead left total. takes-statement g.S.Statements.stands g.met.S.Statements.orderly c.args.s.number (shared word h locks dead) c.args.item left total c.args.terms.standing c.args.terms.known c.args.terms.spoken c.args.terms.waits c.in-Nothing.ensures))

pub returns-in-Commit : goal.returns-in-Commit
returns-in-Commit g c word locks =
    rw c.at-in-Commit.ensures (goes-still c.args.s.number _ Alive _ Alive _ _ _ refl (λ f. rests-at _ locks c.args.s.number _ f.seat f.wants f.needs tt) (λ u other. refl) (nearer-taken-up c.args.s.number _ _ _ _ c.args.item refl (omega arith))
    (λ h shown dead left total. takes-commit g.S.Statements.stands g.met.S.Statements.orderly c.args.s.number (shared word h locks dead) c.args.item left total c.args.terms.standing c.args.terms.known c.args.terms.spoken c.args.terms.waits c.in-Commit.ensures))

pub returns-in-Rollback : goal.returns-in-Rollback
returns-in-Rollback g c word locks =
    rw c.at-in-Rollback.ensures (goes c.args.s.number _ Alive _ Alive _ _ _ _ _ (λ e f. rests-at _ locks c.args.s.number _ e f.wants f.needs tt) (λ u other. refl) (nearer-taken-up c.args.s.number _ _ _ _ c.args.item refl (omega arith))
    (λ h k shown told r dead left total. rolls-on g.S.Statements.stands g.met.S.Statements.orderly c.args.s.number (shared word h locks dead) k c.args.item left total c.args.terms.standing c.args.terms.known c.args.terms.spoken c.args.terms.waits c.in-Rollback.ensures r)
    c.roll_back.ensures.does)
