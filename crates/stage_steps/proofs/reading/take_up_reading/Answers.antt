use Rattle.session_limits.specs.session_states.declared.stage.Life.TheVariants.{Alive}
use Rattle.std.proofs.Common.{refl, arith}
use Rattle.session_limits.proofs.of_session_states.Reading.{takes-to-read}
use Rattle.session_limits.proofs.of_session_states.ReadingEnds.{reader-commits-on, reader-rolls-on}
use Rattle.session_measure.proofs.Nearer.{nearer-taken-up, nearer-said}
use Rattle.stage_steps.specs.Turns.{shared}
use Rattle.stage_steps.proofs.Goes.{goes, goes-still}
use Rattle.stage_steps.proofs.Seated.{reads-on, reads-out}
use Rattle.stage_steps.proofs.reading.take_up_reading.Goals as goal

pub returns-in-Commit : goal.returns-in-Commit
returns-in-Commit g c word locks =
    goes c.args.s.number _ Alive _ Alive _ _ _ _ _ (λ e f. reads-out _ _ locks c.args.s.number _ e f) (λ u other. refl) (nearer-said c.args.s.number _ _ _ _ c.args.item refl)
    (λ h k shown told r dead left total. rw (c.moment-moment.ensures k told) (reader-commits-on g.S.Statements.stands g.met.S.Statements.orderly c.args.s.number (shared word h locks dead) k c.args.item left total c.args.terms.standing c.args.terms.known c.args.terms.spoken c.in-Commit.ensures r))
    c.end_reading.ensures.does

pub returns-in-Rollback : goal.returns-in-Rollback
returns-in-Rollback g c word locks =
    goes c.args.s.number _ Alive _ Alive _ _ _ _ _ (λ e f. reads-out _ _ locks c.args.s.number _ e f) (λ u other. refl) (nearer-said c.args.s.number _ _ _ _ c.args.item refl)
    (λ h k shown told r dead left total. reader-rolls-on g.S.Statements.stands g.met.S.Statements.orderly c.args.s.number (shared word h locks dead) k c.args.item left total c.args.terms.standing c.args.terms.known c.args.terms.spoken c.in-Rollback.ensures r)
    c.end_reading-in-Rollback.ensures.does

pub returns-in-Nothing : goal.returns-in-Nothing
returns-in-Nothing g c word locks =
    rw (c.quiet.ensures.phase, c.quiet.ensures.happened, c.at.ensures) (goes-still c.args.s.number _ Alive _ Alive _ _ _ refl (λ f. reads-on _ _ locks c.args.s.number _ _ refl refl tt f) (λ u other. refl) (nearer-taken-up c.args.s.number _ _ _ _ c.args.item refl (omega arith))
    (λ h shown dead left total. takes-to-read g.S.Statements.stands g.met.S.Statements.orderly c.args.s.number (shared word h locks dead) c.args.item left total c.args.terms.standing c.args.terms.known c.args.terms.spoken c.in-Nothing.ensures))
