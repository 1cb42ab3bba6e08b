use Rattle.std.proofs.Common.{refl, ◌∙◌, sym, arith}
use Rattle.gathering_steps.specs.session_states.declared.stage.Life.TheVariants.{Alive}
use Rattle.gathering_steps.proofs.of_session_states.Reserving.{reserved-on}
use Rattle.gathering_steps.proofs.of_session_measure.Nearer.{nearer-by-rank}
use Rattle.gathering_steps.specs.stage_steps.Turns.{shared}
use Rattle.gathering_steps.proofs.of_stage_steps.Goes.{goes-still, comes-as}
use Rattle.gathering_steps.proofs.of_stage_steps.Seated.{rests-at, unwanted}
use Rattle.job_steps.proofs.reserving.want_reserved.Goals as goal

pub returns-in_default : goal.returns-in_default
returns-in_default g c =
    comes-as g.S.Statements.stands c.args.s.number _ _ _ _ _ _ _ (c.quiet.ensures.phase ∙ c.at.ensures) c.quiet.ensures.happened
    (goes-still c.args.s.number _ Alive _ Alive _ _ _ refl (λ f. rests-at _ _ c.args.s.number _ f.seat (unwanted _ _ (sym c.next.ensures ∙ c.in_default.is) f.wants) f.needs f.statement.0) (λ u other. refl) (nearer-by-rank c.args.s.number _ _ _ _ refl (omega arith))
    (λ h shown dead left total. reserved-on g.S.Statements.stands g.met.S.Statements.orderly c.args.s.number (shared c.args.common.now.word h c.args.common.now.tree dead) left total c.args.terms.standing c.args.terms.known c.args.terms.spoken c.args.terms.waits c.args.reserving.item c.args.reserving.worked c.args.reserving.locks c.args.reserving.place (sym c.next.ensures ∙ c.in_default.is)))
