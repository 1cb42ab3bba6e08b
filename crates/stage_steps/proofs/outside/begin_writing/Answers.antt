use Rattle.session_limits.specs.session_states.declared.stage.Life.TheVariants.{Alive}
use Rattle.std.proofs.Common.{sym, ◌∙◌, not, refl, arith}
use Rattle.session_limits.specs.session_states.declared.stage.Phase.TheVariants.{Outside}
use Rattle.session_limits.proofs.of_session_states.Parting.{begins-on, begins-stays}
use Rattle.session_measure.proofs.Nearer.{nearer-taken-up}
use Rattle.stage_steps.specs.Turns.{shared}
use Rattle.stage_steps.proofs.Goes.{goes}
use Rattle.stage_steps.proofs.Seated.{rests-at, none-got}
use Rattle.stage_steps.proofs.Tests.{not-not}
use Rattle.stage_steps.proofs.outside.begin_writing.Goals as goal

pub returns-clause-begins : goal.returns-clause-begins
returns-clause-begins g c word locks =
    rw c.new.ensures (goes c.args.s.number Outside Alive _ Alive _ _ _ _ _
    (λ e f. rests-at _ locks c.args.s.number _ e f.wants (none-got _ f.needs) (begins-stays _ c.args.kind c.requires.kind)) (λ u other. refl) (nearer-taken-up c.args.s.number _ _ _ _ c.args.item refl (omega arith))
    (λ h k shown told r dead left total. begins-on g.S.Statements.stands g.met.S.Statements.orderly c.args.s.number (shared word h locks dead) k c.args.item left total c.args.kind (not c.is_nowait.result) c.requires.kind c.requires.writes (sym c.is_nowait.ensures ∙ sym (not-not c.is_nowait.result)) r)
    c.begin.ensures.does)
