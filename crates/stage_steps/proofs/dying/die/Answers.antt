use Rattle.session_limits.specs.session_states.declared.stage.Life.TheVariants.{Alive, Dead}
use Rattle.std.proofs.Common.{◌∙◌, ap, [], refl}
use Rattle.std.specs.Prelude.{Bool}
use Rattle.line_store.specs.Seats.{dead}
use Rattle.session_limits.proofs.of_session_states.Dying.{dies-on}
use Rattle.session_measure.proofs.Nearer.{nearer-died}
use Rattle.stage_steps.specs.Scenes.{beside, scene}
use Rattle.stage_steps.specs.Turns.{shared}
use Rattle.stage_steps.proofs.Goes.{goes}
use Rattle.stage_steps.proofs.Seated.{phase-commits}
use Rattle.stage_steps.proofs.dying.die.Goals as goal

pub returns : goal.returns
returns g c word locks x =
    goes c.args.s.number x Alive x Dead _ _ _ _ _
    (λ e f. record { seat = e ∙ ap (λ (b : Bool). dead b []) (phase-commits x _ f.seat); wants = f.wants; beside = f.beside; needs = f.needs }) (λ u other. refl) (nearer-died c.args.s.number (beside (scene word (g.L.LineStore.sight c.args.store.now) locks)) (beside (scene word (g.L.LineStore.sight c.die.new.self) locks)) x)
    (λ h k shown told r o before left total cause allowed. dies-on g.S.Statements.stands g.met.S.Statements.orderly o c.args.s.number (shared word h locks before) k left total x cause allowed r) c.die.ensures.does
