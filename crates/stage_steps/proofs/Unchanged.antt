-- What a session knows stayed as it was.
use Rattle.std.proofs.Common.{◌≡◌, ℕ, Bool, [], refl, subst}
use Rattle.rdo_ast.specs.declared.reply.Standing.{Standing}
use Rattle.line_view.specs.Held.{Held}
use Rattle.session_jobs.specs.Records.{Model, IsOrderly}
use Rattle.session_limits.specs.session_states.declared.stage.Stage.{Stage}
use Rattle.session_limits.specs.session_states.declared.stage.Phase.{Phase}
use Rattle.session_limits.specs.session_states.declared.stage.Phase.TheVariants.{Writing}
use Rattle.session_limits.specs.session_states.States.{writer}
use Rattle.session_limits.specs.session_states.Shared.{Shared}
use Rattle.session_limits.proofs.of_session_states.Resting.{rests-by}
use Rattle.stage_steps.specs.declared.happening.Happening.{Happening}
use Rattle.stage_steps.specs.Scenes.{Scene, ComesIn}
use Rattle.stage_steps.specs.Turns.{Comes}

pub stays-on : (M : Model) (orderly : IsOrderly M) (s : ℕ) (c : Shared) (x : Phase) → Comes M s c x c x []
stays-on M orderly s c x = λ left total. rests-by M orderly s c left total x x refl (λ o p g f. f.fits.phase)

-- the same step from what is known by another name
pub knows-as : (M : Model) (s : ℕ) (old new : Scene) (y : Phase) (e : Happening) (standing : Standing) (known then : Held) (spoken waits : Bool) (stage : Stage) → then ≡ known →
    ComesIn M s old (Writing (writer standing then spoken waits stage)) new y e → ComesIn M s old (Writing (writer standing known spoken waits stage)) new y e
knows-as M s old new y e standing known then spoken waits stage same step = subst (λ (k : Held). ComesIn M s old (Writing (writer standing k spoken waits stage)) new y e) same step
