-- A step of the phase alone before another one, in one step.
use Rattle.std.proofs.Common.{ℕ, List, [], refl}
use Rattle.rdo_ast.specs.declared.syntax.Item.{Item}
use Rattle.lock_tree_laws.specs.Forest.{State}
use Rattle.line_store.specs.Shelves.{Shelf}
use Rattle.line_store.specs.Sights.{Sight}
use Rattle.line_store.proofs.InTurn.{does-as}
use Rattle.session_jobs.specs.Records.{Model, IsOrderly}
use Rattle.gathering_steps.specs.session_states.declared.stage.Phase.{Phase}
use Rattle.gathering_steps.specs.session_states.States.{session}
use Rattle.gathering_steps.proofs.of_session_states.InTurn.{steps-on}
use Rattle.gathering_steps.specs.session_stands.Seated.{IsSeated}
use Rattle.gathering_steps.specs.stage_steps.declared.happening.Happening.{Happening}
use Rattle.gathering_steps.specs.stage_steps.Happenings.{events_of}
use Rattle.gathering_steps.specs.stage_steps.Scenes.{Scene, ComesIn, NearerIn, on_shelf, scene}
use Rattle.gathering_steps.specs.stage_steps.Turns.{Comes, shared}

pub comes-behind : (M : Model) (orderly : IsOrderly M) (s : ℕ) (x y z : Phase) (word : List ℕ) (a : Sight) (locks : State) (new : Scene) (e : Happening) →
    ((h : Shelf) (dead : ℕ) → Comes M s (shared word h locks dead) x (shared word h locks dead) y []) → (IsSeated a.stand locks s x → IsSeated a.stand locks s y) →
    ((left : List Item) (total : ℕ) → NearerIn M s e (scene word a locks) new (session left total x) (session left total z)) →
    ComesIn M s (scene word a locks) y new z e → ComesIn M s (scene word a locks) x new z e
comes-behind M orderly s x y z word a locks new e one sits nearer two = record {
  lives = λ f. two.lives (sits f);
  parties = two.parties;
  nearer = nearer;
  does = does-as s (new.sight.stand s) (λ h g. (dead : ℕ) → Comes M s (shared word h locks dead) y (on_shelf new g dead) z (events_of s e)) (λ h g. (dead : ℕ) → Comes M s (shared word h locks dead) x (on_shelf new g dead) z (events_of s e)) a new.sight
      (λ h g shown told r dead left total. steps-on M orderly s (shared word h locks dead) (shared word h locks dead) (on_shelf new g dead) (session left total x) (session left total y) (session left total z) [] (events_of s e) refl tt (one h dead left total) (r dead left total)) two.does;
}
