-- From what a stage's function says to what an arm says.
use Rattle.std.proofs.Common.{◌≡◌, ℕ, List, [], ◌∷◌, ◌++◌, refl, sym, subst}
use Rattle.rdo_ast.specs.declared.syntax.Item.{Item}
use Rattle.line_store.specs.Shelves.{Shelf}
use Rattle.line_store.proofs.InTurn.{does-as, does-nothing}
use Rattle.session_jobs.specs.Records.{Model}
use Rattle.job_steps.specs.session_states.declared.stage.Phase.{Phase}
use Rattle.job_steps.specs.session_states.declared.stage.Life.TheVariants.{Alive}
use Rattle.job_steps.specs.session_states.declared.stage.Phase.TheVariants.{Reading}
use Rattle.job_steps.specs.session_states.declared.stage.Reader.{Reader}
use Rattle.job_steps.specs.session_states.declared.stage.ReaderStage.{ReaderStage}
use Rattle.job_steps.specs.session_states.States.{session, reader}
use Rattle.job_steps.specs.session_states.Steps.{Step}
use Rattle.job_steps.specs.stage_steps.declared.happening.Happening.{Happening}
use Rattle.job_steps.specs.stage_steps.declared.happening.Happening.TheVariants.{Quiet}
use Rattle.job_steps.specs.stage_steps.Happenings.{events_of, handed_back}
use Rattle.job_steps.specs.stage_steps.Scenes.{Scene, Goes, ComesIn, TakesUpIn, EndsIn, NearerIn, PassesOn, beside, on_shelf}
use Rattle.job_steps.specs.stage_steps.Turns.{Comes}
use Rattle.line_arms.specs.Going.{GoesOn}

goes-as : {N L : Type 0} (s : ℕ) (x y : Phase) (R Q : Shelf → Shelf → Type 0) (old new : Scene) → ((h g : Shelf) → R h g → Q h g) → (N → L) → Goes s x Alive y Alive R N old new → Goes s x Alive y Alive Q L old new
goes-as s x y R Q old new all nears g = record { lives = g.lives; parties = g.parties; nearer = nears g.nearer; does = does-as s (new.sight.stand s) R Q old.sight new.sight (λ h k a b. all h k) g.does }

module _ (M : Model) (s : ℕ) (old new : Scene) (x y : Phase) where
  -- nothing of the script was taken
  pub goes-on : (e : Happening) (left : List Item) → ComesIn M s old x new y e → GoesOn M s old left x new left y e
  goes-on e left = goes-as s x y (λ h g. (dead : ℕ) → Comes M s (on_shelf old h dead) x (on_shelf new g dead) y (events_of s e))
      (λ h g. (dead total : ℕ) → Step M s (on_shelf old h dead) (session left total x) (on_shelf new g dead) (session left total y) (events_of s e)) old new (λ h g f dead total. f dead left total) (λ n total. n left total)

  -- its next item was taken up, and isn't handed back
  pub takes : (e : Happening) (item : Item) (left all : List Item) → all ≡ item ∷ left → handed_back e ≡ [] → TakesUpIn M s item old x new y e → GoesOn M s old all x new left y e
  takes e item left all is none t = subst (λ (ls : List Item). GoesOn M s old ls x new left y e) (sym is)
      (goes-as s x y (λ h g. (dead : ℕ) (ls : List Item) (total : ℕ) → Step M s (on_shelf old h dead) (session (item ∷ ls) total x) (on_shelf new g dead) (session (handed_back e ++ ls) total y) (events_of s e))
      (λ h g. (dead total : ℕ) → Step M s (on_shelf old h dead) (session (item ∷ left) total x) (on_shelf new g dead) (session left total y) (events_of s e)) old new
      (λ h g f dead total. subst (λ (b : List Item). Step M s (on_shelf old h dead) (session (item ∷ left) total x) (on_shelf new g dead) (session (b ++ left) total y) (events_of s e)) none (f dead left total))
      (λ n total. subst (λ (b : List Item). NearerIn M s e old new (session (item ∷ left) total x) (session (b ++ left) total y)) none (n left total)) t)

  -- it was taken up, and may be handed back
  pub takes-up : (e : Happening) (item : Item) (left all : List Item) → all ≡ item ∷ left → TakesUpIn M s item old x new y e → GoesOn M s old all x new (handed_back e ++ left) y e
  takes-up e item left all is t = subst (λ (ls : List Item). GoesOn M s old ls x new (handed_back e ++ left) y e) (sym is)
      (goes-as s x y (λ h g. (dead : ℕ) (ls : List Item) (total : ℕ) → Step M s (on_shelf old h dead) (session (item ∷ ls) total x) (on_shelf new g dead) (session (handed_back e ++ ls) total y) (events_of s e))
      (λ h g. (dead total : ℕ) → Step M s (on_shelf old h dead) (session (item ∷ left) total x) (on_shelf new g dead) (session (handed_back e ++ left) total y) (events_of s e)) old new
      (λ h g f dead total. f dead left total) (λ n total. n left total) t)

  -- it was at its end
  pub ends : (e : Happening) (left rest : List Item) → left ≡ [] → rest ≡ [] → EndsIn M s old x new y e → GoesOn M s old left x new rest y e
  ends e left rest f g t = subst (λ (ls : List Item). GoesOn M s old ls x new rest y e) (sym f) (subst (λ (ls : List Item). GoesOn M s old [] x new ls y e) (sym g)
      (goes-as s x y (λ h g. (dead : ℕ) → (total : ℕ) → Step M s (on_shelf old h dead) (session [] total x) (on_shelf new g dead) (session [] total y) (events_of s e))
      (λ h g. (dead total : ℕ) → Step M s (on_shelf old h dead) (session [] total x) (on_shelf new g dead) (session [] total y) (events_of s e)) old new (λ h g f. f) (λ n. n) t))

-- ---- with nothing to tell

pub quiet-comes : (M : Model) (s : ℕ) (old new : Scene) (x y z : Phase) (h : Happening) → z ≡ y → h ≡ Quiet → ComesIn M s old x new y Quiet → ComesIn M s old x new z h
quiet-comes M s old new x y z h e f step =
    subst (λ (u : Phase). ComesIn M s old x new u h) (sym e) (subst (λ (v : Happening). ComesIn M s old x new y v) (sym f) step)

pub quiet-goes : (M : Model) (s : ℕ) (old new : Scene) (left rest : List Item) (x y z : Phase) (h : Happening) → z ≡ y → h ≡ Quiet → GoesOn M s old left x new rest y Quiet → GoesOn M s old left x new rest z h
quiet-goes M s old new left rest x y z h e f step =
    subst (λ (u : Phase). GoesOn M s old left x new rest u h) (sym e) (subst (λ (v : Happening). GoesOn M s old left x new rest y v) (sym f) step)

-- a job is handed out
pub passes : (M : Model) (s : ℕ) (c : Scene) (x y : Phase) → PassesOn M x y → ComesIn M s c x c y Quiet
passes M s c x y p = record {
  lives = p.seated c.sight.stand c.locks s;
  parties = λ u other. refl;
  nearer = p.nearer s (beside c);
  does = does-nothing s (λ h g. (dead : ℕ) → Comes M s (on_shelf c h dead) x (on_shelf c g dead) y []) c.sight (λ h shown dead. p.comes s (on_shelf c h dead));
}

-- ---- a reader at this stage

pub reads-on : (M : Model) (s : ℕ) (old new : Scene) (r : Reader) (stage : ReaderStage) (y : Phase) (e : Happening) (left : List Item) → r.stage ≡ stage → ComesIn M s old (Reading (reader r.standing r.known r.spoken stage)) new y e → GoesOn M s old left (Reading r) new left y e
reads-on M s old new r stage y e left f step = goes-on M s old new (Reading r) y e left
    (subst (λ (st : ReaderStage). ComesIn M s old (Reading (reader r.standing r.known r.spoken st)) new y e) (sym f) step)

pub reads-between : (M : Model) (s : ℕ) (old new : Scene) (r : Reader) (stage : ReaderStage) (y : Phase) (e : Happening) (left rest : List Item) → r.stage ≡ stage → GoesOn M s old left (Reading (reader r.standing r.known r.spoken stage)) new rest y e → GoesOn M s old left (Reading r) new rest y e
reads-between M s old new r stage y e left rest f step = subst (λ (st : ReaderStage). GoesOn M s old left (Reading (reader r.standing r.known r.spoken st)) new rest y e) (sym f) step
