-- From calls of the store to a step in scenes.
use Rattle.std.proofs.Common.{◌≡◌, ◌≤◌, ℕ, List, refl, sym, ap, subst, ◌∙◌, inl, inr, arith, Bool, true, false, ◌==◌, Option, Some, None}
use Rattle.std.proofs.lemmas.Bool.{eqb-true}
use Rattle.line_view.specs.Knowledge.{Lines}
use Rattle.line_view.specs.Writes.{laid_all}
use Rattle.lock_tree_laws.specs.Forest.{State, KeepsParties}
use Rattle.line_store.specs.Seats.{Seat, begun, begun_by, copied_at, outside, beginning, writing, changing, broken, prepared, committing, rolling_back, closing, reading, copying, dead, in_flight, prepared_by}
use Rattle.line_store.specs.Shelves.{Shelf}
use Rattle.line_store.specs.declared.answers.Fault.{Fault}
use Rattle.line_store.specs.Calls.{Moves, Fails, MayStand}
use Rattle.line_store.specs.Sights.{Sight, Does, IsSame, bare}
use Rattle.line_store.proofs.Begun.{begun-same, copied-as}
use Rattle.line_store.proofs.InTurn.{does-nothing, does-as, does-in-turn, does-there}
use Rattle.session_jobs.specs.Records.{Model}
use Rattle.session_limits.specs.session_states.declared.stage.Phase.{Phase}
use Rattle.session_limits.specs.session_states.declared.stage.Life.{Life}
use Rattle.session_limits.specs.session_states.declared.stage.Life.TheVariants.{Alive}
use Rattle.session_stands.specs.Seated.{LivesAt}
use Rattle.stage_steps.specs.declared.happening.Happening.{Happening}
use Rattle.stage_steps.specs.Scenes.{Scene, Goes, HasFailed, ComesIn, scene}
use Rattle.stage_steps.proofs.Seated.{sits-on}

-- it stands where it stands
there : (s : ℕ) (seat : Seat) (R : Shelf → Shelf → Type 0) (old new : Sight) → Does s seat R old new → Does s (new.stand s) R old new
there s seat R old new d = does-there s seat (new.stand s) R old new (sym d.mine) d

module _ (s : ℕ) (x : Phase) (from : Life) (y : Phase) (to : Life) (R Q : Shelf → Shelf → Type 0) (seat : Seat) (old new : Scene) where
  -- by one call
  pub goes : {N : Type 0} → (bare (new.sight.stand s) ≡ bare seat → LivesAt old.sight.stand old.locks s x from → LivesAt new.sight.stand new.locks s y to) → KeepsParties s old.locks.parties new.locks.parties → N →
      ((h g : Shelf) → old.sight.shows h → new.sight.shows g → R h g → Q h g) → Does s seat R old.sight new.sight → Goes s x from y to Q N old new
  goes lives parties nearer all d = record { lives = lives d.mine; parties = parties; nearer = nearer; does = there s seat Q old.sight new.sight (does-as s seat R Q old.sight new.sight all d) }

-- without a call
pub goes-still : (s : ℕ) (x : Phase) (from : Life) (y : Phase) (to : Life) (Q : Shelf → Shelf → Type 0) {N : Type 0} (old new : Scene) → new.sight ≡ old.sight →
    (LivesAt old.sight.stand old.locks s x from → LivesAt old.sight.stand new.locks s y to) → KeepsParties s old.locks.parties new.locks.parties → N → ((h : Shelf) → old.sight.shows h → Q h h) → Goes s x from y to Q N old new
goes-still s x from y to Q old new same lives parties nearer all = record {
  lives = λ f. subst (λ (v : Sight). LivesAt v.stand new.locks s y to) (sym same) (lives f);
  parties = parties;
  nearer = nearer;
  does = subst (λ (v : Sight). Does s (v.stand s) Q old.sight v) (sym same) (does-nothing s Q old.sight all);
}

-- a call that failed so
pub has-failed : (s : ℕ) (seat : Seat) (R : Shelf → Shelf → Type 0) (fault : Fault) (a b : Sight) → ((h g : Shelf) → R h g → Fails s fault h g) → Does s seat R a b → HasFailed s fault a b
has-failed s seat R fault a b fails d h shown = (begun (a.stand s) seat, (does-as s seat R (Fails s fault) a b (λ h g shown told. fails h g) d).each h shown)

-- ---- two calls

-- where a move leaves it whether a commit is under way, nothing more may stand
still-stands : (s : ℕ) (seat : Seat) (h m : Shelf) → Moves s seat h m → in_flight seat ≡ in_flight (h.seat s) → (lines : Lines) → MayStand m lines → MayStand h lines
still-stands s seat h m moves same lines (inl is) = inl (is ∙ moves.now)
still-stands s seat h m moves same lines (inr flies) = inr (flies.0, flies.1, by (flies.0 == s) refl, flies.3 ∙ ap (laid_all flies.1) moves.now)
  where
    by : (b : Bool) → (flies.0 == s) ≡ b → in_flight (h.seat flies.0) ≡ Some flies.1
    by true equal = let e : flies.0 ≡ s = eqb-true flies.0 s equal in
        ap (λ t. in_flight (h.seat t)) e ∙ (sym same ∙ (sym (ap in_flight moves.mine) ∙ (ap (λ t. in_flight (m.seat t)) (sym e) ∙ flies.2)))
    by false apart = sym (ap in_flight (moves.others.seat flies.0 apart)) ∙ flies.2

pub does-behind : (s : ℕ) (first end : Seat) (R Q P : Shelf → Shelf → Type 0) (seat : Shelf → Seat) (a b c : Sight) →
    ((h m : Shelf) → R h m → Moves s (seat h) h m) → ((h : Shelf) → in_flight (seat h) ≡ in_flight (h.seat s)) → ((h m g : Shelf) → R h m → Q m g → P h g) →
    begun (a.stand s) first ≡ None → begun (b.stand s) end ≡ begun (a.stand s) end →
    Does s first R a b → Does s end Q b c → Does s end P a c
does-behind s first end R Q P seat a b c moves same both none alike one two = does-in-turn s first end R Q P a b c
    (λ h m is. (moves h m is).others.later.later)
    (λ h m g is next lines stands. inl (still-stands s (seat h) h m (moves h m is) (same h) lines stands))
    both none alike one two

-- where the first call leaves what is copied, it begins no backup, and the second begins what it would alone
pub begins-alike : (s : ℕ) (first end : Seat) (a b : Sight) → copied_at first ≡ copied_at (a.stand s) → bare (b.stand s) ≡ bare first → (begun (a.stand s) first ≡ None) × (begun (b.stand s) end ≡ begun (a.stand s) end)
begins-alike s first end a b same at = (
  ap (λ (n : Option ℕ). begun_by (copied_at (a.stand s)) n) same ∙ begun-same (copied_at (a.stand s)),
  ap (λ (n : Option ℕ). begun_by n (copied_at end)) (copied-as (b.stand s) first at ∙ same),
)

-- the first call left all as it was
pub does-behind-none : (s : ℕ) (first end : Seat) (Q : Shelf → Shelf → Type 0) (a b c : Sight) → copied_at first ≡ copied_at (a.stand s) → Does s first IsSame a b → Does s end Q b c → Does s end Q a c
does-behind-none s first end Q a b c copies one two = let begins = begins-alike s first end a b copies one.mine in does-in-turn s first end IsSame Q Q a b c
    (λ h m is. subst (λ (k : Shelf). h.clock.time ≤ k.clock.time) (sym is) (omega arith))
    (λ h m g is next lines stands. inl (subst (λ (k : Shelf). MayStand k lines) is stands))
    (λ h m g is next. subst (λ (k : Shelf). Q k g) is next) begins.0 begins.1 one two

pub prepared-flight : (seat : Seat) → in_flight (prepared_by seat) ≡ in_flight seat
prepared-flight outside = refl
prepared-flight beginning = refl
prepared-flight (writing ws) = refl
prepared-flight (changing ws) = refl
prepared-flight (broken ws) = refl
prepared-flight (prepared ws) = refl
prepared-flight (committing ws) = refl
prepared-flight (rolling_back ws) = refl
prepared-flight closing = refl
prepared-flight (reading start) = refl
prepared-flight (copying number start) = refl
prepared-flight (dead commits ws) = refl

-- ---- other names

-- the phase and what happened by other names
pub comes-as : (M : Model) (s : ℕ) (old new : Scene) (x y z : Phase) (h k : Happening) → z ≡ y → k ≡ h → ComesIn M s old x new y h → ComesIn M s old x new z k
comes-as M s old new x y z h k e f step =
    subst (λ (u : Phase). ComesIn M s old x new u k) (sym e) (subst (λ (v : Happening). ComesIn M s old x new y v) (sym f) step)

-- ---- calls that left all as it was

-- the store refused, and its session goes on from where it stands, in the phase in which it was
pub goes-staying : (s : ℕ) (x : Phase) (word : List ℕ) (locks : State) (a b : Sight) (Q : Shelf → Shelf → Type 0) {N : Type 0} → Does s (a.stand s) IsSame a b → N → ((h : Shelf) → Q h h) → Goes s x Alive x Alive Q N (scene word a locks) (scene word b locks)
goes-staying s x word locks a b Q d nearer all =
    goes s x Alive x Alive IsSame Q (a.stand s) (scene word a locks) (scene word b locks) (λ e f. sits-on a.stand b.stand locks s x e f) (λ u other. refl) nearer
    (λ h g shown told same. subst (λ (k : Shelf). Q h k) (sym same) (all h)) d

-- ---- one call behind another, in one step

-- both shelves are shown, and related so
abbrev Shown : Sight → Sight → (Shelf → Shelf → Type 0) → Shelf → Shelf → Type 0
Shown a b R h m = a.shows h × b.shows m × R h m

module _ (s : ℕ) (x y z : Phase) (to : Life) (word : List ℕ) (locks : State) (a b : Sight) (new : Scene) where
  pub goes-behind : {N L : Type 0} (R Q P : Shelf → Shelf → Type 0) (first : Seat) (seat : Shelf → Seat) → (bare (b.stand s) ≡ bare first → LivesAt a.stand locks s x Alive → LivesAt b.stand locks s y Alive) →
      ((h m : Shelf) → R h m → Moves s (seat h) h m) → ((h : Shelf) → in_flight (seat h) ≡ in_flight (h.seat s)) → copied_at first ≡ copied_at (a.stand s) → ((h m g : Shelf) → a.shows h → b.shows m → R h m → Q m g → P h g) →
      Does s first R a b → Goes s y Alive z to Q N (scene word b locks) new → L → Goes s x Alive z to P L (scene word a locks) new
  goes-behind R Q P first seat sits moves same copies both one two nearer = let begins = begins-alike s first (new.sight.stand s) a b copies one.mine in record {
    lives = λ f. two.lives (sits one.mine f);
    parties = two.parties;
    nearer = nearer;
    does = does-behind s first (new.sight.stand s) (Shown a b R) Q P seat a b new.sight (λ h m r. moves h m r.2) same (λ h m g r q. both h m g r.0 r.1 r.2 q) begins.0 begins.1
        (does-as s first R (Shown a b R) a b (λ h m shown told r. (shown, told, r)) one) two.does;
  }

-- the first call left all as it was
pub goes-behind-none : (s : ℕ) (x z : Phase) (to : Life) (word : List ℕ) (locks : State) (a b : Sight) (new : Scene) (Q : Shelf → Shelf → Type 0) {N L : Type 0} → Does s (a.stand s) IsSame a b → Goes s x Alive z to Q N (scene word b locks) new → L → Goes s x Alive z to Q L (scene word a locks) new
goes-behind-none s x z to word locks a b new Q one two nearer = record {
  lives = λ f. two.lives (sits-on a.stand b.stand locks s x one.mine f);
  parties = two.parties;
  nearer = nearer;
  does = does-behind-none s (a.stand s) (new.sight.stand s) Q a b new.sight refl one two.does;
}
