-- What a step of a stage is where the store shows what it holds.
use Rattle.std.specs.Prelude.{◌≡◌, ◌≤◌, ℕ, List, [], ◌∷◌, ◌++◌, Option, Some}
use Rattle.rdo_ast.specs.declared.syntax.Item.{Item}
use Rattle.rdb_account.specs.Places.{Opening, Place}
use Rattle.lock_tree_laws.specs.Forest.{State, KeepsParties}
use Rattle.line_store.specs.declared.answers.Fault.{Fault}
use Rattle.line_view.specs.Knowledge.{Lines}
use Rattle.line_store.specs.Seats.{Seat, copying}
use Rattle.line_store.specs.Shelves.{Shelf}
use Rattle.line_store.specs.Calls.{Fails}
use Rattle.line_store.specs.Sights.{Sight, Behind, Does}
use Rattle.session_jobs.specs.Records.{Model}
use Rattle.session_limits.specs.line_steps.Right.{Ground}
use Rattle.session_limits.specs.session_states.declared.stage.Phase.{Phase}
use Rattle.session_limits.specs.session_states.declared.stage.Life.{Life}
use Rattle.session_limits.specs.session_states.declared.stage.Life.TheVariants.{Alive}
use Rattle.session_limits.specs.session_states.declared.stage.Member.{Member}
use Rattle.session_limits.specs.session_states.Shared.{Shared}
use Rattle.session_limits.specs.session_states.States.{session}
use Rattle.session_limits.specs.session_states.Steps.{Finds}
use Rattle.session_stands.specs.Seated.{IsSeated, LivesAt}
use Rattle.session_measure.specs.Weights.{Beside}
use Rattle.session_measure.specs.Nearer.{ComesNearer}
use Rattle.stage_steps.specs.declared.happening.Happening.{Happening}
use Rattle.stage_steps.specs.declared.happening.Happening.TheVariants.{BackedUp, Failed, Unsound}
use Rattle.stage_steps.specs.Happenings.{events_of, handed_back}
use Rattle.stage_steps.specs.Nearer.{Nearer}
use Rattle.stage_steps.specs.Turns.{shared, Comes, TakesUp, Ends}

-- what all sessions share, as the store shows it
pub record Scene : Type 1 where
  pub word : List ℕ
  pub sight : Sight
  pub locks : State

abbrev pub scene : (word : List ℕ) → Sight → State → Scene
scene word sight locks = record { word = word; sight = sight; locks = locks }

-- the same with one of the shelves that are shown, and so many dead
abbrev pub on_shelf : Scene → Shelf → (dead : ℕ) → Shared
on_shelf c shelf dead = shared c.word shelf c.locks dead

-- what the measure of a session looks at beside it
abbrev pub beside : Scene → Beside
beside c = record { locks = c.locks; steps = c.sight.steps }

-- a call of the store for session s failed so, and it counts where a device failed
abbrev pub HasFailed : ℕ → Fault → Sight → Sight → Type 0
HasFailed s fault old new = (h : Shelf) → old.shows h → (number : Option ℕ) × Behind old new number (Fails s fault) h

-- Where s ended an online backup that it began last of its number, each image that a crash since a moment of the step might have left has it whole, of the lines that s read.
abbrev pub BacksIn : ℕ → Happening → Sight → Sight → Type 0
BacksIn s (BackedUp item moment) old new =
    (h : Shelf) (number : ℕ) (start : Lines) → old.shows h → h.seat s ≡ copying number start → old.copier number ≡ Some s → (since : ℕ) × (since ≤ moment.number) × new.backed number since start
BacksIn s e old new = Unit {0}

-- over no shelf that is shown does session s find that it fits
abbrev pub FindsNone : Model → ℕ → Scene → Member → Type 0
FindsNone M s c m = (h : Shelf) → c.sight.shows h → (dead : ℕ) (o : Opening) (p : Place) (g : Ground) → Finds M o p g (on_shelf c h dead) s m → ⊥

-- Where a device call is said to have failed, one did; where what session s knows is said to be unsound, it finds nowhere that it fits; else it comes nearer to its end.
abbrev pub NearerIn : Model → ℕ → Happening → Scene → Scene → (m n : Member) → Type 0
NearerIn M s (Failed fault) old new m n = HasFailed s fault old.sight new.sight
NearerIn M s (Unsound key) old new m n = FindsNone M s old m
NearerIn M s e old new m n = Nearer s e (beside old) (beside new) m n

-- Session s goes from one phase and life to another: as memory knows it, it stands so behind the step where it stood so before; what others have and want stays; N tells that it comes nearer to its end; and from each shelf that was shown to one behind it R is so.
pub record Goes (s : ℕ) (x : Phase) (from : Life) (y : Phase) (to : Life) (R : Shelf → Shelf → Type 0) (N : Type 0) (old new : Scene) : Type 0 where
  pub lives : LivesAt old.sight.stand old.locks s x from → LivesAt new.sight.stand new.locks s y to
  pub parties : KeepsParties s old.locks.parties new.locks.parties
  pub nearer : N
  pub does : Does s (new.sight.stand s) R old.sight new.sight

-- a step over each shelf that is shown, whoever is dead, in which this happens
abbrev pub ComesIn : Model → ℕ → Scene → Phase → Scene → Phase → Happening → Type 0
ComesIn M s old x new y e = Goes s x Alive y Alive (λ h g. (dead : ℕ) → Comes M s (on_shelf old h dead) x (on_shelf new g dead) y (events_of s e))
    ((left : List Item) (total : ℕ) → NearerIn M s e old new (session left total x) (session left total y)) old new

-- the next item is taken up, which may be handed back
abbrev pub TakesUpIn : Model → ℕ → Item → Scene → Phase → Scene → Phase → Happening → Type 0
TakesUpIn M s item old x new y e = Goes s x Alive y Alive (λ h g. (dead : ℕ) → TakesUp M s item (on_shelf old h dead) x (on_shelf new g dead) y (handed_back e) (events_of s e))
    ((left : List Item) (total : ℕ) → NearerIn M s e old new (session (item ∷ left) total x) (session (handed_back e ++ left) total y)) old new

abbrev pub EndsIn : Model → ℕ → Scene → Phase → Scene → Phase → Happening → Type 0
EndsIn M s old x new y e = Goes s x Alive y Alive (λ h g. (dead : ℕ) → Ends M s (on_shelf old h dead) x (on_shelf new g dead) y (events_of s e))
    ((total : ℕ) → NearerIn M s e old new (session [] total x) (session [] total y)) old new

-- A step of nothing but the phase, by any session: neither store nor locks are called.
pub record PassesOn (M : Model) (x y : Phase) : Type 0 where
  pub comes : (s : ℕ) (c : Shared) → Comes M s c x c y []
  pub seated : (stand : ℕ → Seat) (locks : State) (s : ℕ) → IsSeated stand locks s x → IsSeated stand locks s y
  pub nearer : (s : ℕ) (c : Beside) (left : List Item) (total : ℕ) → ComesNearer c c s (session left total x) (session left total y)
