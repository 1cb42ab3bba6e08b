-- What is true of all sessions: of what memory knows, and of each shelf that the store shows.
use Rattle.std.specs.Prelude.{◌≡◌, ◌+◌, ◌++◌, ℕ, zero, suc, true, List, [], ◌∷◌, Option, Some, None, slice_get}
use Rattle.lock_tree_laws.specs.Forest.{State, idle, party_of}
use Rattle.rdb_account.specs.Events.{Event}
use Rattle.rdb_account.specs.Places.{Opening}
use Rattle.rdb_account.specs.Backups.{backups}
use Rattle.line_view.specs.declared.writes.Write.{Write}
use Rattle.lock_tree_laws.specs.Wanted.{needs_of}
use Rattle.kept_apart.specs.Guards.{may_write}
use Rattle.session_states.specs.line_steps.Images.{AreLeft, journal_node}
use Rattle.line_store.specs.Seats.{Seat, outside, in_flight}
use Rattle.line_store.specs.Shelves.{Shelf}
use Rattle.line_store.specs.Sights.{Sight, bare}
use Rattle.session_jobs.specs.Records.{Model}
use Rattle.session_states.specs.declared.stage.Life.{Life}
use Rattle.session_states.specs.declared.stage.Life.TheVariants.{Alive, Dead, Gone}
use Rattle.session_states.specs.declared.stage.Member.{Member}
use Rattle.session_states.specs.Shared.{Shared}
use Rattle.session_states.specs.Kept.{AreKept}
use Rattle.session_states.specs.Steps.{Step}
use Rattle.session_stands.specs.Backed.{AreBacked, BackupsGo}
use Rattle.session_stands.specs.Seated.{LivesAt}

-- the session of this number, from 1
abbrev pub member_at : List Member → ℕ → Option Member
member_at members zero = None
member_at members (suc i) = slice_get members i

-- Each session stands in memory and with the tree of locks as its phase has it, and neither knows anybody else.
pub record AreSeated (stand : ℕ → Seat) (locks : State) (members : List Member) : Type 0 where
  pub each : (s : ℕ) (m : Member) → member_at members s ≡ Some m → LivesAt stand locks s m.phase m.life
  pub outsiders : (s : ℕ) → member_at members s ≡ None → bare (stand s) ≡ outside
  pub nobodys : (s : ℕ) → member_at members s ≡ None → party_of locks.parties s ≡ idle

-- whose commit is under way, as memory knows it, has the journal
abbrev pub FlyWithJournal : (ℕ → Seat) → State → Type 0
FlyWithJournal stand locks = (s : ℕ) (ws : List Write) → in_flight (stand s) ≡ Some ws → may_write (needs_of locks s) journal_node ≡ true

abbrev pub one_dead : Life → ℕ
one_dead Alive = 0
one_dead Dead = 1
one_dead Gone = 0

-- how many died and await their recovery
abbrev pub dead_in : List Member → ℕ
dead_in [] = 0
dead_in (m ∷ ms) = one_dead m.life + dead_in ms

abbrev pub sharing : (word : List ℕ) → Shelf → State → (dead : ℕ) → Shared
sharing word shelf locks dead = record { word = word; shelf = shelf; locks = locks; dead = dead }

-- A shelf is shown with which all that is always true of sessions is so: their account is legal, and each of them stands as it has it. What a crash might have left since the opening, or since a commit, stands for what was committed then, or more. Each backup that counts is whole.
pub record IsTold (M : Model) (o : Opening) (word : List ℕ) (sight : Sight) (locks : State) (members : List Member) (events : List Event) : Type 0 where
  pub shelf : Shelf
  pub shown : sight.shows shelf
  pub kept : AreKept M o (sharing word shelf locks (dead_in members)) members events
  pub images : AreLeft M o events sight.left sight.opens shelf.clock.time
  pub backups : AreBacked M (backups o events) sight shelf.clock.time

-- Where session i + 1 steps from m to n with these events, and begins the backup of this number or none, backups go on so between any two shelves that are shown.
abbrev pub KeepsBackups : Model → Opening → (word then : List ℕ) → (old new : Sight) → (locks behind : State) → List Member → (events es : List Event) → ℕ → (m n : Member) → Option ℕ → Type 0
KeepsBackups M o word then old new locks behind members events es i m n number =
    (h g : Shelf) → old.shows h → new.shows g → ((dead : ℕ) → Step M (suc i) (sharing word h locks dead) m (sharing then g behind dead) n es) →
    AreKept M o (sharing word h locks (dead_in members)) members events → AreBacked M (backups o events) old h.clock.time →
    BackupsGo M (suc i) number (backups o events) (backups o (events ++ es)) new g.clock.time
