-- What a turn of a session comes to, as who drives sessions sees it.
use Rattle.std.specs.Prelude.{◌≡◌, ◌≤◌, ◌<◌, ◌-◌, ◌⊎◌, ◌&&◌, not, nat_le, ℕ, zero, suc, Bool, true, false, List, [], ◌∷◌, ◌++◌, map, Option, Some, None, is_some, slice_get, slice_set}
use Rattle.rdb_types.specs.declared.session.Cause.{Cause}
use Rattle.rdb_drive.specs.Boards.{Mark, Says, Does, Other, AllOf, AllNobodys, answers}
use Rattle.rdb_account.specs.declared.event.Event.{Event as Declared}
use Rattle.rdb_account.specs.Events.{Event, Began, Wanted, Got, Demoted, Said, Committed, RolledBack, Died, Recovered, event_of}
use Rattle.rdb_account.specs.Places.{Opening, Place, place, next_item}
use Rattle.rdb_account.specs.Lawful.{waits, is_nowait}
use Rattle.rdb_account.specs.Legal.{AreWhole, has_not_died, is_committing}
use Rattle.lock_tree.specs.Sleeping.{IsBlockedBy}
use Rattle.lock_tree_laws.specs.Forest.{State}
use Rattle.line_store.specs.Sights.{Sight}
use Rattle.session_states.specs.declared.stage.Life.{Life}
use Rattle.session_states.specs.declared.stage.Life.TheVariants.{Alive, Dead}
use Rattle.session_states.specs.declared.stage.Member.{Member}
use Rattle.line_account.specs.session_stands.Sessions.{dead_in}
use Rattle.line_account.specs.stage_steps.Nearer.{is_patient_at}
use Rattle.lent_members.specs.line_arms.declared.allotment.Allotment.{Allotment}
use Rattle.line_cluster.specs.Measured.{measure_by}
use Rattle.line_cluster.specs.declared.sessions.Halt.{Halt}
use Rattle.line_cluster.specs.declared.sessions.Turn.{Turn}
use Rattle.line_cluster.specs.declared.sessions.Turn.TheVariants as turn
use Rattle.line_cluster.specs.Deaths.{is_memory, is_own}
use Rattle.lent_members.specs.Going.{is_alive_life, is_dead, is_over, with_life}

-- the sessions as contracts see them: each with what it has left, what happened, what falls, the locks, and whether no session goes on
pub record Sessions : Type 0 where
  pub members : List Member
  pub events : List Declared
  -- what all of them have before them
  pub measure : List ℕ
  pub locks : State
  pub halted : Bool

-- how often the job of its statement may still be handed out
abbrev pub rounds_of : Option Allotment → ℕ
rounds_of None = 0
rounds_of (Some a) = a.rounds

abbrev pub rounds_at : List Allotment → ℕ → ℕ
rounds_at each zero = 0
rounds_at each (suc at) = rounds_of (slice_get each at)

abbrev pub sessions : List Member → List Declared → List Allotment → Sight → State → Option Halt → Sessions
sessions members events each sight locks halt = record { members = members; events = events; measure = measure_by (is_some halt) members (rounds_at each) (record { locks = locks; steps = sight.steps }); locks = locks; halted = is_some halt }

-- ---- the account as drivers read it

-- a demotion and a recovery hold no session
abbrev pub mark_of : Event → Mark
mark_of (Began s kind) = Does s
mark_of (Wanted s n asked) = Does s
mark_of (Got s n) = Does s
mark_of (Demoted s n from to) = Other
mark_of (Said s item choices reply) = Says s
mark_of (Committed s moment) = Does s
mark_of (RolledBack s) = Does s
mark_of (Died s cause) = Does s
mark_of (Recovered s committed moment) = Other

-- s waits for t. Under NOWAIT it does so for a COMMIT alone
abbrev pub SleepsFor : Opening → Place → ℕ → ℕ → Type 0
SleepsFor o p s t = (waits p s t ≡ true) × ((is_nowait (p.transaction s) && not (is_committing (next_item o p s))) ≡ false)

-- s has said its whole script, in which no stop stands behind that, or has died
abbrev pub HasNothingLeft : Opening → Place → ℕ → Type 0
HasNothingLeft o p s = ((next_item o p s ≡ None) × (o.stops s ≡ false)) ⊎ (has_not_died (p.life s) ≡ false)

-- ---- a turn. Which scripts end in a stop tells who has something left to do.

-- session s, which had something left to do, is another, and lives as before
pub record IsAnother (stops : ℕ → Bool) (s : ℕ) (old new : List Member) : Type 0 where
  pub before : Member
  pub found : slice_get old (s - 1) ≡ Some before
  pub going : is_over (stops s) before before.life ≡ false
  pub behind : Member
  pub lives : behind.life ≡ before.life
  pub is : new ≡ slice_set old (s - 1) behind

-- what happened is of s or of nobody, with one answer at most
pub record Grows (s : ℕ) (old new : List Declared) : Type 0 where
  pub more : List Event
  pub grown : map event_of new ≡ map event_of old ++ more
  pub of_s : AllOf s (map mark_of more)
  pub one : answers (map mark_of more) ≤ 1

-- what happened is of nobody
pub record GrowsQuietly (old new : List Declared) : Type 0 where
  pub more : List Event
  pub grown : map event_of new ≡ map event_of old ++ more
  pub nobodys : AllNobodys (map mark_of more)

pub record GoesFurther (stops : ℕ → Bool) (s : ℕ) (old new : Sessions) : Type 0 where
  pub members : (new.members ≡ old.members) ⊎ IsAnother stops s old.members new.members
  pub events : Grows s old.events new.events

-- session s, which had something left to do, died in its turn: a device call failed in its step, its script has come to a stop, or no memory was found. That is all that happened, but for a lock that it asked for before, where no memory was found to serve the notice to who has it
pub record HasFallen (stops : ℕ → Bool) (s : ℕ) (old new : Sessions) : Type 0 where
  pub cause : Cause
  pub own : is_own cause ≡ true
  pub before : Member
  pub found : slice_get old.members (s - 1) ≡ Some before
  pub going : is_over (stops s) before before.life ≡ false
  pub behind : Member
  pub died : behind.life ≡ Dead
  pub is : new.members ≡ slice_set old.members (s - 1) behind
  pub asked : List Event
  pub alone : is_memory cause ≡ false → asked ≡ []
  pub of_s : AllOf s (map mark_of asked)
  pub silent : answers (map mark_of asked) ≡ 0
  pub grown : map event_of new.events ≡ map event_of old.events ++ (asked ++ Died s cause ∷ [])

-- session s waits, and for whom. None that died awaits its recovery
pub record Waits (s t : ℕ) (c : Sessions) : Type 0 where
  pub going : c.halted ≡ false
  pub mourns_none : dead_in c.members ≡ 0
  pub member : Member
  pub found : slice_get c.members (s - 1) ≡ Some member
  pub lives : member.life ≡ Alive
  pub patient : is_patient_at member.phase ≡ true
  pub blocked : IsBlockedBy c.locks s t

-- session s has nothing left to do
pub record IsAtEnd (stops : ℕ → Bool) (s : ℕ) (c : Sessions) : Type 0 where
  pub member : Member
  pub found : slice_get c.members (s - 1) ≡ Some member
  pub over : is_over (stops s) member member.life ≡ true

abbrev pub Came : (stops : ℕ → Bool) → ℕ → Sessions → Sessions → Turn → Type 0
Came stops s old new turn.Moved = GoesFurther stops s old new
Came stops s old new (turn.Asleep t) = (new ≡ old) × Waits s t.number old
Came stops s old new turn.Died = HasFallen stops s old new
Came stops s old new turn.Frozen = (new ≡ old) × (0 < dead_in old.members)
Came stops s old new turn.Ended = (new ≡ old) × IsAtEnd stops s old × (dead_in old.members ≡ 0)
Came stops s old new turn.Stopped = (new.halted ≡ true) × GoesFurther stops s old new

-- ---- who goes on

-- the session doesn't rest
abbrev pub GoesOn : Turn → Type 0
GoesOn turn.Moved = Unit {0}
GoesOn (turn.Asleep t) = ⊥
GoesOn turn.Died = Unit {0}
GoesOn turn.Frozen = ⊥
GoesOn turn.Ended = ⊥
GoesOn turn.Stopped = Unit {0}

-- Who sleeps waits in the account for the session that is named.
abbrev pub Rests : Opening → ℕ → Sessions → Turn → Type 0
Rests o s c turn.Moved = Unit {0}
Rests o s c (turn.Asleep t) = SleepsFor o (place o (map event_of c.events)) s t.number
Rests o s c turn.Died = Unit {0}
Rests o s c turn.Frozen = Unit {0}
Rests o s c turn.Ended = Unit {0}
Rests o s c turn.Stopped = Unit {0}

-- ---- deaths

-- no session goes on from then on, and nothing else changed, nor anything where none went on before
pub record IsHalt (old new : Sessions) : Type 0 where
  pub halted : new.halted ≡ true
  pub members : new.members ≡ old.members
  pub events : new.events ≡ old.events
  pub rests : old.halted ≡ true → new ≡ old

-- session s, which had something left to do, is dead
pub record IsDeath (stops : ℕ → Bool) (s : ℕ) (cause : Cause) (old new : Sessions) : Type 0 where
  pub going : old.halted ≡ false
  pub before : Member
  pub found : slice_get old.members (s - 1) ≡ Some before
  pub unfinished : is_over (stops s) before before.life ≡ false
  pub is : new.members ≡ slice_set old.members (s - 1) (with_life Dead before)
  pub grown : map event_of new.events ≡ map event_of old.events ++ Died s cause ∷ []

-- what a death comes to: nothing, where s has nothing left to do, or no session goes on
abbrev pub DeathCame : (stops : ℕ → Bool) → ℕ → Cause → Sessions → Sessions → Type 0
DeathCame stops s cause old new = ((new ≡ old) × ((old.halted ≡ true) ⊎ IsAtEnd stops s old)) ⊎ IsDeath stops s cause old new

-- one that died goes on in its recovery, or is recovered. What happened is nobody's
pub record IsRecovery (old new : Sessions) : Type 0 where
  pub at : ℕ
  pub before : Member
  pub found : slice_get old.members at ≡ Some before
  pub died : before.life ≡ Dead
  pub life : Life
  pub dead : is_alive_life life ≡ false
  pub is : new.members ≡ slice_set old.members at (with_life life before)
  pub more : List Event
  pub grown : map event_of new.events ≡ map event_of old.events ++ more
  pub nobodys : AllNobodys (map mark_of more)

-- what a step of a recovery comes to
abbrev pub RecoveryCame : Sessions → Sessions → Turn → Type 0
RecoveryCame old new turn.Moved = IsRecovery old new
RecoveryCame old new (turn.Asleep t) = ⊥
RecoveryCame old new turn.Died = ⊥
RecoveryCame old new turn.Frozen = ⊥
RecoveryCame old new turn.Ended = (new ≡ old) × (dead_in old.members ≡ 0)
RecoveryCame old new turn.Stopped = IsHalt old new

-- ---- the end

-- each has nothing left to do, and none awaits its recovery
abbrev pub HaveEnded : (stops : ℕ → Bool) → List Member → Type 0
HaveEnded stops members = (i : ℕ) (m : Member) → slice_get members i ≡ Some m → (is_over (stops (suc i)) m m.life ≡ true) × (is_dead m ≡ false)

abbrev pub is_session : ℕ → ℕ → Bool
is_session sessions s = nat_le 1 s && nat_le s sessions

-- those of so many sessions that haven't died
abbrev pub has_lived : ℕ → Place → ℕ → Bool
has_lived sessions p s = is_session sessions s && has_not_died (p.life s)

-- Those that haven't died have said their scripts to the ends, at which no stop stands, and have no transaction open. Who died is recovered.
pub record HaveAllEnded (o : Opening) (sessions : ℕ) (events : List Event) : Type 0 where
  pub whole : AreWhole (has_lived sessions (place o events)) o events
  pub recovered : (place o events).frozen ≡ 0
