-- What is true of the sessions of a run at every moment.
use Rattle.std.specs.Prelude.{◌≡◌, ◌≤◌, ℕ, suc, Bool, true, false, List, [], length, map, Option, Some, None, slice_get}
use Rattle.rdb_types.specs.declared.session.Cause.TheVariants as cause
use Rattle.rdo_ast.specs.Views.{uttered_of}
use Rattle.rdb_account.specs.Events.{Event}
use Rattle.rdb_account.specs.Places.{Opening, place}
use Rattle.rdb_account.specs.Backups.{backups}
use Rattle.rdb_account.specs.Legal.{IsLegal}
use Rattle.line_view.specs.Knowledge.{Lines}
use Rattle.lock_tree_laws.specs.Forest.{State}
use Rattle.line_store.specs.declared.answers.Fault.TheVariants.{Bad}
use Rattle.line_store.specs.Shelves.{Shelf, AreSpent}
use Rattle.line_store.specs.Sights.{Sight}
use Rattle.line_steps.specs.Images.{AreLeft, IsNow}
use Rattle.session_jobs.specs.Records.{Model}
use Rattle.session_states.specs.declared.stage.Phase.TheVariants.{Outside}
use Rattle.session_states.specs.declared.stage.Life.TheVariants.{Alive}
use Rattle.session_states.specs.declared.stage.Member.{Member}
use Rattle.session_states.specs.declared.item_queue.WholeScript.{WholeScript}
use Rattle.session_states.specs.States.{session}
use Rattle.session_states.specs.Kept.{IsOpened}
use Rattle.line_account.specs.session_stands.Backed.{AreBacked}
use Rattle.session_measure.specs.Nearer.{is_broken}
use Rattle.line_account.specs.session_stands.Sessions.{AreSeated, IsTold, sharing}
use Rattle.line_account.specs.stage_steps.Scenes.{Scene}
use Rattle.line_cluster.specs.declared.sessions.Halt.{Halt}
use Rattle.line_cluster.specs.declared.sessions.Halt.TheVariants.{Device, Unsound}
use Rattle.line_cluster.specs.Deaths.{CountsFaults, failures, lives_in}

-- The store shows a shelf at whose moment each map of lines that a crash may leave stands for what the account has committed, or for that with the one in flight; and each that a crash might have left since the sessions began, or since a commit, for what was committed then, or more. A store can be opened from each image since they began. Each backup that counts is whole.
pub record HasImages (M : Model) (o : Opening) (sight : Sight) (events : List Event) : Type 0 where
  pub shelf : Shelf
  pub shown : sight.shows shelf
  pub now : (lines : Lines) → sight.left shelf.clock.time lines → IsNow M o (place o events) lines
  pub since : AreLeft M o events sight.left sight.opens shelf.clock.time
  pub backups : AreBacked M (backups o events) sight shelf.clock.time

-- no session goes on since what one of them knows agrees with no sound database
abbrev pub is_unsound : Option Halt → Bool
is_unsound (Some (Unsound key)) = true
is_unsound halt = false

-- no session goes on since a slot isn't what it has to be
abbrev pub is_over_slot : Option Halt → Bool
is_over_slot (Some (Device (Bad file slot))) = true
is_over_slot halt = false

-- a shelf is shown on which the numbers of transactions are used up
pub record ShowsSpent (sight : Sight) : Type 0 where
  pub shelf : Shelf
  pub shown : sight.shows shelf
  pub spent : AreSpent shelf.clock

-- Where the opening told what the store holds, the account is legal, a crash leaves what was committed, faults rose since the opening, at which there were so many, by one for each session that died of a device, and by one where a recovery failed of it, no session was stopped over an unsound line, and none over a slot but where numbers are used up. As long as no halt has come, each session stands where its phase has it, and what is shown is kept.
pub record IsSound (M : Model) (told : Type 0) (o : Opening) (faults : ℕ) (c : Scene) (members : List Member) (events : List Event) (halt : Option Halt) : Type 0 where
  pub legal : told → IsLegal o events
  pub seated : halt ≡ None → AreSeated c.sight.stand c.locks members
  pub kept : halt ≡ None → told → IsTold M o c.word c.sight c.locks members events
  pub images : told → HasImages M o c.sight events
  pub causes : told → CountsFaults faults (failures events halt) c.sight
  pub agrees : told → is_unsound halt ≡ false
  pub spent : told → is_over_slot halt ≡ true → ShowsSpent c.sight

-- none that lives is broken: one at whose change the store failed has died
abbrev pub AreWhole : List Member → Type 0
AreWhole members = (i : ℕ) (m : Member) → slice_get members i ≡ Some m → m.life ≡ Alive → is_broken m.phase ≡ false

-- session s is one of these
pub record IsOneOf (members : List Member) (s : ℕ) : Type 0 where
  pub first : 1 ≤ s
  pub last : s ≤ length members
  pub few : length members ≤ 16

-- the scripts are those of the opening, and end in a stop where it says so
abbrev pub FollowsScripts : Opening → List WholeScript → Type 0
FollowsScripts o scripts = (i : ℕ) (x : WholeScript) → slice_get scripts i ≡ Some x → (o.script (suc i) ≡ map uttered_of x.items) × (o.stops (suc i) ≡ x.stops)

-- A shelf is shown as an account opens, by whose clock there are no fewer faults than these. Nobody began a backup.
pub record IsOpenedBy (M : Model) (o : Opening) (faults : ℕ) (word : List ℕ) (sight : Sight) : Type 0 where
  pub shelf : Shelf
  pub shown : sight.shows shelf
  pub no_fewer : faults ≤ shelf.clock.faults
  pub copiers : (n : ℕ) → sight.copier n ≡ None
  pub opened : (locks : State) → locks.parties ≡ [] → locks.trail ≡ [] → IsOpened M o (sharing word shelf locks 0)

-- the store shows a shelf whose committed lines stand for the tables behind all commits of the account
pub record IsLeft (M : Model) (o : Opening) (sight : Sight) (events : List Event) : Type 0 where
  pub shelf : Shelf
  pub shown : sight.shows shelf
  pub stands : M shelf.now (place o events).tables

abbrev pub stop_of : WholeScript → Bool
stop_of x = x.stops

abbrev pub fresh_member : WholeScript → Member
fresh_member x = session x.items (length x.items) Outside

-- for each of so many sessions, whether its script ends in a stop
pub record AreStops (o : Opening) (sessions : ℕ) (stops : List Bool) : Type 0 where
  pub count : length stops ≡ sessions
  pub each : (i : ℕ) (b : Bool) → slice_get stops i ≡ Some b → b ≡ o.stops (suc i)

-- any session may die of a device call that fails, and of want of memory
abbrev pub MayFail : Opening → Type 0
MayFail o = (s : ℕ) → (o.may_die s cause.Device ≡ true) × (o.may_die s cause.Memory ≡ true)

-- They are sound, none that lives is broken, and there are so many: no more than the tree of locks has owners. Of each it is known whether its script ends in a stop. Behind the events so many places are spare, enough for all deaths and recoveries that may still come.
pub record AreSound (M : Model) (told : Type 0) (o : Opening) (faults sessions : ℕ) (c : Scene) (members : List Member) (events : List Event) (halt : Option Halt) (stops : List Bool) (spare : ℕ) : Type 0 where
  pub sound : IsSound M told o faults c members events halt
  pub whole : halt ≡ None → AreWhole members
  pub count : length members ≡ sessions
  pub few : sessions ≤ 16
  pub mortal : MayFail o
  pub ends : AreStops o sessions stops
  pub room : lives_in members ≤ spare

abbrev pub IsSession : ℕ → ℕ → Type 0
IsSession sessions s = (1 ≤ s) × (s ≤ sessions)
