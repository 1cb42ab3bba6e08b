-- Deaths in an account: how many may still come, and the faults that are counted for those of a device and for a halt.
use Rattle.std.specs.Prelude.{◌≤◌, ◌+◌, ◌-◌, ◌^◌, ℕ, min, Bool, true, false, cond, List, [], ◌∷◌, Option, Some}
use Rattle.std.specs.List.{count_by}
use Rattle.rdb_types.specs.declared.session.Cause.{Cause}
use Rattle.rdb_types.specs.declared.session.Cause.TheVariants.{Device, Stop, Memory}
use Rattle.rdb_account.specs.Events.{Event, Died}
use Rattle.line_store.specs.declared.answers.Fault.TheVariants as fault
use Rattle.line_store.specs.Shelves.{Shelf}
use Rattle.line_store.specs.Sights.{Sight}
use Rattle.session_states.specs.declared.stage.Member.{Member}
use Rattle.session_measure.specs.Weights.{life_left}
use Rattle.line_cluster.specs.declared.sessions.Halt.{Halt}
use Rattle.line_cluster.specs.declared.sessions.Halt.TheVariants as halts

abbrev pub is_device : Cause → Bool
is_device Device = true
is_device _ = false

abbrev pub is_stop : Cause → Bool
is_stop Stop = true
is_stop _ = false

abbrev pub is_memory : Cause → Bool
is_memory Memory = true
is_memory _ = false

-- a session dies so in a turn of its own: a device call failed, its script has come to a stop, or no memory was found for what happens in it
abbrev pub is_own : Cause → Bool
is_own Device = true
is_own Stop = true
is_own Memory = true
is_own _ = false

-- So many deaths and recoveries may still come of these sessions: of one that lives both, of one that died its recovery. There is room for the events of all of them at every moment.
abbrev pub lives_in : List Member → ℕ
lives_in [] = 0
lives_in (m ∷ ms) = life_left m.life + lives_in ms

abbrev pub is_device_death : Event → Bool
is_device_death (Died s cause) = is_device cause
is_device_death event = false

-- how many sessions died of a device
abbrev pub device_deaths : List Event → ℕ
device_deaths events = count_by is_device_death events

-- how many device calls failed for a death of this cause
abbrev pub faults_of : Cause → ℕ
faults_of cause = cond (is_device cause) 1 0

-- how many failed in a recovery: no session goes on behind the first
abbrev pub faults_in : Option Halt → ℕ
faults_in (Some (halts.Device fault.Failed)) = 1
faults_in _ = 0

-- the device calls that failed of which an account and a halt tell
abbrev pub failures : List Event → Option Halt → ℕ
failures events halt = device_deaths events + faults_in halt

-- A count of faults rose by so many between two moments, or stands at the last value of its type.
abbrev pub RoseBy : ℕ → ℕ → ℕ → Type 0
RoseBy more before now = min (before + more) (2 ^ 64 - 1) ≤ now

-- A shelf is shown by whose clock these faults rose by so many.
pub record CountsFaults (faults more : ℕ) (sight : Sight) : Type 0 where
  pub shelf : Shelf
  pub shown : sight.shows shelf
  pub rose : RoseBy more faults shelf.clock.faults
