-- How a workload ends.
use Rattle.std.specs.Prelude.{◌≡◌, ◌⊎◌, ℕ, Bool, List, [], ◌∷◌, nat_eq, map, Option, None, Some}
use Rattle.std.specs.List.{list_any}
use Rattle.rdb_types.specs.declared.file.FileId.{FileId}
use Rattle.rdb_types.specs.declared.keys.Dbkey.{Dbkey}
use Rattle.rdb_account.specs.declared.event.Event.{Event}
use Rattle.rdb_account.specs.Events.{event_of}
use Rattle.line_opening.specs.declared.fault.OpeningFault.{OpeningFault}
use Rattle.line_opening.specs.declared.fault.OpeningFault.TheVariants as opening
use Rattle.line_store.specs.declared.answers.Fault.TheVariants as faulty
use Rattle.line_runs.specs.line_cluster.declared.sessions.Halt.{Halt}
use Rattle.line_runs.specs.line_cluster.declared.sessions.Halt.TheVariants as halts
use Rattle.line_runs.specs.line_cluster.Deaths.{device_deaths}
use Rattle.workload_replies.specs.Replies.{has_death}

abbrev pub is_run_status : ℕ → Bool
is_run_status n = list_any (nat_eq n) (0 ∷ 3 ∷ 4 ∷ 5 ∷ 8 ∷ [])

abbrev pub is_workload_status : ℕ → Bool
is_workload_status n = list_any (nat_eq n) (0 ∷ 3 ∷ 4 ∷ 5 ∷ 6 ∷ 7 ∷ 8 ∷ 9 ∷ [])

-- those with which one ends over a disk and a sink that don't fail, where there was no database
abbrev pub is_unharmed : ℕ → Bool
is_unharmed n = list_any (nat_eq n) (0 ∷ 4 ∷ 5 ∷ 8 ∷ [])

-- the statuses at which every session of the last run that lived came to its end
abbrev pub IsWhole : ℕ → Type 0
IsWhole status = (status ≡ 0) ⊎ (status ≡ 6) ⊎ (status ≡ 7) ⊎ (status ≡ 8)

-- the last of these accounts
abbrev pub last_of : List (List Event) → List Event
last_of [] = []
last_of (e ∷ []) = e
last_of (e ∷ d ∷ es) = last_of (d ∷ es)

-- some session of some run died
abbrev pub have_death : List (List Event) → Bool
have_death accounts = list_any has_death accounts

-- how many sessions of the last run died of a device
abbrev pub deaths_of_last : List (List Event) → ℕ
deaths_of_last accounts = device_deaths (map event_of (last_of accounts))

-- ---- sessions that were stopped

-- their status
abbrev pub stopped_status : Option Halt → ℕ
stopped_status None = 5
stopped_status (Some (halts.Device faulty.Failed)) = 3
stopped_status (Some (halts.Device (faulty.Bad file slot))) = 4
stopped_status (Some (halts.Unlaid key)) = 5
stopped_status (Some halts.Unworked) = 5
stopped_status (Some halts.Lost) = 5
stopped_status (Some (halts.Unsound key)) = 4

-- A database wasn't opened over a slot of a file that is none of its kind,
abbrev pub IsBadOpening : Option OpeningFault → Type 0
IsBadOpening unopened = (file : FileId) × (slot : ℕ) × (unopened ≡ Some (opening.Bad file slot))

-- sessions were stopped over such a slot,
abbrev pub IsOverSlot : Option Halt → Type 0
IsOverSlot halt = (file : FileId) × (slot : ℕ) × (halt ≡ Some (halts.Device (faulty.Bad file slot)))

-- or over a line with which what is known agrees with no sound database.
abbrev pub IsOverLine : Option Halt → Type 0
IsOverLine halt = (key : Dbkey) × (halt ≡ Some (halts.Unsound key))
