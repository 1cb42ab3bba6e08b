-- What a run says and writes, and how it ends.
use Rattle.std.specs.Prelude.{◌≡◌, ◌⊎◌, ℕ, Bool, true, false, List, ◌∷◌, [], map, length, nat_eq, Option, None, Some}
use Rattle.std.specs.List.{list_any, flat_map}
use Rattle.rdb_outside.specs.Disk.{View}
use Rattle.rdb_drive.specs.Orders.{upward}
use Rattle.rdb_account.specs.declared.event.Event.{Event}
use Rattle.rdb_account.specs.Events.{event_of}
use Rattle.rdb_account.specs.Legal.{IsLegal}
use Rattle.rdb_account.specs.Places.{Opening}
use Rattle.rdb_account.specs.Transcript.{transcript}
use Rattle.session_states.specs.declared.item_queue.WholeScript.{WholeScript}
use Rattle.workload_runs.specs.line_cluster.declared.sessions.Halt.{Halt}
use Rattle.workload_runs.specs.line_cluster.Turned.{HaveAllEnded}
use Rattle.workload_runs.specs.line_drive.Turns.{KeepsTurns}
use Rattle.workload_runs.specs.line_runs.Openings.{HasNoNumbers, said_to}
use Rattle.command_words.specs.declared.words.Scripts.{Scripts}
use Rattle.command_words.specs.declared.words.Command.{Command}
use Rattle.command_words.specs.declared.words.Command.TheVariants.{New, Rdo, Workload, Verify, Dump, DumpPage, Backup, BackupJournal, Restore, Recover}
use Rattle.rdb_top.specs.Deaths.{letting}
use Rattle.script_queues.specs.Scripts.{whole_script}
use Rattle.script_streams.specs.declared.read.ReadStop.{ReadStop}
use Rattle.script_streams.specs.declared.read.ReadStop.TheVariants.{Failed, OutOfMemory, TooLong}
use Rattle.workload_runs.specs.Statuses.{IsOverLine, IsOverSlot}

-- the scripts of so many sessions, by the texts that are left for each
abbrev pub scripts_of : (ℕ → List ℕ) → ℕ → List WholeScript
scripts_of left sessions = map (λ s. whole_script (left s)) (upward 1 sessions)

-- what so many sessions write, one after another
abbrev pub transcripts : ℕ → List Event → List ℕ
transcripts sessions events = flat_map (λ s. transcript s events) (upward 1 sessions)

-- the sessions of a command
abbrev pub sessions_of : Option Command → ℕ
sessions_of None = 0
sessions_of (Some (New limits)) = 0
sessions_of (Some (Rdo scripts)) = scripts.count
sessions_of (Some (Workload accounts)) = 0
sessions_of (Some Verify) = 0
sessions_of (Some Dump) = 0
sessions_of (Some (DumpPage place)) = 0
sessions_of (Some (Backup number)) = 0
sessions_of (Some (BackupJournal number)) = 0
sessions_of (Some (Restore number)) = 0
sessions_of (Some (Recover count)) = 0

-- a command that makes a copy of a database, or a database of one
abbrev pub keeps_copies : Option Command → Bool
keeps_copies None = false
keeps_copies (Some (New limits)) = false
keeps_copies (Some (Rdo scripts)) = false
keeps_copies (Some (Workload accounts)) = false
keeps_copies (Some Verify) = false
keeps_copies (Some Dump) = false
keeps_copies (Some (DumpPage place)) = false
keeps_copies (Some (Backup number)) = true
keeps_copies (Some (BackupJournal number)) = true
keeps_copies (Some (Restore number)) = true
keeps_copies (Some (Recover count)) = false

-- a command that rolls a database forward, and writes how far
abbrev pub rolls_forward : Option Command → Bool
rolls_forward None = false
rolls_forward (Some (New limits)) = false
rolls_forward (Some (Rdo scripts)) = false
rolls_forward (Some (Workload accounts)) = false
rolls_forward (Some Verify) = false
rolls_forward (Some Dump) = false
rolls_forward (Some (DumpPage place)) = false
rolls_forward (Some (Backup number)) = false
rolls_forward (Some (BackupJournal number)) = false
rolls_forward (Some (Restore number)) = false
rolls_forward (Some (Recover count)) = true

-- a command that makes a database and has sessions of its own work in it, and writes what they come to
abbrev pub is_workload : Option Command → Bool
is_workload None = false
is_workload (Some (New limits)) = false
is_workload (Some (Rdo scripts)) = false
is_workload (Some (Workload accounts)) = true
is_workload (Some Verify) = false
is_workload (Some Dump) = false
is_workload (Some (DumpPage place)) = false
is_workload (Some (Backup number)) = false
is_workload (Some (BackupJournal number)) = false
is_workload (Some (Restore number)) = false
is_workload (Some (Recover count)) = false

-- the statuses at which everything was written
abbrev pub IsWritten : ℕ → Type 0
IsWritten status = (status ≡ 0) ⊎ (status ≡ 8)

-- the statuses at which every session that lived said its script to the end
abbrev pub IsWhole : ℕ → Type 0
IsWhole status = IsWritten status ⊎ (status ≡ 6)

-- the account of a run of these scripts' items is legal, whole where every session that lived said its items, and keeps to the order where there is one
abbrev pub IsRun : Opening → List ℕ → Scripts → List ℕ → ℕ → List Event → List WholeScript → Type 0
IsRun o word given order status events scripts =
    IsLegal (said_to (letting given.death o) word scripts) (map event_of events)
    × (IsWhole status → HaveAllEnded (said_to (letting given.death o) word scripts) given.count (map event_of events))
    × (given.has_order ≡ true → IsWhole status → KeepsTurns (said_to (letting given.death o) word scripts) given.count order events)

-- there are so many scripts of which it holds: where the source tells them, its own
abbrev pub OfSomeScripts : ℕ → Type 0 → List WholeScript → (List WholeScript → Type 0) → Type 0
OfSomeScripts sessions Tells own Holds = (scripts : List WholeScript) × (length scripts ≡ sessions) × (Tells → scripts ≡ own) × Holds scripts

abbrev pub is_status : ℕ → Bool
is_status n = list_any (nat_eq n) (0 ∷ 1 ∷ 2 ∷ 3 ∷ 4 ∷ 5 ∷ 6 ∷ 7 ∷ 8 ∷ 9 ∷ 10 ∷ [])

-- the statuses of a run of scripts
abbrev pub is_script_status : ℕ → Bool
is_script_status n = list_any (nat_eq n) (0 ∷ 2 ∷ 3 ∷ 4 ∷ 5 ∷ 6 ∷ 8 ∷ 10 ∷ [])

-- the status of a script that wasn't read
abbrev pub status_at : ReadStop → ℕ
status_at Failed = 2
status_at OutOfMemory = 5
status_at TooLong = 10

-- Why scripts end with status 4: at the opening a slot was none of its kind (so a kept image has used up its numbers), or the sessions were stopped so.
abbrev pub IsNoDatabase : View → Option Halt → Type 0
IsNoDatabase v halt = HasNoNumbers v ⊎ IsOverSlot halt ⊎ IsOverLine halt
