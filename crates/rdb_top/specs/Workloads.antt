-- What a workload comes to.
use Rattle.std.specs.Prelude.{◌≡◌, ◌⊎◌, ℕ, List, [], ◌∷◌, ◌++◌, Option, Some, None, slice_index_or}
use Rattle.rdb_outside.specs.Disk.{View, LeavesOnly}
use Rattle.new_database.specs.New.{IsNewDatabaseOrNone}
use Rattle.rdb_meaning.specs.Contents.{no_tables}
use Rattle.rdb_account.specs.declared.event.Event.{Event}
use Rattle.session_jobs.specs.Records.{Model}
use Rattle.workload_runs.specs.line_runs.Prefix.{HoldsAll}
use Rattle.command_words.specs.Options.{limits_of, nothing_asked}
use Rattle.command_words.specs.Words.{database_place}
use Rattle.workload_runs.specs.Among.{may_die_by}
use Rattle.workload_runs.specs.Left.{HoldsRun, LastHolds, StandSince}
use Rattle.workload_runs.specs.Runs.{Frame, AreRuns, EndIf}
use Rattle.workload_runs.specs.Scripts.{scripts_of_runs}
use Rattle.workload_runs.specs.Statuses.{IsWhole}

abbrev pub word_at : List (List ℕ) → Option ℕ → List ℕ
word_at words None = []
word_at words (Some at) = slice_index_or words at []

-- the database's word, at its place
abbrev pub database_in : List (List ℕ) → List ℕ
database_in words = word_at words (database_place words)

-- All accounts are the earlier ones and the last, or there is none.
abbrev pub EndIn : List (List Event) → List (List Event) → List Event → Type 0
EndIn all earlier last = (all ≡ earlier ++ last ∷ []) ⊎ ((all ≡ []) × (earlier ≡ []) × (last ≡ []))

-- the word of the database, and who dies: a session whose device call fails, one for which no memory is found, or one of these
abbrev pub frame_of : List (List ℕ) → List ℕ → Frame
frame_of words mortals = record { word = database_in words; may_die = may_die_by mortals }

-- They are the accounts of the runs of a workload that were begun.
abbrev pub AreWorkloadRuns : List (List ℕ) → List ℕ → ℕ → ℕ → List (List Event) → List Event → Type 0
AreWorkloadRuns words mortals accounts status earlier last =
    (all : List (List Event)) × EndIn all earlier last
    × AreRuns (EndIf (IsWhole status)) (frame_of words mortals) no_tables (scripts_of_runs accounts) all

-- A crash leaves a prefix of the account of the last run that was begun, or all of it. Where none was begun, it leaves no database or a new one at any moment of the workload, or one without tables. Only under 5 that account may not be handed back.
abbrev pub LeavesRuns : Model → List (List ℕ) → List ℕ → ℕ → View → View → ℕ → List (List Event) → List Event → Type 0
LeavesRuns M words mortals accounts old new status earlier last =
    (all : List (List Event)) × EndIn all earlier last
    × LastHolds (HoldsRun M new) (LeavesOnly old new (IsNewDatabaseOrNone (limits_of nothing_asked)) ⊎ StandSince M new no_tables)
    (frame_of words mortals) no_tables (scripts_of_runs accounts) all status

-- Where every session of the last run that lived came to its end, it leaves all of its account.
abbrev pub LeavesAll : Model → List (List ℕ) → List ℕ → ℕ → View → ℕ → List (List Event) → List Event → Type 0
LeavesAll M words mortals accounts new status earlier last =
    IsWhole status → (all : List (List Event)) × EndIn all earlier last
    × AreRuns (λ o sessions events. HoldsAll M o new events) (frame_of words mortals) no_tables (scripts_of_runs accounts) all
