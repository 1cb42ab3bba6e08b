-- What a crash leaves of a disk over which runs followed one another.
use Rattle.std.specs.Prelude.{◌≡◌, ◌⊎◌, ◌++◌, ℕ, List, []}
use Rattle.rdb_outside.specs.Disk.{View}
use Rattle.rdb_outside.specs.Moments.{Since}
use Rattle.rdb_meaning.specs.declared.tables.Tables.{Tables}
use Rattle.rdb_account.specs.declared.event.Event.{Event as Declared}
use Rattle.rdb_account.specs.Events.{Event}
use Rattle.rdb_account.specs.Places.{Opening, place}
use Rattle.session_jobs.specs.Records.{Model}
use Rattle.session_states.specs.declared.item_queue.WholeScript.{WholeScript}
use Rattle.line_runs.specs.Prefix.{HoldsAll, HoldsPrefix, StandsFor}
use Rattle.workload_runs.specs.Runs.{Frame, AreRuns}

-- each image that a crash since some moment might have left stands for these tables
abbrev pub StandSince : Model → View → Tables → Type 0
StandSince M v t = (moment : ℕ) × Since v moment (StandsFor M t)

-- A crash leaves a prefix of the account of a run. Behind one that came to its end, where the next one was not opened, it leaves all of it.
abbrev pub HoldsRun : Model → View → Opening → ℕ → List Event → Type 0
HoldsRun M v o sessions events = HoldsPrefix M o v events ⊎ StandSince M v (place o events).tables

-- and all of it, where the runs are whole
pub record EndsHeld (M : Model) (Whole : Type 0) (v : View) (o : Opening) (sessions : ℕ) (events : List Event) : Type 0 where
  pub images : HoldsRun M v o sessions events
  pub left : Whole → HoldsAll M o v events

-- Of all runs that were begun this holds of the last, or, where none was, this. Their accounts are these; only under 5, where there was no memory for them, there are further ones.
pub record LastHolds (OfLast : Opening → ℕ → List Event → Type 0) (OfNone : Type 0) (f : Frame) (t : Tables) (scripts : List (List WholeScript)) (accounts : List (List Declared)) (status : ℕ) : Type 0 where
  pub further : List (List Declared)
  pub none : (status ≡ 5 → ⊥) → further ≡ []
  pub runs : AreRuns OfLast f t scripts (accounts ++ further)
  pub unbegun : accounts ++ further ≡ [] → OfNone
