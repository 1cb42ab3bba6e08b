-- The accounts of runs that follow one another over one database.
use Rattle.std.specs.Prelude.{◌≡◌, ℕ, ◌-◌, Bool, false, List, [], ◌∷◌, length, map}
use Rattle.rdb_types.specs.declared.session.Cause.{Cause}
use Rattle.rdb_outside.specs.Disk.{Image}
use Rattle.rdb_meaning.specs.declared.tables.Tables.{Tables}
use Rattle.rdb_account.specs.declared.event.Event.{Event as Declared}
use Rattle.rdb_account.specs.Events.{Event, event_of}
use Rattle.rdb_account.specs.Legal.{IsLegal}
use Rattle.rdb_account.specs.Places.{Opening, place}
use Rattle.session_states.specs.declared.item_queue.WholeScript.{WholeScript}
use Rattle.line_runs.specs.line_cluster.Sound.{FollowsScripts}
use Rattle.line_runs.specs.line_cluster.Turned.{HaveAllEnded}
use Rattle.line_runs.specs.Openings.{stop_of}
use Rattle.line_runs.specs.opened_store.Opened.{is_taken_in}
use Rattle.workload_runs.specs.declared.stand.Stand.{Stand}

-- ---- one run

-- what all runs of a workload have: the database's word, and who may die of what
pub record Frame : Type 0 where
  pub word : List ℕ
  pub may_die : ℕ → Cause → Bool

-- The account begins with these tables, says these scripts, and is legal.
pub record IsRun (f : Frame) (tables : Tables) (scripts : List WholeScript) (events : List Event) : Type 0 where
  pub opening : Opening
  pub named : opening.word ≡ f.word
  pub lets : opening.may_die ≡ f.may_die
  pub begins : opening.tables ≡ tables
  pub follows : FollowsScripts opening scripts
  -- nobody else has a script that ends in a stop
  pub stops : opening.stops ≡ stop_of scripts
  pub legal : IsLegal opening events

-- what a run opens with: the limits and the groups that were read, the taken pages of the image, and these tables
abbrev pub opening_on : Image → Stand → Tables → (ℕ → Cause → Bool) → Opening
opening_on image stand tables may_die = record {
  word = [];
  script = λ s. [];
  stops = λ s. false;
  tables = tables;
  limits = record { pages = stand.limits.pages; snapshots = stand.limits.snaps; entries = stand.limits.entries; slots = stand.limits.slots };
  has_owner = λ file page. is_taken_in image stand.limits.pages file page;
  group_slots = stand.next - 1;
  moment = 0;
  may_die = may_die;
}

-- ---- several

-- the sessions have all come to their ends, where the runs are whole
abbrev pub EndIf : Type 0 → Opening → ℕ → List Event → Type 0
EndIf Whole o sessions events = Whole → HaveAllEnded o sessions events

-- These are the accounts of the first of runs that say these scripts. The first begins with these tables, each next one with those of all commits of the one before, whose sessions have all come to their ends. Of the last this holds, and of how many sessions it has.
abbrev pub AreRuns : (Opening → ℕ → List Event → Type 0) → Frame → Tables → List (List WholeScript) → List (List Declared) → Type 0
AreRuns OfLast f t scripts [] = Unit {0}
AreRuns OfLast f t [] (e ∷ es) = ⊥
AreRuns OfLast f t (s ∷ ss) (e ∷ []) =
    (run : IsRun f t s (map event_of e)) × OfLast run.opening (length s) (map event_of e)
AreRuns OfLast f t (s ∷ ss) (e ∷ d ∷ es) =
    (run : IsRun f t s (map event_of e)) × HaveAllEnded run.opening (length s) (map event_of e)
    × AreRuns OfLast f (place run.opening (map event_of e)).tables ss (d ∷ es)
