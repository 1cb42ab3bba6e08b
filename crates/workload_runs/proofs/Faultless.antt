-- A verification of what stands for tables finds no fault, and so none behind whole runs.
use Rattle.std.proofs.Common.{◌≡◌, ◌++◌, ◌∙◌, ℕ, true, List, length, inl, inr, IsTrue, sym, subst}
use Rattle.rdb_outside.specs.Disk.{Image, View, LeftNow, OnlyReads}
use Rattle.rdb_outside.specs.Moments.{each_slot}
use Rattle.rdb_meaning.specs.declared.tables.Tables.{Tables}
use Rattle.line_view.specs.Knowledge.{Lines}
use Rattle.stable_lines.specs.Journal.{Journal, IsJournalOf}
use Rattle.page_faults.proofs.Reading.{image_same, told_on}
use Rattle.faultless_databases.specs.sound_lines.Sound.{IsSound}
use Rattle.faultless_databases.specs.Faultless.{HasNoFaults}
use Rattle.faultless_databases.proofs.Whole.{no_fault}
use Rattle.sound_maps.specs.Maps.{IsSoundWith}
use Rattle.rdb_account.specs.declared.event.Event.{Event as Declared}
use Rattle.rdb_account.specs.Places.{place}
use Rattle.session_jobs.specs.Records.{Model}
use Rattle.session_states.specs.declared.item_queue.WholeScript.{WholeScript}
use Rattle.line_runs.specs.Prefix.{StandsFor}
use Rattle.rmu_commands.specs.Written.{Verifies}
use Rattle.workload_runs.specs.Left.{EndsHeld, LastHolds}
use Rattle.workload_runs.specs.Reports.{Reports}
use Rattle.workload_runs.specs.Runs.{Frame}
use Rattle.workload_runs.specs.Statuses.{is_run_status, IsWhole}
use Rattle.workload_runs.proofs.Crash.{last-of-runs, three-some}
use Rattle.workload_runs.proofs.Ended.{Keeps, runs-not-seven}
use Rattle.workload_runs.proofs.Left.{all-stand}

-- ---- images that stand for tables

-- an image that can be verified, and has nothing to list
record IsFaultless (image : Image) : Type 0 where
  journal : Journal
  has_journal : IsJournalOf image journal
  none : HasNoFaults image

is-sound : (lines : Lines) (t : Tables) → IsSoundWith lines t → IsSound lines
is-sound lines t is = is.1

of-standing : (M : Model) → ((lines : Lines) (t : Tables) → M lines t → IsSound lines) → (t : Tables) (image : Image) → StandsFor M t image → IsFaultless image
of-standing M sound t image is =
    let has = is.1 in
    record {
      journal = has.journal;
      has_journal = has.kept.journal;
      none = no_fault has.classes is.0 has.journal image has.kept (sound is.0 t is.2);
    }

-- VERIFY lists nothing
pub standing-lists-none : (v : View) (t : Tables) (status : ℕ) (SinkTells : Type 0) (old new : List ℕ) → StandsFor IsSoundWith t v.content → IsTrue v.tells → Verifies v status SinkTells old new → status ≡ 7 → ⊥
standing-lists-none v t status SinkTells old new stands tells is seven =
    let f = of-standing IsSoundWith is-sound t v.content stands in
    is.some seven (f.none f.journal f.has_journal is.faults (is.are (inr (inr seven)) tells f.journal f.has_journal))

-- ---- behind runs

-- a report of faults isn't that of such a disk
no-report : (v : View) (last : List Declared) (status : ℕ) (SinkTells : Type 0) (old new : List ℕ) → IsFaultless v.content → IsTrue v.tells → Reports v last status SinkTells old new → status ≡ 7 → ⊥
no-report v last status SinkTells old new is tells report seven =
    report.some seven (is.none is.journal is.has_journal report.faults (report.are (inr (inr seven)) tells is.journal is.has_journal))

pub faultless-behind : (runs fin : View) (OfNone : Type 0) (f : Frame) (t : Tables) (ss : List (List WholeScript)) (all : List (List Declared)) (ran said : ℕ) (last : List Declared) (SinkTells : Type 0) (old new : List ℕ)
    → LastHolds (EndsHeld IsSoundWith (IsWhole ran) runs) OfNone f t ss all ran → Keeps said ran → is_run_status ran ≡ true → (ran ≡ 0 → length all ≡ 3)
    → OnlyReads runs fin → (IsTrue runs.tells → LeftNow runs runs.content) → Reports fin last said SinkTells old new → said ≡ 7 → ⊥
faultless-behind runs fin OfNone f t ss all ran said last SinkTells old new held (inl kept) is_run count reads content report seven = runs-not-seven ran is_run (sym kept ∙ seven)
faultless-behind runs fin OfNone f t ss all ran said last SinkTells old new held (inr zero_is) is_run count reads content report seven =
    let it = last-of-runs (EndsHeld IsSoundWith (IsWhole ran) runs) f t ss (all ++ held.further) held.runs (three-some all held.further (count zero_is)) in
    let left = it.3.left (inl zero_is) in
    let stands = all-stand IsSoundWith it.0 runs it.2 left runs.content (each_slot runs runs.content (content left.tells)) in
    let is = of-standing IsSoundWith is-sound (place it.0 it.2).tables runs.content stands in
    no-report fin last said SinkTells old new (subst (λ (m : Image). IsFaultless m) (sym (image_same runs fin reads left.tells)) is) (told_on runs fin reads left.tells) report seven
