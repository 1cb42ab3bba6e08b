-- What a crash leaves of the disk that a workload gives back.
use Rattle.std.proofs.Common.{◌≡◌, ◌++◌, ◌∙◌, ℕ, Bool, List, [], ◌∷◌, length, map, ◌⊎◌, inl, inr, ⊎_elim, IsTrue, refl, sym, subst, arith}
use Rattle.std.proofs.lemmas.List.{append-nil}
use Rattle.rdb_types.specs.declared.keys.Limits.{Limits}
use Rattle.rdb_types.specs.declared.session.Cause.{Cause}
use Rattle.rdb_outside.specs.Disk.{Image, View, LeftNow, LeavesOnly, OnlyReads}
use Rattle.rdb_outside.specs.Moments.{each_slot}
use Rattle.rdb_outside.specs.Runs.{runs_on}
use Rattle.rdb_meaning.specs.Contents.{no_tables}
use Rattle.rdb_meaning.specs.declared.tables.Tables.{Tables}
use Rattle.new_database.specs.New.{IsNewDatabase, IsNewDatabaseOrNone}
use Rattle.rdb_account.specs.declared.event.Event.{Event as Declared}
use Rattle.rdb_account.specs.Events.{Event, event_of}
use Rattle.rdb_account.specs.Places.{Opening, place}
use Rattle.session_jobs.specs.Records.{Model}
use Rattle.session_states.specs.declared.item_queue.WholeScript.{WholeScript}
use Rattle.line_runs.specs.Openings.{HasNoNumbers}
use Rattle.line_runs.specs.Prefix.{HoldsAll}
use Rattle.rmu_commands.specs.Usable.{IsUsable}
use Rattle.workload_runs.specs.Left.{EndsHeld, HoldsRun, LastHolds, StandSince}
use Rattle.workload_runs.specs.Runs.{Frame, AreRuns}
use Rattle.workload_runs.specs.Scripts.{scripts_of_runs}
use Rattle.workload_runs.specs.Statuses.{IsWhole}
use Rattle.workload_runs.proofs.Chain.{less, no-run}
use Rattle.workload_runs.proofs.Ended.{Keeps, Seen, whole-is-not-five, whole-runs}
use Rattle.workload_runs.proofs.Left.{held-on, some-account}
use Rattle.workload_runs.proofs.Opening.{new-pending}
use Rattle.workload_runs.proofs.Stops.{IsRefused, opens-usable}

-- what is said where no run was begun: of the disk before the workload and behind it
abbrev pub Unbegun : Model → Limits → View → View → Type 0
Unbegun M limits old new = LeavesOnly old new (IsNewDatabaseOrNone limits) ⊎ StandSince M new no_tables

-- no database was made
pub none-made : (M : Model) (limits : Limits) (old new : View) (f : Frame) (ss : List (List WholeScript)) (accounts : List (List Declared)) (status : ℕ)
    → accounts ≡ [] → LeavesOnly old new (IsNewDatabaseOrNone limits) → LastHolds (HoldsRun M new) (Unbegun M limits old new) f no_tables ss accounts status
none-made M limits old new f ss accounts status none leaves = record {
  further = [];
  none = λ other. refl;
  runs = subst (λ (es : List (List Declared)). AreRuns (HoldsRun M new) f no_tables ss (es ++ [])) (sym none) (no-run (HoldsRun M new) f no_tables ss);
  unbegun = λ same. inl leaves;
}

pub none-left : (M : Model) (new : View) (f : Frame) (ss : List (List WholeScript)) (accounts : List (List Declared)) → accounts ≡ []
    → AreRuns (λ o sessions events. HoldsAll M o new events) f no_tables ss accounts
none-left M new f ss accounts none = subst (λ (es : List (List Declared)). AreRuns (λ o sessions events. HoldsAll M o new events) f no_tables ss es) (sym none) (no-run (λ o sessions events. HoldsAll M o new events) f no_tables ss)

-- ---- one was made: the disk before the workload, behind the making, behind the runs and at the end

module _ (M : Model) (limits : Limits) (old made runs last : View) (f : Frame) (ss : List (List WholeScript)) (accounts all : List (List Declared)) (ran said status : ℕ)
    (same : accounts ≡ all) (seen : Seen status said) (kept : Keeps said ran) (reads : OnlyReads runs last) (still : (ran ≡ 0 → ⊥) → last ≡ runs)
    (held : LastHolds (EndsHeld M (IsWhole ran) runs) ((IsWhole ran → ⊥) × (OnlyReads made runs ⊎ StandSince M runs no_tables)) f no_tables ss all ran) where
  five-said : ran ≡ 5 → status ≡ 5
  five-said five = elim kept [
    | inl same_status ↦ elim seen [ inl is ↦ is ∙ (same_status ∙ five) | inr is ↦ is.0 ]
    | inr zero_is ↦ absurd (let no : ⊥ = omega (arith, five, zero_is) in no)
  ]

  runs-held : AreRuns (EndsHeld M (IsWhole status) last) f no_tables ss (accounts ++ held.further)
  runs-held = subst (λ (es : List (List Declared)). AreRuns (EndsHeld M (IsWhole status) last) f no_tables ss (es ++ held.further)) (sym same)
      (less (EndsHeld M (IsWhole ran) runs) (EndsHeld M (IsWhole status) last) (held-on M runs last ran status reads still (whole-runs status said ran seen kept)) f no_tables ss (all ++ held.further) held.runs)

  pub images-of : LeavesOnly old made (IsNewDatabaseOrNone limits) → IsTrue made.tells → ((image : Image) → LeftNow made image → IsNewDatabase limits image)
      → LastHolds (HoldsRun M last) (Unbegun M limits old last) f no_tables ss accounts status
  images-of leaves told new = record {
    further = held.further;
    none = λ other. held.none (λ five. other (five-said five));
    runs = less (EndsHeld M (IsWhole status) last) (HoldsRun M last) (λ o n es it. it.images) f no_tables ss (accounts ++ held.further) runs-held;
    unbegun = λ no.
        let gave = held.unbegun (subst (λ (es : List (List Declared)). es ++ held.further ≡ []) same no) in
        subst (λ (v : View). Unbegun M limits old v) (sym (still (λ zero_is. gave.0 (inl zero_is))))
        (⊎_elim (λ only. inl (runs_on old made runs (IsNewDatabaseOrNone limits) leaves only told (λ image pending. inr (new-pending limits made new image pending)))) (λ stands. inr stands) gave.1);
  }

  pub left-of : IsWhole status → AreRuns (λ o sessions events. HoldsAll M o last events) f no_tables ss accounts
  left-of whole =
      let none : held.further ≡ [] = held.none (λ five. whole-is-not-five status whole (five-said five)) in
      subst (λ (es : List (List Declared)). AreRuns (λ o sessions events. HoldsAll M o last events) f no_tables ss es) (append-nil accounts)
      (subst (λ (more : List (List Declared)). AreRuns (λ o sessions events. HoldsAll M o last events) f no_tables ss (accounts ++ more)) none
      (less (EndsHeld M (IsWhole status) last) (λ o sessions events. HoldsAll M o last events) (λ o n es it. it.left whole) f no_tables ss (accounts ++ held.further) runs-held))

-- ---- what status 4 says of it

pub last-of-runs : (OfLast : Opening → ℕ → List Event → Type 0) (f : Frame) (t : Tables) (ss : List (List WholeScript)) (es : List (List Declared)) → AreRuns OfLast f t ss es → (es ≡ [] → ⊥)
    → (o : Opening) × (n : ℕ) × (events : List Event) × OfLast o n events
last-of-runs OfLast f t ss [] are some = absurd (some refl)
last-of-runs OfLast f t [] (e ∷ es) are some = absurd are
last-of-runs OfLast f t (s ∷ ss) (e ∷ []) are some = (are.0.opening, length s, map event_of e, are.1)
last-of-runs OfLast f t (s ∷ ss) (e ∷ d ∷ es) are some = last-of-runs OfLast f (place are.0.opening (map event_of e)).tables ss (d ∷ es) are.2 (λ none. some-account d es none)

pub three-some : (all more : List (List Declared)) → length all ≡ 3 → all ++ more ≡ [] → ⊥
three-some [] more three none = let no : 0 ≡ 3 = three in omega (arith, no)
three-some (e ∷ es) more three none = some-account e (es ++ more) none

-- behind whole runs the verification refuses nothing, so the runs ended with it
pub refused-behind : (M : Model) (runs fin last : View) (OfNone : Type 0) (f : Frame) (t : Tables) (ss : List (List WholeScript)) (all : List (List Declared)) (ran said : ℕ)
    → LastHolds (EndsHeld M (IsWhole ran) runs) OfNone f t ss all ran → Keeps said ran → said ≡ 4 → (ran ≡ 0 → length all ≡ 3)
    → ((ran ≡ 0 → ⊥) → fin ≡ runs) → last ≡ fin
    → IsRefused runs ran → (ran ≡ 0 → IsTrue runs.tells → IsUsable runs.content → ⊥) → (IsTrue runs.tells → LeftNow runs runs.content)
    → HasNoNumbers last
refused-behind M runs fin last OfNone f t ss all ran said held (inl kept) four count same ended refused usable content =
    let ran_four : ran ≡ 4 = sym kept ∙ four in
    let still : last ≡ runs = ended ∙ same (λ zero_is. omega (arith, ran_four, zero_is)) in
    subst HasNoNumbers (sym still) (refused ran_four)
refused-behind M runs fin last OfNone f t ss all ran said held (inr zero_is) four count same ended refused usable content =
    let it = last-of-runs (EndsHeld M (IsWhole ran) runs) f t ss (all ++ held.further) held.runs (three-some all held.further (count zero_is)) in
    let left = it.3.left (inl zero_is) in
    let opens = left.each runs.content (each_slot runs runs.content (content left.tells)) in
    absurd (usable zero_is left.tells (opens-usable runs.content opens.0 opens.1))

-- ---- by what is known of the plan

pub leaves-as-named : (M : Model) (old new : View) (word named : List ℕ) (may_die : ℕ → Cause → Bool) (limits known : Limits) (accounts count : ℕ) (all : List (List Declared)) (status : ℕ)
    → word ≡ named → limits ≡ known → accounts ≡ count
    → LastHolds (HoldsRun M new) (Unbegun M limits old new) (record { word = word; may_die = may_die }) no_tables (scripts_of_runs accounts) all status
    → LastHolds (HoldsRun M new) (Unbegun M known old new) (record { word = named; may_die = may_die }) no_tables (scripts_of_runs count) all status
leaves-as-named M old new word named may_die limits known accounts count all status words bounds counts it =
    subst (λ (n : ℕ). LastHolds (HoldsRun M new) (Unbegun M known old new) (record { word = named; may_die = may_die }) no_tables (scripts_of_runs n) all status) counts
    (subst (λ (l : Limits). LastHolds (HoldsRun M new) (Unbegun M l old new) (record { word = named; may_die = may_die }) no_tables (scripts_of_runs accounts) all status) bounds
    (subst (λ (w : List ℕ). LastHolds (HoldsRun M new) (Unbegun M limits old new) (record { word = w; may_die = may_die }) no_tables (scripts_of_runs accounts) all status) words it))

pub left-as-named : (M : Model) (new : View) (word named : List ℕ) (may_die : ℕ → Cause → Bool) (accounts count : ℕ) (all : List (List Declared))
    → word ≡ named → accounts ≡ count
    → AreRuns (λ o sessions events. HoldsAll M o new events) (record { word = word; may_die = may_die }) no_tables (scripts_of_runs accounts) all
    → AreRuns (λ o sessions events. HoldsAll M o new events) (record { word = named; may_die = may_die }) no_tables (scripts_of_runs count) all
left-as-named M new word named may_die accounts count all words counts it =
    subst (λ (n : ℕ). AreRuns (λ o sessions events. HoldsAll M o new events) (record { word = named; may_die = may_die }) no_tables (scripts_of_runs n) all) counts
    (subst (λ (w : List ℕ). AreRuns (λ o sessions events. HoldsAll M o new events) (record { word = w; may_die = may_die }) no_tables (scripts_of_runs accounts) all) words it)
