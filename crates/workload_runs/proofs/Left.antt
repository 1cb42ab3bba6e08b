-- What a crash leaves behind runs.
use Rattle.std.proofs.Common.{◌≡◌, ◌≤◌, ◌++◌, ◌∙◌, ℕ, Bool, zero, suc, List, [], ◌∷◌, length, map, slice_get, Option, Some, None, ◌⊎◌, inl, inr, ⊎_elim, IsTrue, refl, sym, ap, subst, arith}
use Rattle.std.proofs.lemmas.List.{append-nil}
use Rattle.std.proofs.lemmas.Option.{none-some}
use Rattle.rdb_types.specs.declared.session.Cause.{Cause}
use Rattle.rdb_outside.specs.Disk.{Image, View, LeftNow, IsPending, OnlyReads}
use Rattle.rdb_outside.specs.Moments.{each_slot, from_now}
use Rattle.rdb_meaning.specs.declared.tables.Tables.{Tables}
use Rattle.line_view.specs.Knowledge.{Lines}
use Rattle.stable_lines.specs.Journal.{Journal}
use Rattle.stable_lines.specs.Image.{StandsFor as StandsForLines}
use Rattle.stable_lines.proofs.Unique.{one_journal, one_lines}
use Rattle.member_steps.specs.Standing.{HasLines}
use Rattle.store_shows.specs.Shows.{OpensTo}
use Rattle.page_faults.proofs.Reading.{told_on}
use Rattle.rdb_account.specs.declared.event.Event.{Event as Declared}
use Rattle.rdb_account.specs.Events.{Event, event_of}
use Rattle.rdb_account.specs.Places.{Opening, Commit, place}
use Rattle.session_jobs.specs.Records.{Model}
use Rattle.session_states.specs.declared.item_queue.WholeScript.{WholeScript}
use Rattle.line_steps.specs.Images.{IsLeft, IsNow}
use Rattle.line_opening.specs.declared.fault.OpeningFault.{OpeningFault}
use Rattle.line_runs.specs.line_cluster.Turned.{HaveAllEnded}
use Rattle.line_runs.specs.Prefix.{GaveUp, HoldsAll, HoldsPrefix, IsPrefix, StandsFor}
use Rattle.workload_runs.specs.Left.{EndsHeld, LastHolds, StandSince}
use Rattle.workload_runs.specs.Runs.{Frame, IsRun, AreRuns}
use Rattle.workload_runs.specs.Statuses.{IsWhole}
use Rattle.workload_runs.proofs.Chain.{InFront, in-front, less, no-run}
use Rattle.workload_runs.proofs.Ended.{whole-is-not-five}

-- ---- behind reads

-- what a crash leaves in each slot it might have left there before them
pub pending-read : (old new : View) → OnlyReads old new → IsTrue old.tells → (image : Image) → IsPending new image → IsPending old image
pending-read old new reads t image pending file slot = (reads.keeps t).pending file slot (image file slot) (pending file slot)

same-lines : (image : Image) (a b : Lines) → HasLines image a → HasLines image b → a ≡ b
same-lines image a b x y =
    let journals : x.journal ≡ y.journal = one_journal image x.journal y.journal x.kept.journal y.kept.journal in
    one_lines image y.journal.groups a b (subst (λ (j : Journal). StandsForLines image j.groups a) journals x.kept.stands) y.kept.stands

-- whom a place holds stands before the end
got-below : {A : Type 0} (xs : List A) (i : ℕ) (x : A) → slice_get xs i ≡ Some x → suc i ≤ length xs
got-below [] i x h = cc h
got-below (y ∷ ys) zero x h = omega arith
got-below (y ∷ ys) (suc i) x h = let k = got-below ys i x h in omega (arith, k)

module _ (M : Model) (o : Opening) (old new : View) (events : List Event) (reads : OnlyReads old new) (t : IsTrue old.tells) (all : HoldsAll M o old events) where
  pub all-read : HoldsAll M o new events
  all-read = record { tells = told_on old new reads t; each = λ image pending. all.each image (pending-read old new reads t image pending) }

  -- it stands for all commits
  of-all : (lines : Lines) → M lines (place o events).tables → IsNow M o (place o events) lines
  of-all lines stands = record { tables = (place o events).tables; stands = stands; among = inl refl }

  from-all : (k : ℕ) → k ≤ length (place o events).commits → (image : Image) → IsPending old image → (lines : Lines) → HasLines image lines → IsLeft M o events k lines
  from-all k enough image pending lines is =
      let it = all.each image pending in
      record {
        before = events;
        behind = [];
        is = sym (append-nil events);
        enough = enough;
        stood = subst (λ (x : Lines). IsNow M o (place o events) x) (same-lines image it.0 lines it.1.has is) (of-all it.0 it.2);
      }

  prefix-now : (image : Image) → LeftNow new image → IsPrefix M o events image
  prefix-now image left = let it = all.each image (pending-read old new reads t image (each_slot new image left)) in record { lines = it.0; opens = it.1; stands = of-all it.0 it.2 }

  pub prefix-read : HoldsPrefix M o old events → HoldsPrefix M o new events
  prefix-read was = record {
    tells = told_on old new reads t;
    now = prefix-now;
    since = λ k c found image left lines is. ⊎_elim
        (λ before. was.since k c found image before lines is)
        (λ pending. from-all (suc k) (got-below (place o events).commits k c found) image pending lines is)
        ((reads.leaves t).before c.moment image (was.past k c found) left);
    began = was.began;
    opened = was.opened;
    going = let here = was.going in let later = reads.later in omega (arith, here, later);
    past = λ k c found. let here = was.past k c found in let later = reads.later in omega (arith, here, later);
    later = was.later;
    opening = λ image left lines is. ⊎_elim
        (λ before. was.opening image before lines is)
        (λ pending. from-all 0 (omega arith) image pending lines is)
        ((reads.leaves t).before was.began image was.going left);
    openable = λ image left. ⊎_elim
        (was.openable image)
        (λ pending. let it = all.each image pending in (it.0, it.1))
        ((reads.leaves t).before was.began image was.going left);
  }

-- ---- behind an opening that gave up

pub all-stand : (M : Model) (o : Opening) (v : View) (events : List Event) → HoldsAll M o v events → (image : Image) → IsPending v image → StandsFor M (place o events).tables image
all-stand M o v events all image pending = let it = all.each image pending in (it.0, it.1.has, it.2)

pub gave-up-stands : (M : Model) (o : Opening) (old new : View) → ((image : Image) → IsPending old image → StandsFor M o.tables image) → GaveUp M o old new → StandSince M new o.tables
gave-up-stands M o old new before (inl leaves) = (old.moment, record { past = leaves.later; each = λ image left. ⊎_elim (before image) (λ stands. stands) (leaves.each image left) })
gave-up-stands M o old new before (inr all) = (new.moment, from_now new (StandsFor M o.tables) (λ image left. all-stand M o new [] all image (each_slot new image left)))

-- ---- runs

-- where less of them are whole
as-whole : (M : Model) (v : View) (Was Is : Type 0) → (Is → Was) → (o : Opening) (n : ℕ) (es : List Event) → EndsHeld M Was v o n es → EndsHeld M Is v o n es
as-whole M v Was Is to o n es it = record { images = it.images; left = λ whole. it.left (to whole) }

pub none-whole : (status : ℕ) → (status ≡ 3) ⊎ (status ≡ 4) ⊎ (status ≡ 5) → IsWhole status → ⊥
none-whole status ends whole = grind arith

-- a run that ended before its time
pub held-before : (M : Model) (v : View) (o : Opening) (n status : ℕ) (es : List Event) → (status ≡ 3) ⊎ (status ≡ 4) ⊎ (status ≡ 5) → HoldsPrefix M o v es → EndsHeld M (IsWhole status) v o n es
held-before M v o n status es ends prefix = record { images = inl prefix; left = λ whole. absurd (none-whole status ends whole) }

pub some-account : {A : Type 0} (x : A) (xs : List A) → x ∷ xs ≡ [] → ⊥
some-account x xs none = let no : suc (length xs) ≡ 0 = ap (λ ys. length ys) none in omega (arith, no)

-- none was begun
pub held-none : (M : Model) (v : View) (OfNone : Type 0) (f : Frame) (t : Tables) (ss : List (List WholeScript)) (accounts : List (List Declared)) (ended : ℕ)
    → accounts ≡ [] → OfNone → LastHolds (EndsHeld M (IsWhole ended) v) OfNone f t ss accounts ended
held-none M v OfNone f t ss accounts ended none it = record {
  further = [];
  none = λ other. refl;
  runs = subst (λ (es : List (List Declared)). AreRuns (EndsHeld M (IsWhole ended) v) f t ss (es ++ [])) (sym none) (no-run (EndsHeld M (IsWhole ended) v) f t ss);
  unbegun = λ same. it;
}

module _ (M : Model) (v : View) (OfNone : Type 0) (f : Frame) (t : Tables) (s : List WholeScript) (ss : List (List WholeScript)) (e : List Declared) (run : IsRun f t s (map event_of e)) where
  -- the account with further ones that aren't handed back
  kept-back : (accounts more : List (List Declared)) (ended : ℕ) → accounts ≡ [] → ended ≡ 5 → AreRuns (EndsHeld M (IsWhole ended) v) f t (s ∷ ss) (e ∷ more)
      → LastHolds (EndsHeld M (IsWhole ended) v) OfNone f t (s ∷ ss) accounts ended
  kept-back accounts more ended none five are = record {
    further = e ∷ more;
    none = λ other. absurd (other five);
    runs = subst (λ (xs : List (List Declared)). AreRuns (EndsHeld M (IsWhole ended) v) f t (s ∷ ss) (xs ++ e ∷ more)) (sym none) are;
    unbegun = λ no. absurd (some-account e more (subst (λ (xs : List (List Declared)). xs ++ e ∷ more ≡ []) none no));
  }

  -- the account in front of those behind it
  handed-back : (accounts es more : List (List Declared)) (ended : ℕ) → accounts ≡ e ∷ es → ((ended ≡ 5 → ⊥) → more ≡ []) → AreRuns (EndsHeld M (IsWhole ended) v) f t (s ∷ ss) (e ∷ (es ++ more))
      → LastHolds (EndsHeld M (IsWhole ended) v) OfNone f t (s ∷ ss) accounts ended
  handed-back accounts es more ended is none are = record {
    further = more;
    none = none;
    runs = subst (λ (xs : List (List Declared)). AreRuns (EndsHeld M (IsWhole ended) v) f t (s ∷ ss) (xs ++ more)) (sym is) are;
    unbegun = λ no. absurd (some-account e (es ++ more) (subst (λ (xs : List (List Declared)). xs ++ more ≡ []) is no));
  }

  -- a run that ends the workload
  pub held-alone : (accounts : List (List Declared)) (status ended : ℕ) → InFront e [] status accounts ended → EndsHeld M (IsWhole status) v run.opening (length s) (map event_of e)
      → LastHolds (EndsHeld M (IsWhole ended) v) OfNone f t (s ∷ ss) accounts ended
  held-alone accounts status ended (inl (is, same)) it =
      handed-back accounts [] [] ended is (λ other. refl) (run, as-whole M v (IsWhole status) (IsWhole ended) (subst IsWhole same) run.opening (length s) (map event_of e) it)
  held-alone accounts status ended (inr (none, five)) it =
      kept-back accounts [] ended none five (run, as-whole M v (IsWhole status) (IsWhole ended) (λ whole. absurd (whole-is-not-five ended whole five)) run.opening (length s) (map event_of e) it)

  -- a run in front of others, of which what is said where none was begun is said of it
  pub held-front : (es accounts : List (List Declared)) (status ended : ℕ) → InFront e es status accounts ended → HaveAllEnded run.opening (length s) (map event_of e)
      → LastHolds (EndsHeld M (IsWhole status) v) (EndsHeld M (IsWhole status) v run.opening (length s) (map event_of e)) f (place run.opening (map event_of e)).tables ss es status
      → LastHolds (EndsHeld M (IsWhole ended) v) OfNone f t (s ∷ ss) accounts ended
  held-front es accounts status ended front all more = elim front [
    | inl (is, same) ↦ handed-back accounts es more.further ended is (λ other. more.none (λ five. other (same ∙ five))) (behind (subst IsWhole same))
    | inr (none, five) ↦ kept-back accounts (es ++ more.further) ended none five (behind (λ whole. absurd (whole-is-not-five ended whole five)))
  ]
    where
      behind : (IsWhole ended → IsWhole status) → AreRuns (EndsHeld M (IsWhole ended) v) f t (s ∷ ss) (e ∷ (es ++ more.further))
      behind to = in-front (EndsHeld M (IsWhole ended) v) f t s ss e (es ++ more.further) run all
          (λ none. as-whole M v (IsWhole status) (IsWhole ended) to run.opening (length s) (map event_of e) (more.unbegun none))
          (less (EndsHeld M (IsWhole status) v) (EndsHeld M (IsWhole ended) v) (as-whole M v (IsWhole status) (IsWhole ended) to) f (place run.opening (map event_of e)).tables ss (es ++ more.further) more.runs)

  -- a run that ended the workload, or that wasn't begun
  pub held-by : (fault : Option OpeningFault) (accounts : List (List Declared)) (status ended : ℕ)
      → (fault ≡ None → InFront e [] status accounts ended) → ((fault ≡ None → ⊥) → (accounts ≡ []) × (ended ≡ status))
      → (fault ≡ None → EndsHeld M (IsWhole status) v run.opening (length s) (map event_of e)) → ((fault ≡ None → ⊥) → ended ≡ status → OfNone)
      → LastHolds (EndsHeld M (IsWhole ended) v) OfNone f t (s ∷ ss) accounts ended
  held-by None accounts status ended begun unsaid held none = held-alone accounts status ended (begun refl) (held refl)
  held-by (Some x) accounts status ended begun unsaid held none =
      let no : Some x ≡ None → ⊥ = λ is. none-some x (sym is) in
      held-none M v OfNone f t (s ∷ ss) accounts ended (unsaid no).0 (none no (unsaid no).1)

-- The runs behind a run that came to its end. Where none of them was begun, an opening gave up, behind reads.
pub held-behind : (M : Model) (o next : Opening) (n : ℕ) (old mid end new : View) (e seen : List Declared) (word : List ℕ) (ss : List (List WholeScript)) (es : List (List Declared)) (status : ℕ)
    → HoldsAll M o old (map event_of e) → OnlyReads old mid → IsTrue old.tells → end ≡ new → seen ≡ e → word ≡ o.word → next.tables ≡ (place o (map event_of seen)).tables
    → LastHolds (EndsHeld M (IsWhole status) new) ((IsWhole status → ⊥) × GaveUp M next mid new) (record { word = word; may_die = o.may_die }) (place o (map event_of seen)).tables ss es status
    → LastHolds (EndsHeld M (IsWhole status) end) (EndsHeld M (IsWhole status) end o n (map event_of e)) (record { word = o.word; may_die = o.may_die }) (place o (map event_of e)).tables ss es status
held-behind M o next n old mid end new e seen word ss es status all reads t same is named begins more =
    let tables : next.tables ≡ (place o (map event_of e)).tables = begins ∙ ap (λ (x : List Declared). (place o (map event_of x)).tables) is in
    record {
      further = more.further;
      none = more.none;
      runs = subst (λ (v : View). AreRuns (EndsHeld M (IsWhole status) v) (record { word = o.word; may_die = o.may_die }) (place o (map event_of e)).tables ss (es ++ more.further)) (sym same)
          (subst (λ (w : List ℕ). AreRuns (EndsHeld M (IsWhole status) new) (record { word = w; may_die = o.may_die }) (place o (map event_of e)).tables ss (es ++ more.further)) named
          (subst (λ (x : List Declared). AreRuns (EndsHeld M (IsWhole status) new) (record { word = word; may_die = o.may_die }) (place o (map event_of x)).tables ss (es ++ more.further)) is more.runs));
      unbegun = λ none.
          let gave = more.unbegun none in
          let before : (image : Image) → IsPending mid image → StandsFor M next.tables image = λ image pending.
          subst (λ (x : Tables). StandsFor M x image) (sym tables) (all-stand M o old (map event_of e) all image (pending-read old mid reads t image pending)) in
          let stands : StandSince M new (place o (map event_of e)).tables = subst (λ (x : Tables). StandSince M new x) tables (gave-up-stands M next mid new before gave.1) in
          subst (λ (v : View). EndsHeld M (IsWhole status) v o n (map event_of e)) (sym same) (record { images = inr stands; left = λ whole. absurd (gave.0 whole) });
    }

-- the scripts, by what they are
pub held-as-said : (M : Model) (v : View) (Whole OfNone : Type 0) (f : Frame) (t : Tables) (s known : List WholeScript) (ss : List (List WholeScript)) (accounts : List (List Declared)) (ended : ℕ)
    → s ≡ known → LastHolds (EndsHeld M Whole v) OfNone f t (s ∷ ss) accounts ended → LastHolds (EndsHeld M Whole v) OfNone f t (known ∷ ss) accounts ended
held-as-said M v Whole OfNone f t s known ss accounts ended same it = subst (λ (x : List WholeScript). LastHolds (EndsHeld M Whole v) OfNone f t (x ∷ ss) accounts ended) same it

-- the frame, by the word of the plan
pub held-as-named : (M : Model) (v : View) (Whole OfNone More : Type 0) (word named : List ℕ) (may_die : ℕ → Cause → Bool) (t : Tables) (ss : List (List WholeScript)) (accounts : List (List Declared)) (ended : ℕ)
    → word ≡ named → LastHolds (EndsHeld M Whole v) OfNone (record { word = word; may_die = may_die }) t ss accounts ended → (OfNone → More)
    → LastHolds (EndsHeld M Whole v) More (record { word = named; may_die = may_die }) t ss accounts ended
held-as-named M v Whole OfNone More word named may_die t ss accounts ended same it to = record {
  further = it.further;
  none = it.none;
  runs = subst (λ (w : List ℕ). AreRuns (EndsHeld M Whole v) (record { word = w; may_die = may_die }) t ss (accounts ++ it.further)) same it.runs;
  unbegun = λ none. to (it.unbegun none);
}

-- ---- behind the verification

is-zero : (n : ℕ) → (n ≡ 0) ⊎ (n ≡ 0 → ⊥)
is-zero zero = inl refl
is-zero (suc n) = inr (λ (is : suc n ≡ 0). omega (arith, is))

-- A run that was read, where it was whole and nobody died, or that is as it was.
pub held-on : (M : Model) (old new : View) (runs ended : ℕ) → OnlyReads old new → ((runs ≡ 0 → ⊥) → new ≡ old) → (IsWhole ended → IsWhole runs)
    → (o : Opening) (n : ℕ) (es : List Event) → EndsHeld M (IsWhole runs) old o n es → EndsHeld M (IsWhole ended) new o n es
held-on M old new runs ended reads same to o n es was = elim (is-zero runs) [
  | inl zero_is ↦
      let all = was.left (inl zero_is) in
      let read = all-read M o old new es reads all.tells all in
      record {
        images = ⊎_elim (λ prefix. inl (prefix-read M o old new es reads all.tells all prefix))
            (λ stands. inr (new.moment, from_now new (StandsFor M (place o es).tables) (λ image left. all-stand M o new es read image (each_slot new image left)))) was.images;
        left = λ whole. read;
      }
  | inr other ↦ subst (λ (v : View). EndsHeld M (IsWhole ended) v o n es) (sym (same other)) (as-whole M old (IsWhole runs) (IsWhole ended) to o n es was)
]
