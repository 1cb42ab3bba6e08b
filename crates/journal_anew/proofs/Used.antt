-- A restored database taken into use, call by call.
use Rattle.std.proofs.Common.{◌≡◌, ◌≢◌, ℕ, ◌+◌, ◌==◌, Bool, true, false, if◌then◌else◌, IsTrue, None, Some, inl, inr, refl, sym, ap, subst, ◌∙◌, arith}
use Rattle.std.proofs.lemmas.Bool.{eqb-true}
use Rattle.rdb_types.specs.declared.file.FileId.{FileId}
use Rattle.rdb_types.specs.declared.file.FileKind.TheVariants.{Root, Ruj}
use Rattle.rdb_outside.specs.Disk.{Image, View, Pending, LeavesOnly, OnlyReads}
use Rattle.rdb_outside.specs.Moments.{weaker}
use Rattle.new_database.specs.Maker.{root_file}
use Rattle.line_view.specs.Knowledge.{Lines}
use Rattle.line_moves.specs.Calls.{OnlyWrites}
use Rattle.line_moves.proofs.Runs.{facts_read, still_tells}
use Rattle.line_opening.proofs.Standing.{written_stands, read_stands, leaves_on}
use Rattle.stable_lines.specs.Slots.{ruj_file}
use Rattle.stable_lines.specs.Journal.{Journal, next_number}
use Rattle.stable_lines.specs.Progress.{Progress, begun_anew, settled}
use Rattle.stable_lines.specs.Facts.{Facts, StandsAs, as_committed, with_former, with_flight}
use Rattle.stable_lines.specs.Steps.{NamesNone}
use Rattle.stable_lines.specs.Kept.{Kept}
use Rattle.database_opening.specs.Others.{KeepsFile}
use Rattle.database_opening.specs.declared.start.StoreStart.{StoreStart}
use Rattle.database_opening.specs.Start.{beginning_with, IsStart}
use Rattle.database_opening.proofs.Others.{file_read, file_apart, file_on}
use Rattle.journal_anew.specs.Anew.{MayBeginAnew, IsApart, no_groups, journal_in_use, start_in_use, StandsInUse, IsInUse}
use Rattle.journal_anew.proofs.Begun.{closed_read, closed_beside}

roots_apart : (member : ℕ) → ruj_file member ≡ root_file → ⊥
roots_apart member same = let kind : Ruj ≡ Root = (λ i. (same i).kind) in cc

module _ (classes : ℕ → ℕ) (lines : Lines) (journal : Journal) (start : StoreStart) where
  abbrev now : Progress
  now = beginning_with classes lines journal start

  abbrev IsState : Image → Type 0
  IsState = StandsInUse classes lines journal start.root

  -- nothing is asked of the caller any more
  pub may_begin : (v : View) → IsStart classes lines journal v start → MayBeginAnew v now (start.next.number + 1)
  may_begin v begins = record {
    facts = begins.facts;
    closed = begins.closed;
    former = refl;
    flight = refl;
    above = let numbered = begins.next.numbered in omega (arith, numbered);
  }

  pub start_state : (image : Image) → StandsAs now image → IsState image
  start_state image (as_committed kept) = inl kept
  start_state image (with_former former is kept) = let nay : ⊥ = cc in absurd nay
  start_state image (with_flight flight is kept) = let nay : ⊥ = cc in absurd nay

  -- its journal is then the one in use
  pub begun_in_use : start.root.state ≡ 3 → start.next.number ≡ next_number journal → no_groups (start.next.number + 1) ≡ journal_in_use start.root journal
  begun_in_use restored numbered = ap (λ (n : ℕ). no_groups (n + 1)) numbered ∙ ap (λ (b : Bool). if b then no_groups (next_number journal + 1) else journal) (sym (ap (λ (n : ℕ). n == 3) restored))

  module _ (first : ℕ) (begun_with : no_groups first ≡ journal_in_use start.root journal) where
    kept_anew : (image : Image) → Kept classes lines (no_groups first) image → IsState image
    kept_anew image kept = inr (subst (λ (j : Journal). Kept classes lines j image) begun_with kept)

    former_is : (former : Journal) → (begun_anew first now).former ≡ Some former → former ≡ journal
    former_is former is = cc

    pub anew_state : (image : Image) → StandsAs (begun_anew first now) image → IsState image
    anew_state image (as_committed kept) = kept_anew image kept
    anew_state image (with_former former is kept) = inl (subst (λ (j : Journal). Kept classes lines j image) (former_is former is) kept)
    anew_state image (with_flight flight is kept) = let nay : ⊥ = cc in absurd nay

    settled_state : (image : Image) → StandsAs (settled (begun_anew first now)) image → IsState image
    settled_state image (as_committed kept) = kept_anew image kept
    settled_state image (with_former former is kept) = let nay : ⊥ = cc in absurd nay
    settled_state image (with_flight flight is kept) = let nay : ⊥ = cc in absurd nay

    pub begun_leaves : (old new : View) → LeavesOnly old new (StandsAs (begun_anew first now)) → LeavesOnly old new IsState
    begun_leaves old new leaves = weaker old new (StandsAs (begun_anew first now)) IsState anew_state leaves

    -- the root is written behind it
    module _ (old begun written : View) (leaves : LeavesOnly old begun (StandsAs (begun_anew first now))) (writes : OnlyWrites root_file 0 begun written) (told : IsTrue begun.tells) (facts : Facts (Pending begun) (settled (begun_anew first now)))
        (keeps : Facts (Pending begun) (settled (begun_anew first now)) → Facts (Pending written) (settled (begun_anew first now))) where
      pub root_leaves : LeavesOnly old written IsState
      root_leaves = leaves_on old begun written IsState (begun_leaves old begun leaves)
          (weaker begun written (StandsAs (settled (begun_anew first now))) IsState settled_state (written_stands begun written root_file 0 (settled (begun_anew first now)) writes told facts (keeps facts)))

      module _ (new : View) (reads : OnlyReads written new) where
        then_told : IsTrue written.tells
        then_told = still_tells begun written writes.told told

        pub used_leaves : LeavesOnly old new IsState
        used_leaves = leaves_on old written new IsState root_leaves
            (weaker written new (StandsAs (settled (begun_anew first now))) IsState settled_state (read_stands written new (settled (begun_anew first now)) reads then_told (keeps facts)))

        pub used_facts : Facts (Pending new) (settled (begun_anew first now))
        used_facts = facts_read written new reads then_told (settled (begun_anew first now)) (keeps facts)

        pub used_closed : NamesNone (Pending begun) → NamesNone (Pending new)
        used_closed closed = closed_read written new reads then_told (closed_beside begun written root_file roots_apart writes told closed)

-- ---- where the store begins

module _ (start : StoreStart) where
  abbrev anew : StoreStart
  anew = record {
    root = record { format = start.root.format; state = 1; limits = start.root.limits; ceiling = start.root.ceiling; applied = start.root.applied };
    next_tsn = start.next_tsn;
    next = record { slot = 1; number = start.next.number + 1 };
  }

  abbrev by : Bool → StoreStart
  by b = if b then anew else start

  pub used_is : start.root.state ≡ 3 → anew ≡ start_in_use start
  used_is restored = ap by (sym (ap (λ (n : ℕ). n == 3) restored))

  pub unused_is : start.root.state ≢ 3 → start ≡ start_in_use start
  unused_is other = ap by (sym (apart (start.root.state == 3) refl))
    where
      apart : (b : Bool) → (start.root.state == 3) ≡ b → (start.root.state == 3) ≡ false
      apart true is = absurd (other (eqb-true start.root.state 3 is))
      apart false is = is

-- what stands behind it
pub in_use : (classes : ℕ → ℕ) (lines : Lines) (journal : Journal) (start used : StoreStart) (old new : View) → IsStart classes lines journal old start → used.next_tsn ≡ start.next_tsn → used.root.limits ≡ start.root.limits → used.next.slot ≡ 1 → used.next.number ≡ start.next.number + 1
    → Facts (Pending new) (settled (begun_anew (start.next.number + 1) (beginning_with classes lines journal start))) → NamesNone (Pending new) → IsInUse classes lines journal new used
in_use classes lines journal start used old new begins tsn limits slot number facts closed =
    let numbered = begins.next.numbered in
    record {
      its = no_groups (start.next.number + 1);
      start = record {
        facts = subst (λ (now : Progress). Facts (Pending new) now)
            (λ i. record { lines = lines; classes = classes; journal = no_groups (start.next.number + 1); former = None; going = λ member. None; flight = None; next_tsn = sym tsn i; limits = sym limits i }) facts;
        next = record { in_slot = slot; numbered = number ∙ omega arith };
        closed = closed;
      };
      since = inr (ap (λ (n : ℕ). no_groups (n + 1)) numbered);
    }

-- other files
module _ (file : FileId) (apart : IsApart file) (old begun written : View) (begins : KeepsFile file old begun) (writes : OnlyWrites root_file 0 begun written) (told : IsTrue begun.tells) where
  pub file_root : KeepsFile file old written
  file_root = file_on old begun written file begins (file_apart begun written root_file 0 writes told file apart.root)

  pub file_used : (new : View) → OnlyReads written new → KeepsFile file old new
  file_used new reads = file_on old written new file file_root (file_read written new reads (still_tells begun written writes.told told) file)
