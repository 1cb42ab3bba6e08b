-- What a crash leaves of the journal and its copy.
use Rattle.std.proofs.Common.{◌≡◌, ℕ, ◌+◌, ◌<◌, ◌≤◌, List, [], ◌∷◌, ◌++◌, length, slice_get, Option, Some, None, inl, inr, ⊎_elim, refl, sym, ap, subst, ◌∙◌, arith}
use Rattle.std.specs.List.{flat_map}
use Rattle.std.proofs.lemmas.List.{length-append}
use Rattle.std.proofs.lemmas.Option.{slice_get_within}
use Rattle.rdb_outside.specs.Disk.{Image, View, LeftNow, Pending, LeavesOnly, IsStable}
use Rattle.rdb_outside.specs.Moments.{each_slot, weaker}
use Rattle.aij_journal.specs.declared.part.AijPart.{AijPart}
use Rattle.aij_journal.specs.declared.part.GroupLine.{GroupLine}
use Rattle.aij_journal.specs.Header.{IsHeader}
use Rattle.journal_scan.specs.declared.group.Group.{Group}
use Rattle.journal_scan.specs.Standing.{what_stands}
use Rattle.journal_scan.specs.Whole.{slots_of, slots_from}
use Rattle.journal_reading.proofs.Standing.{nothing_stands}
use Rattle.line_view.specs.Knowledge.{Lines}
use Rattle.new_database.specs.Maker.{aij_file}
use Rattle.line_moves.proofs.Runs.{pends}
use Rattle.line_opening.proofs.Standing.{leaves_on}
use Rattle.stable_lines.specs.Slots.{ruj_file}
use Rattle.stable_lines.specs.Journal.{Journal, slots_in, next_number, next_slot}
use Rattle.stable_lines.specs.Kept.{Kept}
use Rattle.stable_lines.specs.Progress.{Progress, begun_anew, settled}
use Rattle.stable_lines.specs.Facts.{Facts, StandsAs, as_committed, with_former, with_flight}
use Rattle.stable_lines.proofs.Stands.{stands}
use Rattle.database_opening.specs.Others.{KeepsFile}
use Rattle.database_opening.specs.declared.start.StoreStart.{StoreStart}
use Rattle.database_opening.specs.Start.{beginning_with, IsStart}
use Rattle.journal_anew.specs.Anew.{MayBeginAnew, no_groups}
use Rattle.journal_backup.specs.Copied.{copy_named, HasCopy, HasEachGroup, in_journal, in_copy, IsBackedUp, none, emptied}
use Rattle.journal_backup.proofs.Calls.{KeepsAll, IsEndedAt, facts_beside, journal_apart}

some_same : {A : Type 0} (a b : A) → Some a ≡ Some b → a ≡ b
some_same a b same = cc

-- ---- a journal in which the next slot is the first has no group

first_slot : (g : Group) (i : ℕ) (ls : List GroupLine) → 1 ≤ length (slots_from g i ls)
first_slot g i [] = omega arith
first_slot g i (l ∷ ls) = omega arith

no_slots : (first : ℕ) (gs : List Group) → length (slots_in (record { first = first; groups = gs })) ≡ 0 → gs ≡ []
no_slots first [] e = refl
no_slots first (g ∷ gs) e =
    let long : length (slots_of g ++ flat_map slots_of gs) ≡ length (slots_of g) + length (flat_map slots_of gs) = length-append (slots_of g) (flat_map slots_of gs) in
    let one : 1 ≤ length (slots_of g) = first_slot g 0 g.lines in
    absurd (omega (arith, e, long, one))

-- where nothing stands no group begins
begins_none : (g : Group) (slot : ℕ) (at : ℕ → Option AijPart) → at slot ≡ None → ((i : ℕ) (what : Option AijPart) → slice_get (slots_of g) i ≡ Some what → at (slot + i) ≡ what) → ⊥
begins_none g slot at nothing stands = by g.lines stands
  where
    no : (part : AijPart) → at (slot + 0) ≡ Some part → ⊥
    no part is = let here : at slot ≡ Some part = ap at (let e : slot ≡ slot + 0 = omega arith in e) ∙ is in let bad : None ≡ Some part = sym nothing ∙ here in absurd (cc)

    by : (ls : List GroupLine) → ((i : ℕ) (what : Option AijPart) → slice_get (slots_from g 0 ls) i ≡ Some what → at (slot + i) ≡ what) → ⊥
    by [] there = no _ (there 0 _ refl)
    by (l ∷ ls) there = no _ (there 0 _ refl)

-- what two facts leave together
both : (old new : View) (P Q : Image → Type 0) → LeavesOnly old new P → LeavesOnly old new Q → LeavesOnly old new (λ image. P image × Q image)
both old new P Q first second = record {
  told = first.told;
  later = first.later;
  each = λ image left. (first.each image left, second.each image left);
  before = λ at image le left. ⊎_elim (λ was. inl was) (λ p. ⊎_elim (λ was. inl was) (λ q. inr (p, q)) (second.before at image le left)) (first.before at image le left);
}

module _ (classes : ℕ → ℕ) (lines : Lines) (journal : Journal) (start : StoreStart) (number : ℕ) where
  abbrev pub now : Progress
  now = beginning_with classes lines journal start

  abbrev pub Each : Image → Type 0
  Each = HasEachGroup classes lines journal number

  kept_now : (image : Image) → StandsAs now image → Kept classes lines journal image
  kept_now image (as_committed kept) = kept
  kept_now image (with_former former is kept) = let nay : ⊥ = cc in absurd nay
  kept_now image (with_flight flight is kept) = let nay : ⊥ = cc in absurd nay

  -- while the journal is copied
  pub copying_leaves : (old mid : View) → LeavesOnly old mid (StandsAs now) → LeavesOnly old mid Each
  copying_leaves old mid leaves = weaker old mid (StandsAs now) Each (λ image is. in_journal (kept_now image is)) leaves

  module _ (old : View) (content : LeftNow old old.content) (begins : IsStart classes lines journal old start) where
    -- there is none
    pub none_left : start.next.slot ≤ 1 → (image : Image) → LeftNow old image → IsBackedUp classes lines journal number image
    none_left first image left =
        let at = begins.next.in_slot in
        none (no_slots journal.first journal.groups (omega (arith, first, at))) (kept_now image (stands (Pending old) now begins.facts image (each_slot old image left)))

    header_there : IsHeader (old.content aij_file 0) journal.first
    header_there = ⊎_elim (λ h. h) (λ f. let bad : None ≡ Some f.0 = f.1 in absurd (cc)) (begins.facts.journal.header (old.content aij_file 0) (pends old content aij_file 0))

    slot_there : (i : ℕ) (what : Option AijPart) → slice_get (slots_in journal) i ≡ Some what → what_stands (old.content aij_file (i + 1)) ≡ what
    slot_there i what got = begins.facts.journal.groups.stand i what (old.content aij_file (i + 1)) got (pends old content aij_file (i + 1))

    module _ (mid : View) (keeps : KeepsAll number old mid) (copied : (slot : ℕ) → slot < start.next.slot → mid.content (copy_named number) slot ≡ old.content aij_file slot) (ended : IsEndedAt number start.next.slot mid.content) (stable : IsStable mid) where
      has_copy : (image : Image) → ((slot : ℕ) → Pending mid (copy_named number) slot (image (copy_named number) slot)) → HasCopy image number journal
      has_copy image slots =
          let at = begins.next.in_slot in
          record {
            header = subst (λ (b : List ℕ). IsHeader b journal.first) (sym (same 0 ∙ copied 0 (omega (arith, at)))) header_there;
            whole = begins.facts.journal.groups.whole;
            stand = λ i what got.
                let within : i < length (slots_in journal) = slice_get_within (slots_in journal) i what got in
                ap what_stands (same (i + 1) ∙ copied (i + 1) (omega (arith, at, within))) ∙ slot_there i what got;
            no_more = λ g is stands. begins_none g (next_slot journal) (λ slot. what_stands (image (copy_named number) slot)) (ap (λ (n : ℕ). what_stands (image (copy_named number) n)) (sym at) ∙ ap what_stands (same start.next.slot ∙ ended) ∙ nothing_stands) stands;
          }
        where
          same : (slot : ℕ) → image (copy_named number) slot ≡ mid.content (copy_named number) slot
          same slot = stable (copy_named number) slot (image (copy_named number) slot) (slots slot)

      pub may_empty : MayBeginAnew mid now start.next.number
      may_empty = record {
        facts = facts_beside number old mid keeps now begins.facts;
        closed = λ member h is p. begins.closed member h is ((keeps (ruj_file member) (journal_apart member number)).pending 0 h p);
        former = refl;
        flight = refl;
        above = let numbered = begins.next.numbered in omega (arith, numbered);
      }

      abbrev Slots : Image → Type 0
      Slots image = (slot : ℕ) → Pending mid (copy_named number) slot (image (copy_named number) slot)

      emptied_journal : (image : Image) → Kept classes lines (no_groups start.next.number) image → Kept classes lines (no_groups (next_number journal)) image
      emptied_journal image kept = subst (λ (n : ℕ). Kept classes lines (no_groups n) image) begins.next.numbered kept

      each_group : (image : Image) → StandsAs (begun_anew start.next.number now) image × Slots image → Each image
      each_group image (as_committed kept, slots) = in_copy (has_copy image slots) (emptied_journal image kept)
      each_group image (with_former former is kept, slots) = in_journal (subst (λ (j : Journal). Kept classes lines j image) (sym (some_same journal former is)) kept)
      each_group image (with_flight flight is kept, slots) = let nay : ⊥ = cc in absurd nay

      -- while it is emptied
      module _ (new : View) (kept : KeepsFile (copy_named number) mid new) where
        pub emptying_leaves : LeavesOnly old mid (StandsAs now) → LeavesOnly mid new (StandsAs (begun_anew start.next.number now)) → LeavesOnly old new Each
        emptying_leaves copying leaves = leaves_on old mid new Each (copying_leaves old mid copying)
            (weaker mid new (λ image. StandsAs (begun_anew start.next.number now) image × Slots image) Each each_group (both mid new (StandsAs (begun_anew start.next.number now)) Slots leaves kept.leaves))

        -- and behind it
        pub emptied_left : Facts (Pending new) (settled (begun_anew start.next.number now)) → (image : Image) → LeftNow new image → IsBackedUp classes lines journal number image
        emptied_left facts image left = by (stands (Pending new) (settled (begun_anew start.next.number now)) facts image (each_slot new image left))
          where
            slots : Slots image
            slots slot = kept.pending slot (image (copy_named number) slot) (each_slot new image left (copy_named number) slot)

            by : StandsAs (settled (begun_anew start.next.number now)) image → IsBackedUp classes lines journal number image
            by (as_committed its) = emptied (has_copy image slots) (emptied_journal image its)
            by (with_former former is its) = let nay : ⊥ = cc in absurd nay
            by (with_flight flight is its) = let nay : ⊥ = cc in absurd nay
