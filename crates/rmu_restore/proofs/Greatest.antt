-- The groups of the after-image journal, passed one by one, and their greatest transaction number.
use Rattle.std.proofs.Common.{◌≡◌, ℕ, ◌+◌, ◌^◌, ◌≤◌, ◌<◌, List, [], ◌∷◌, ◌++◌, length, Option, Some, slice_get, ⊎_elim, refl, sym, ◌∙◌, ap, subst, arith, length-append}
use Rattle.std.specs.List.{flat_map}
use Rattle.std.proofs.lemmas.Option.{slice_get_within}
use Rattle.rdb_types.specs.declared.keys.Tsn.{Tsn}
use Rattle.rdb_outside.specs.Disk.{Image}
use Rattle.aij_journal.specs.declared.part.GroupLine.{GroupLine}
use Rattle.aij_journal.specs.declared.part.AijPart.{AijPart}
use Rattle.aij_journal.specs.Header.{IsHeader}
use Rattle.aij_journal.specs.Part.{IsPart}
use Rattle.journal_scan.specs.declared.group.Group.{Group}
use Rattle.journal_scan.specs.Standing.{what_stands}
use Rattle.journal_scan.specs.Whole.{count_of, slots_of, slots_from, Holds, IsWhole, AreWhole}
use Rattle.journal_scan.proofs.Stands.{stands}
use Rattle.journal_reading.specs.Journal.{standing}
use Rattle.new_database.specs.Maker.{aij_file}
use Rattle.stable_lines.specs.Journal.{Journal, IsJournalOf}
use Rattle.stable_lines.proofs.Groups.{slots_behind, whole_behind, of_either}
use Rattle.stable_lines.proofs.Lists.{got_either, got_one}
use Rattle.stable_lines.proofs.Unique.{standing_at, one_journal}
use Rattle.line_opening.proofs.Passed.{PassedTo, is_journal}
use Rattle.rmu_restore.specs.Restored.{HaveUpTo}

some_same : {A : Type 0} (a b : A) → Some a ≡ Some b → a ≡ b
some_same a b same = cc

length_slots : (g : Group) (index : ℕ) (lines : List GroupLine) → length (slots_from g index lines) ≡ length lines + 1
length_slots g index [] = refl
length_slots g index (line ∷ lines) = let rest = length_slots g (index + 1) lines in omega (arith, rest)

-- These groups stand before the slot, and none has a greater number.
pub record PassedUpTo (image : Image) (tells : Type 0) (first slot number greatest : ℕ) : Type 0 where
  pub groups : List Group
  pub whole : AreWhole first groups
  pub numbered : number ≡ first + length groups
  pub in_slot : slot ≡ length (flat_map slots_of groups) + 1
  pub stand : tells → (i : ℕ) (what : Option AijPart) → slice_get (flat_map slots_of groups) i ≡ Some what → what_stands (image aij_file (i + 1)) ≡ what
  pub up_to : HaveUpTo greatest groups

module _ (image : Image) (tells : Type 0) (first : ℕ) where
  pub none_passed : PassedUpTo image tells first 1 first 0
  none_passed = record {
    groups = [];
    whole = tt;
    numbered = omega arith;
    in_slot = omega arith;
    stand = λ t i what got. absurd (nothing i what got);
    up_to = λ i g got. absurd (no_group i g got);
  }
    where
      nothing : (i : ℕ) (what : Option AijPart) → slice_get [] i ≡ Some what → ⊥
      nothing i what is = cc

      no_group : (i : ℕ) (g : Group) → slice_get [] i ≡ Some g → ⊥
      no_group i g is = cc

  pub one_more : (slot number old new : ℕ) (g : Group) → IsWhole number g → (tells → standing image aij_file slot (count_of g) ≡ slots_of g) → old ≤ new → g.tsn.number ≤ new → PassedUpTo image tells first slot number old
      → PassedUpTo image tells first (slot + (length g.lines + 1)) (number + 1) new
  one_more slot number old new g whole there grows few was = record {
    groups = was.groups ++ g ∷ [];
    whole = whole_behind first was.groups g was.whole (subst (λ (n : ℕ). IsWhole n g) was.numbered whole);
    numbered = let longer : length (was.groups ++ g ∷ []) ≡ length was.groups + 1 = length-append was.groups (g ∷ []) in let numbered = was.numbered in omega (arith, longer, numbered);
    in_slot =
        let parts : length (flat_map slots_of (was.groups ++ g ∷ [])) ≡ length (flat_map slots_of was.groups) + length (slots_of g) = ap length (slots_behind was.groups g) ∙ length-append (flat_map slots_of was.groups) (slots_of g) in
        let size : length (slots_of g) ≡ length g.lines + 1 = length_slots g 0 g.lines in
        let in_slot = was.in_slot in
        omega (arith, parts, size, in_slot);
    stand = λ t i what got. ⊎_elim (λ earlier. was.stand t i what earlier) (λ q. here t i what q.0 q.1 q.2) (of_either was.groups g i what got);
    up_to = λ i x got. ⊎_elim (λ earlier. let low = was.up_to i x earlier in omega (arith, low, grows)) (λ it. subst (λ (y : Group). y.tsn.number ≤ new) (got_one g x it.0 it.2).1 few) (got_either was.groups (g ∷ []) i x got);
  }
    where
      here : tells → (i : ℕ) (what : Option AijPart) (k : ℕ) → i ≡ length (flat_map slots_of was.groups) + k → slice_get (slots_of g) k ≡ Some what → what_stands (image aij_file (i + 1)) ≡ what
      here t i what k at got =
          let size : length (slots_of g) ≡ length g.lines + 1 = length_slots g 0 g.lines in
          let within : k < length (slots_of g) = slice_get_within (slots_of g) k what got in
          let in_slot = was.in_slot in
          let place : i + 1 ≡ slot + k = omega (arith, at, in_slot) in
          ap (λ (n : ℕ). what_stands (image aij_file n)) place
          ∙ some_same _ _ (sym (standing_at image aij_file slot (count_of g) k (omega (arith, within, size))) ∙ ap (λ (l : List (Option AijPart)). slice_get l k) (there t) ∙ got)

  -- where no next one stands, they are the groups of the journal
  pub all_passed : (slot number greatest : ℕ) → PassedUpTo image tells first slot number greatest → tells → IsHeader (image aij_file 0) first
      → ((g : Group) → IsWhole number g → standing image aij_file slot (count_of g) ≡ slots_of g → ⊥) → (journal : Journal) → IsJournalOf image journal → HaveUpTo greatest journal.groups
  all_passed slot number greatest was t header none journal is =
      let passed : PassedTo image tells first slot number [] [] = record { groups = was.groups; whole = was.whole; numbered = was.numbered; in_slot = was.in_slot; stand = was.stand; left = refl } in
      subst (λ (j : Journal). HaveUpTo greatest j.groups) (one_journal image (record { first = first; groups = was.groups }) journal (is_journal image tells first slot number [] [] passed t header none) is) was.up_to

-- a group that stands has a number that a slot can say
pub tsn_few : (image : Image) (slot : ℕ) (g : Group) (tsn : Tsn) → g.tsn ≡ tsn → standing image aij_file slot (count_of g) ≡ slots_of g → tsn.number < 2 ^ 62
tsn_few image slot g tsn same there = subst (λ (x : Tsn). x.number < 2 ^ 62) same (by g.lines refl)
  where
    first : (what : Option AijPart) → slice_get (slots_of g) 0 ≡ Some what → what_stands (image aij_file (slot + 0)) ≡ what
    first what got =
        let some : 0 < count_of g = omega arith in
        some_same _ _ (sym (standing_at image aij_file slot (count_of g) 0 some) ∙ ap (λ (l : List (Option AijPart)). slice_get l 0) there ∙ got)

    few : (part : AijPart) → what_stands (image aij_file (slot + 0)) ≡ Some part → part.tsn.number < 2 ^ 62
    few part stood = let is : IsPart (image aij_file (slot + 0)) part = subst (λ (w : Option AijPart). Holds (image aij_file (slot + 0)) w) stood (stands (image aij_file (slot + 0))) in is.tsn

    by : (lines : List GroupLine) → g.lines ≡ lines → g.tsn.number < 2 ^ 62
    by [] is = few _ (first _ (ap (λ (ls : List GroupLine). slice_get (slots_from g 0 ls) 0) is))
    by (line ∷ lines) is = few _ (first _ (ap (λ (ls : List GroupLine). slice_get (slots_from g 0 ls) 0) is))
