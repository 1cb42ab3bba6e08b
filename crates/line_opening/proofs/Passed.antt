-- The groups of the after-image journal, passed one by one.
use Rattle.std.proofs.Common.{◌≡◌, ◌||◌, ◌==◌, ℕ, suc, ◌+◌, ◌≤◌, ◌<◌, Bool, true, false, if◌then◌else◌, IsTrue, List, [], ◌∷◌, ◌++◌, length, map, Option, Some, slice_get, ⊎_elim, refl, sym, ◌∙◌, ap, subst, arith, length-append}
use Rattle.std.specs.List.{flat_map}
use Rattle.std.proofs.lemmas.Option.{slice_get_within}
use Rattle.rdb_types.specs.declared.file.FileId.{FileId}
use Rattle.rdb_outside.specs.Disk.{Image, View, OnlyReads, zeros}
use Rattle.journal_passing.specs.aij_journal.declared.part.GroupLine.{GroupLine}
use Rattle.journal_passing.specs.aij_journal.declared.part.AijPart.{AijPart}
use Rattle.journal_passing.specs.aij_journal.Header.{IsHeader}
use Rattle.journal_passing.specs.journal_scan.declared.group.Group.{Group}
use Rattle.journal_passing.specs.journal_scan.Standing.{what_stands}
use Rattle.journal_passing.specs.journal_scan.Whole.{count_of, slots_of, slots_from, IsWhole, AreWhole}
use Rattle.journal_passing.specs.journal_reading.Journal.{EndsBy, standing}
use Rattle.line_moves.specs.new_database.Maker.{aij_file}
use Rattle.line_moves.specs.stable_lines.Journal.{Journal, IsJournalOf, StandsAt, has_group}
use Rattle.line_moves.proofs.of_stable_lines.Groups.{slots_behind, whole_behind, of_either}
use Rattle.line_moves.proofs.of_stable_lines.Unique.{standing_at, one_journal}
use Rattle.line_opening.specs.Headers.{open_in}
use Rattle.line_opening.specs.Passing.{without, IsNext}
use Rattle.line_opening.specs.declared.groups.NextGroup.{NextGroup}

some_same : {A : Type 0} (a b : A) → Some a ≡ Some b → a ≡ b
some_same a b same = cc

length_slots : (g : Group) (index : ℕ) (lines : List GroupLine) → length (slots_from g index lines) ≡ length lines + 1
length_slots g index [] = refl
length_slots g index (line ∷ lines) = let rest = length_slots g (index + 1) lines in omega (arith, rest)

-- ---- which numbers are left

associates : (a b c : Bool) → (a || (b || c)) ≡ ((a || b) || c)
associates true b c = refl
associates false b c = refl

or_none : (a : Bool) → (a || false) ≡ a
or_none true = refl
or_none false = refl

has_more : (tsn : ℕ) (gs : List Group) (g : Group) → has_group tsn (gs ++ g ∷ []) ≡ (has_group tsn gs || (g.tsn.number == tsn))
has_more tsn [] g = or_none (g.tsn.number == tsn)
has_more tsn (x ∷ gs) g = ap (λ (b : Bool). (x.tsn.number == tsn) || b) (has_more tsn gs g) ∙ associates (x.tsn.number == tsn) (has_group tsn gs) (g.tsn.number == tsn)

none_left : (b : Bool) → ◌≡◌ {A = ℕ} (if b then 0 else 0) 0
none_left true = refl
none_left false = refl

left_by : (tsn number : ℕ) (b : Bool) → without tsn (if b then 0 else number) ≡ (if b || (tsn == number) then 0 else number)
left_by tsn number true = none_left (tsn == 0)
left_by tsn number false = refl

each_left : (gs : List Group) (g : Group) (number : ℕ) → without g.tsn.number (open_in gs number) ≡ open_in (gs ++ g ∷ []) number
each_left gs g number = left_by g.tsn.number number (has_group number gs) ∙ ap (λ (b : Bool). if b then 0 else number) (sym (has_more number gs g))

all_left : (gs : List Group) (g : Group) (numbers : List ℕ) → map (without g.tsn.number) (map (open_in gs) numbers) ≡ map (open_in (gs ++ g ∷ [])) numbers
all_left gs g [] = refl
all_left gs g (n ∷ numbers) =
    let here = each_left gs g n in
    let rest = all_left gs g numbers in
    λ i. here i ∷ rest i

all_open : (numbers : List ℕ) → numbers ≡ map (open_in []) numbers
all_open [] = refl
all_open (n ∷ numbers) = let rest = all_open numbers in λ i. n ∷ rest i

-- ---- the groups so far

-- These groups stand before the slot, and the numbers are those that they leave.
pub record PassedTo (image : Image) (tells : Type 0) (first slot number : ℕ) (old now : List ℕ) : Type 0 where
  pub groups : List Group
  pub whole : AreWhole first groups
  pub numbered : number ≡ first + length groups
  pub in_slot : slot ≡ length (flat_map slots_of groups) + 1
  pub stand : tells → (i : ℕ) (what : Option AijPart) → slice_get (flat_map slots_of groups) i ≡ Some what → what_stands (image aij_file (i + 1)) ≡ what
  pub left : now ≡ map (open_in groups) old

module _ (image : Image) (tells : Type 0) (first : ℕ) (old : List ℕ) where
  pub none_passed : PassedTo image tells first 1 first old old
  none_passed = record {
    groups = [];
    whole = tt;
    numbered = omega arith;
    in_slot = omega arith;
    stand = λ t i what got. absurd (nothing i what got);
    left = all_open old;
  }
    where
      nothing : (i : ℕ) (what : Option AijPart) → slice_get [] i ≡ Some what → ⊥
      nothing i what is = cc

  pub one_more_passed : (slot number : ℕ) (now new : List ℕ) (g : Group) → IsWhole number g → (tells → standing image aij_file slot (count_of g) ≡ slots_of g) → new ≡ map (without g.tsn.number) now → PassedTo image tells first slot number old now
      → PassedTo image tells first (slot + (length g.lines + 1)) (number + 1) old new
  one_more_passed slot number now new g whole there forgot was = record {
    groups = was.groups ++ g ∷ [];
    whole = whole_behind first was.groups g was.whole (subst (λ (n : ℕ). IsWhole n g) was.numbered whole);
    numbered = let longer : length (was.groups ++ g ∷ []) ≡ length was.groups + 1 = length-append was.groups (g ∷ []) in let numbered = was.numbered in omega (arith, longer, numbered);
    in_slot =
        let parts : length (flat_map slots_of (was.groups ++ g ∷ [])) ≡ length (flat_map slots_of was.groups) + length (slots_of g) = ap length (slots_behind was.groups g) ∙ length-append (flat_map slots_of was.groups) (slots_of g) in
        let size : length (slots_of g) ≡ length g.lines + 1 = length_slots g 0 g.lines in
        let in_slot = was.in_slot in
        omega (arith, parts, size, in_slot);
    stand = λ t i what got. ⊎_elim (λ earlier. was.stand t i what earlier) (λ q. here t i what q.0 q.1 q.2) (of_either was.groups g i what got);
    left = forgot ∙ ap (λ (l : List ℕ). map (without g.tsn.number) l) was.left ∙ all_left was.groups g old;
  }
    where
      here : tells → (i : ℕ) (what : Option AijPart) (k : ℕ) → i ≡ length (flat_map slots_of was.groups) + k → slice_get (slots_of g) k ≡ Some what → what_stands (image aij_file (i + 1)) ≡ what
      here t i what k at got =
          let size : length (slots_of g) ≡ length g.lines + 1 = length_slots g 0 g.lines in
          let within : k < length (slots_of g) = slice_get_within (slots_of g) k what got in
          let in_slot = was.in_slot in
          let place : i + 1 ≡ slot + k = omega (arith, at, in_slot) in
          ap (λ (n : ℕ). what_stands (image aij_file n)) place
          ∙ some_same _ _ (sym (standing_at image aij_file slot (count_of g) k (omega (arith, within, size))) ∙ ap (λ (l : List (Option AijPart)). slice_get l k) (there t) ∙ got)

-- ---- all groups

all_stand : (image : Image) (file : FileId) (slot : ℕ) (whats : List (Option AijPart)) → ((i : ℕ) (what : Option AijPart) → slice_get whats i ≡ Some what → what_stands (image file (slot + i)) ≡ what) → standing image file slot (length whats) ≡ whats
all_stand image file slot [] stands = refl
all_stand image file slot (what ∷ whats) stands =
    let at : slot ≡ slot + 0 = omega arith in
    let here : what_stands (image file slot) ≡ what = ap (λ (n : ℕ). what_stands (image file n)) at ∙ stands 0 what refl in
    let rest : standing image file (slot + 1) (length whats) ≡ whats = all_stand image file (slot + 1) whats (λ i w got. ap (λ (n : ℕ). what_stands (image file n)) (let turn : slot + 1 + i ≡ slot + suc i = omega arith in turn) ∙ stands (suc i) w got) in
    λ i. here i ∷ rest i

-- Where no next one stands, these are the groups of the journal.
pub is_journal : (image : Image) (tells : Type 0) (first slot number : ℕ) (old now : List ℕ) → (was : PassedTo image tells first slot number old now) → tells → IsHeader (image aij_file 0) first
    → ((g : Group) → IsWhole number g → standing image aij_file slot (count_of g) ≡ slots_of g → ⊥) → IsJournalOf image (record { first = first; groups = was.groups })
is_journal image tells first slot number old now was t header none = record {
  header = header;
  whole = was.whole;
  stand = was.stand t;
  no_more = λ g whole stands. no_more g whole stands;
}
  where
    no_more : (g : Group) → IsWhole (first + length was.groups) g → StandsAt image (length (flat_map slots_of was.groups) + 1) g → ⊥
    no_more g whole stands =
        let size : length (slots_of g) ≡ count_of g = length_slots g 0 g.lines in
        none g (subst (λ (n : ℕ). IsWhole n g) (sym was.numbered) whole)
        (ap (λ (n : ℕ). standing image aij_file slot n) (sym size) ∙ all_stand image aij_file slot (slots_of g) (subst (λ (n : ℕ). StandsAt image n g) (sym was.in_slot) stands))

-- so these are left of all, and the next group comes there
pub record Passed (image : Image) (journal : Journal) (next : NextGroup) (old now : List ℕ) : Type 0 where
  pub left : now ≡ map (open_in journal.groups) old
  pub next_one : IsNext journal next

pub all_passed : (image : Image) (tells : Type 0) (first : ℕ) (next : NextGroup) (old now : List ℕ) → PassedTo image tells first next.slot next.number old now → tells → IsHeader (image aij_file 0) first
    → ((g : Group) → IsWhole next.number g → standing image aij_file next.slot (count_of g) ≡ slots_of g → ⊥) → (journal : Journal) → IsJournalOf image journal → Passed image journal next old now
all_passed image tells first next old now was t header none journal is =
    subst (λ (j : Journal). Passed image j next old now)
    (one_journal image (record { first = first; groups = was.groups }) journal (is_journal image tells first next.slot next.number old now was t header none) is)
    (record { left = was.left; next_one = record { in_slot = was.in_slot; numbered = was.numbered } })

-- ---- behind reads

pub image_same : (old mid : View) → OnlyReads old mid → IsTrue old.tells → mid.content ≡ old.content
image_same old mid reads t = λ i file slot. (reads.keeps t).content file slot i

-- what doesn't stand behind reads didn't before
pub none_stood : (old mid : Image) (file : FileId) (end slot number : ℕ) → mid ≡ old → file ≡ aij_file → EndsBy old aij_file end → (EndsBy mid file end → (g : Group) → IsWhole number g → standing mid file slot (count_of g) ≡ slots_of g → ⊥)
    → (g : Group) → IsWhole number g → standing old aij_file slot (count_of g) ≡ slots_of g → ⊥
none_stood old mid file end slot number same at ends none g whole stands =
    none (subst (λ (m : Image). EndsBy m file end) (sym same) (subst (λ (f : FileId). EndsBy old f end) (sym at) ends)) g whole ((λ i. standing (same i) (at i) slot (count_of g)) ∙ stands)

pub stood : (old mid : Image) (file : FileId) (slot : ℕ) (g : Group) → mid ≡ old → file ≡ aij_file → standing mid file slot (count_of g) ≡ slots_of g → standing old aij_file slot (count_of g) ≡ slots_of g
stood old mid file slot g same at stands = sym (λ i. standing (same i) (at i) slot (count_of g)) ∙ stands

-- the journal behind the reads of its header and its length
pub ends_there : (old mid : Image) (file : FileId) (end : ℕ) → old ≡ mid → file ≡ aij_file → ((slot : ℕ) → end ≤ slot → old file slot ≡ zeros file) → EndsBy mid aij_file end
ends_there old mid file end same at ends = subst (λ (m : Image). EndsBy m aij_file end) same (subst (λ (f : FileId). EndsBy old f end) at ends)
