-- A journal walked group by group.
use Rattle.std.proofs.Common.{◌≡◌, ℕ, zero, suc, ◌+◌, ◌-◌, ◌≤◌, ◌<◌, ◌^◌, nat_lt, max, if◌then◌else◌, Bool, true, false, cond, List, [], ◌∷◌, ◌++◌, length, map, Option, Some, None, slice_get, refl, sym, ◌∙◌, ap, subst, arith, length-append}
use Rattle.std.specs.List.{flat_map}
use Rattle.std.proofs.lemmas.List.Elements.{filter-append}
use Rattle.std.proofs.lemmas.Option.{slice_get_within}
use Rattle.std.proofs.lemmas.Bool.{lt-ltb}
use Rattle.rdb_types.specs.File.{slot_bytes, bytes_of_kind}
use Rattle.rdb_types.specs.declared.file.FileId.{FileId}
use Rattle.rdb_types.specs.declared.file.FileKind.TheVariants.{Area}
use Rattle.rdb_types.specs.declared.keys.Tsn.{Tsn}
use Rattle.rdb_outside.specs.Disk.{Image}
use Rattle.aij_journal.specs.declared.part.GroupLine.{GroupLine}
use Rattle.aij_journal.specs.declared.part.AijPart.{AijPart}
use Rattle.aij_journal.specs.Part.{IsPart}
use Rattle.journal_scan.specs.declared.group.Group.{Group}
use Rattle.journal_scan.specs.Standing.{what_stands}
use Rattle.journal_scan.specs.Whole.{count_of, slots_of, slots_from, Holds, IsWhole, AreWhole}
use Rattle.journal_scan.proofs.Stands as standing_slots
use Rattle.line_view.specs.declared.writes.Write.{Write}
use Rattle.journal_reading.specs.Journal.{standing, EndsBy}
use Rattle.new_database.specs.Maker.{aij_file}
use Rattle.stable_lines.specs.Journal.{Journal, IsJournalOf, StandsAt, slots_in, next_number, write_of}
use Rattle.stable_lines.specs.Rolling.{groups_above}
use Rattle.stable_lines.proofs.Lists.{got_left, got_right}
use Rattle.stable_lines.proofs.Unique.{standing_at}
use Rattle.rolled_lines.specs.HalfLaid.{writes_of}
use Rattle.laid_groups.specs.Forward.{Forward, FitsGroup, FitAll}
use Rattle.laid_groups.specs.Laid.{LaidOver}
use Rattle.laid_groups.specs.Passing.{ceiling_behind, reached_behind}
use Rattle.laid_groups.specs.declared.passing.Reached.{Reached}
use Rattle.laid_groups.proofs.Behind.{flat_both}
use Rattle.laid_groups.proofs.Running.{none_laid, laid_on}

some_same : {A : Type 0} (a b : A) → Some a ≡ Some b → a ≡ b
some_same a b same = cc

-- ---- a file seen as the journal

abbrev pub seen : Image → FileId → Image
seen image file = λ f slot. image file slot

pub standing_seen : (image : Image) (file : FileId) (slot count : ℕ) → standing image file slot count ≡ standing (seen image file) aij_file slot count
standing_seen image file slot zero = refl
standing_seen image file slot (suc count) = ap (λ (l : List (Option AijPart)). what_stands (image file slot) ∷ l) (standing_seen image file (slot + 1) count)

pub seen_same : (old new : Image) (file : FileId) → ((slot : ℕ) → new file slot ≡ old file slot) → seen new file ≡ seen old file
seen_same old new file same = λ i f slot. same slot i

-- ---- one group at a slot

length_slots : (g : Group) (index : ℕ) (lines : List GroupLine) → length (slots_from g index lines) ≡ length lines + 1
length_slots g index [] = refl
length_slots g index (line ∷ lines) = let rest = length_slots g (index + 1) lines in omega (arith, rest)

abbrev lines_of : List (Option AijPart) → List GroupLine
lines_of [] = []
lines_of (None ∷ slots) = lines_of slots
lines_of (Some part ∷ slots) = with_line part.line (lines_of slots)
  where
    with_line : Option GroupLine → List GroupLine → List GroupLine
    with_line None lines = lines
    with_line (Some line) lines = line ∷ lines

its_lines : (g : Group) (index : ℕ) (lines : List GroupLine) → lines_of (slots_from g index lines) ≡ lines
its_lines g index [] = refl
its_lines g index (line ∷ lines) = ap (λ (l : List GroupLine). line ∷ l) (its_lines g (index + 1) lines)

abbrev count_in : Option (Option AijPart) → ℕ
count_in (Some (Some part)) = part.count
count_in (Some None) = 0
count_in None = 0

abbrev tsn_in : Tsn → Option (Option AijPart) → Tsn
tsn_in other (Some (Some part)) = part.tsn
tsn_in other (Some None) = other
tsn_in other None = other

its_count : (g : Group) (index : ℕ) (lines : List GroupLine) → count_in (slice_get (slots_from g index lines) 0) ≡ count_of g
its_count g index [] = refl
its_count g index (line ∷ lines) = refl

its_tsn : (g : Group) (other : Tsn) (index : ℕ) (lines : List GroupLine) → tsn_in other (slice_get (slots_from g index lines) 0) ≡ g.tsn
its_tsn g other index [] = refl
its_tsn g other index (line ∷ lines) = refl

first_of : (image : Image) (slot : ℕ) (g : Group) → standing image aij_file slot (count_of g) ≡ slots_of g → slice_get (slots_of g) 0 ≡ Some (what_stands (image aij_file (slot + 0)))
first_of image slot g stands = ap (λ (l : List (Option AijPart)). slice_get l 0) (sym stands) ∙ standing_at image aij_file slot (count_of g) 0 (omega arith)

-- a slot begins one group of a number at most
pub one_group : (image : Image) (slot number : ℕ) (g h : Group) → IsWhole number g → IsWhole number h → standing image aij_file slot (count_of g) ≡ slots_of g → standing image aij_file slot (count_of h) ≡ slots_of h → g ≡ h
one_group image slot number g h whole also stands there =
    let firsts : slice_get (slots_of g) 0 ≡ slice_get (slots_of h) 0 = first_of image slot g stands ∙ sym (first_of image slot h there) in
    let counts : count_of g ≡ count_of h = sym (its_count g 0 g.lines) ∙ ap count_in firsts ∙ its_count h 0 h.lines in
    let slots : slots_of g ≡ slots_of h = sym stands ∙ ap (λ (n : ℕ). standing image aij_file slot n) counts ∙ there in
    let lines : g.lines ≡ h.lines = sym (its_lines g 0 g.lines) ∙ ap lines_of slots ∙ its_lines h 0 h.lines in
    let tsns : g.tsn ≡ h.tsn = sym (its_tsn g g.tsn 0 g.lines) ∙ ap (λ (w : Option (Option AijPart)). tsn_in g.tsn w) firsts ∙ its_tsn h g.tsn 0 h.lines in
    let numbers : g.number ≡ h.number = whole.numbered ∙ sym also.numbered in
    λ i. record { number = numbers i; tsn = tsns i; lines = lines i }

all_stand : (image : Image) (slot : ℕ) (whats : List (Option AijPart)) → ((i : ℕ) (what : Option AijPart) → slice_get whats i ≡ Some what → what_stands (image aij_file (slot + i)) ≡ what) → standing image aij_file slot (length whats) ≡ whats
all_stand image slot [] stands = refl
all_stand image slot (what ∷ whats) stands =
    let at : slot ≡ slot + 0 = omega arith in
    let here : what_stands (image aij_file slot) ≡ what = ap (λ (n : ℕ). what_stands (image aij_file n)) at ∙ stands 0 what refl in
    let rest : standing image aij_file (slot + 1) (length whats) ≡ whats = all_stand image (slot + 1) whats (λ i w got. ap (λ (n : ℕ). what_stands (image aij_file n)) (let turn : slot + 1 + i ≡ slot + suc i = omega arith in turn) ∙ stands (suc i) w got) in
    λ i. here i ∷ rest i

group_stands : (image : Image) (slot : ℕ) (g : Group) → StandsAt image slot g → standing image aij_file slot (count_of g) ≡ slots_of g
group_stands image slot g stands = ap (λ (n : ℕ). standing image aij_file slot n) (sym (length_slots g 0 g.lines)) ∙ all_stand image slot (slots_of g) stands

stands_group : (image : Image) (slot : ℕ) (g : Group) → standing image aij_file slot (count_of g) ≡ slots_of g → StandsAt image slot g
stands_group image slot g stands i what got =
    let within : i < length (slots_of g) = slice_get_within (slots_of g) i what got in
    let size : length (slots_of g) ≡ count_of g = length_slots g 0 g.lines in
    some_same _ _ (sym (standing_at image aij_file slot (count_of g) i (omega (arith, within, size))) ∙ ap (λ (l : List (Option AijPart)). slice_get l i) stands ∙ got)

-- ---- on the way

one_on : (front : List Group) (g : Group) (tail : List Group) → front ++ g ∷ tail ≡ (front ++ g ∷ []) ++ tail
one_on [] g tail = refl
one_on (x ∷ front) g tail = ap (λ (l : List Group). x ∷ l) (one_on front g tail)

-- these groups of the journal are passed, and the next one begins here
pub record AtGroup (journal : Journal) (slot number : ℕ) : Type 0 where
  pub passed : List Group
  pub rest : List Group
  pub split : journal.groups ≡ passed ++ rest
  pub numbered : number ≡ journal.first + length passed
  pub in_slot : slot ≡ length (flat_map slots_of passed) + 1

pub begins : (journal : Journal) → AtGroup journal 1 journal.first
begins journal = record { passed = []; rest = journal.groups; split = refl; numbered = omega arith; in_slot = omega arith }

whole_at : (first : ℕ) (front back : List Group) (g : Group) → AreWhole first (front ++ g ∷ back) → IsWhole (first + length front) g
whole_at first [] back g whole = subst (λ (n : ℕ). IsWhole n g) (let same : first ≡ first + 0 = omega arith in same) whole.0
whole_at first (x ∷ front) back g whole = subst (λ (n : ℕ). IsWhole n g) (let same : first + 1 + length front ≡ first + suc (length front) = omega arith in same) (whole_at (first + 1) front back g whole.1)

module _ (image : Image) (journal : Journal) (is : IsJournalOf image journal) (slot number : ℕ) (at : AtGroup journal slot number) where
  -- the next one stands
  module _ (h : Group) (tail : List Group) (rest : at.rest ≡ h ∷ tail) where
    all : journal.groups ≡ at.passed ++ h ∷ tail
    all = at.split ∙ ap (λ (l : List Group). at.passed ++ l) rest

    its_slots : slots_in journal ≡ flat_map slots_of at.passed ++ (slots_of h ++ flat_map slots_of tail)
    its_slots = ap (λ (l : List Group). flat_map slots_of l) all ∙ flat_both slots_of at.passed (h ∷ tail)

    pub next_whole : IsWhole number h
    next_whole = subst (λ (n : ℕ). IsWhole n h) (sym at.numbered) (whole_at journal.first at.passed tail h (subst (λ (l : List Group). AreWhole journal.first l) all is.whole))

    pub next_stands : standing image aij_file slot (count_of h) ≡ slots_of h
    next_stands = group_stands image slot h stands
      where
        stands : StandsAt image slot h
        stands i what got =
            let there = got_right (flat_map slots_of at.passed) (slots_of h ++ flat_map slots_of tail) i what (got_left (slots_of h) (flat_map slots_of tail) i what got) in
            let place : length (flat_map slots_of at.passed) + i + 1 ≡ slot + i = (let in_slot = at.in_slot in omega (arith, in_slot)) in
            ap (λ (n : ℕ). what_stands (image aij_file n)) (sym place)
            ∙ is.stand (length (flat_map slots_of at.passed) + i) what (ap (λ (l : List (Option AijPart)). slice_get l (length (flat_map slots_of at.passed) + i)) its_slots ∙ there)

  nothing_next : (g : Group) → at.rest ≡ [] → IsWhole number g → standing image aij_file slot (count_of g) ≡ slots_of g → ⊥
  nothing_next g none whole stands =
      let all : journal.groups ≡ at.passed = at.split ∙ ap (λ (l : List Group). at.passed ++ l) none ∙ nil_right at.passed in
      let number_is : number ≡ next_number journal = at.numbered ∙ ap (λ (l : List Group). journal.first + length l) (sym all) in
      let slot_is : slot ≡ length (slots_in journal) + 1 = at.in_slot ∙ ap (λ (l : List Group). length (flat_map slots_of l) + 1) (sym all) in
      is.no_more g (subst (λ (n : ℕ). IsWhole n g) number_is whole) (subst (λ (n : ℕ). StandsAt image n g) slot_is (stands_group image slot g stands))
    where
      nil_right : (l : List Group) → l ++ [] ≡ l
      nil_right [] = refl
      nil_right (x ∷ l) = ap (λ (r : List Group). x ∷ r) (nil_right l)

  -- what is found there is the next one
  pub found_next : (g : Group) → IsWhole number g → standing image aij_file slot (count_of g) ≡ slots_of g → (tail : List Group) × (at.rest ≡ g ∷ tail)
  found_next g whole stands = by at.rest refl
    where
      by : (l : List Group) → at.rest ≡ l → (tail : List Group) × (at.rest ≡ g ∷ tail)
      by [] none = absurd (nothing_next g none whole stands)
      by (h ∷ tail) some = (tail, some ∙ ap (λ (x : Group). x ∷ tail) (one_group image slot number h g (next_whole h tail some) whole (next_stands h tail some) stands))

  -- where none is found, there is none
  pub none_next : ((g : Group) → IsWhole number g → standing image aij_file slot (count_of g) ≡ slots_of g → ⊥) → journal.groups ≡ at.passed
  none_next none = by at.rest refl
    where
      nil_right : (l : List Group) → l ++ [] ≡ l
      nil_right [] = refl
      nil_right (x ∷ l) = ap (λ (r : List Group). x ∷ r) (nil_right l)

      by : (l : List Group) → at.rest ≡ l → journal.groups ≡ at.passed
      by [] is_none = at.split ∙ ap (λ (l : List Group). at.passed ++ l) is_none ∙ nil_right at.passed
      by (h ∷ tail) some = absurd (none h (next_whole h tail some) (next_stands h tail some))

  pub goes_on : (g : Group) (tail : List Group) → at.rest ≡ g ∷ tail → AtGroup journal (slot + (length g.lines + 1)) (number + 1)
  goes_on g tail some = record {
    passed = at.passed ++ g ∷ [];
    rest = tail;
    split = at.split ∙ ap (λ (l : List Group). at.passed ++ l) some ∙ one_on at.passed g tail;
    numbered = let longer : length (at.passed ++ g ∷ []) ≡ length at.passed + 1 = length-append at.passed (g ∷ []) in let numbered = at.numbered in omega (arith, longer, numbered);
    in_slot =
        let parts : length (flat_map slots_of (at.passed ++ g ∷ [])) ≡ length (flat_map slots_of at.passed) + length (slots_of g ++ []) = ap length (flat_both slots_of at.passed (g ∷ [])) ∙ length-append (flat_map slots_of at.passed) (slots_of g ++ []) in
        let more : length (slots_of g ++ []) ≡ length (slots_of g) + 0 = length-append (slots_of g) [] in
        let size : length (slots_of g) ≡ length g.lines + 1 = length_slots g 0 g.lines in
        let in_slot = at.in_slot in
        omega (arith, parts, more, size, in_slot);
  }

-- ---- groups above the last one

pub above_both : (last : ℕ) (xs ys : List Group) → groups_above last (xs ++ ys) ≡ groups_above last xs ++ groups_above last ys
above_both last xs ys = filter-append (λ g. nat_lt last g.number) xs ys

pub above_one : (last : ℕ) (g : Group) → last < g.number → groups_above last (g ∷ []) ≡ g ∷ []
above_one last g lt = ap (λ (b : Bool). cond b (g ∷ []) []) (lt-ltb last g.number lt)

pub above_none : (last : ℕ) (g : Group) → g.number ≤ last → groups_above last (g ∷ []) ≡ []
above_none last g le = ap (λ (b : Bool). cond b (g ∷ []) []) (other last g.number le)
  where
    other : (m n : ℕ) → n ≤ m → nat_lt m n ≡ false
    other m n h = grind (arith, h)

pub fit_next : (forward : Forward) (last : ℕ) (groups passed tail : List Group) (g : Group) → groups ≡ passed ++ g ∷ tail → FitAll forward (groups_above last groups) → FitAll forward (groups_above last (g ∷ []))
fit_next forward last groups passed tail g split fits i x got =
    let parts : groups_above last groups ≡ groups_above last passed ++ (groups_above last (g ∷ []) ++ groups_above last tail) = ap (groups_above last) split ∙ above_both last passed (g ∷ tail) ∙ ap (λ (l : List Group). groups_above last passed ++ l) (above_both last (g ∷ []) tail) in
    fits (length (groups_above last passed) + i) x
    (ap (λ (l : List Group). slice_get l (length (groups_above last passed) + i)) parts
    ∙ got_right (groups_above last passed) (groups_above last (g ∷ []) ++ groups_above last tail) i x (got_left (groups_above last (g ∷ [])) (groups_above last tail) i x got))

-- ---- of one group

pub its_fit : (forward : Forward) (last : ℕ) (g : Group) → last < g.number → FitAll forward (groups_above last (g ∷ [])) → FitsGroup forward g
its_fit forward last g lt fits = fits 0 g (ap (λ (l : List Group). slice_get l 0) (above_one last g lt))

nil_last : {A : Type 0} (l : List A) → l ++ [] ≡ l
nil_last [] = refl
nil_last (x ∷ l) = ap (λ r. x ∷ r) (nil_last l)

pub its_writes : (last : ℕ) (g : Group) → last < g.number → map write_of g.lines ≡ writes_of (groups_above last (g ∷ []))
its_writes last g lt = sym (nil_last (map write_of g.lines)) ∙ ap writes_of (sym (above_one last g lt))

pub writes_both : (last : ℕ) (xs ys : List Group) → writes_of (groups_above last xs) ++ writes_of (groups_above last ys) ≡ writes_of (groups_above last (xs ++ ys))
writes_both last xs ys = sym (ap writes_of (above_both last xs ys) ∙ flat_both (λ (g : Group). map write_of g.lines) (groups_above last xs) (groups_above last ys))

-- ---- behind calls that don't write the file

pub plain_file : (file : FileId) → slot_bytes file ≡ 512 → file.kind ≡ Area → ⊥
plain_file file size is = let bad : 1024 ≡ 512 = sym (ap bytes_of_kind is) ∙ size in omega (arith, bad)

pub stood_in : (old mid : Image) (file : FileId) (slot : ℕ) (g : Group) → ((s : ℕ) → mid file s ≡ old file s) → standing mid file slot (count_of g) ≡ slots_of g → standing (seen old file) aij_file slot (count_of g) ≡ slots_of g
stood_in old mid file slot g same stands = ap (λ (m : Image). standing m aij_file slot (count_of g)) (sym (seen_same old mid file same)) ∙ sym (standing_seen mid file slot (count_of g)) ∙ stands

pub none_in : (old mid : Image) (file : FileId) (end slot number : ℕ) → ((s : ℕ) → mid file s ≡ old file s) → EndsBy old file end → (EndsBy mid file end → (g : Group) → IsWhole number g → standing mid file slot (count_of g) ≡ slots_of g → ⊥)
    → (g : Group) → IsWhole number g → standing (seen old file) aij_file slot (count_of g) ≡ slots_of g → ⊥
none_in old mid file end slot number same ends none g whole stands =
    none (λ s le. same s ∙ ends s le) g whole (standing_seen mid file slot (count_of g) ∙ ap (λ (m : Image). standing m aij_file slot (count_of g)) (seen_same old mid file same) ∙ stands)

-- ---- what is laid so far

pub record LaidUpTo (forward : Forward) (journal : Journal) (last slot number : ℕ) (old new : Image) : Type 0 where
  pub at : AtGroup journal slot number
  pub laid : LaidOver forward (writes_of (groups_above last at.passed)) old new

pub none_yet : (forward : Forward) (journal : Journal) (last : ℕ) (image : Image) → LaidUpTo forward journal last 1 journal.first image image
unfolding begins
none_yet forward journal last image = record { at = begins journal; laid = none_laid forward image }

pub at_next : (journal : Journal) (image : Image) → IsJournalOf image journal → (slot number : ℕ) (g : Group) → IsWhole number g → standing image aij_file slot (count_of g) ≡ slots_of g → AtGroup journal slot number → AtGroup journal (slot + (length g.lines + 1)) (number + 1)
at_next journal image is slot number g whole stands at = let next = found_next image journal is slot number at g whole stands in goes_on image journal is slot number at g next.0 next.1

module _ (forward : Forward) (journal : Journal) (image : Image) (is : IsJournalOf image journal) (last slot number : ℕ) (g : Group) (whole : IsWhole number g) (stands : standing image aij_file slot (count_of g) ≡ slots_of g) where
  pub fits_here : AtGroup journal slot number → FitAll forward (groups_above last journal.groups) → FitAll forward (groups_above last (g ∷ []))
  fits_here at fits = let next = found_next image journal is slot number at g whole stands in
      fit_next forward last journal.groups at.passed next.0 g (at.split ∙ ap (λ (l : List Group). at.passed ++ l) next.1) fits

  pub one_more : (old mid new : Image) → LaidUpTo forward journal last slot number old mid → LaidOver forward (writes_of (groups_above last (g ∷ []))) mid new → LaidUpTo forward journal last (slot + (length g.lines + 1)) (number + 1) old new
  unfolding goes_on
  one_more old mid new was now = let next = found_next image journal is slot number was.at g whole stands in record {
    at = goes_on image journal is slot number was.at g next.0 next.1;
    laid = subst (λ (ws : List Write). LaidOver forward ws old new) (writes_both last was.at.passed (g ∷ [])) (laid_on forward (writes_of (groups_above last was.at.passed)) (writes_of (groups_above last (g ∷ []))) old mid new was.laid now);
  }

module _ (forward : Forward) (journal : Journal) (image : Image) (is : IsJournalOf image journal) (last slot number : ℕ) (none : (g : Group) → IsWhole number g → standing image aij_file slot (count_of g) ≡ slots_of g → ⊥) where
  pub all_laid : (old new : Image) → LaidUpTo forward journal last slot number old new → LaidOver forward (writes_of (groups_above last journal.groups)) old new
  all_laid old new was = subst (λ (gs : List Group). LaidOver forward (writes_of (groups_above last gs)) old new) (sym (none_next image journal is slot number was.at none)) was.laid

pub last_is : (journal : Journal) (image : Image) → IsJournalOf image journal → (last slot number : ℕ) → ((g : Group) → IsWhole number g → standing image aij_file slot (count_of g) ≡ slots_of g → ⊥) → AtGroup journal slot number → max last (number - 1) ≡ max last (next_number journal - 1)
last_is journal image is last slot number none at =
    let all = none_next image journal is slot number at none in
    ap (λ (n : ℕ). max last (n - 1)) (at.numbered ∙ ap (λ (l : List Group). journal.first + length l) (sym all))

-- ---- how far it goes

pub ceiling_both : (ceiling : ℕ) (xs ys : List Group) → ceiling_behind ceiling (xs ++ ys) ≡ ceiling_behind (ceiling_behind ceiling xs) ys
ceiling_both ceiling [] ys = refl
ceiling_both ceiling (g ∷ xs) ys = ceiling_both (max ceiling (g.tsn.number + 1)) xs ys

pub record ReachedUpTo (journal : Journal) (at : Reached) (slot number ceiling : ℕ) : Type 0 where
  pub here : AtGroup journal slot number
  pub ceiling_is : ceiling ≡ ceiling_behind at.ceiling (groups_above at.last here.passed)

pub nothing_yet : (journal : Journal) (at : Reached) → ReachedUpTo journal at 1 journal.first at.ceiling
unfolding begins
nothing_yet journal at = record { here = begins journal; ceiling_is = refl }

its_ceiling : (last ceiling : ℕ) (g : Group) (number tsn : ℕ) → g.number ≡ number → g.tsn.number ≡ tsn → ceiling_behind ceiling (groups_above last (g ∷ [])) ≡ (if nat_lt last number then max ceiling (tsn + 1) else ceiling)
its_ceiling last ceiling g number tsn numbered same = by (nat_lt last g.number) refl ∙ ap (λ (n : ℕ). if nat_lt last n then max ceiling (tsn + 1) else ceiling) numbered
  where
    chosen : (b : Bool) → ceiling_behind ceiling (cond b (g ∷ []) []) ≡ (if b then max ceiling (tsn + 1) else ceiling)
    chosen true = ap (λ (n : ℕ). max ceiling (n + 1)) same
    chosen false = refl

    by : (b : Bool) → nat_lt last g.number ≡ b → ceiling_behind ceiling (groups_above last (g ∷ [])) ≡ (if nat_lt last g.number then max ceiling (tsn + 1) else ceiling)
    by b is = chosen (nat_lt last g.number)

module _ (journal : Journal) (at : Reached) (image : Image) (is : IsJournalOf image journal) (slot number : ℕ) where
  pub reached_more : (ceiling new tsn : ℕ) (g : Group) → IsWhole number g → g.tsn.number ≡ tsn → standing image aij_file slot (count_of g) ≡ slots_of g → new ≡ (if nat_lt at.last number then max ceiling (tsn + 1) else ceiling)
      → ReachedUpTo journal at slot number ceiling → ReachedUpTo journal at (slot + (length g.lines + 1)) (number + 1) new
  unfolding goes_on
  reached_more ceiling new tsn g whole same stands now_is was = let next = found_next image journal is slot number was.here g whole stands in record {
    here = goes_on image journal is slot number was.here g next.0 next.1;
    ceiling_is = now_is ∙ sym (its_ceiling at.last ceiling g number tsn whole.numbered same)
        ∙ ap (λ (c : ℕ). ceiling_behind c (groups_above at.last (g ∷ []))) was.ceiling_is
        ∙ sym (ceiling_both at.ceiling (groups_above at.last was.here.passed) (groups_above at.last (g ∷ [])))
        ∙ ap (ceiling_behind at.ceiling) (sym (above_both at.last was.here.passed (g ∷ [])));
  }

  pub reached_all : (ceiling : ℕ) → ((g : Group) → IsWhole number g → standing image aij_file slot (count_of g) ≡ slots_of g → ⊥) → ReachedUpTo journal at slot number ceiling → (reached : Reached) → reached.last ≡ max at.last (number - 1) → reached.ceiling ≡ ceiling → reached ≡ reached_behind at journal
  reached_all ceiling none was reached last_same ceiling_same =
      let all = none_next image journal is slot number was.here none in
      let lasts = last_same ∙ last_is journal image is at.last slot number none was.here in
      let ceilings = ceiling_same ∙ was.ceiling_is ∙ ap (λ (gs : List Group). ceiling_behind at.ceiling (groups_above at.last gs)) (sym all) in
      λ i. record { last = lasts i; ceiling = ceilings i }

-- a group that stands has a number that a slot can say
pub tsn_few : (image : Image) (slot : ℕ) (g : Group) (tsn : ℕ) → g.tsn.number ≡ tsn → standing image aij_file slot (count_of g) ≡ slots_of g → tsn < 2 ^ 62
tsn_few image slot g tsn same there = subst (λ (n : ℕ). n < 2 ^ 62) same (by g.lines refl)
  where
    first : (what : Option AijPart) → slice_get (slots_of g) 0 ≡ Some what → what_stands (image aij_file (slot + 0)) ≡ what
    first what got =
        let some : 0 < count_of g = omega arith in
        some_same _ _ (sym (standing_at image aij_file slot (count_of g) 0 some) ∙ ap (λ (l : List (Option AijPart)). slice_get l 0) there ∙ got)

    few : (part : AijPart) → what_stands (image aij_file (slot + 0)) ≡ Some part → part.tsn.number < 2 ^ 62
    few part stood = let is : IsPart (image aij_file (slot + 0)) part = subst (λ (w : Option AijPart). Holds (image aij_file (slot + 0)) w) stood (standing_slots.stands (image aij_file (slot + 0))) in is.tsn

    by : (lines : List GroupLine) → g.lines ≡ lines → g.tsn.number < 2 ^ 62
    by [] is = few _ (first _ (ap (λ (ls : List GroupLine). slice_get (slots_from g 0 ls) 0) is))
    by (line ∷ lines) is = few _ (first _ (ap (λ (ls : List GroupLine). slice_get (slots_from g 0 ls) 0) is))
