-- Lines of groups looked at, one behind another.
use Rattle.std.proofs.Common.{◌≡◌, ℕ, zero, suc, ◌+◌, ◌≤◌, ◌<◌, List, [], ◌∷◌, ◌++◌, length, take, slice_get, Option, Some, refl, sym, ◌∙◌, ap, subst, arith, length-append}
use Rattle.rdb_outside.specs.Disk.{Image}
use Rattle.aij_journal.specs.declared.part.GroupLine.{GroupLine}
use Rattle.aij_journal.specs.declared.part.AijPart.{AijPart}
use Rattle.aij_journal.specs.Part.{IsAllowedLine}
use Rattle.journal_scan.specs.declared.group.Group.{Group}
use Rattle.journal_scan.specs.Standing.{what_stands}
use Rattle.journal_scan.specs.Whole.{count_of, slots_of, slots_from, group_slot, Holds, IsWhole}
use Rattle.journal_scan.proofs.Stands as standing_slots
use Rattle.journal_reading.specs.Journal.{standing}
use Rattle.new_database.specs.Maker.{aij_file}
use Rattle.stable_lines.specs.Journal.{Journal, IsJournalOf}
use Rattle.stable_lines.specs.Rolling.{groups_above}
use Rattle.stable_lines.proofs.Lists.{got_right}
use Rattle.stable_lines.proofs.Unique.{standing_at}
use Rattle.laid_groups.proofs.Behind.{flat_both}
use Rattle.laid_groups.proofs.Walking.{AtGroup, begins, found_next, none_next, at_next, above_both, above_one, above_none}
use Rattle.fitted_groups.specs.declared.claims.PageClaim.{PageClaim}
use Rattle.fitted_groups.specs.declared.journals.Fitted.TheVariants.{Behind}
use Rattle.fitted_groups.specs.Meeting.{lines_among, FitsPage, FitOver}
use Rattle.fitted_groups.specs.Claims.{AreFitted}
use Rattle.fitted_groups.proofs.Firsts.{fits_upto}

-- ---- lists

pub joins : {A : Type 0} (a b c : List A) → (a ++ b) ++ c ≡ a ++ (b ++ c)
joins [] b c = refl
joins (x ∷ a) b c = ap (λ l. x ∷ l) (joins a b c)

pub nil_last : {A : Type 0} (a : List A) → a ++ [] ≡ a
nil_last [] = refl
nil_last (x ∷ a) = ap (λ l. x ∷ l) (nil_last a)

some_same : {A : Type 0} (a b : A) → Some a ≡ Some b → a ≡ b
some_same a b same = cc

-- what stands before a place, there, and behind it
pub split_at : {A : Type 0} (xs : List A) (i : ℕ) (x : A) → slice_get xs i ≡ Some x → (tail : List A) × (xs ≡ take i xs ++ x ∷ tail)
split_at [] i x got = let bad : ⊥ = cc in absurd bad
split_at (y ∷ xs) zero x got = (xs, ap (λ z. z ∷ xs) (some_same y x got))
split_at (y ∷ xs) (suc i) x got = let rest = split_at xs i x got in (rest.0, ap (λ l. y ∷ l) rest.1)

pub next_taken : {A : Type 0} (xs : List A) (i : ℕ) (x : A) → slice_get xs i ≡ Some x → take i xs ++ x ∷ [] ≡ take (suc i) xs
next_taken [] i x got = let bad : ⊥ = cc in absurd bad
next_taken (y ∷ xs) zero x got = ap (λ z. z ∷ []) (sym (some_same y x got))
next_taken (y ∷ xs) (suc i) x got = ap (λ l. y ∷ l) (next_taken xs i x got)

pub all_taken : {A : Type 0} (xs : List A) (i : ℕ) → length xs ≤ i → take i xs ≡ xs
all_taken [] zero le = refl
all_taken [] (suc i) le = refl
all_taken (x ∷ xs) zero le = absurd (omega (arith, le))
all_taken (x ∷ xs) (suc i) le = ap (λ l. x ∷ l) (all_taken xs i (omega (arith, le)))

-- ---- lines of one group

module _ (image : Image) (pages : ℕ) (before lines : List GroupLine) where
  pub none_fitted : (claims : List PageClaim) → AreFitted image pages before claims → AreFitted image pages (before ++ []) claims
  none_fitted claims are = subst (λ (ls : List GroupLine). AreFitted image pages ls claims) (sym (nil_last before)) are

  pub next_fitted : (claims : List PageClaim) (i : ℕ) (l : GroupLine) → slice_get lines i ≡ Some l → AreFitted image pages ((before ++ take i lines) ++ l ∷ []) claims → AreFitted image pages (before ++ take (i + 1) lines) claims
  next_fitted claims i l got are = subst (λ (ls : List GroupLine). AreFitted image pages ls claims) (joins before (take i lines) (l ∷ []) ∙ ap (λ (ls : List GroupLine). before ++ ls) (next_taken lines i l got ∙ ap (λ (n : ℕ). take n lines) (let turn : suc i ≡ i + 1 = omega arith in turn))) are

  pub all_fitted : (claims : List PageClaim) (i : ℕ) → length lines ≤ i → AreFitted image pages (before ++ take i lines) claims → AreFitted image pages (before ++ lines) claims
  all_fitted claims i past are = subst (λ (ls : List GroupLine). AreFitted image pages (before ++ ls) claims) (all_taken lines i past) are

  -- where all fit, this one does behind those before it
  pub this_fits : (behind : List GroupLine) (i : ℕ) (l : GroupLine) → slice_get lines i ≡ Some l → FitOver image pages (before ++ (lines ++ behind)) → FitsPage image pages ((before ++ take i lines) ++ l ∷ []) l
  this_fits behind i l got fit =
      let split = split_at lines i l got in
      let parts : before ++ (lines ++ behind) ≡ (before ++ take i lines) ++ l ∷ (split.0 ++ behind) =
      ap (λ (ls : List GroupLine). before ++ (ls ++ behind)) split.1 ∙ ap (λ (ls : List GroupLine). before ++ ls) (joins (take i lines) (l ∷ split.0) behind) ∙ sym (joins before (take i lines) (l ∷ (split.0 ++ behind))) in
      let all : FitOver image pages ((before ++ take i lines) ++ l ∷ (split.0 ++ behind)) = subst (λ (ls : List GroupLine). FitOver image pages ls) parts fit in
      fits_upto image pages (before ++ take i lines) (split.0 ++ behind) l (all (length (before ++ take i lines) + 0) l (got_right (before ++ take i lines) (l ∷ (split.0 ++ behind)) 0 l refl))

-- ---- one group

pub lines_above : (last : ℕ) (g : Group) → last < g.number → lines_among (groups_above last (g ∷ [])) ≡ g.lines
lines_above last g less = ap lines_among (above_one last g less) ∙ nil_last g.lines

pub no_lines : (last : ℕ) (g : Group) → g.number ≤ last → lines_among (groups_above last (g ∷ [])) ≡ []
no_lines last g le = ap lines_among (above_none last g le)

-- each of its slots
slot_at : (g : Group) (index : ℕ) (lines : List GroupLine) (i : ℕ) (l : GroupLine) → slice_get lines i ≡ Some l → slice_get (slots_from g index lines) i ≡ Some (group_slot g (index + i) (Some l))
slot_at g index [] i l got = let bad : ⊥ = cc in absurd bad
slot_at g index (x ∷ lines) zero l got = ap (λ (y : GroupLine). Some (group_slot g index (Some y))) (some_same x l got) ∙ ap (λ (n : ℕ). Some (group_slot g n (Some l))) (let same : index ≡ index + 0 = omega arith in same)
slot_at g index (x ∷ lines) (suc i) l got = slot_at g (index + 1) lines i l got ∙ ap (λ (n : ℕ). Some (group_slot g n (Some l))) (let same : index + 1 + i ≡ index + suc i = omega arith in same)

within : {A : Type 0} (xs : List A) (i : ℕ) (x : A) → slice_get xs i ≡ Some x → i < length xs
within [] i x got = let bad : ⊥ = cc in absurd bad
within (y ∷ xs) zero x got = omega arith
within (y ∷ xs) (suc i) x got = let less = within xs i x got in omega (arith, less)

-- a line of a group that stands may be one of a group
pub allowed_in : (image : Image) (slot : ℕ) (g : Group) → standing image aij_file slot (count_of g) ≡ slots_of g → (i : ℕ) (l : GroupLine) → slice_get g.lines i ≡ Some l → IsAllowedLine l
allowed_in image slot g stands i l got =
    let less = within g.lines i l got in
    let stood : what_stands (image aij_file (slot + i)) ≡ group_slot g (0 + i) (Some l) =
    some_same _ _ (sym (standing_at image aij_file slot (count_of g) i (omega (arith, less))) ∙ ap (λ (ls : List (Option AijPart)). slice_get ls i) stands ∙ slot_at g 0 g.lines i l got) in
    its (subst (λ (w : Option AijPart). Holds (image aij_file (slot + i)) w) stood (standing_slots.stands (image aij_file (slot + i))))
  where
    its : Holds (image aij_file (slot + i)) (group_slot g (0 + i) (Some l)) → IsAllowedLine l
    its is = is.what

-- ---- a journal group by group

-- these groups of the journal were looked at, and the next one begins here
pub record FittedUpTo (image : Image) (pages : ℕ) (before : List GroupLine) (claims : List PageClaim) (journal : Journal) (last slot number : ℕ) : Type 0 where
  pub at : AtGroup journal slot number
  pub are : AreFitted image pages (before ++ lines_among (groups_above last at.passed)) claims

-- lists of one length that begin the same list are the same
same_front : {A : Type 0} (xs zs ys ws : List A) → xs ++ ys ≡ zs ++ ws → length xs ≡ length zs → xs ≡ zs
same_front [] [] ys ws same long = refl
same_front [] (z ∷ zs) ys ws same long = absurd (omega (arith, long))
same_front (x ∷ xs) [] ys ws same long = absurd (omega (arith, long))
same_front (x ∷ xs) (z ∷ zs) ys ws same long =
    let heads : x ≡ z = cc in
    let tails : xs ++ ys ≡ zs ++ ws = cc in
    let rest = same_front xs zs ys ws tails (omega (arith, long)) in
    λ i. heads i ∷ rest i

none_long : {A : Type 0} (xs : List A) → length xs ≡ 0 → xs ≡ []
none_long [] is = refl
none_long (x ∷ xs) is = absurd (omega (arith, is))

pub none_yet : (image : Image) (pages : ℕ) (before : List GroupLine) (claims : List PageClaim) (journal : Journal) (last : ℕ) → AreFitted image pages before claims → FittedUpTo image pages before claims journal last 1 journal.first
none_yet image pages before claims journal last are =
    let at = begins journal in
    let none : at.passed ≡ [] = none_long at.passed (let numbered = at.numbered in omega (arith, numbered)) in
    record {
      at = at;
      are = subst (λ (ps : List Group). AreFitted image pages (before ++ lines_among (groups_above last ps)) claims) (sym none) (none_fitted image pages before [] claims are);
    }

lines_both : (last : ℕ) (xs ys : List Group) → lines_among (groups_above last (xs ++ ys)) ≡ lines_among (groups_above last xs) ++ lines_among (groups_above last ys)
lines_both last xs ys = ap lines_among (above_both last xs ys) ∙ flat_both (λ (g : Group). g.lines) (groups_above last xs) (groups_above last ys)

module _ (image : Image) (pages : ℕ) (before : List GroupLine) (journal : Journal) (stood : Image) (is : IsJournalOf stood journal) (last slot number : ℕ) where
  module _ (g : Group) (whole : IsWhole number g) (stands : standing stood aij_file slot (count_of g) ≡ slots_of g) where
    pub one_more : (old new : List PageClaim) → (was : FittedUpTo image pages before old journal last slot number)
        → AreFitted image pages ((before ++ lines_among (groups_above last was.at.passed)) ++ lines_among (groups_above last (g ∷ []))) new
        → FittedUpTo image pages before new journal last (slot + (length g.lines + 1)) (number + 1)
    one_more old new was now =
        let next = found_next stood journal is slot number was.at g whole stands in
        let at = at_next journal stood is slot number g whole stands was.at in
        let split : at.passed ++ at.rest ≡ (was.at.passed ++ g ∷ []) ++ next.0 = sym at.split ∙ was.at.split ∙ ap (λ (l : List Group). was.at.passed ++ l) next.1 ∙ sym (joins was.at.passed (g ∷ []) next.0) in
        let longer : length (was.at.passed ++ g ∷ []) ≡ length was.at.passed + 1 = length-append was.at.passed (g ∷ []) in
        let long : length at.passed ≡ length (was.at.passed ++ g ∷ []) = (let here = at.numbered in let before_it = was.at.numbered in omega (arith, longer, here, before_it)) in
        let passed = same_front at.passed (was.at.passed ++ g ∷ []) at.rest next.0 split long in
        record {
          at = at;
          are = subst (λ (ps : List Group). AreFitted image pages (before ++ lines_among (groups_above last ps)) new) (sym passed)
              (subst (λ (ls : List GroupLine). AreFitted image pages ls new) (joins before (lines_among (groups_above last was.at.passed)) (lines_among (groups_above last (g ∷ []))) ∙ ap (λ (ls : List GroupLine). before ++ ls) (sym (lines_both last was.at.passed (g ∷ [])))) now);
        }

    -- where all the journal's lines fit, those of this group do behind those before it
    pub rest_fits : (behind : List GroupLine) (at : AtGroup journal slot number) → FitOver image pages (before ++ (lines_among (groups_above last journal.groups) ++ behind))
        → (tail : List GroupLine) × FitOver image pages ((before ++ lines_among (groups_above last at.passed)) ++ (lines_among (groups_above last (g ∷ [])) ++ tail))
    rest_fits behind at fit =
        let next = found_next stood journal is slot number at g whole stands in
        let front = lines_among (groups_above last at.passed) in
        let here = lines_among (groups_above last (g ∷ [])) in
        let late = lines_among (groups_above last next.0) in
        let groups : journal.groups ≡ at.passed ++ (g ∷ next.0) = at.split ∙ ap (λ (l : List Group). at.passed ++ l) next.1 in
        let parts : lines_among (groups_above last journal.groups) ≡ front ++ (here ++ late) = ap (λ (l : List Group). lines_among (groups_above last l)) groups ∙ lines_both last at.passed (g ∷ next.0) ∙ ap (λ (l : List GroupLine). front ++ l) (lines_both last (g ∷ []) next.0) in
        let all : before ++ (lines_among (groups_above last journal.groups) ++ behind) ≡ (before ++ front) ++ (here ++ (late ++ behind)) =
        ap (λ (l : List GroupLine). before ++ (l ++ behind)) parts
        ∙ ap (λ (l : List GroupLine). before ++ l) (joins front (here ++ late) behind ∙ ap (λ (l : List GroupLine). front ++ l) (joins here late behind))
        ∙ sym (joins before front (here ++ (late ++ behind))) in
        (late ++ behind, subst (λ (ls : List GroupLine). FitOver image pages ls) all fit)

  pub all_looked : (claims : List PageClaim) → ((g : Group) → IsWhole number g → standing stood aij_file slot (count_of g) ≡ slots_of g → ⊥) → FittedUpTo image pages before claims journal last slot number → AreFitted image pages (before ++ lines_among (groups_above last journal.groups)) claims
  all_looked claims none was = subst (λ (gs : List Group). AreFitted image pages (before ++ lines_among (groups_above last gs)) claims) (sym (none_next stood journal is slot number was.at none)) was.are

-- ---- one answer

pub same_behind : (a b : ℕ) → Behind a ≡ Behind b → a ≡ b
same_behind a b same = cc
