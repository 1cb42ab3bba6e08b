-- The copies and the journal, one behind another.
use Rattle.std.proofs.Common.{◌≡◌, ℕ, suc, ◌+◌, ◌-◌, ◌≤◌, ◌<◌, max, List, [], ◌∷◌, ◌++◌, length, map, Some, None, slice_get, refl, sym, ◌∙◌, ap, subst, arith, length-append}
use Rattle.rdb_types.specs.declared.file.FileId.{FileId}
use Rattle.rdb_outside.specs.Disk.{Image}
use Rattle.journal_scan.specs.declared.group.Group.{Group}
use Rattle.new_database.specs.Maker.{aij_file}
use Rattle.line_view.specs.declared.writes.Write.{Write}
use Rattle.stable_lines.specs.Journal.{Journal, IsJournalOf, next_number, write_of}
use Rattle.stable_lines.specs.Rolling.{groups_above}
use Rattle.stable_lines.proofs.Lists.{got_left, got_right}
use Rattle.rolled_lines.specs.HalfLaid.{writes_of}
use Rattle.rolled_lines.specs.Journals.{follow, laid, gap, behind}
use Rattle.journal_backup.specs.Copied.{copy_named}
use Rattle.fitted_groups.specs.laid_groups.declared.passing.Reached.{Reached}
use Rattle.fitted_groups.specs.laid_groups.Forward.{Forward, FitAll}
use Rattle.fitted_groups.specs.laid_groups.Laid.{LaidOver}
use Rattle.fitted_groups.specs.laid_groups.Passing.{IsJournalIn, ceiling_behind, reached_behind}
use Rattle.fitted_groups.proofs.of_laid_groups.Behind.{flat_both}
use Rattle.fitted_groups.proofs.of_laid_groups.Running.{laid_on}
use Rattle.fitted_groups.proofs.of_laid_groups.Walking.{seen_same, ceiling_both}
use Rattle.rmu_recover.specs.Journals.{files_of, AreJournalsIn, FollowsTo}
use Rattle.rmu_recover.proofs.Following.{none_behind, goes_on, too_late, follows_rest, counted, behind_more, behind_gap}

some_same : {A : Type 0} (a b : A) → Some a ≡ Some b → a ≡ b
some_same a b same = cc

nil_last : {A : Type 0} (l : List A) → l ++ [] ≡ l
nil_last [] = refl
nil_last (x ∷ l) = ap (λ r. x ∷ r) (nil_last l)

-- ---- the next journal

pub record NextIn (image : Image) (file : FileId) (files : List FileId) (left : List Journal) : Type 0 where
  pub journal : Journal
  pub journals : List Journal
  pub is : left ≡ journal ∷ journals
  pub here : IsJournalIn image file journal
  pub more : AreJournalsIn image files journals

pub next_in : (image : Image) (file : FileId) (files : List FileId) (left : List Journal) → AreJournalsIn image (file ∷ files) left → NextIn image file files left
next_in image file files [] there = absurd there
next_in image file files (j ∷ js) there = record { journal = j; journals = js; is = refl; here = there.0; more = there.1 }

none_left : (image : Image) (left : List Journal) → AreJournalsIn image [] left → left ≡ []
none_left image [] there = refl
none_left image (j ∷ js) there = absurd there

-- where the file is as it was
pub journal_there : (old new : Image) (file : FileId) (journal : Journal) → ((slot : ℕ) → new file slot ≡ old file slot) → IsJournalIn old file journal → IsJournalIn new file journal
journal_there old new file journal same = subst (λ (m : Image). IsJournalOf m journal) (sym (seen_same old new file same))

-- ---- copies, one behind another

pub one_on : (front : List ℕ) (n : ℕ) (tail : List ℕ) → front ++ n ∷ tail ≡ (front ++ n ∷ []) ++ tail
one_on [] n tail = refl
one_on (x ∷ front) n tail = ap (λ (l : List ℕ). x ∷ l) (one_on front n tail)

pub record AtCopy (copies : List ℕ) (index : ℕ) : Type 0 where
  pub passed : List ℕ
  pub rest : List ℕ
  pub split : copies ≡ passed ++ rest
  pub long : index ≡ length passed

pub first_copy : (copies : List ℕ) → AtCopy copies 0
first_copy copies = record { passed = []; rest = copies; split = refl; long = refl }

at_place : (passed : List ℕ) (n : ℕ) (tail : List ℕ) → slice_get (passed ++ n ∷ tail) (length passed) ≡ Some n
at_place [] n tail = refl
at_place (x ∷ passed) n tail = at_place passed n tail

-- the copy of this place comes next
pub this_copy : (copies : List ℕ) (index number : ℕ) (at : AtCopy copies index) → slice_get copies index ≡ Some number → (tail : List ℕ) × (at.rest ≡ number ∷ tail)
this_copy copies index number at got = by at.rest refl
  where
    by : (l : List ℕ) → at.rest ≡ l → (tail : List ℕ) × (at.rest ≡ number ∷ tail)
    by [] none = absurd (let bad : None ≡ Some number = sym (past at.passed) ∙ ap (λ (n : ℕ). slice_get at.passed n) (sym at.long) ∙ ap (λ (l : List ℕ). slice_get l index) (sym (at.split ∙ ap (λ (r : List ℕ). at.passed ++ r) none ∙ nil_last at.passed)) ∙ got in let no : ⊥ = cc in no)
      where
        past : (l : List ℕ) → slice_get l (length l) ≡ None
        past [] = refl
        past (x ∷ l) = past l
    by (n ∷ tail) some = (tail, some ∙ ap (λ (x : ℕ). x ∷ tail) (some_same n number (sym (at_place at.passed n tail) ∙ ap (λ (i : ℕ). slice_get (at.passed ++ n ∷ tail) i) (sym at.long) ∙ ap (λ (l : List ℕ). slice_get l index) (sym (at.split ∙ ap (λ (r : List ℕ). at.passed ++ r) some)) ∙ got)))

abbrev pub copy_on : (copies : List ℕ) (index number : ℕ) (at : AtCopy copies index) (tail : List ℕ) → at.rest ≡ number ∷ tail → AtCopy copies (index + 1)
copy_on copies index number at tail some = record {
  passed = at.passed ++ number ∷ [];
  rest = tail;
  split = at.split ∙ ap (λ (l : List ℕ). at.passed ++ l) some ∙ one_on at.passed number tail;
  long = let longer : length (at.passed ++ number ∷ []) ≡ length at.passed + 1 = length-append at.passed (number ∷ []) in let long = at.long in omega (arith, longer, long);
}

pub no_more_copies : (copies : List ℕ) (index : ℕ) (at : AtCopy copies index) → length copies ≤ index → at.rest ≡ []
no_more_copies copies index at le = by at.rest refl
  where
    by : (l : List ℕ) → at.rest ≡ l → at.rest ≡ []
    by [] none = none
    by (n ∷ tail) some = absurd (let long = at.long in let sizes : length copies ≡ length at.passed + suc (length tail) = ap length (at.split ∙ ap (λ (r : List ℕ). at.passed ++ r) some) ∙ length-append at.passed (n ∷ tail) in omega (arith, le, long, sizes))

-- ---- passed

pub record PassedTo (image : Image) (copies : List ℕ) (at : Reached) (journals : List Journal) (index : ℕ) (reached : Reached) : Type 0 where
  pub copy : AtCopy copies index
  pub left : List Journal
  pub there : AreJournalsIn image (files_of copy.rest) left
  pub groups : List Group
  pub follows : follow at.last journals ≡ behind groups (follow reached.last left)
  pub last : reached.last ≡ at.last + length groups
  pub ceiling : reached.ceiling ≡ ceiling_behind at.ceiling groups

pub none_passed : (image : Image) (copies : List ℕ) (at : Reached) (journals : List Journal) → AreJournalsIn image (files_of copies) journals → PassedTo image copies at journals 0 at
unfolding first_copy
none_passed image copies at journals there = record {
  copy = first_copy copies;
  left = journals;
  there = there;
  groups = [];
  follows = none_behind (follow at.last journals);
  last = omega arith;
  ceiling = refl;
}

-- one journal of those that are left
module _ (at reached next : Reached) (journals left : List Journal) (groups : List Group) (follows : follow at.last journals ≡ behind groups (follow reached.last left)) (last : reached.last ≡ at.last + length groups) (ceiling : reached.ceiling ≡ ceiling_behind at.ceiling groups)
    (image : Image) (file : FileId) (files : List FileId) (found : NextIn image file files left) where
  follows_left : follow at.last journals ≡ behind groups (follow reached.last (found.journal ∷ found.journals))
  follows_left = follows ∙ ap (λ (l : List Journal). behind groups (follow reached.last l)) found.is

  pub gap_left : reached.last + 1 < found.journal.first → follow at.last journals ≡ gap (reached.last + 1)
  gap_left lt = behind_gap groups (follow at.last journals) (follow reached.last (found.journal ∷ found.journals)) (reached.last + 1) follows_left (too_late reached.last found.journal found.journals lt)

  module _ (le : found.journal.first ≤ reached.last + 1) (is : next ≡ reached_behind reached found.journal) where
    abbrev pub more_groups : List Group
    more_groups = groups_above reached.last found.journal.groups

    next_last : next.last ≡ max reached.last (next_number found.journal - 1)
    next_last = ap (λ (r : Reached). r.last) is

    pub follows_more : follow at.last journals ≡ behind (groups ++ groups_above reached.last found.journal.groups) (follow next.last found.journals)
    follows_more = behind_more groups (groups_above reached.last found.journal.groups) (follow at.last journals) (follow reached.last (found.journal ∷ found.journals)) (follow next.last found.journals) follows_left
        (goes_on reached.last found.journal found.journals le ∙ ap (λ (n : ℕ). behind (groups_above reached.last found.journal.groups) (follow n found.journals)) (sym next_last))

    pub last_more : next.last ≡ at.last + length (groups ++ groups_above reached.last found.journal.groups)
    last_more =
        let counts = next_last ∙ counted reached.last found.journal found.here.whole le in
        let sizes : length (groups ++ groups_above reached.last found.journal.groups) ≡ length groups + length (groups_above reached.last found.journal.groups) = length-append groups (groups_above reached.last found.journal.groups) in
        omega (arith, counts, sizes, last)

    pub ceiling_more : next.ceiling ≡ ceiling_behind at.ceiling (groups ++ groups_above reached.last found.journal.groups)
    ceiling_more = ap (λ (r : Reached). r.ceiling) is ∙ ap (λ (n : ℕ). ceiling_behind n (groups_above reached.last found.journal.groups)) ceiling ∙ sym (ceiling_both at.ceiling groups (groups_above reached.last found.journal.groups))

module _ (image : Image) (copies : List ℕ) (at : Reached) (journals : List Journal) (index : ℕ) (reached : Reached) (was : PassedTo image copies at journals index reached) where
  pub next_copy : (number : ℕ) (tail : List ℕ) → was.copy.rest ≡ number ∷ tail → NextIn image (copy_named number) (files_of tail) was.left
  next_copy number tail some = next_in image (copy_named number) (files_of tail) was.left (subst (λ (l : List ℕ). AreJournalsIn image (files_of l) was.left) some was.there)

  pub last_next : was.copy.rest ≡ [] → NextIn image aij_file [] was.left
  last_next none = next_in image aij_file [] was.left (subst (λ (l : List ℕ). AreJournalsIn image (files_of l) was.left) none was.there)

  pub passed_on : (number : ℕ) (tail : List ℕ) (some : was.copy.rest ≡ number ∷ tail) (next : Reached) → (next_copy number tail some).journal.first ≤ reached.last + 1 → next ≡ reached_behind reached (next_copy number tail some).journal → PassedTo image copies at journals (index + 1) next
  passed_on number tail some next le is =
      let found = next_copy number tail some in
      record {
        copy = copy_on copies index number was.copy tail some;
        left = found.journals;
        there = found.more;
        groups = was.groups ++ groups_above reached.last found.journal.groups;
        follows = follows_more at reached next journals was.left was.groups was.follows was.last was.ceiling image (copy_named number) (files_of tail) found le is;
        last = last_more at reached next journals was.left was.groups was.follows was.last was.ceiling image (copy_named number) (files_of tail) found le is;
        ceiling = ceiling_more at reached next journals was.left was.groups was.follows was.last was.ceiling image (copy_named number) (files_of tail) found le is;
      }

  pub passed_all : (none : was.copy.rest ≡ []) (next : Reached) → (last_next none).journal.first ≤ reached.last + 1 → next ≡ reached_behind reached (last_next none).journal → FollowsTo at journals next
  passed_all none next le is =
      let found = last_next none in
      let over = none_left image found.journals found.more in
      let groups = was.groups ++ groups_above reached.last found.journal.groups in
      record {
        groups = was.groups ++ groups_above reached.last found.journal.groups;
        follows = follows_more at reached next journals was.left was.groups was.follows was.last was.ceiling image aij_file [] found le is
            ∙ ap (λ (l : List Journal). behind (was.groups ++ groups_above reached.last found.journal.groups) (follow next.last l)) over
            ∙ ap laid (nil_last (was.groups ++ groups_above reached.last found.journal.groups));
        last = last_more at reached next journals was.left was.groups was.follows was.last was.ceiling image aij_file [] found le is;
        ceiling = ceiling_more at reached next journals was.left was.groups was.follows was.last was.ceiling image aij_file [] found le is;
      }

-- ---- laid

pub record LaidTo (image : Image) (copies : List ℕ) (groups : List Group) (index last : ℕ) : Type 0 where
  pub copy : AtCopy copies index
  pub left : List Journal
  pub there : AreJournalsIn image (files_of copy.rest) left
  pub front : List Group
  pub back : List Group
  pub all : groups ≡ front ++ back
  pub follows : follow last left ≡ laid back

pub record LaidSoFar (forward : Forward) (image : Image) (copies : List ℕ) (groups : List Group) (index last : ℕ) (old new : Image) : Type 0 where
  pub at : LaidTo image copies groups index last
  pub laid : LaidOver forward (writes_of at.front) old new

abbrev pub none_yet : (image : Image) (copies : List ℕ) (last : ℕ) (journals : List Journal) (groups : List Group) → AreJournalsIn image (files_of copies) journals → follow last journals ≡ laid groups → LaidTo image copies groups 0 last
none_yet image copies last journals groups there is = record { copy = record { passed = []; rest = copies; split = refl; long = refl }; left = journals; there = there; front = []; back = groups; all = refl; follows = is }

-- one journal of those that are left
module _ (image : Image) (copies : List ℕ) (groups : List Group) (index last : ℕ) (at : LaidTo image copies groups index last) (file : FileId) (files : List FileId) (found : NextIn image file files at.left) where
  abbrev pub here_groups : List Group
  here_groups = groups_above last found.journal.groups

  pub rest_of : (rest : List Group) × ((follow (max last (next_number found.journal - 1)) found.journals ≡ laid rest) × (at.back ≡ groups_above last found.journal.groups ++ rest))
  rest_of = follows_rest last found.journal found.journals at.back (ap (λ (l : List Journal). follow last l) (sym found.is) ∙ at.follows)

  parts : groups ≡ at.front ++ (groups_above last found.journal.groups ++ rest_of.0)
  parts = at.all ∙ ap (λ (l : List Group). at.front ++ l) rest_of.1.1

  pub fits_here : (forward : Forward) → FitAll forward groups → FitAll forward (groups_above last found.journal.groups)
  fits_here forward fits i g got = fits (length at.front + i) g
      (ap (λ (l : List Group). slice_get l (length at.front + i)) parts ∙ got_right at.front (groups_above last found.journal.groups ++ rest_of.0) i g (got_left (groups_above last found.journal.groups) rest_of.0 i g got))

  pub laid_more : (forward : Forward) (old mid new : Image) → LaidOver forward (writes_of at.front) old mid → LaidOver forward (writes_of (groups_above last found.journal.groups)) mid new → LaidOver forward (writes_of (at.front ++ groups_above last found.journal.groups)) old new
  laid_more forward old mid new was now = subst (λ (ws : List Write). LaidOver forward ws old new) (sym (flat_both (λ (g : Group). map write_of g.lines) at.front (groups_above last found.journal.groups)))
      (laid_on forward (writes_of at.front) (writes_of (groups_above last found.journal.groups)) old mid new was now)

  pub joined : groups ≡ (at.front ++ groups_above last found.journal.groups) ++ rest_of.0
  joined = parts ∙ sym (joins at.front (groups_above last found.journal.groups) rest_of.0)
    where
      joins : (x y z : List Group) → (x ++ y) ++ z ≡ x ++ (y ++ z)
      joins [] y z = refl
      joins (g ∷ x) y z = ap (λ (l : List Group). g ∷ l) (joins x y z)

module _ (image : Image) (copies : List ℕ) (groups : List Group) (index last : ℕ) (at : LaidTo image copies groups index last) where
  pub copy_next : (number : ℕ) (tail : List ℕ) → at.copy.rest ≡ number ∷ tail → NextIn image (copy_named number) (files_of tail) at.left
  copy_next number tail some = next_in image (copy_named number) (files_of tail) at.left (subst (λ (l : List ℕ). AreJournalsIn image (files_of l) at.left) some at.there)

  pub journal_last : at.copy.rest ≡ [] → NextIn image aij_file [] at.left
  journal_last none = next_in image aij_file [] at.left (subst (λ (l : List ℕ). AreJournalsIn image (files_of l) at.left) none at.there)

  abbrev pub laid_to_next : (number : ℕ) (tail : List ℕ) (some : at.copy.rest ≡ number ∷ tail) (next : ℕ) → next ≡ max last (next_number (copy_next number tail some).journal - 1) → LaidTo image copies groups (index + 1) next
  laid_to_next number tail some next is =
      let found = copy_next number tail some in
      let rest = rest_of image copies groups index last at (copy_named number) (files_of tail) found in
      record {
        copy = copy_on copies index number at.copy tail some;
        left = found.journals;
        there = found.more;
        front = at.front ++ groups_above last found.journal.groups;
        back = rest.0;
        all = joined image copies groups index last at (copy_named number) (files_of tail) found;
        follows = ap (λ (n : ℕ). follow n found.journals) is ∙ rest.1.0;
      }

  -- with the journal itself all are laid
  pub all_front : (none : at.copy.rest ≡ []) → groups ≡ at.front ++ groups_above last (journal_last none).journal.groups
  all_front none =
      let found = journal_last none in
      let rest = rest_of image copies groups index last at aij_file [] found in
      let over = none_left image found.journals found.more in
      let nothing : rest.0 ≡ [] = by rest.0 (sym (ap (λ (l : List Journal). follow (max last (next_number found.journal - 1)) l) over) ∙ rest.1.0) in
      joined image copies groups index last at aij_file [] found ∙ ap (λ (l : List Group). (at.front ++ groups_above last found.journal.groups) ++ l) nothing ∙ nil_last (at.front ++ groups_above last found.journal.groups)
    where
      by : (rest : List Group) → laid [] ≡ laid rest → rest ≡ []
      by [] is = refl
      by (g ∷ rest) is = let bad : ⊥ = cc in absurd bad
