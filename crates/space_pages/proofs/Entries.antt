-- What stands in the entries of a space page, and stays there.
use Rattle.std.proofs.Common.{ℕ, ◌≡◌, ◌≢◌, ◌≤◌, ◌<◌, ◌+◌, ◌-◌, ◌∙◌, ◌⊎◌, List, [], ◌∷◌, length, take, drop, replicate, arith, inl, inr, ⊎_elim, refl, nat_lt, nat_eq, true, false, Bool, if◌then◌else◌}
use Rattle.std.proofs.lemmas.Bool.Decides.{nat_tests}
use Rattle.std.proofs.Math.Seq.{take-length}
use Rattle.area_files.specs.slot_fields.Fields.{Field, number, number_at}
use Rattle.area_files.proofs.of_slot_fields.Laws.{number_before, number_behind, zero_number, zeros_within}
use Rattle.area_files.specs.Areas.{IsDataPage, space_page_of, index_of}
use Rattle.space_pages.specs.Space.{entry_place, level_at, owner_of, level_of, entries_of, HasNoMore, IsWritten, IsSpace, IsBeside}

abbrev pub entry_fields : ℕ → ℕ → List Field
entry_fields owner level = number 4 owner ∷ number 1 level ∷ []

pub is_or_apart : (i j : ℕ) → (i ≡ j) ⊎ (i ≢ j)
is_or_apart i j = by_test (nat_eq i j) refl
  where
    by_test : (b : Bool) → nat_eq i j ≡ b → (i ≡ j) ⊎ (i ≢ j)
    by_test true is = inl (grind (arith, nat_tests))
    by_test false is = inr (grind (arith, nat_tests))

one_side : (i j : ℕ) → i ≢ j → (i < j) ⊎ (j < i)
one_side i j apart = by_test (nat_lt i j) refl
  where
    by_test : (b : Bool) → nat_lt i j ≡ b → (i < j) ⊎ (j < i)
    by_test true is = inl (grind (arith, nat_tests))
    by_test false is = inr (grind (arith, nat_tests))

-- a number in an entry other than the one that was written, behind a head that was written
pub other_number : (n at index other : ℕ) (old headed new : List ℕ) → other ≢ index → entry_place other ≤ at → at + n ≤ entry_place (other + 1) → drop 24 headed ≡ drop 24 old
    → take (entry_place index) new ≡ take (entry_place index) headed → drop (entry_place (index + 1)) new ≡ drop (entry_place (index + 1)) headed → number_at n at new ≡ number_at n at old
other_number n at index other old headed new apart from to head before behind =
    ⊎_elim
    (λ (less : other < index). number_before n at (entry_place index) headed new (omega (arith, less, to)) before)
    (λ (more : index < other). number_behind n at (entry_place (index + 1)) headed new (omega (arith, more, from)) behind)
    (one_side other index apart)
    ∙ number_behind n at 24 old headed (omega (arith, from)) head

pub apart_index : (page other : ℕ) → IsDataPage page → IsBeside page other → index_of other ≢ index_of page
apart_index page other own beside =
    let plain = own.plain in let first = own.is_page.first in
    let other_plain = beside.is_page.plain in let other_first = beside.is_page.is_page.first in
    let same = beside.same in let apart = beside.apart in
    λ (equal : index_of other ≡ index_of page). absurd (apart (omega (arith, equal, plain, first, other_plain, other_first, same)))

pub entries_bound : (space_page : ℕ) → entries_of space_page ≤ 199
entries_bound space_page = by_test (nat_eq space_page 65401)
  where
    by_test : (b : Bool) → (if b then 135 else 199) ≤ 199
    by_test true = omega arith
    by_test false = omega arith

pub index_within : (page : ℕ) → IsDataPage page → index_of page < entries_of (space_page_of page)
index_within page own = by_test (nat_eq (space_page_of page) 65401) refl
  where
    by_test : (b : Bool) → nat_eq (space_page_of page) 65401 ≡ b → index_of page < (if b then 135 else 199)
    by_test true is =
        let last = own.is_page.last in
        let there : space_page_of page ≡ 65401 = grind (arith, nat_tests) in
        let plain = own.plain in
        omega (arith, there, last, plain)
    by_test false is = let plain = own.plain in omega (arith, plain)

-- zeros, or entries that were written, have levels, and no bytes behind the last entry
pub old_level : (spam : List ℕ) (space_page index : ℕ) → length spam ≡ 1024 → IsSpace spam space_page → index < entries_of space_page → level_at index spam ≤ 3
old_level spam space_page index size is less =
    ⊎_elim
    (λ (zeros : spam ≡ replicate (length spam) 0).
    let none : level_at index spam ≡ 0 = zero_number 0 (length spam) (entry_place index + 4) 1 spam (omega arith) (omega (arith, size, less, entries_bound space_page)) (take-length spam ∙ zeros) in
    omega (arith, none))
    (λ (written : IsWritten spam space_page). written.levels index less)
    is.bytes

pub old_rest : (spam : List ℕ) (space_page : ℕ) → length spam ≡ 1024 → IsSpace spam space_page → HasNoMore spam (entries_of space_page)
old_rest spam space_page size is =
    let end = entry_place (entries_of space_page) in
    ⊎_elim
    (λ (zeros : spam ≡ replicate (length spam) 0). (zeros_within 0 (length spam) end (1024 - end) spam (omega arith) (omega (arith, size, entries_bound space_page)) (take-length spam ∙ zeros), tt))
    (λ (written : IsWritten spam space_page). written.rest)
    is.bytes

-- what zeros say of a page
pub no_owner : (spam : List ℕ) (page : ℕ) → length spam ≡ 1024 → spam ≡ replicate (length spam) 0 → IsDataPage page → owner_of page spam ≡ 0
no_owner spam page size zeros own = zero_number 0 (length spam) (entry_place (index_of page)) 4 spam (omega arith) (omega (arith, size, index_within page own, entries_bound (space_page_of page))) (take-length spam ∙ zeros)

pub no_level : (spam : List ℕ) (page : ℕ) → length spam ≡ 1024 → spam ≡ replicate (length spam) 0 → IsDataPage page → level_of page spam ≡ 0
no_level spam page size zeros own = zero_number 0 (length spam) (entry_place (index_of page) + 4) 1 spam (omega arith) (omega (arith, size, index_within page own, entries_bound (space_page_of page))) (take-length spam ∙ zeros)
