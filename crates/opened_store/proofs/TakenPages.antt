-- Pages that are taken by the tables are taken by the image.
use Rattle.std.specs.Prelude.{nat_le, if◌then◌else◌}
use Rattle.std.proofs.Common.{◌≡◌, ◌≢◌, ◌⊎◌, inl, inr, ⊎_elim, ℕ, zero, suc, ◌-◌, ◌%◌, ◌==◌, ◌&&◌, not, ◌≤◌, Bool, true, false, List, length, replicate, slice_index_or, refl, sym, ap, ◌∙◌, arith}
use Rattle.std.proofs.lemmas.Bool.{eqb-true, leb-true, and_parts, true≢false}
use Rattle.std.proofs.lemmas.List.{length-replicate}
use Rattle.rdb_outside.specs.Disk.{Image}
use Rattle.area_files.specs.Areas.{IsPage, IsDataPage, IsSpacePage, space_page_of}
use Rattle.stable_lines.specs.Slots.{IsAreaFile, area_file}
use Rattle.space_pages.specs.Space.{owner_of}
use Rattle.database_opening.specs.Owners.{owner_said}
use Rattle.page_table.specs.declared.uses.PageUse.{PageUse}
use Rattle.page_table.specs.Pages.{Pages, nobodys, owner_in}
use Rattle.page_table.specs.Scans.{IsNew}
use Rattle.store_shows.specs.Rooms.{is_free}
use Rattle.store_shows.proofs.Taken.{new_free}
use Rattle.disk_store.specs.declared.held.Tables.{Tables}
use Rattle.disk_store.specs.Shown.{pages_of}
use Rattle.opened_store.specs.Tables.{AreTablesOf}
use Rattle.opened_store.specs.Opened.{is_taken_in}

-- ---- the tables

abbrev others : Tables → Pages
others tables = replicate (length tables.indexes) nobodys

-- a file that isn't an area's has a table without owners
file-cases : (tables : Tables) (file : ℕ) → IsAreaFile file ⊎ (pages_of tables file ≡ others tables)
file-cases tables file = pick (file == 1) (file == 2) (file == 3) refl refl refl
  where
    pick : (a b c : Bool) → (file == 1) ≡ a → (file == 2) ≡ b → (file == 3) ≡ c → IsAreaFile file ⊎ (pages_of tables file ≡ others tables)
    pick true b c one two three = let is : file ≡ 1 = eqb-true file 1 one in inl (record { first = omega (arith, is); last = omega (arith, is) })
    pick false true c one two three = let is : file ≡ 2 = eqb-true file 2 two in inl (record { first = omega (arith, is); last = omega (arith, is) })
    pick false false true one two three = let is : file ≡ 3 = eqb-true file 3 three in inl (record { first = omega (arith, is); last = omega (arith, is) })
    pick false false false one two three = inr (λ i. if one i then tables.catalog else (if two i then tables.relations else (if three i then tables.indexes else others tables)))

pub tables-long : (image : Image) (limit : ℕ) (tables : Tables) → AreTablesOf image limit tables → (file : ℕ) → length (pages_of tables file) ≡ limit
tables-long image limit tables are file = ⊎_elim
    (λ (is : IsAreaFile file). (are file is).long)
    (λ (none : pages_of tables file ≡ others tables). ap (λ (t : Pages). length t) none ∙ length-replicate (length tables.indexes) nobodys ∙ (are 3 (record { first = omega arith; last = omega arith })).long)
    (file-cases tables file)

none-there : (n i : ℕ) → slice_index_or (replicate n nobodys) i nobodys ≡ nobodys
none-there zero i = refl
none-there (suc n) zero = refl
none-there (suc n) (suc i) = none-there n i

-- ---- what is free by an image is free by its tables

not-true : (b : Bool) → not b ≡ true → b ≡ false
not-true true is = absurd (true≢false (sym is))
not-true false is = refl

module _ (image old : Image) (limit : ℕ) (few : limit ≤ 65536) (tables : Tables) (are : AreTablesOf image limit tables) (said : (file page : ℕ) → IsDataPage page → owner_said image file page ≡ owner_said old file page) where
  unowned : (file page : ℕ) → IsDataPage page → page ≤ limit → owner_said old file page ≡ 0 → owner_in (pages_of tables file) page ≡ 0
  unowned file page is le none = ⊎_elim
      (λ (area : IsAreaFile file). ⊎_elim
      (λ free. ap (λ (u : PageUse). u.owner) free.1)
      (λ owned. let some = owned.0 in let same = said file page is in absurd (omega (arith, some, same, none)))
      ((are file area).page page is le))
      (λ (other : pages_of tables file ≡ others tables). ap (λ (t : Pages). owner_in t page) other ∙ ap (λ (u : PageUse). u.owner) (none-there (length tables.indexes) (page - 1)))
      (file-cases tables file)

  module _ (file page : ℕ) where
    abbrev may_be : Bool
    may_be = nat_le 1 page && nat_le page limit && not ((page - 1) % 200 == 0) && (owner_said old file page == 0)

    is-new : may_be ≡ true → IsNew (pages_of tables file) page
    is-new all =
        let a = nat_le 1 page in let b = nat_le page limit in let c = not ((page - 1) % 200 == 0) in let d = owner_said old file page == 0 in
        let four = and_parts (a && b && c) d all in let three = and_parts (a && b) c four.0 in let two = and_parts a b three.0 in
        let first : 1 ≤ page = leb-true 1 page two.0 in
        let within : page ≤ limit = leb-true page limit two.1 in
        let plain : (page - 1) % 200 ≢ 0 = (λ space. true≢false (sym (ap (λ (n : ℕ). n == 0) space) ∙ not-true ((page - 1) % 200 == 0) three.1)) in
        let long = tables-long image limit tables are file in
        record {
          first = first;
          within = omega (arith, within, long);
          plain = plain;
          free = unowned file page (record { is_page = record { first = first; last = omega (arith, within, few) }; plain = plain }) within (eqb-true (owner_said old file page) 0 four.1);
        }

    pub taken-there : not (is_free (pages_of tables file) page) ≡ true → is_taken_in old limit file page ≡ true
    taken-there taken = by may_be refl
      where
        by : (t : Bool) → may_be ≡ t → not may_be ≡ true
        by true all = absurd (true≢false (sym taken ∙ ap not (new_free (pages_of tables file) page (is-new all))))
        by false none = ap not none

-- ---- whose a page is, by its space page

pub same-said : (old new : Image) → ((file page : ℕ) → IsPage page → IsSpacePage page → new (area_file file) (page - 1) ≡ old (area_file file) (page - 1)) → (file page : ℕ) → IsDataPage page → owner_said new file page ≡ owner_said old file page
same-said old new spaces file page is =
    let first = is.is_page.first in
    let last = is.is_page.last in
    ap (λ (b : List ℕ). owner_of page b) (spaces file (space_page_of page) (record { first = space-first page first; last = space-last page last }) (on-space page first))
  where
    space-first : (n : ℕ) → 1 ≤ n → 1 ≤ space_page_of n
    space-first n first = omega arith

    space-last : (n : ℕ) → n ≤ 65536 → space_page_of n ≤ 65536
    space-last n last = omega arith

    on-space : (n : ℕ) → 1 ≤ n → (space_page_of n - 1) % 200 ≡ 0
    on-space n first = omega arith
