-- A line that bears a transaction has its place, on a page within the limit.
use Rattle.std.specs.Prelude.{if◌then◌else◌}
use Rattle.std.proofs.Common.{◌≡◌, ◌≢◌, ℕ, ◌-◌, ◌%◌, ◌≤◌, ◌<◌, Bool, true, false, List, ⊎_elim, nat_le, nat_eq, drop, replicate, ap, sym, subst, ◌∙◌, arith, refl}
use Rattle.std.proofs.lemmas.Bool.{leb-true}
use Rattle.std.proofs.lemmas.Bool.Decides.{nat_tests}
use Rattle.rdb_types.specs.declared.keys.Dbkey.{Dbkey}
use Rattle.line_store.specs.rdb_page.Page.{IsOwner, IsUnused}
use Rattle.line_store.specs.rdb_page.Whole.{IsUsedPage}
use Rattle.line_store.specs.rdb_outside.Disk.{zeros}
use Rattle.line_store.specs.area_files.Areas.{IsPage, IsDataPage}
use Rattle.stable_lines.specs.line_versions.Lines.{storage_area}
use Rattle.stable_lines.specs.Slots.{file_of, slot_of, owner_at, has_place, line_on, IsAreaFile}
use Rattle.stable_lines.specs.Progress.{Progress}
use Rattle.stable_lines.specs.Facts.{PendingContents, OnPage, Facts}
use Rattle.byteorder.specs.Endian.{little_from}
use Rattle.slot_fields.specs.Fields.{number_at}
use Rattle.rdb_types.specs.File.{slot_bytes}
use Rattle.stable_lines.proofs.Never.{zeros_owner, space_owner, little_zeros, zero_behind}
use Rattle.line_moves.specs.declared.places.Place.{Place}
use Rattle.line_moves.specs.Changes.{IsPlaceOf}
use Rattle.line_moves.proofs.Putting.{place_says}
use Rattle.line_moves.proofs.Reading.{owner_is, line_none}

abbrev pub key_place : Dbkey → Place
key_place key = record { file = storage_area key.area; page = key.page }

area_of : (area : ℕ) → IsAreaFile (storage_area area)
area_of area = by (nat_eq area 1) (nat_eq (area % 2) 0)
  where
    by : (a b : Bool) → IsAreaFile (if a then 1 else (if b then 2 else 3))
    by true b = record { first = omega arith; last = omega arith }
    by false true = record { first = omega arith; last = omega arith }
    by false false = record { first = omega arith; last = omega arith }

-- zeros name no owner
zeros_name_none : (x : List ℕ) (n : ℕ) → x ≡ replicate n 0 → owner_at x ≡ 0
unfolding number_at
zeros_name_none x n is = ap (λ (l : List ℕ). little_from 0 4 (drop 8 l)) is ∙ little_zeros 0 4 (drop 8 (replicate n 0)) (zero_behind 8 n)

module _ (P : PendingContents) (now : Progress) (was : Facts P now) (key : Dbkey) (x : List ℕ) (there : OnPage P key x) (bears : 1 ≤ (line_on key x).tsn.number) where
  pub has : has_place key x ≡ true
  has = by (has_place key x) refl
    where
      by : (b : Bool) → has_place key x ≡ b → has_place key x ≡ true
      by true is = is
      by false none = absurd (let zero_is : (line_on key x).tsn.number ≡ 0 = ap (λ l. l.tsn.number) (line_none key x none) in omega (arith, zero_is, bears))

  some : 1 ≤ key.area
  some = (place_says key x has).area

  owned : owner_at x ≡ key.area
  owned = (place_says key x has).owned

  no_owner : owner_at x ≡ 0 → ⊥
  no_owner none = omega (arith, none, some, owned)

  is_page : IsPage key.page
  is_page = record { first = (place_says key x has).first; last = (place_says key x has).last }

  plain : (key.page - 1) % 200 ≢ 0
  plain space = no_owner (space_owner x key.page (was.pages.space (storage_area key.area) key.page x (area_of key.area) is_page space there))

  is_data : IsDataPage key.page
  is_data = record { is_page = is_page; plain = plain }

  owner : IsOwner (storage_area key.area) key.area
  owner = ⊎_elim (λ (unused : IsUnused x). absurd (no_owner (zeros_owner x unused)))
      (λ (used : IsUsedPage (storage_area key.area) key.page x). subst (λ (n : ℕ). IsOwner (storage_area key.area) n) (sym (owner_is x used.head used.stands.head) ∙ owned) used.stands.owner)
      (was.pages.page (storage_area key.area) key.page x (area_of key.area) is_data there)

  pub has_its_place : IsPlaceOf key (key_place key)
  has_its_place = record { owner = owner; page = refl; is_data = is_data }

  pub within_limit : key.page ≤ now.limits.pages
  within_limit = by (nat_le key.page now.limits.pages) refl
    where
      by : (b : Bool) → nat_le key.page now.limits.pages ≡ b → key.page ≤ now.limits.pages
      by true is = leb-true key.page now.limits.pages is
      by false isnt =
          let over : now.limits.pages < key.page = grind (arith, nat_tests) in
          let first = is_page.first in let last = is_page.last in
          let zeros_are : x ≡ zeros (file_of key) = was.pages.past (storage_area key.area) (slot_of key) x (area_of key.area) (omega (arith, over, first)) (omega (arith, last, first)) there in
          absurd (no_owner (zeros_name_none x (slot_bytes (file_of key)) zeros_are))
