-- The table of an area file, and the lines that are present in an image.
use Rattle.std.proofs.Common.{◌≡◌, ℕ, ◌-◌, ◌≤◌, ◌<◌, Bool, true, false, List, length, replicate, ⊎_elim, refl, sym, ◌∙◌, ap, subst, arith}
use Rattle.std.proofs.lemmas.List.{length-replicate}
use Rattle.rdb_types.specs.declared.keys.Dbkey.{Dbkey}
use Rattle.rdb_types.specs.declared.keys.Line.{Line}
use Rattle.rdb_types.specs.declared.keys.LineState.{LineState}
use Rattle.rdb_types.specs.declared.keys.LineState.TheVariants.{Never, Present, Erased}
use Rattle.rdb_types.specs.File.{slot_bytes}
use Rattle.rdb_outside.specs.Disk.{Image}
use Rattle.rdb_page.specs.Page.{IsOwner, lines_of}
use Rattle.area_files.specs.Areas.{IsDataPage}
use Rattle.database_opening.specs.stable_lines.Slots.{area_file, owner_at, has_place, line_on, line_at}
use Rattle.database_opening.specs.stable_lines.Kept.{IsWellFormed}
use Rattle.database_opening.proofs.of_stable_lines.Never.{zeros_owner}
use Rattle.database_opening.specs.line_moves.declared.places.Place.{Place}
use Rattle.database_opening.specs.line_moves.Changes.{IsPlaceOf}
use Rattle.database_opening.proofs.of_line_moves.KeyPlaces.{area_is, some_area, place_content}
use Rattle.database_opening.proofs.of_line_moves.Putting.{place_says}
use Rattle.database_opening.proofs.of_line_moves.Reading.{line_none}
use Rattle.database_opening.specs.Owners.{owner_said}
use Rattle.page_table.specs.declared.uses.PageUse.{PageUse}
use Rattle.page_table.specs.Pages.{Pages, nobodys, use_of, is_present, has_image, IsUsedLine}
use Rattle.page_table.specs.Reading.{line_of, SaysUse, IsTableOf}

present : (s : LineState) → is_present s ≡ true → s ≡ Present
present Never is = let bad : ⊥ = cc in absurd bad
present Present is = refl
present Erased is = let bad : ⊥ = cc in absurd bad

all_zeros : (page : List ℕ) (n : ℕ) → page ≡ replicate n 0 → owner_at page ≡ 0
all_zeros page n is = zeros_owner page (is ∙ ap (λ (k : ℕ). replicate k 0) (sym (ap (λ (l : List ℕ). length l) is ∙ length-replicate n 0)))

not_more : (a b : ℕ) → (b < a → ⊥) → a ≤ b
not_more a b none = grind arith

module _ (image : Image) (file pages : ℕ) (table : Pages) (formed : IsWellFormed image pages) (is : IsTableOf image file pages table) (key : Dbkey) (owner : IsOwner file key.area) (on_data : IsDataPage key.page) where
  abbrev place : Place
  place = record { file = file; page = key.page }

  names : IsPlaceOf key place
  names = record { owner = owner; page = refl; is_data = on_data }

  abbrev bytes : List ℕ
  bytes = image (area_file file) (key.page - 1)

  stands_on : line_at image key ≡ line_on key bytes
  stands_on = ap (λ (b : List ℕ). line_on key b) (sym (place_content image key place names))

  image_is : SaysUse key.page bytes (use_of table key.page) → owner_at bytes ≡ key.area → has_image (use_of table key.page) key.line ≡ is_present (line_at image key).state
  image_is says owned =
      let same : line_of key.page bytes key.line ≡ line_on key bytes = λ i. line_on (record { area = owned i; page = key.page; line = key.line }) bytes in
      ap is_present (says.states key.line) ∙ ap (λ (l : Line). is_present l.state) (same ∙ sym stands_on)

  pub used_is_present : IsUsedLine table key → (line_at image key).state ≡ Present
  used_is_present used = ⊎_elim none some (is.page key.page on_data (let last = used.is_line.within.last in let long = is.long in omega (arith, last, long)))
    where
      none : (owner_said image file key.page ≡ 0) × (use_of table key.page ≡ nobodys) → (line_at image key).state ≡ Present
      none h =
          let nobody : (use_of table key.page).owner ≡ 0 = ap (λ (u : PageUse). u.owner) h.1 in
          let owned = used.is_line.owner in let area = some_area key place names in
          absurd (omega (arith, nobody, owned, area))

      some : (1 ≤ owner_said image file key.page) × SaysUse key.page bytes (use_of table key.page) → (line_at image key).state ≡ Present
      some h = present (line_at image key).state (sym (image_is h.1 (sym h.1.owner ∙ used.is_line.owner)) ∙ used.image)

  module _ (there : (line_at image key).state ≡ Present) where
    has : has_place key bytes ≡ true
    has = by_test (has_place key bytes) refl
      where
        by_test : (b : Bool) → has_place key bytes ≡ b → has_place key bytes ≡ true
        by_test true e = e
        by_test false e =
            let bad : Never ≡ Present = sym (ap (λ (l : Line). l.state) (stands_on ∙ line_none key bytes e)) ∙ there in
            let no_it : ⊥ = cc in absurd no_it

    owned : owner_at bytes ≡ key.area
    owned = (place_says key bytes has).owned

    some_owner : 1 ≤ owner_at bytes
    some_owner = subst (λ (n : ℕ). 1 ≤ n) (sym owned) (some_area key place names)

    within : key.page ≤ pages
    within = not_more key.page pages (λ more.
        let first = on_data.is_page.first in let last = on_data.is_page.last in
        let nobody = all_zeros bytes (slot_bytes (area_file file)) (formed.past file (key.page - 1) (area_is key place names) (omega (arith, more)) (omega (arith, first, last))) in
        let some = some_owner in
        omega (arith, nobody, some))

    pub present_is_used : IsUsedLine table key
    present_is_used = ⊎_elim none some (is.page key.page on_data within)
      where
        none : (owner_said image file key.page ≡ 0) × (use_of table key.page ≡ nobodys) → IsUsedLine table key
        none h =
            let said : owner_said image file key.page ≡ owner_at bytes = formed.owner file key.page (area_is key place names) on_data some_owner in
            let nobody = h.0 in let some = some_owner in
            absurd (omega (arith, said, nobody, some))

        some : (1 ≤ owner_said image file key.page) × SaysUse key.page bytes (use_of table key.page) → IsUsedLine table key
        some h = record {
          is_line = record {
            within = record { first = on_data.is_page.first; last = subst (λ (n : ℕ). key.page ≤ n) (sym is.long) within };
            owner = h.1.owner ∙ owned;
            line = subst (λ (c : ℕ). key.line < lines_of c) (sym h.1.class) (place_says key bytes has).line;
          };
          image = image_is h.1 owned ∙ ap is_present there;
        }
