-- What a table that is read at an opening never used is unused in the image.
use Rattle.std.proofs.Common.{◌≡◌, ℕ, ◌-◌, ◌≤◌, ◌<◌, Bool, true, false, List, length, replicate, ⊎_elim, refl, sym, ◌∙◌, ap, subst, arith}
use Rattle.std.proofs.lemmas.List.{length-replicate}
use Rattle.rdb_types.specs.declared.keys.Dbkey.{Dbkey}
use Rattle.rdb_types.specs.declared.keys.Line.{Line}
use Rattle.rdb_types.specs.declared.keys.LineState.{LineState}
use Rattle.rdb_types.specs.declared.keys.LineState.TheVariants.{Never, Present, Erased}
use Rattle.rdb_types.specs.File.{slot_bytes}
use Rattle.rdb_outside.specs.Disk.{Image, zeros}
use Rattle.rdb_page.specs.Lines.{Agrees, IsLine}
use Rattle.rdb_page.specs.Page.{IsOwner, class_at, lines_of}
use Rattle.rdb_page.specs.Whole.{IsUsedPage}
use Rattle.area_files.specs.Areas.{IsDataPage}
use Rattle.line_versions.specs.Lines.{storage_area}
use Rattle.stable_lines.specs.Slots.{IsAreaFile, area_file, file_of, slot_of, owner_at, has_place, line_on, line_at}
use Rattle.stable_lines.specs.Kept.{IsWellFormed}
use Rattle.stable_lines.proofs.Never.{space_owner, zeros_owner}
use Rattle.line_moves.specs.declared.places.Place.{Place}
use Rattle.line_moves.specs.Changes.{IsPlaceOf}
use Rattle.line_moves.proofs.KeyPlaces.{area_is, file_is, place_content}
use Rattle.line_moves.proofs.OnlyPut.{some_page}
use Rattle.line_moves.proofs.Putting.{HasPlace, place_says}
use Rattle.line_moves.proofs.Reading.{class_is, line_is, line_none}
use Rattle.database_opening.specs.Owners.{owner_said}
use Rattle.page_table.specs.Pages.{Pages, nobodys, use_of, is_ever, state_in, IsEverUsed}
use Rattle.page_table.specs.Reading.{line_of, SaysUse, IsTableOf}
use Rattle.disk_store.specs.Shown.{IsUnused}

not-more : (a b : ℕ) → (b < a → ⊥) → a ≤ b
not-more a b none = grind arith

-- a line of this state was used, or never
used-or-never : (s : LineState) → (is_ever s ≡ true → ⊥) → s ≡ Never
used-or-never Never unused = refl
used-or-never Present unused = absurd (unused refl)
used-or-never Erased unused = absurd (unused refl)

module _ (image : Image) (file pages : ℕ) (table : Pages) (formed : IsWellFormed image pages) (is : IsTableOf image file pages table) (key : Dbkey) (owner : IsOwner file key.area) (never : IsEverUsed table key → ⊥) where
  abbrev there : List ℕ
  there = image (file_of key) (slot_of key)

  module _ (has : has_place key there ≡ true) where
    place : HasPlace key there
    place = place_says key there has

    any : IsPlaceOf (record { area = key.area; page = 2; line = 0 }) (record { file = file; page = 2 })
    any = record { owner = owner; page = refl; is_data = some_page }

    is_file : IsAreaFile (storage_area key.area)
    is_file = subst (λ (n : ℕ). IsAreaFile n) (file_is (record { area = key.area; page = 2; line = 0 }) (record { file = file; page = 2 }) any) (area_is (record { area = key.area; page = 2; line = 0 }) (record { file = file; page = 2 }) any)

    -- a space page has no line
    on_data : IsDataPage key.page
    on_data = record {
      is_page = record { first = place.first; last = place.last };
      plain = λ space.
          let none = space_owner there key.page (formed.space (storage_area key.area) key.page is_file (record { first = place.first; last = place.last }) space) in
          let owned = place.owned in let some = place.area in
          omega (arith, none, owned, some);
    }

    abbrev at : Place
    at = record { file = file; page = key.page }

    names : IsPlaceOf key at
    names = record { owner = owner; page = refl; is_data = on_data }

    abbrev bytes : List ℕ
    bytes = image (area_file file) (key.page - 1)

    same : bytes ≡ there
    same = place_content image key at names

    owned : owner_at bytes ≡ key.area
    owned = ap owner_at same ∙ place.owned

    some-owner : 1 ≤ owner_at bytes
    some-owner = subst (λ (n : ℕ). 1 ≤ n) (sym owned) place.area

    within : key.page ≤ pages
    within = not-more key.page pages (λ more.
        let first = place.first in let last = place.last in
        let past : bytes ≡ zeros (area_file file) = formed.past file (key.page - 1) (area_is key at names) (omega (arith, more)) (omega (arith, first, last)) in
        let nobody = zeros_owner bytes (past ∙ ap (λ (k : ℕ). replicate k 0) (sym (ap (λ (l : List ℕ). length l) past ∙ length-replicate {A = ℕ} (slot_bytes (area_file file)) 0))) in
        let some = some-owner in
        omega (arith, nobody, some))

    module _ (says : SaysUse key.page bytes (use_of table key.page)) where
      state-is : state_in (use_of table key.page) key.line ≡ (line_at image key).state
      state-is =
          let line-same : line_of key.page bytes key.line ≡ line_on key bytes = λ i. line_on (record { area = owned i; page = key.page; line = key.line }) bytes in
          says.states key.line ∙ ap (λ (l : Line). l.state) (line-same ∙ ap (λ (b : List ℕ). line_on key b) same)

      no-use : is_ever (line_at image key).state ≡ true → ⊥
      no-use ever = never (record {
        is_line = record {
          within = record { first = place.first; last = subst (λ (n : ℕ). key.page ≤ n) (sym is.long) within };
          owner = says.owner ∙ owned;
          line = subst (λ (c : ℕ). key.line < lines_of c) (sym (says.class ∙ ap class_at same)) place.line;
        };
        used = ap is_ever state-is ∙ ever;
      })

    state-never : (line_at image key).state ≡ Never
    state-never = ⊎_elim
        (λ (none : (owner_said image file key.page ≡ 0) × (use_of table key.page ≡ nobodys)).
        let said : owner_said image file key.page ≡ owner_at bytes = formed.owner file key.page (area_is key at names) on_data some-owner in
        let nobody = none.0 in let some = some-owner in
        absurd (omega (arith, said, nobody, some)))
        (λ (some : (1 ≤ owner_said image file key.page) × SaysUse key.page bytes (use_of table key.page)). used-or-never (line_at image key).state (no-use some.1))
        (is.page key.page on_data within)

    -- a line that was never used is all zeros
    chain-none : (line_at image key).chain ≡ 0
    chain-none = ⊎_elim
        (λ (zero : bytes ≡ replicate (length bytes) 0). let nobody = zeros_owner bytes zero in let some = some-owner in absurd (omega (arith, nobody, some)))
        (λ (used : IsUsedPage file key.page bytes).
        let class : class_at bytes ≡ used.head.class = class_is bytes used.head used.stands.head in
        let line = used.lines key.line (subst (λ (c : ℕ). key.line < lines_of c) (sym (ap class_at same) ∙ class) place.line) in
        let stands : line_on key bytes ≡ line.0 = line_is key bytes line.0 (ap (has_place key) same ∙ has) (subst (λ (c : ℕ). IsLine bytes c key.line line.0) (sym class) line.1) in
        let here : line_at image key ≡ line.0 = ap (λ (b : List ℕ). line_on key b) (sym same) ∙ stands in
        let agrees : Agrees Never line.0.tsn.number line.0.chain line.0.image = subst (λ (s : LineState). Agrees s line.0.tsn.number line.0.chain line.0.image) (ap (λ (l : Line). l.state) (sym here) ∙ state-never) line.1.allowed.agrees in
        ap (λ (l : Line). l.chain) here ∙ agrees.1)
        (formed.page file key.page (area_is key at names) on_data)

  pub never-used : IsUnused (line_at image key)
  never-used = by (has_place key there) refl
    where
      by : (b : Bool) → has_place key there ≡ b → IsUnused (line_at image key)
      by true has = record { never = state-never has; none = chain-none has }
      by false none = subst (λ (l : Line). IsUnused l) (sym (line_none key there none)) (record { never = refl; none = refl })
