-- Each line of an even area is of one of the areas that own pages.
use Rattle.std.proofs.Common.{◌≡◌, ◌%◌, ◌==◌, inl, inr, ℕ, Bool, true, false, List, None, refl, sym, ap, subst, ◌∙◌, arith}
use Rattle.std.specs.Prelude.{if◌then◌else◌, nat_eq}
use Rattle.std.proofs.lemmas.Bool.{eqb-true, eq-eqb}
use Rattle.std.proofs.lemmas.Option.{none-some}
use Rattle.rdb_types.specs.declared.keys.Dbkey.{Dbkey}
use Rattle.rdb_types.specs.declared.keys.Line.{Line}
use Rattle.rdb_outside.specs.Disk.{Image}
use Rattle.journal_scan.specs.declared.group.Group.{Group}
use Rattle.rdb_page.specs.Lines.{never}
use Rattle.line_view.specs.Knowledge.{Lines, line_in}
use Rattle.line_versions.specs.Lines.{shown, storage_area}
use Rattle.stable_lines.specs.Slots.{area_file, file_of, slot_of, owner_at, has_place, line_at}
use Rattle.stable_lines.proofs.Never.{zeros_owner}
use Rattle.stable_lines.specs.Image.{IsEnded, as_it_stands, StandsFor}
use Rattle.stable_lines.proofs.Unique.{one_line}
use Rattle.line_moves.proofs.Putting.{HasPlace, place_says}
use Rattle.line_moves.proofs.Reading.{line_none}
use Rattle.verified_lines.specs.Faults.{IsAmong, Covers}
use Rattle.page_faults.specs.Checks.{page_at}
use Rattle.areas_at_rest.specs.lines_at_rest.Left.{IsLeftOf, LeavesOut}
use Rattle.rmu_verify.specs.Owners.{HasOwners}

even_file : (area : ℕ) → area % 2 ≡ 0 → storage_area area ≡ 2
even_file area even = by_test (area == 1) refl
  where
    by_test : (b : Bool) → (area == 1) ≡ b → storage_area area ≡ 2
    by_test true is = let one : area ≡ 1 = eqb-true area 1 is in let odd : 1 ≡ 0 = ap (λ (a : ℕ). a % 2) (sym one) ∙ even in let no : ⊥ = omega (arith, odd) in absurd no
    by_test false is = ap (λ (b : Bool). if b then 1 else (if nat_eq (area % 2) 0 then 2 else 3)) is ∙ ap (λ (b : Bool). if b then 2 else 3) (eq-eqb (area % 2) 0 even)

module _ (content image : Image) (groups : List Group) (lines : Lines) (leaves : LeavesOut content image) (stands : StandsFor image groups lines) where
  absent : (key : Dbkey) → line_at image key ≡ never → line_in key lines ≡ None
  absent key none =
      let zero : (line_at image key).tsn.number ≡ 0 = ap (λ (l : Line). l.tsn.number) none in
      let ended : IsEnded image groups (line_at image key).tsn.number = (λ member is some names. absurd (omega (arith, zero, some))) in
      let shows = stands.each key in
      sym shows.shows ∙ ap shown (one_line image groups key _ _ shows.is (as_it_stands ended refl) ∙ none)

  abbrev left_page : Dbkey → List ℕ
  left_page key = image (file_of key) (slot_of key)

  -- a page that has a place for a line of an even area is told
  of_left : (owners : List ℕ) → HasOwners content 2 65536 owners → (key : Dbkey) → HasPlace key (left_page key) → key.area % 2 ≡ 0 → IsLeftOf 2 key.page (page_at content 2 key.page) (page_at image 2 key.page) → IsAmong key.area owners
  of_left owners has key says even (inl kept) =
      let first = says.first in let last = says.last in let area = says.area in
      let there : left_page key ≡ page_at image 2 key.page = ap (λ (f : ℕ). image (area_file f) (slot_of key)) (even_file key.area even) in
      let owned : owner_at (page_at content 2 key.page) ≡ key.area = ap owner_at (sym (there ∙ kept.1)) ∙ says.owned in
      elim (has.each key.page first last kept.0) [
        | inl none ↦ let no : key.area ≡ 0 = sym owned ∙ none in absurd (omega (arith, no, area))
        | inr among ↦ subst (λ (a : ℕ). IsAmong a owners) owned among
      ]
  of_left owners has key says even (inr out) =
      let area = says.area in
      let there : left_page key ≡ page_at image 2 key.page = ap (λ (f : ℕ). image (area_file f) (slot_of key)) (even_file key.area even) in
      let no : key.area ≡ 0 = sym says.owned ∙ ap owner_at there ∙ zeros_owner (page_at image 2 key.page) out.1 in
      absurd (omega (arith, no, area))

  pub covers : (owners : List ℕ) → HasOwners content 2 65536 owners → Covers lines owners
  covers owners has key bytes there even = by_place (has_place key (left_page key)) refl
    where
      by_place : (b : Bool) → has_place key (left_page key) ≡ b → IsAmong key.area owners
      by_place false is = absurd (none-some bytes (sym (absent key (line_none key (left_page key) is)) ∙ there))
      by_place true is =
          let says = place_says key (left_page key) is in
          of_left owners has key says even (leaves.pages 2 key.page (record { first = omega arith; last = omega arith }) (record { first = says.first; last = says.last }))
