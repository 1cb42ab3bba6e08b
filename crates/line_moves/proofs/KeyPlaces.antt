-- The place of a key.
use Rattle.std.specs.Prelude.{if◌then◌else◌}
use Rattle.std.proofs.lemmas.Bool.Decides.{nat_tests}
use Rattle.std.proofs.Common.{◌≡◌, ℕ, ◌-◌, ◌%◌, ◌≤◌, nat_eq, Bool, true, false, inl, inr, ap, sym, subst, ◌∙◌, arith}
use Rattle.rdb_types.specs.declared.keys.Dbkey.{Dbkey}
use Rattle.line_store.specs.rdb_page.Page.{IsOwner}
use Rattle.line_store.specs.rdb_outside.Disk.{Image}
use Rattle.stable_lines.specs.line_versions.Lines.{storage_area}
use Rattle.stable_lines.specs.Slots.{area_file, file_of, slot_of, IsAreaFile}
use Rattle.line_moves.specs.declared.places.Place.{Place}
use Rattle.line_moves.specs.Contents.{IsOn}
use Rattle.line_moves.specs.Changes.{IsPlaceOf}

by_tests : (area : ℕ) (a b : Bool) → nat_eq area 1 ≡ a → nat_eq (area % 2) 0 ≡ b → storage_area area ≡ (if a then 1 else (if b then 2 else 3))
by_tests area a b one two = λ i. if one i then 1 else (if two i then 2 else 3)

not_one : (area : ℕ) → 16 ≤ area → nat_eq area 1 ≡ false
not_one area le = grind (arith, nat_tests)

even : (area : ℕ) → area % 2 ≡ 0 → nat_eq (area % 2) 0 ≡ true
even area is = grind (arith, nat_tests)

odd : (area : ℕ) → area % 2 ≡ 1 → nat_eq (area % 2) 0 ≡ false
odd area is = grind (arith, nat_tests)

owner_file : (file area : ℕ) → IsOwner file area → file ≡ storage_area area
owner_file file area (inl first) = first.0 ∙ sym (ap storage_area first.1)
owner_file file area (inr (inl second)) = second.0 ∙ sym (by_tests area false true (not_one area second.1) (even area second.2))
owner_file file area (inr (inr third)) = third.0 ∙ sym (by_tests area false false (not_one area (let le = third.1 in omega (arith, le))) (odd area third.2))

owner_is_file : (file area : ℕ) → IsOwner file area → IsAreaFile file
owner_is_file file area (inl first) = record { first = omega (arith, first.0); last = omega (arith, first.0) }
owner_is_file file area (inr (inl second)) = record { first = omega (arith, second.0); last = omega (arith, second.0) }
owner_is_file file area (inr (inr third)) = record { first = omega (arith, third.0); last = omega (arith, third.0) }

owner_some : (file area : ℕ) → IsOwner file area → 1 ≤ area
owner_some file area (inl first) = omega (arith, first.1)
owner_some file area (inr (inl second)) = omega (arith, second.1)
owner_some file area (inr (inr third)) = omega (arith, third.1)

pub file_is : (key : Dbkey) (place : Place) → IsPlaceOf key place → place.file ≡ storage_area key.area
file_is key place names = owner_file place.file key.area names.owner

pub area_is : (key : Dbkey) (place : Place) → IsPlaceOf key place → IsAreaFile place.file
area_is key place names = owner_is_file place.file key.area names.owner

pub some_area : (key : Dbkey) (place : Place) → IsPlaceOf key place → 1 ≤ key.area
some_area key place names = owner_some place.file key.area names.owner

pub is_on : (key : Dbkey) (place : Place) → IsPlaceOf key place → IsOn place.file place.page key
is_on key place names = record { in_file = ap area_file (sym (file_is key place names)); in_slot = ap (λ (n : ℕ). n - 1) (sym names.page) }

-- what stands in the slot of the place stands in that of the key
pub place_content : (image : Image) (key : Dbkey) (place : Place) → IsPlaceOf key place → image (area_file place.file) (place.page - 1) ≡ image (file_of key) (slot_of key)
place_content image key place names = λ i. image (area_file (file_is key place names i)) (names.page i - 1)

-- another line of the page has its place
pub same_place_of : (a b : Dbkey) (place : Place) → b.area ≡ a.area → b.page ≡ a.page → IsPlaceOf a place → IsPlaceOf b place
same_place_of a b place area page names = record {
  owner = subst (λ (n : ℕ). IsOwner place.file n) (sym area) names.owner;
  page = names.page ∙ sym page;
  is_data = names.is_data;
}
