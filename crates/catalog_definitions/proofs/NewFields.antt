-- The fields of a new relation in the directory.
use Rattle.std.proofs.Common.{◌≡◌, ℕ, zero, suc, ◌+◌, ◌<◌, ◌≤◌, false, List, [], ◌∷◌, length, Some, None, refl, ap, ◌∙◌, arith}
use Rattle.std.specs.declared.cmp.Ordering.{Ordering}
use Rattle.std.specs.declared.cmp.Ordering.TheVariants.{Less, Equal, Greater}
use Rattle.std.specs.Ordering.{is_eq, nat_cmp, ordering_then}
use Rattle.std.specs.FinMap.Entries.{find}
use Rattle.rdb_types.specs.declared.keys.Dbkey.{Dbkey}
use Rattle.rdb_types.specs.declared.values.Field.{Field}
use Rattle.ordered_entries.proofs.Laws.{find-put_same}
use Rattle.rdb_meaning.specs.declared.tables.Tables.{Tables}
use Rattle.catalog_lines.specs.declared.line.CatalogLine.TheVariants.{Field as FieldOf}
use Rattle.catalog.specs.declared.directory.FieldPlace.{FieldPlace}
use Rattle.catalog.specs.declared.directory.PlacedField.{PlacedField}
use Rattle.catalog.specs.declared.directory.PlacedLine.{PlacedLine}
use Rattle.catalog.specs.declared.directory.Directory.{Directory}
use Rattle.catalog.specs.Directory.{place_order, place, noted, directory_from}
use Rattle.catalog.specs.Schema.{next_field, fields_from, relation_fields, tables_from}
use Rattle.catalog_definitions.specs.Written.{field_lines}
use Rattle.catalog_definitions.proofs.Puts.{find-put_other}
use Rattle.catalog_definitions.proofs.Growth.{DifferentAreas, place_total}
use Rattle.catalog_definitions.proofs.Laying.{placed_at}
use Rattle.catalog_definitions.proofs.FreeAreas.{numbers_differ}

-- ---- places that differ

abbrev pub DifferentPlaces : FieldPlace → FieldPlace → Type 0
DifferentPlaces p q = is_eq (place_order p q) ≡ false

first_differs : (r s : Ordering) → is_eq r ≡ false → is_eq (ordering_then r s) ≡ false
first_differs Less s apart = refl
first_differs Equal s apart = let bad : ⊥ = cc in absurd bad
first_differs Greater s apart = refl

second_differs : (r s : Ordering) → is_eq s ≡ false → is_eq (ordering_then r s) ≡ false
second_differs Less s apart = refl
second_differs Equal s apart = apart
second_differs Greater s apart = refl

pub other_relation : (a b p q : ℕ) → DifferentAreas a b → DifferentPlaces (place a p) (place b q)
other_relation a b p q apart = first_differs (nat_cmp a b) (nat_cmp p q) apart

pub other_position : (a b p q : ℕ) → (p ≡ q → ⊥) → DifferentPlaces (place a p) (place b q)
other_position a b p q apart = second_differs (nat_cmp a b) (nat_cmp p q) (numbers_differ p q apart)

-- ---- the directory behind the lines of the fields

-- the lines of these fields, at these keys, from this position on
abbrev pub at_keys : ℕ → ℕ → List Dbkey → List Field → List PlacedLine
at_keys area p keys fs = placed_at keys (field_lines area p fs)

abbrev Fields : Type 0
Fields = List (FieldPlace × PlacedField)

pub same_areas : (area p : ℕ) (keys : List Dbkey) (fs : List Field) (d : Directory) → (directory_from d (at_keys area p keys fs)).areas ≡ d.areas
same_areas area p [] fs d = refl
same_areas area p (k ∷ keys) [] d = refl
same_areas area p (k ∷ keys) (f ∷ fs) d = same_areas area (p + 1) keys fs (noted k (FieldOf (record { relation = area; position = p; field = f })) d)

pub same_globals : (area p : ℕ) (keys : List Dbkey) (fs : List Field) (d : Directory) → (directory_from d (at_keys area p keys fs)).globals ≡ d.globals
same_globals area p [] fs d = refl
same_globals area p (k ∷ keys) [] d = refl
same_globals area p (k ∷ keys) (f ∷ fs) d = same_globals area (p + 1) keys fs (noted k (FieldOf (record { relation = area; position = p; field = f })) d)

-- another place has what it had
pub elsewhere : (area p : ℕ) (keys : List Dbkey) (fs : List Field) (d : Directory) (at : FieldPlace) → ((j : ℕ) → p ≤ j → j < p + length fs → DifferentPlaces at (place area j)) → find place_order at (directory_from d (at_keys area p keys fs)).fields ≡ find place_order at d.fields
elsewhere area p [] fs d at apart = refl
elsewhere area p (k ∷ keys) [] d at apart = refl
elsewhere area p (k ∷ keys) (f ∷ fs) d at apart =
    elsewhere area (p + 1) keys fs (noted k (FieldOf (record { relation = area; position = p; field = f })) d) at (λ j low high. apart j (omega (arith, low)) (omega (arith, high)))
    ∙ find-put_other place_order place_total at (place area p) (record { key = k; field = f }) d.fields (apart p (omega arith) (omega arith))

-- each field is found at its place, with its key
abbrev pub AreFound : ℕ → ℕ → List Dbkey → List Field → Fields → Type 0
AreFound area p [] [] m = Unit {0}
AreFound area p [] (f ∷ fs) m = ⊥
AreFound area p (k ∷ keys) [] m = ⊥
AreFound area p (k ∷ keys) (f ∷ fs) m = (find place_order (place area p) m ≡ Some (record { key = k; field = f })) × AreFound area (p + 1) keys fs m

pub are_found : (area p : ℕ) (keys : List Dbkey) (fs : List Field) (d : Directory) → length keys ≡ length fs → AreFound area p keys fs (directory_from d (at_keys area p keys fs)).fields
are_found area p [] [] d count = tt
are_found area p [] (f ∷ fs) d count = absurd (omega (arith, count))
are_found area p (k ∷ keys) [] d count = absurd (omega (arith, count))
are_found area p (k ∷ keys) (f ∷ fs) d count =
    let e : Directory = noted k (FieldOf (record { relation = area; position = p; field = f })) d in (
      elsewhere area (p + 1) keys fs e (place area p) (λ j low high. other_position area area p j (λ same. omega (arith, same, low)))
          ∙ find-put_same place_order place_total (place area p) (record { key = k; field = f }) d.fields,
      are_found area (p + 1) keys fs e (omega (arith, count)),
    )

pub fields_found : (limit area p : ℕ) (keys : List Dbkey) (fs : List Field) (m : Fields) → AreFound area p keys fs m → find place_order (place area (p + length fs)) m ≡ None → length fs ≤ limit → fields_from limit area p m ≡ fs
fields_found zero area p [] [] m found none fits = refl
fields_found zero area p [] (f ∷ fs) m found none fits = absurd found
fields_found zero area p (k ∷ keys) [] m found none fits = absurd found
fields_found zero area p (k ∷ keys) (f ∷ fs) m found none fits = absurd (omega (arith, fits))
fields_found (suc limit) area p [] [] m found none fits =
    ap (λ o. next_field o (fields_from limit area (p + 1) m)) (ap (λ (q : ℕ). find place_order (place area q) m) (let same : p ≡ p + zero = omega arith in same) ∙ none)
fields_found (suc limit) area p [] (f ∷ fs) m found none fits = absurd found
fields_found (suc limit) area p (k ∷ keys) [] m found none fits = absurd found
fields_found (suc limit) area p (k ∷ keys) (f ∷ fs) m found none fits =
    ap (λ o. next_field o (fields_from limit area (p + 1) m)) found.0
    ∙ ap (λ l. f ∷ l) (fields_found limit area (p + 1) keys fs m found.1 (ap (λ (q : ℕ). find place_order (place area q) m) (let same : p + 1 + length fs ≡ p + suc (length fs) = omega arith in same) ∙ none) (omega (arith, fits)))

-- ---- the tables

pub no_things : (e : Directory) (area p : ℕ) (keys : List Dbkey) (fs : List Field) (t : Tables) → tables_from e t (at_keys area p keys fs) ≡ t
no_things e area p [] fs t = refl
no_things e area p (k ∷ keys) [] t = refl
no_things e area p (k ∷ keys) (f ∷ fs) t = no_things e area (p + 1) keys fs t

-- ---- another relation

fields_alike : (limit area p : ℕ) (m n : Fields) → ((q : ℕ) → find place_order (place area q) m ≡ find place_order (place area q) n) → fields_from limit area p m ≡ fields_from limit area p n
fields_alike zero area p m n same = refl
fields_alike (suc limit) area p m n same = λ i. next_field (same p i) (fields_alike limit area (p + 1) m n same i)

pub relation_alike : (area : ℕ) (d e : Directory) → ((q : ℕ) → find place_order (place area q) d.fields ≡ find place_order (place area q) e.fields) → relation_fields area d ≡ relation_fields area e
unfolding relation_fields
relation_alike area d e same = fields_alike 50 area 0 d.fields e.fields same

pub relation_found : (area : ℕ) (keys : List Dbkey) (fs : List Field) (d : Directory) → AreFound area 0 keys fs d.fields → find place_order (place area (length fs)) d.fields ≡ None → length fs ≤ 50 → relation_fields area d ≡ fs
unfolding relation_fields
relation_found area keys fs d found none fits =
    fields_found 50 area 0 keys fs d.fields found (ap (λ (q : ℕ). find place_order (place area q) d.fields) (let same : 0 + length fs ≡ length fs = omega arith in same) ∙ none) fits
