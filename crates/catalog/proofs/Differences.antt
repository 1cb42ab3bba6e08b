-- What it means that no line is a misfit.
use Rattle.std.proofs.Common.{ℕ, zero, suc, ◌-◌, ◌≡◌, Bool, true, false, not, ◌&&◌, ◌==◌, nat_eq, List, [], ◌∷◌, Option, Some, None, refl, sym, ap, ◌∙◌, arith, if◌then◌else◌}
use Rattle.std.specs.Prelude.{◌||◌}
use Rattle.std.specs.List.{slice_get, list_all}
use Rattle.std.specs.Ordering.{is_eq}
use Rattle.std.specs.declared.cmp.Ordering.{Ordering}
use Rattle.std.specs.declared.cmp.Ordering.TheVariants.{Less, Equal, Greater}
use Rattle.std.specs.FinMap.Entries.{find}
use Rattle.std.proofs.lemmas.Bool.{and_parts}
use Rattle.std.proofs.lemmas.Bool.Decides.{nat_tests}
use Rattle.rdb_types.specs.declared.keys.Dbkey.{Dbkey}
use Rattle.rdb_types.specs.Order.{dbkey_order, chars_order}
use Rattle.rdb_types.specs.OrderLaws.{same_dbkey}
use Rattle.rdb_definitions.specs.rdb_meaning.declared.tables.Tables.{Tables}
use Rattle.rdb_definitions.specs.rdb_meaning.Contents.{relation_named, fields_of}
use Rattle.rdb_definitions.specs.rdb_meaning.Execution.{area_of}
use Rattle.catalog_lines.specs.declared.line.RelationLine.{RelationLine}
use Rattle.catalog_lines.specs.declared.line.FieldLine.{FieldLine}
use Rattle.catalog_lines.specs.declared.line.IndexLine.{IndexLine}
use Rattle.catalog_lines.specs.declared.line.CatalogLine.{CatalogLine}
use Rattle.catalog_lines.specs.declared.line.CatalogLine.TheVariants.{Relation, Global, Field as FieldOf, Index}
use Rattle.catalog.specs.declared.directory.PlacedLine.{PlacedLine}
use Rattle.catalog.specs.declared.directory.PlacedField.{PlacedField}
use Rattle.catalog.specs.declared.directory.Directory.{Directory}
use Rattle.catalog.specs.Directory.{area_order, place_order, numbered, place, directory}
use Rattle.catalog.specs.Schema.{is_key, is_field_key, index_area, has_field, has_area, max_fields, differ, same_field, stands, misfit, misfit_from, catalog_tables}
use Rattle.catalog.specs.Differences.{OnePer, Differ}

equal : (o : Ordering) → is_eq o ≡ true → o ≡ Equal
equal Less is = cc
equal Equal is = refl
equal Greater is = cc

first_fits : (b : Bool) (rest : Option Dbkey) (key : Dbkey) → (if b then rest else Some key) ≡ None → (b ≡ true) × (rest ≡ None)
first_fits true rest key none = (refl, none)
first_fits false rest key none = let bad : ⊥ = cc in absurd bad

first_two_of_5 : (a b c d e : Bool) → (a && b && c && d && e) ≡ true → (a ≡ true) × (b ≡ true)
first_two_of_5 a b c d e is = and_parts a b (and_parts (a && b) c (and_parts (a && b && c) d (and_parts (a && b && c && d) e is).0).0).0

first_two_of_6 : (a b c d e f : Bool) → (a && b && c && d && e && f) ≡ true → (a ≡ true) × (b ≡ true)
first_two_of_6 a b c d e f is = first_two_of_5 a b c d e (and_parts (a && b && c && d && e) f is).0

-- each line stands
fits_at : (d : Directory) (t : Tables) (ps : List PlacedLine) (i : ℕ) (p : PlacedLine) → misfit_from d t ps ≡ None → slice_get ps i ≡ Some p → stands d t p.key p.line ≡ true
fits_at d t [] i p fit is = let bad : ⊥ = cc in absurd bad
fits_at d t (q ∷ ps) zero p fit is = let same : q ≡ p = cc in ap (λ (x : PlacedLine). stands d t x.key x.line) (sym same) ∙ (first_fits (stands d t q.key q.line) (misfit_from d t ps) q.key fit).0
fits_at d t (q ∷ ps) (suc j) p fit is = fits_at d t ps j p (first_fits (stands d t q.key q.line) (misfit_from d t ps) q.key fit).1 is

fits : (ps : List PlacedLine) (i : ℕ) (p : PlacedLine) → misfit ps ≡ None → slice_get ps i ≡ Some p → stands (directory ps) (catalog_tables ps) p.key p.line ≡ true
fits ps = fits_at (directory ps) (catalog_tables ps) ps

stands_as : (ps : List PlacedLine) (i : ℕ) (p : PlacedLine) (line : CatalogLine) → misfit ps ≡ None → slice_get ps i ≡ Some p → p.line ≡ line → stands (directory ps) (catalog_tables ps) p.key line ≡ true
stands_as ps i p line fit at is = ap (λ l. stands (directory ps) (catalog_tables ps) p.key l) (sym is) ∙ fits ps i p fit at

-- two keys that are found in one place are one
pub one_key : (a b : Dbkey) (found also : Option Dbkey) → is_key a found ≡ true → is_key b also ≡ true → found ≡ also → a ≡ b
one_key a b None also is too same = let bad : ⊥ = cc in absurd bad
one_key a b (Some k) None is too same = let bad : ⊥ = cc in absurd bad
one_key a b (Some k) (Some l) is too same =
    let keys : k ≡ l = cc in
    same_dbkey a k (equal (dbkey_order a k) is) ∙ keys ∙ sym (same_dbkey b l (equal (dbkey_order b l) too))

pub one_field_key : (a b : Dbkey) (found also : Option PlacedField) → is_field_key a found ≡ true → is_field_key b also ≡ true → found ≡ also → a ≡ b
one_field_key a b None also is too same = let bad : ⊥ = cc in absurd bad
one_field_key a b (Some k) None is too same = let bad : ⊥ = cc in absurd bad
one_field_key a b (Some k) (Some l) is too same =
    let keys : k ≡ l = cc in
    same_dbkey a k.key (equal (dbkey_order a k.key) is) ∙ ap (λ (f : PlacedField). f.key) keys ∙ sym (same_dbkey b l.key (equal (dbkey_order b l.key) too))

number_is : (m n : ℕ) → (m == n) ≡ true → m ≡ n
number_is m n is = grind (arith, nat_tests)

pub relation_parts : (d : Directory) (t : Tables) (key : Dbkey) (r : RelationLine) → stands d t key (Relation r) ≡ true → (area_of (relation_named r.name t) ≡ r.area) × (is_key key (find area_order (numbered r.area) d.areas) ≡ true)
relation_parts d t key r stood =
    let two = first_two_of_5 (area_of (relation_named r.name t) == r.area) (is_key key (find area_order (numbered r.area) d.areas)) (has_field r.area d 0) (not (has_field r.area d max_fields)) (differ same_field (fields_of (relation_named r.name t))) stood in
    (number_is (area_of (relation_named r.name t)) r.area two.0, two.1)

pub index_parts : (d : Directory) (t : Tables) (key : Dbkey) (x : IndexLine) → stands d t key (Index x) ≡ true → (index_area (find chars_order x.name t.indexes) ≡ x.area) × (is_key key (find area_order (numbered x.area) d.areas) ≡ true)
index_parts d t key x stood =
    let two = first_two_of_6 (index_area (find chars_order x.name t.indexes) == x.area) (is_key key (find area_order (numbered x.area) d.areas)) (has_area x.relation d) (differ nat_eq x.fields) (list_all (has_field x.relation d) x.fields) (x.root.area == x.area) stood in
    (number_is (index_area (find chars_order x.name t.indexes)) x.area two.0, two.1)

same_area : (d : Directory) (a b : ℕ) (key other : Dbkey) → is_key key (find area_order (numbered a) d.areas) ≡ true → is_key other (find area_order (numbered b) d.areas) ≡ true → a ≡ b → key ≡ other
same_area d a b key other is too same = one_key key other (find area_order (numbered a) d.areas) (find area_order (numbered b) d.areas) is too (ap (λ n. find area_order (numbered n) d.areas) same)

relation_areas : (ps : List PlacedLine) → misfit ps ≡ None → OnePer Relation (λ r s. r.area ≡ s.area) ps
relation_areas ps fit i j p q r s at also is too same =
    let d = directory ps in let t = catalog_tables ps in
    let here = relation_parts d t p.key r (stands_as ps i p (Relation r) fit at is) in
    let there = relation_parts d t q.key s (stands_as ps j q (Relation s) fit also too) in
    same_area d r.area s.area p.key q.key here.1 there.1 same

relation_names : (ps : List PlacedLine) → misfit ps ≡ None → OnePer Relation (λ r s. r.name ≡ s.name) ps
relation_names ps fit i j p q r s at also is too same =
    let d = directory ps in let t = catalog_tables ps in
    let here = relation_parts d t p.key r (stands_as ps i p (Relation r) fit at is) in
    let there = relation_parts d t q.key s (stands_as ps j q (Relation s) fit also too) in
    same_area d r.area s.area p.key q.key here.1 there.1 (sym here.0 ∙ ap (λ n. area_of (relation_named n t)) same ∙ there.0)

index_areas : (ps : List PlacedLine) → misfit ps ≡ None → OnePer Index (λ x y. x.area ≡ y.area) ps
index_areas ps fit i j p q x y at also is too same =
    let d = directory ps in let t = catalog_tables ps in
    let here = index_parts d t p.key x (stands_as ps i p (Index x) fit at is) in
    let there = index_parts d t q.key y (stands_as ps j q (Index y) fit also too) in
    same_area d x.area y.area p.key q.key here.1 there.1 same

index_names : (ps : List PlacedLine) → misfit ps ≡ None → OnePer Index (λ x y. x.name ≡ y.name) ps
index_names ps fit i j p q x y at also is too same =
    let d = directory ps in let t = catalog_tables ps in
    let here = index_parts d t p.key x (stands_as ps i p (Index x) fit at is) in
    let there = index_parts d t q.key y (stands_as ps j q (Index y) fit also too) in
    same_area d x.area y.area p.key q.key here.1 there.1 (sym here.0 ∙ ap (λ n. index_area (find chars_order n t.indexes)) same ∙ there.0)

global_names : (ps : List PlacedLine) → misfit ps ≡ None → OnePer Global (λ g h. g.name ≡ h.name) ps
global_names ps fit i j p q g h at also is too same =
    one_key p.key q.key _ _ (stands_as ps i p (Global g) fit at is) (stands_as ps j q (Global h) fit also too) (ap (λ n. find chars_order n (directory ps).globals) same)

pub field_part : (d : Directory) (t : Tables) (key : Dbkey) (f : FieldLine) → stands d t key (FieldOf f) ≡ true → is_field_key key (find place_order (place f.relation f.position) d.fields) ≡ true
field_part d t key f stood =
    let here = is_field_key key (find place_order (place f.relation f.position) d.fields) in
    let there = has_area f.relation d in
    (and_parts here there (and_parts (here && there) (f.position == 0 || has_field f.relation d (f.position - 1)) stood).0).0

field_places : (ps : List PlacedLine) → misfit ps ≡ None → OnePer FieldOf (λ f g. (f.relation ≡ g.relation) × (f.position ≡ g.position)) ps
field_places ps fit i j p q f g at also is too same =
    let d = directory ps in let t = catalog_tables ps in
    one_field_key p.key q.key (find place_order (place f.relation f.position) d.fields) (find place_order (place g.relation g.position) d.fields)
    (field_part d t p.key f (stands_as ps i p (FieldOf f) fit at is)) (field_part d t q.key g (stands_as ps j q (FieldOf g) fit also too))
    (λ k. find place_order (place (same.0 k) (same.1 k)) d.fields)

pub things_differ : (ps : List PlacedLine) → misfit ps ≡ None → Differ ps
things_differ ps fit = record {
  relation_names = relation_names ps fit;
  relation_areas = relation_areas ps fit;
  index_names = index_names ps fit;
  index_areas = index_areas ps fit;
  global_names = global_names ps fit;
  field_places = field_places ps fit;
}
