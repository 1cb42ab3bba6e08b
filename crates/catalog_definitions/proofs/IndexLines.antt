-- An index more.
use Rattle.std.proofs.Common.{◌≡◌, ℕ, ◌+◌, ◌-◌, ◌<◌, Bool, true, not, ◌&&◌, ◌==◌, nat_eq, List, [], ◌∷◌, length, None, refl, ap, ◌∙◌, arith}
use Rattle.std.specs.Prelude.{is_some, ◌||◌}
use Rattle.std.specs.List.{AllByRecursion, list_all}
use Rattle.std.specs.Ordering.{is_eq}
use Rattle.std.specs.Cmp.{tied_itself}
use Rattle.std.specs.FinMap.Entries.{find, put}
use Rattle.std.proofs.lemmas.Bool.{and_parts}
use Rattle.rdb_types.specs.declared.keys.Dbkey.{Dbkey}
use Rattle.ordered_entries.proofs.Laws.{find-put_same}
use Rattle.rdb_types.specs.OrderLaws.{chars_total, dbkey_total}
use Rattle.rdb_meaning.specs.declared.tables.Relation.{Relation as RelationOf}
use Rattle.rdb_meaning.specs.declared.tables.Index.{Index as IndexOf}
use Rattle.rdb_meaning.specs.declared.tables.Tables.{Tables}
use Rattle.rdb_meaning.specs.Contents.{relation_named, fields_of}
use Rattle.rdb_types.specs.Order.{chars_order}
use Rattle.rdb_meaning.specs.Execution.{area_of}
use Rattle.catalog_lines.specs.declared.line.FieldLine.{FieldLine}
use Rattle.catalog_lines.specs.declared.line.IndexLine.{IndexLine}
use Rattle.catalog_lines.specs.declared.line.CatalogLine.{CatalogLine}
use Rattle.catalog_lines.specs.declared.line.CatalogLine.TheVariants.{Relation, Global, Field as FieldOf, Index}
use Rattle.catalog.specs.declared.directory.PlacedLine.{PlacedLine}
use Rattle.catalog.specs.declared.directory.Directory.{Directory}
use Rattle.catalog.specs.Directory.{area_order, place_order, numbered, place, noted}
use Rattle.catalog.specs.Schema.{with_thing, tables_from, is_key, is_field_key, index_area, has_field, has_area, relation_fields, max_fields, differ, same_field, stands}
use Rattle.catalog.proofs.Differences.{relation_parts}
use Rattle.catalog_definitions.proofs.Puts.{none_put, untied_back, find-put_other}
use Rattle.catalog_definitions.proofs.Growth.{Apart, AllApart, DifferentAreas, area_total}
use Rattle.catalog_definitions.proofs.FreeAreas.{eq_itself}
use Rattle.catalog_definitions.proofs.Lookups.{IsOff, RelationFrom, other_area, key_there, field_there}

abbrev pub noted_index : Dbkey → IndexLine → Directory → Directory
noted_index k x d = noted k (Index x) d

abbrev pub with_index_line : IndexLine → Tables → Tables
with_index_line x t = record t { indexes = put chars_order x.name (record { area = x.area; relation = x.relation; unique = x.unique; fields = x.fields }) t.indexes }

-- ---- another name and another area

line_apart : (d : Directory) (x : IndexLine) (line : CatalogLine) (t : Tables) → find chars_order x.name (with_thing d line t).indexes ≡ None → IsOff x.area line → (find chars_order x.name t.indexes ≡ None) × Apart (Index x) line
line_apart d x (Relation r) t none off = (none, off)
line_apart d x (Global g) t none off = (none, tt)
line_apart d x (FieldOf f) t none off = (none, tt)
line_apart d x (Index y) t none off = let parts = none_put chars_order chars_total x.name y.name _ t.indexes none in (parts.1, (parts.0, off))

pub lines_apart : (d : Directory) (k : Dbkey) (x : IndexLine) (ps : List PlacedLine) (t : Tables) → find chars_order x.name (tables_from d t ps).indexes ≡ None → AllByRecursion (λ q. IsOff x.area q.line) ps → (find chars_order x.name t.indexes ≡ None) × AllApart (record { key = k; line = Index x }) ps
lines_apart d k x [] t none off = (none, tt)
lines_apart d k x (q ∷ ps) t none off =
    let rest = lines_apart d k x ps (with_thing d q.line t) none off.1 in
    let here = line_apart d x q.line t rest.0 off.0 in
    (here.0, (here.1, rest.1))

-- ---- the other lines

pub field_area : (d : Directory) (t : Tables) (key : Dbkey) (f : FieldLine) → stands d t key (FieldOf f) ≡ true → has_area f.relation d ≡ true
field_area d t key f stood =
    let here = is_field_key key (find place_order (place f.relation f.position) d.fields) in
    let there = has_area f.relation d in
    (and_parts here there (and_parts (here && there) (f.position == 0 || has_field f.relation d (f.position - 1)) stood).0).1

three_of_6 : (a b c d e f : Bool) → (a && b && c && d && e && f) ≡ true → c ≡ true
three_of_6 a b c d e f is = (and_parts (a && b) c (and_parts (a && b && c) d (and_parts (a && b && c && d) e (and_parts (a && b && c && d && e) f is).0).0).0).1

pub index_relation : (d : Directory) (t : Tables) (key : Dbkey) (y : IndexLine) → stands d t key (Index y) ≡ true → has_area y.relation d ≡ true
index_relation d t key y stood =
    three_of_6 (index_area (find chars_order y.name t.indexes) == y.area) (is_key key (find area_order (numbered y.area) d.areas)) (has_area y.relation d) (differ nat_eq y.fields) (list_all (has_field y.relation d) y.fields) (y.root.area == y.area) stood

same_area : (d : Directory) (k : Dbkey) (a new : ℕ) → DifferentAreas a new → find area_order (numbered a) (put area_order (numbered new) k d.areas) ≡ find area_order (numbered a) d.areas
same_area d k a new other = find-put_other area_order area_total (numbered a) (numbered new) k d.areas other

pub still_stands : (d : Directory) (t : Tables) (k key : Dbkey) (x : IndexLine) (line : CatalogLine) → find area_order (numbered x.area) d.areas ≡ None → Apart (Index x) line → stands d t key line ≡ true → stands (noted_index k x d) (with_index_line x t) key line ≡ true
still_stands d t k key x (Relation r) none apart stood =
    let found = same_area d k r.area x.area (untied_back area_order area_total (numbered x.area) (numbered r.area) apart) in
    ap (λ o. area_of (relation_named r.name t) == r.area && is_key key o && has_field r.area d 0 && not (has_field r.area d max_fields) && differ same_field (fields_of (relation_named r.name t))) found ∙ stood
still_stands d t k key x (Global g) none apart stood = stood
still_stands d t k key x (FieldOf f) none apart stood =
    let found = same_area d k f.relation x.area (other_area d f.relation x.area none (field_area d t key f stood)) in
    ap (λ o. is_field_key key (find place_order (place f.relation f.position) d.fields) && is_some o && (f.position == 0 || has_field f.relation d (f.position - 1))) found ∙ stood
still_stands d t k key x (Index y) none apart stood =
    let named = find-put_other chars_order chars_total y.name x.name (let v : IndexOf = record { area = x.area; relation = x.relation; unique = x.unique; fields = x.fields } in v) t.indexes (untied_back chars_order chars_total x.name y.name apart.0) in
    let own = same_area d k y.area x.area (untied_back area_order area_total (numbered x.area) (numbered y.area) apart.1) in
    let on = same_area d k y.relation x.area (other_area d y.relation x.area none (index_relation d t key y stood)) in
    (λ i. index_area (named i) == y.area && is_key key (own i) && is_some (on i) && differ nat_eq y.fields && list_all (has_field y.relation d) y.fields && y.root.area == y.area) ∙ stood

-- ---- the new line

six : (a b c d e f : Bool) → a ≡ true → b ≡ true → c ≡ true → d ≡ true → e ≡ true → f ≡ true → (a && b && c && d && e && f) ≡ true
six a b c d e f p q r s t u = simp (p, q, r, s, t, u)

has_fields : (relation : ℕ) (d : Directory) (count : ℕ) → ((i : ℕ) → i < count → has_field relation d i ≡ true) → (positions : List ℕ) → AllByRecursion (λ (p : ℕ). p < count) positions → list_all (has_field relation d) positions ≡ true
has_fields relation d count each [] within = refl
has_fields relation d count each (p ∷ positions) within =
    ap (λ b. b && list_all (has_field relation d) positions) (each p within.0) ∙ has_fields relation d count each positions within.1

field_of_relation : (d : Directory) (area i : ℕ) → i < length (relation_fields area d) → has_field area d i ≡ true
unfolding relation_fields
field_of_relation d area i within = ap (λ (q : ℕ). is_some (find place_order (place area q) d.fields)) (let same : i ≡ 0 + i = omega arith in same) ∙ field_there 50 area 0 i d.fields within

pub new_stands : (d : Directory) (t : Tables) (k : Dbkey) (x : IndexLine) (rel : RelationOf) → find area_order (numbered x.area) d.areas ≡ None → RelationFrom d d t rel → x.relation ≡ rel.area → differ nat_eq x.fields ≡ true → AllByRecursion (λ (p : ℕ). p < length rel.fields) x.fields → x.root.area ≡ x.area → stands (noted_index k x d) (with_index_line x t) k (Index x) ≡ true
new_stands d t k x rel none from on places within root =
    let v : IndexOf = record { area = x.area; relation = x.relation; unique = x.unique; fields = x.fields } in
    let relation : x.relation ≡ from.r.area = on ∙ ap (λ (r : RelationOf). r.area) from.same in
    let count : length rel.fields ≡ length (relation_fields from.r.area d) = ap (λ (r : RelationOf). length r.fields) from.same in
    let there : is_some (find area_order (numbered x.relation) d.areas) ≡ true =
    ap (λ a. is_some (find area_order (numbered a) d.areas)) relation ∙ key_there from.key (find area_order (numbered from.r.area) d.areas) (relation_parts d t from.key from.r from.stood).1 in
    let found = same_area d k x.relation x.area (other_area d x.relation x.area none there) in
    let fields : (i : ℕ) → i < length rel.fields → has_field x.relation d i ≡ true =
    λ i h. ap (λ (a : ℕ). has_field a d i) relation ∙ field_of_relation d from.r.area i (omega (arith, h, count)) in
    six (index_area (find chars_order x.name (put chars_order x.name v t.indexes)) == x.area) (is_key k (find area_order (numbered x.area) (put area_order (numbered x.area) k d.areas))) (is_some (find area_order (numbered x.relation) (put area_order (numbered x.area) k d.areas))) (differ nat_eq x.fields) (list_all (has_field x.relation d) x.fields) (x.root.area == x.area)
    (ap (λ o. index_area o == x.area) (find-put_same chars_order chars_total x.name v t.indexes) ∙ eq_itself x.area)
    (ap (is_key k) (find-put_same area_order area_total (numbered x.area) k d.areas) ∙ ap is_eq (tied_itself dbkey_total k))
    (ap is_some found ∙ there)
    places
    (has_fields x.relation d (length rel.fields) fields x.fields within)
    (ap (λ (a : ℕ). a == x.area) root ∙ eq_itself x.area)
