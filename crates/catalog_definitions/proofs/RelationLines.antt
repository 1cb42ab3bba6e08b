-- A relation more, with its fields.
use Rattle.std.proofs.Common.{◌≡◌, ℕ, ◌+◌, ◌-◌, ◌≤◌, Bool, true, false, not, ◌&&◌, ◌==◌, nat_eq, List, [], ◌∷◌, Some, None, refl, ap, ◌∙◌, arith}
use Rattle.std.specs.Prelude.{is_some, ◌||◌}
use Rattle.std.specs.List.{AllByRecursion, list_all}
use Rattle.std.specs.FinMap.Entries.{find, put}
use Rattle.rdb_types.specs.declared.keys.Dbkey.{Dbkey}
use Rattle.rdb_types.specs.declared.values.Field.{Field}
use Rattle.ordered_entries.proofs.Laws.{find-put_same}
use Rattle.rdb_types.specs.OrderLaws.{chars_total}
use Rattle.rdb_meaning.specs.declared.tables.Relation.{Relation as RelationOf}
use Rattle.rdb_meaning.specs.declared.tables.Tables.{Tables}
use Rattle.rdb_meaning.specs.Contents.{fields_of}
use Rattle.rdb_types.specs.Order.{chars_order}
use Rattle.rdb_meaning.specs.Execution.{area_of}
use Rattle.catalog_lines.specs.declared.line.RelationLine.{RelationLine}
use Rattle.catalog_lines.specs.declared.line.CatalogLine.{CatalogLine}
use Rattle.catalog_lines.specs.declared.line.CatalogLine.TheVariants.{Relation, Global, Field as FieldOf, Index}
use Rattle.catalog.specs.declared.directory.PlacedLine.{PlacedLine}
use Rattle.catalog.specs.declared.directory.Directory.{Directory}
use Rattle.catalog.specs.Directory.{area_order, place_order, numbered, place, noted, directory_from}
use Rattle.catalog.specs.Schema.{with_thing, tables_from, is_key, is_field_key, index_area, has_field, has_area, max_fields, differ, same_field, stands}
use Rattle.catalog_definitions.proofs.Puts.{none_put, untied_back, find-put_other}
use Rattle.catalog_definitions.proofs.Growth.{Grows, GrowsApart, Apart, AllApart, DifferentAreas, area_total, place_total, all_step}
use Rattle.catalog_definitions.proofs.Fitting.{Stands}
use Rattle.catalog_definitions.proofs.FreeAreas.{eq_itself}
use Rattle.catalog_definitions.proofs.Lookups.{IsOff, other_area}
use Rattle.catalog_definitions.proofs.IndexLines.{field_area, index_relation}
use Rattle.catalog_definitions.proofs.NewFields.{DifferentPlaces, other_relation, other_position, at_keys, AreFound}
use Rattle.catalog_definitions.proofs.Basics.{or_true, itself}

-- ---- another name and another area

line_apart : (d : Directory) (r : RelationLine) (line : CatalogLine) (t : Tables) → find chars_order r.name (with_thing d line t).relations ≡ None → IsOff r.area line → (find chars_order r.name t.relations ≡ None) × Apart (Relation r) line
line_apart d r (Relation s) t none off = let parts = none_put chars_order chars_total r.name s.name _ t.relations none in (parts.1, (parts.0, off))
line_apart d r (Global g) t none off = (none, tt)
line_apart d r (FieldOf f) t none off = (none, tt)
line_apart d r (Index y) t none off = (none, off)

pub lines_apart : (d : Directory) (k : Dbkey) (r : RelationLine) (ps : List PlacedLine) (t : Tables) → find chars_order r.name (tables_from d t ps).relations ≡ None → AllByRecursion (λ q. IsOff r.area q.line) ps → (find chars_order r.name t.relations ≡ None) × AllApart (record { key = k; line = Relation r }) ps
lines_apart d k r [] t none off = (none, tt)
lines_apart d k r (q ∷ ps) t none off =
    let rest = lines_apart d k r ps (with_thing d q.line t) none off.1 in
    let here = line_apart d r q.line t rest.0 off.0 in
    (here.0, (here.1, rest.1))

-- ---- no field is of the new area

abbrev pub IsFieldOff : ℕ → CatalogLine → Type 0
IsFieldOff area (Relation r) = Unit {0}
IsFieldOff area (Global g) = Unit {0}
IsFieldOff area (FieldOf f) = DifferentAreas area f.relation
IsFieldOff area (Index x) = Unit {0}

field_off : (d : Directory) (t : Tables) (area : ℕ) (key : Dbkey) (line : CatalogLine) → find area_order (numbered area) d.areas ≡ None → stands d t key line ≡ true → IsFieldOff area line
field_off d t area key (Relation r) none stood = tt
field_off d t area key (Global g) none stood = tt
field_off d t area key (FieldOf f) none stood = untied_back area_order area_total (numbered f.relation) (numbered area) (other_area d f.relation area none (field_area d t key f stood))
field_off d t area key (Index x) none stood = tt

pub fields_off : (d : Directory) (t : Tables) (area : ℕ) (ps : List PlacedLine) → find area_order (numbered area) d.areas ≡ None → AllByRecursion (Stands d t) ps → AllByRecursion (λ q. IsFieldOff area q.line) ps
fields_off d t area [] none stood = tt
fields_off d t area (q ∷ ps) none stood = (field_off d t area q.key q.line none stood.0, fields_off d t area ps none stood.1)

no_field : (area p : ℕ) (k : Dbkey) (line : CatalogLine) (d : Directory) → IsFieldOff area line → find place_order (place area p) (noted k line d).fields ≡ find place_order (place area p) d.fields
no_field area p k (Relation r) d off = refl
no_field area p k (Global g) d off = refl
no_field area p k (FieldOf f) d off = find-put_other place_order place_total (place area p) (place f.relation f.position) (record { key = k; field = f.field }) d.fields (other_relation area f.relation p f.position off)
no_field area p k (Index x) d off = refl

pub no_fields : (area p : ℕ) (ps : List PlacedLine) (d : Directory) → AllByRecursion (λ q. IsFieldOff area q.line) ps → find place_order (place area p) (directory_from d ps).fields ≡ find place_order (place area p) d.fields
no_fields area p [] d off = refl
no_fields area p (q ∷ ps) d off = no_fields area p ps (noted q.key q.line d) off.1 ∙ no_field area p q.key q.line d off.0

-- ---- the fields' lines are of different places

abbrev pub IsBelow : ℕ → ℕ → CatalogLine → Type 0
IsBelow area p (Relation r) = Unit {0}
IsBelow area p (Global g) = Unit {0}
IsBelow area p (FieldOf f) = (j : ℕ) → p ≤ j → DifferentPlaces (place area j) (place f.relation f.position)
IsBelow area p (Index x) = Unit {0}

off_below : (area p : ℕ) (line : CatalogLine) → IsFieldOff area line → IsBelow area p line
off_below area p (Relation r) off = tt
off_below area p (Global g) off = tt
off_below area p (FieldOf f) off = λ j low. other_relation area f.relation j f.position off
off_below area p (Index x) off = tt

pub offs_below : (area p : ℕ) (ps : List PlacedLine) → AllByRecursion (λ q. IsFieldOff area q.line) ps → AllByRecursion (λ q. IsBelow area p q.line) ps
offs_below area p [] off = tt
offs_below area p (q ∷ ps) off = (off_below area p q.line off.0, offs_below area p ps off.1)

below_next : (area p : ℕ) (line : CatalogLine) → IsBelow area p line → IsBelow area (p + 1) line
below_next area p (Relation r) below = tt
below_next area p (Global g) below = tt
below_next area p (FieldOf f) below = λ j low. below j (omega (arith, low))
below_next area p (Index x) below = tt

belows_next : (area p : ℕ) (ps : List PlacedLine) → AllByRecursion (λ q. IsBelow area p q.line) ps → AllByRecursion (λ q. IsBelow area (p + 1) q.line) ps
belows_next area p [] below = tt
belows_next area p (q ∷ ps) below = (below_next area p q.line below.0, belows_next area p ps below.1)

below_apart : (area p : ℕ) (f : Field) (line : CatalogLine) → IsBelow area p line → Apart (FieldOf (record { relation = area; position = p; field = f })) line
below_apart area p f (Relation r) below = tt
below_apart area p f (Global g) below = tt
below_apart area p f (FieldOf e) below = below p (omega arith)
below_apart area p f (Index x) below = tt

belows_apart : (area p : ℕ) (k : Dbkey) (f : Field) (ps : List PlacedLine) → AllByRecursion (λ q. IsBelow area p q.line) ps → AllApart (record { key = k; line = FieldOf (record { relation = area; position = p; field = f }) }) ps
belows_apart area p k f [] below = tt
belows_apart area p k f (q ∷ ps) below = (below_apart area p f q.line below.0, belows_apart area p k f ps below.1)

pub fields_grow : (area p : ℕ) (keys : List Dbkey) (fs : List Field) (ps rs : List PlacedLine) → Grows (at_keys area p keys fs) ps rs → AllByRecursion (λ q. IsBelow area p q.line) ps → GrowsApart (at_keys area p keys fs) ps rs
fields_grow area p [] fs ps rs grows below = grows
fields_grow area p (k ∷ keys) [] ps rs grows below = grows
fields_grow area p (k ∷ keys) (f ∷ fs) ps rs grows below =
    let n : PlacedLine = record { key = k; line = FieldOf (record { relation = area; position = p; field = f }) } in
    let here : IsBelow area (p + 1) n.line = λ j low. other_position area area j p (λ same. omega (arith, same, low)) in (
      grows.0,
      grows.1,
      belows_apart area p k f ps below,
      fields_grow area (p + 1) keys fs grows.0 rs grows.2 (all_step (λ q. IsBelow area (p + 1) q.line) n ps grows.0 grows.1 here (belows_next area p ps below)),
    )

-- ---- the other lines

-- a directory with a relation of this area more
pub record HasMore (area : ℕ) (k : Dbkey) (d e : Directory) : Type 0 where
  pub areas : e.areas ≡ put area_order (numbered area) k d.areas
  pub globals : e.globals ≡ d.globals
  pub fields : (a q : ℕ) → DifferentAreas a area → find place_order (place a q) e.fields ≡ find place_order (place a q) d.fields

abbrev pub with_relation_named : List ℕ → RelationOf → Tables → Tables
with_relation_named n rel t = record t { relations = put chars_order n rel t.relations }

found_area : (area a : ℕ) (k : Dbkey) (d e : Directory) → HasMore area k d e → DifferentAreas a area → find area_order (numbered a) e.areas ≡ find area_order (numbered a) d.areas
found_area area a k d e more apart = ap (find area_order (numbered a)) more.areas ∙ find-put_other area_order area_total (numbered a) (numbered area) k d.areas apart

pub still_stands : (d e : Directory) (t : Tables) (k key : Dbkey) (r : RelationLine) (rel : RelationOf) (line : CatalogLine) → HasMore r.area k d e → find area_order (numbered r.area) d.areas ≡ None → Apart (Relation r) line → stands d t key line ≡ true → stands e (with_relation_named r.name rel t) key line ≡ true
still_stands d e t k key r rel (Relation s) more none apart stood =
    let named = find-put_other chars_order chars_total s.name r.name rel t.relations (untied_back chars_order chars_total r.name s.name apart.0) in
    let other = untied_back area_order area_total (numbered r.area) (numbered s.area) apart.1 in
    let own = found_area r.area s.area k d e more other in
    let first = more.fields s.area 0 other in
    let last = more.fields s.area max_fields other in
    (λ i. area_of (named i) == s.area && is_key key (own i) && is_some (first i) && not (is_some (last i)) && differ same_field (fields_of (named i))) ∙ stood
still_stands d e t k key r rel (Global g) more none apart stood = ap (λ m. is_key key (find chars_order g.name m)) more.globals ∙ stood
still_stands d e t k key r rel (FieldOf f) more none apart stood =
    let other = other_area d f.relation r.area none (field_area d t key f stood) in
    let on = found_area r.area f.relation k d e more other in
    let own = more.fields f.relation f.position other in
    let before = more.fields f.relation (f.position - 1) other in
    (λ i. is_field_key key (own i) && is_some (on i) && (f.position == 0 || is_some (before i))) ∙ stood
still_stands d e t k key r rel (Index y) more none apart stood =
    let own = found_area r.area y.area k d e more (untied_back area_order area_total (numbered r.area) (numbered y.area) apart) in
    let other = other_area d y.relation r.area none (index_relation d t key y stood) in
    let on = found_area r.area y.relation k d e more other in
    let fields = λ (q : ℕ). more.fields y.relation q other in
    (λ i. index_area (find chars_order y.name t.indexes) == y.area && is_key key (own i) && is_some (on i) && differ nat_eq y.fields && list_all (λ (q : ℕ). is_some (fields q i)) y.fields && y.root.area == y.area) ∙ stood

-- ---- the new lines

five : (a b c d e : Bool) → a ≡ true → b ≡ true → c ≡ true → d ≡ true → e ≡ true → (a && b && c && d && e) ≡ true
five a b c d e p q r s t = simp (p, q, r, s, t)

three : (a b c : Bool) → a ≡ true → b ≡ true → c ≡ true → (a && b && c) ≡ true
three a b c p q r = simp (p, q, r)

pub area_found : (area : ℕ) (k : Dbkey) (d e : Directory) → HasMore area k d e → find area_order (numbered area) e.areas ≡ Some k
area_found area k d e more = ap (find area_order (numbered area)) more.areas ∙ find-put_same area_order area_total (numbered area) k d.areas

pub relation_stands : (d e : Directory) (t : Tables) (k : Dbkey) (r : RelationLine) (rel : RelationOf) → HasMore r.area k d e → rel.area ≡ r.area → has_field r.area e 0 ≡ true → has_field r.area e max_fields ≡ false → differ same_field rel.fields ≡ true → stands e (with_relation_named r.name rel t) k (Relation r) ≡ true
relation_stands d e t k r rel more area first last differs =
    let named = find-put_same chars_order chars_total r.name rel t.relations in
    five (area_of (find chars_order r.name (put chars_order r.name rel t.relations)) == r.area) (is_key k (find area_order (numbered r.area) e.areas)) (has_field r.area e 0) (not (has_field r.area e max_fields)) (differ same_field (fields_of (find chars_order r.name (put chars_order r.name rel t.relations))))
    (ap (λ o. area_of o == r.area) named ∙ ap (λ (a : ℕ). a == r.area) area ∙ eq_itself r.area)
    (ap (is_key k) (area_found r.area k d e more) ∙ itself k)
    first
    (ap not last)
    (ap (λ o. differ same_field (fields_of o)) named ∙ differs)

-- a position is the first one, or the one before it has a field
abbrev pub IsNextField : ℕ → ℕ → Directory → Type 0
IsNextField area p e = (p == 0 || has_field area e (p - 1)) ≡ true

pub fields_stand : (e : Directory) (t : Tables) (area p : ℕ) (keys : List Dbkey) (fs : List Field) → has_area area e ≡ true → AreFound area p keys fs e.fields → IsNextField area p e → AllByRecursion (Stands e t) (at_keys area p keys fs)
fields_stand e t area p [] fs there found next = tt
fields_stand e t area p (k ∷ keys) [] there found next = tt
fields_stand e t area p (k ∷ keys) (f ∷ fs) there found next =
    let behind : IsNextField area (p + 1) e =
    ap (λ b. p + 1 == 0 || b) (ap (λ (q : ℕ). is_some (find place_order (place area q) e.fields)) (let same : p + 1 - 1 ≡ p = omega arith in same) ∙ ap is_some found.0) ∙ or_true (p + 1 == 0) in (
      three (is_field_key k (find place_order (place area p) e.fields)) (has_area area e) (p == 0 || has_field area e (p - 1)) (ap (is_field_key k) found.0 ∙ itself k) there next,
      fields_stand e t area (p + 1) keys fs there found.1 behind,
    )
