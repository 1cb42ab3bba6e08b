-- What DEFINE RELATION leaves of the catalog.
use Rattle.std.proofs.Common.{◌≡◌, ℕ, suc, ◌+◌, ◌≤◌, ◌%◌, true, false, cond, not, ◌&&◌, List, [], ◌∷◌, ◌++◌, map, length, Option, Some, None, ◌⊎◌, inl, inr, refl, sym, ap, subst, ◌∙◌, arith, if◌then◌else◌}
use Rattle.std.specs.Prelude.{is_some, IsSome, ◌||◌, nat_le, sum_by}
use Rattle.std.specs.List.{AllByRecursion, list_any}
use Rattle.std.proofs.lemmas.List.{length-map}
use Rattle.std.proofs.lemmas.List.Folds.{list_any-append}
use Rattle.std.specs.Ordering.{is_eq}
use Rattle.std.specs.FinMap.Entries.{find, find-put}
use Rattle.rdb_types.specs.declared.keys.Dbkey.{Dbkey}
use Rattle.rdb_types.specs.declared.values.Field.{Field}
use Rattle.rdb_types.specs.declared.values.FieldType.{FieldType}
use Rattle.ordered_entries.proofs.Laws.{find-put_same}
use Rattle.rdb_types.specs.OrderLaws.{chars_total}
use Rattle.std.proofs.lemmas.Option.{same_Some}
use Rattle.rdo_ast.specs.Tree.{Name}
use Rattle.rdo_ast.specs.declared.syntax.FieldDefinition.{FieldDefinition}
use Rattle.rdo_ast.specs.declared.syntax.DefinedType.{DefinedType}
use Rattle.rdo_ast.specs.declared.syntax.DefinedType.TheVariants.{Own, BasedOn}
use Rattle.rdo_ast.specs.declared.reply.Reply.TheVariants.{Exists}
use Rattle.rdb_meaning.specs.declared.tables.Relation.{Relation as RelationOf}
use Rattle.rdb_meaning.specs.declared.tables.Tables.{Tables}
use Rattle.rdb_meaning.specs.Contents.{same_name, no_tables, relation_named, is_used, longest_value, class_of, new_relation_area}
use Rattle.rdb_types.specs.Order.{chars_order}
use Rattle.rdb_meaning.specs.Checks.{or_else, needs_some, needs_none}
use Rattle.rdb_meaning.specs.Defining.{is_among, type_names, fields_names, relation_names, copied_type, type_of, new_field, with_relation}
use Rattle.line_view.specs.Knowledge.{Knowledge, Lines}
use Rattle.line_view.specs.declared.writes.Write.{Write}
use Rattle.line_view.specs.Writes.{laid_all}
use Rattle.catalog_lines.specs.declared.line.RelationLine.{RelationLine}
use Rattle.catalog_lines.specs.declared.line.CatalogLine.{CatalogLine}
use Rattle.catalog_lines.specs.declared.line.CatalogLine.TheVariants.{Relation, Global, Field as FieldOf, Index}
use Rattle.catalog_lines.specs.Lines.{IsAllowedLine, IsRelationArea, IsClass}
use Rattle.catalog_lines.specs.Parts.{IsType}
use Rattle.catalog.specs.declared.directory.PlacedLine.{PlacedLine}
use Rattle.catalog.specs.declared.directory.Directory.{Directory}
use Rattle.catalog.specs.declared.reading.Catalog.{Catalog}
use Rattle.catalog.specs.Directory.{area_order, place_order, numbered, place, noted, directory, directory_from, no_directory}
use Rattle.catalog.specs.Schema.{with_thing, tables_from, catalog_tables, relation_fields, has_field, differ, same_field}
use Rattle.catalog.specs.Reading.{AreCatalogLines, IsCatalogOf, IsWhole}
use Rattle.catalog_definitions.specs.Written.{AreWritten, field_lines, lines_of_relation, relation_lines, IsOwnType, IsFieldDefinition, IsRelationDefinition}
use Rattle.catalog_definitions.specs.Leaving.{Leaves, Turns}
use Rattle.catalog_definitions.proofs.Puts.{untied_back}
use Rattle.catalog_definitions.proofs.Growth.{Apart, AllApart, Grows, GrowsApart, area_total, all_step}
use Rattle.catalog_definitions.proofs.Laying.{placed_at, laid_lines, rooms_apart, rooms_free}
use Rattle.catalog_definitions.proofs.Fitting.{Stands, fit_all, all_pairs, HasFields, tables_on, grown_catalog}
use Rattle.catalog_definitions.proofs.FreeAreas.{unused, free_bounds}
use Rattle.catalog_definitions.proofs.KeyPlaces.{first_none, names_are, name_itself, apart_names, not_again}
use Rattle.catalog_definitions.proofs.Lookups.{all_good, even_offs, off_lines, IsOff}
use Rattle.catalog_definitions.proofs.NewFields.{at_keys, same_areas, same_globals, elsewhere, other_relation, other_position, AreFound, are_found, no_things, relation_alike, relation_found}
use Rattle.catalog_definitions.proofs.RelationLines.{lines_apart, IsFieldOff, fields_off, no_fields, IsBelow, offs_below, fields_grow, HasMore, with_relation_named, still_stands, area_found, relation_stands, fields_stand}
use Rattle.catalog_definitions.proofs.GlobalFields.{whole_of}
use Rattle.catalog_definitions.proofs.Basics.{none_named, or_true}

-- ---- names that differ

now_named : (n : Name) (before : List Name) → is_among n (before ++ n ∷ []) ≡ true
now_named n before =
    list_any-append (same_name n) before (n ∷ [])
    ∙ ap (λ b. is_among n before || (b || false)) (name_itself n) ∙ or_true (is_among n before)

still_named : (n m : Name) (before : List Name) → is_among n before ≡ true → is_among n (before ++ m ∷ []) ≡ true
still_named n m before named = list_any-append (same_name n) before (m ∷ []) ∙ ap (λ b. b || is_among n (m ∷ [])) named

record Taken (before : List Name) (f : FieldDefinition) (fs : List FieldDefinition) (t : Tables) : Type 0 where
  pub new : is_among f.name before ≡ false
  pub kind : type_names f.kind t ≡ None
  pub rest : fields_names (before ++ f.name ∷ []) fs t ≡ None

taken : (before : List Name) (f : FieldDefinition) (fs : List FieldDefinition) (t : Tables) → fields_names before (f ∷ fs) t ≡ None → Taken before f fs t
taken before f fs t none =
    let parts = first_none (if is_among f.name before then Some (Exists f.name) else None) (or_else (type_names f.kind t) (fields_names (before ++ f.name ∷ []) fs t)) none in
    let others = first_none (type_names f.kind t) (fields_names (before ++ f.name ∷ []) fs t) parts.1 in
    record { new = not_again (is_among f.name before) f.name parts.0; kind = others.0; rest = others.1 }

not_later : (n : Name) (before : List Name) (fs : List FieldDefinition) (t : Tables) → fields_names before fs t ≡ None → is_among n before ≡ true → list_any (λ g. same_name n g.name) (map (new_field t) fs) ≡ false
not_later n before [] t none named = refl
not_later n before (g ∷ fs) t none named =
    let s = taken before g fs t none in
    let apart : same_name n g.name ≡ false =
    elim (same_name n g.name) as (λ b. same_name n g.name ≡ b → b ≡ false) [
      | true ↦ λ e. absurd (apart_names g.name n before named s.new (sym (names_are n g.name e)))
      | false ↦ λ e. refl
    ] refl in
    ap (λ b. b || list_any (λ g. same_name n g.name) (map (new_field t) fs)) apart
    ∙ not_later n (before ++ g.name ∷ []) fs t s.rest (still_named n g.name before named)

names_differ : (before : List Name) (fs : List FieldDefinition) (t : Tables) → fields_names before fs t ≡ None → differ same_field (map (new_field t) fs) ≡ true
names_differ before [] t none = refl
names_differ before (f ∷ fs) t none =
    let s = taken before f fs t none in
    ap (λ b. not b && differ same_field (map (new_field t) fs)) (not_later f.name (before ++ f.name ∷ []) fs t s.rest (now_named f.name before))
    ∙ names_differ (before ++ f.name ∷ []) fs t s.rest

-- ---- types of global fields

type_line : (e : Directory) (g : Name) (kind : FieldType) (line : CatalogLine) (t : Tables) → IsAllowedLine line → find chars_order g (with_thing e line t).globals ≡ Some kind → (find chars_order g t.globals ≡ Some kind) ⊎ IsType kind
type_line e g kind (Relation r) t allowed found = inl found
type_line e g kind (Global h) t allowed found =
    elim (is_eq (chars_order g h.name)) as (λ b. cond b (Some h.kind) (find chars_order g t.globals) ≡ Some kind → (find chars_order g t.globals ≡ Some kind) ⊎ IsType kind) [
      | true ↦ λ s. let same : h.kind ≡ kind = cc in inr (subst IsType same allowed.kind)
      | false ↦ λ s. inl s
    ] (sym (find-put chars_order chars_total g h.name h.kind t.globals) ∙ found)
type_line e g kind (FieldOf f) t allowed found = inl found
type_line e g kind (Index x) t allowed found = inl found

type_lines : (e : Directory) (g : Name) (kind : FieldType) (ps : List PlacedLine) (t : Tables) → AllByRecursion (λ p. IsAllowedLine p.line) ps → find chars_order g (tables_from e t ps).globals ≡ Some kind → (find chars_order g t.globals ≡ Some kind) ⊎ IsType kind
type_lines e g kind [] t allowed found = inl found
type_lines e g kind (q ∷ ps) t allowed found =
    elim (type_lines e g kind ps (with_thing e q.line t) allowed.1 found) [
      | inl h ↦ type_line e g kind q.line t allowed.0 h
      | inr h ↦ inr h
    ]

global_type : (c : Catalog) (g : Name) (found : Option FieldType) → IsWhole c → find chars_order g c.tables.globals ≡ found → needs_some g found ≡ None → IsType (copied_type found)
global_type c g None whole is none = let bad : ⊥ = cc in absurd bad
global_type c g (Some kind) whole is none =
    elim (type_lines (directory c.lines) g kind c.lines no_tables whole.allowed (ap (λ t. find chars_order g t.globals) (sym whole.tables) ∙ is)) [
      | inl h ↦ let bad : ⊥ = cc in absurd bad
      | inr h ↦ h
    ]

type_allowed : (c : Catalog) (kind : DefinedType) → IsWhole c → type_names kind c.tables ≡ None → IsOwnType kind → IsType (type_of kind c.tables)
type_allowed c (Own kind) whole none own = own
type_allowed c (BasedOn g) whole none own = global_type c g (find chars_order g c.tables.globals) whole refl none

-- ---- the lines

pub area_bounds : (t : Tables) → IsRelationArea (new_relation_area t)
area_bounds t =
    let bounds = free_bounds (length t.relations) 16 (map (λ e. e.1.area) t.relations) in
    (bounds.0, bounds.1)

is_class : (fields : List Field) → IsClass (class_of fields)
is_class fields = elim (nat_le (3 + sum_by (λ f. longest_value f.kind) fields) 104) as (λ b. IsClass (if b then 208 else 440)) [ true ↦ inl refl | false ↦ inr refl ]

fields_allowed : (c : Catalog) (area p : ℕ) (before : List Name) (fs : List FieldDefinition) → IsWhole c → IsRelationArea area → fields_names before fs c.tables ≡ None → AllByRecursion IsFieldDefinition fs → AllByRecursion IsAllowedLine (field_lines area p (map (new_field c.tables) fs))
fields_allowed c area p before [] whole bounds none each = tt
fields_allowed c area p before (f ∷ fs) whole bounds none each =
    let s = taken before f fs c.tables none in (
      record { relation = bounds; version = (omega arith, omega arith); kind = type_allowed c f.kind whole s.kind each.0.kind; name = each.0.name },
      fields_allowed c area (p + 1) (before ++ f.name ∷ []) fs whole bounds s.rest each.1,
    )

-- what isn't refused
pub record Sound (n : Name) (fs : List FieldDefinition) (t : Tables) : Type 0 where
  pub new : relation_named n t ≡ None
  pub fields : fields_names [] fs t ≡ None

pub sound : (n : Name) (fs : List FieldDefinition) (t : Tables) → relation_names n fs t ≡ None → Sound n fs t
sound n fs t none =
    let parts = first_none (needs_none n (relation_named n t)) (fields_names [] fs t) none in
    record { new = none_named n (relation_named n t) parts.0; fields = parts.1 }

pub allowed_lines : (c : Catalog) (n : Name) (fs : List FieldDefinition) → IsWhole c → Sound n fs c.tables → IsRelationDefinition n fs → AllByRecursion IsAllowedLine (relation_lines n fs c.tables)
allowed_lines c n fs whole s is = (
  record { area = area_bounds c.tables; class = is_class (map (new_field c.tables) fs); version = (omega arith, omega arith); name = is.name },
  fields_allowed c (new_relation_area c.tables) 0 [] fs whole (area_bounds c.tables) s.fields is.fields,
)

-- ---- the catalog

count_lines : (area p : ℕ) (fs : List Field) → length (field_lines area p fs) ≡ length fs
count_lines area p [] = refl
count_lines area p (f ∷ fs) = ap suc (count_lines area (p + 1) fs)

pub count_relation_lines : (n : Name) (fs : List FieldDefinition) (t : Tables) → length (relation_lines n fs t) ≡ suc (length fs)
count_relation_lines n fs t = ap suc (count_lines (new_relation_area t) 0 (map (new_field t) fs) ∙ length-map fs (new_field t))

same_fields : (area : ℕ) (d e : Directory) (k : Dbkey) (line : CatalogLine) → HasMore area k d e → IsOff area line → HasFields e d line
same_fields area d e k (Relation r) more off =
    relation_alike r.area e d (λ q. more.fields r.area q (untied_back area_order area_total (numbered area) (numbered r.area) off))
same_fields area d e k (Global g) more off = tt
same_fields area d e k (FieldOf f) more off = tt
same_fields area d e k (Index x) more off = tt

all_same_fields : (area : ℕ) (d e : Directory) (k : Dbkey) (ps : List PlacedLine) → HasMore area k d e → AllByRecursion (λ q. IsOff area q.line) ps → AllByRecursion (λ q. HasFields e d q.line) ps
all_same_fields area d e k [] more off = tt
all_same_fields area d e k (q ∷ ps) more off = (same_fields area d e k q.line more off.0, all_same_fields area d e k ps more off.1)

-- the field lines of a relation that isn't there yet, laid behind its own line
record Fresh (ps : List PlacedLine) (r : RelationLine) (k : Dbkey) : Type 0 where
  pub off : AllByRecursion (λ q. IsOff r.area q.line) ps
  pub none : find area_order (numbered r.area) (directory ps).areas ≡ None
  pub fields : AllByRecursion (λ q. IsFieldOff r.area q.line) ps
  pub apart : AllApart (record { key = k; line = Relation r }) ps

fresh : (all : Lines) (c : Catalog) (r : RelationLine) (k : Dbkey) → IsCatalogOf all c → relation_named r.name c.tables ≡ None → r.area ≡ new_relation_area c.tables → Fresh c.lines r k
fresh all c r k is new area =
    let ps = c.lines in
    let d = directory ps in
    let t = catalog_tables ps in
    let whole = whole_of all c is in
    let stood = fit_all d t ps is.fit in
    let free : is_used r.area (map (λ e. e.1.area) t.relations) ≡ false =
    subst (λ u. is_used r.area (map (λ e. e.1.area) u.relations) ≡ false) is.tables
    (ap (λ (a : ℕ). is_used a (map (λ e. e.1.area) c.tables.relations)) area ∙ unused (length c.tables.relations) 16 (map (λ e. e.1.area) c.tables.relations) (sym (length-map c.tables.relations (λ e. e.1.area)))) in
    let even : r.area % 2 ≡ 0 = ap (λ (a : ℕ). a % 2) area ∙ (area_bounds c.tables).1 in
    let off = even_offs d t r.area ps even free (all_good d t ps whole.allowed stood) in
    let none : find area_order (numbered r.area) d.areas ≡ None = off_lines r.area ps no_directory off in
    record {
      off = off;
      none = none;
      fields = fields_off d t r.area ps none stood;
      apart = (lines_apart d k r ps no_tables (ap (λ u. find chars_order r.name u.relations) (sym is.tables) ∙ new) off).1;
    }

has_more : (ps : List PlacedLine) (r : RelationLine) (k : Dbkey) (keys : List Dbkey) (fs : List Field) → HasMore r.area k (directory ps) (directory_from (noted k (Relation r) (directory ps)) (at_keys r.area 0 keys fs))
has_more ps r k keys fs =
    let e = noted k (Relation r) (directory ps) in
    record {
      areas = same_areas r.area 0 keys fs e;
      globals = same_globals r.area 0 keys fs e;
      fields = λ a q apart. elsewhere r.area 0 keys fs e (place a q) (λ j low high. other_relation a r.area q j apart);
    }

none_at : (ps : List PlacedLine) (r : RelationLine) (k : Dbkey) (keys : List Dbkey) (fs : List Field) (q : ℕ) → Fresh ps r k → length fs ≤ q → find place_order (place r.area q) (directory_from (noted k (Relation r) (directory ps)) (at_keys r.area 0 keys fs)).fields ≡ None
none_at ps r k keys fs q f above =
    elsewhere r.area 0 keys fs (noted k (Relation r) (directory ps)) (place r.area q) (λ j low high. other_position r.area r.area q j (λ same. omega (arith, same, high, above)))
    ∙ no_fields r.area q ps no_directory f.fields

first_found : (area : ℕ) (keys : List Dbkey) (fs : List Field) (e : Directory) → 1 ≤ length fs → AreFound area 0 keys fs e.fields → has_field area e 0 ≡ true
first_found area [] [] e some found = absurd (omega (arith, some))
first_found area [] (f ∷ fs) e some found = absurd found
first_found area (k ∷ keys) [] e some found = absurd found
first_found area (k ∷ keys) (f ∷ fs) e some found = ap is_some found.0

module _ (all behind : Lines) (c : Catalog) (r : RelationLine) (fs : List Field) (k : Dbkey) (keys : List Dbkey) (rs : List PlacedLine) where
  pub laid_catalog : IsCatalogOf all c → Grows (record { key = k; line = Relation r } ∷ at_keys r.area 0 keys fs) c.lines rs → AreCatalogLines behind rs → length keys ≡ length fs → relation_named r.name c.tables ≡ None → r.area ≡ new_relation_area c.tables → 1 ≤ length fs → length fs ≤ 50 → differ same_field fs ≡ true → IsCatalogOf behind (record { lines = rs; tables = with_relation_named r.name (record { area = r.area; fields = fs; rows = [] }) (catalog_tables c.lines) })
  laid_catalog is grows are count new area some few differs =
      let ps = c.lines in
      let d = directory ps in
      let t = catalog_tables ps in
      let n : PlacedLine = record { key = k; line = Relation r } in
      let ns = at_keys r.area 0 keys fs in
      let e = directory_from (noted k (Relation r) d) ns in
      let rel : RelationOf = record { area = r.area; fields = fs; rows = [] } in
      let u = with_relation_named r.name rel t in
      let f = fresh all c r k is new area in
      let more = has_more ps r k keys fs in
      let found = are_found r.area 0 keys fs (noted k (Relation r) d) count in
      let made : relation_fields r.area e ≡ fs = relation_found r.area keys fs e found (none_at ps r k keys fs (length fs) f (omega arith)) few in
      let first = first_found r.area keys fs e some found in
      let last : has_field r.area e 50 ≡ false = ap is_some (none_at ps r k keys fs 50 f few) in
      let apart : GrowsApart (n ∷ ns) ps rs = (grows.0, grows.1, f.apart, fields_grow r.area 0 keys fs grows.0 rs grows.2 (all_step (λ q. IsBelow r.area 0 q.line) n ps grows.0 grows.1 tt (offs_below r.area 0 ps f.fields))) in
      let old = all_pairs (Stands d t) (λ q. Apart (Relation r) q.line) (Stands e u) (λ q stood other. still_stands d e t k q.key r rel q.line more f.none other stood) ps (fit_all d t ps is.fit) f.apart in
      let there = ap is_some (area_found r.area k d e more) in
      let lines : AllByRecursion (Stands e u) (n ∷ ns) = (relation_stands d e t k r rel more refl first last differs, fields_stand e u r.area 0 keys fs there found refl) in
      let things : u ≡ tables_from e t (n ∷ ns) =
      sym (no_things e r.area 0 keys fs (with_thing e (Relation r) t) ∙ ap (λ l. with_relation_named r.name (record { area = r.area; fields = l; rows = [] }) t) made) in
      grown_catalog behind (n ∷ ns) ps rs e u apart are refl (tables_on e d ps no_tables (all_same_fields r.area d e k ps more f.off)) things old lines

relation_leaves : (all : Lines) (writes : List Write) (c : Catalog) (n : Name) (fs : List FieldDefinition) (keys : List Dbkey) (rs : List PlacedLine) → length keys ≡ length (relation_lines n fs c.tables) → Grows (placed_at keys (relation_lines n fs c.tables)) c.lines rs → AreCatalogLines (laid_all writes all) rs → IsCatalogOf all c → Sound n fs c.tables → IsRelationDefinition n fs → Leaves all writes (with_relation n fs c.tables)
relation_leaves all writes c n fs [] rs count grows are is s def = absurd (omega (arith, count))
relation_leaves all writes c n fs (k ∷ keys) rs count grows are is s def =
    let t = c.tables in
    let fields = map (new_field t) fs in
    let r : RelationLine = record { area = new_relation_area t; class = class_of fields; version = 1; name = n } in
    let many : length fields ≡ length fs = length-map fs (new_field t) in
    let rel : RelationOf = record { area = r.area; fields = fields; rows = [] } in
    record {
      after = record { lines = rs; tables = with_relation_named n rel (catalog_tables c.lines) };
      catalog = laid_catalog all (laid_all writes all) c r fields k keys rs is grows are (omega (arith, count, count_lines r.area 0 fields)) s.new refl (omega (arith, many, def.count.0)) (omega (arith, many, def.count.1)) (names_differ [] fs t s.fields);
      tables = ap (with_relation_named n rel) (sym is.tables);
    }

pub turns : (known : Knowledge) (c : Catalog) (n : Name) (fs : List FieldDefinition) (writes : List Write) → AreWritten known 0 (relation_lines n fs c.tables) writes → Sound n fs c.tables → IsRelationDefinition n fs → Turns known c (with_relation n fs c.tables) writes
turns known c n fs writes written s def all sorted agrees is =
    let laid = laid_lines known 0 (relation_lines n fs c.tables) writes written (rooms_apart known all agrees) all sorted (rooms_free known all agrees) c.lines is.lines in
    relation_leaves all writes c n fs laid.keys laid.rs laid.count laid.grows laid.lines is s def

-- ---- the relation that is found behind the definition

abbrev pub new_relation : List FieldDefinition → Tables → RelationOf
new_relation fs t = record { area = new_relation_area t; fields = map (new_field t) fs; rows = [] }

found_new : (n : Name) (fs : List FieldDefinition) (t u : Tables) → u ≡ with_relation n fs t → relation_named n u ≡ Some (new_relation fs t)
found_new n fs t u made = ap (λ (v : Tables). find chars_order n v.relations) made ∙ find-put_same chars_order chars_total n (new_relation fs t) t.relations

pub relation_found_behind : (n : Name) (fs : List FieldDefinition) (t u : Tables) → u ≡ with_relation n fs t → IsSome (relation_named n u)
relation_found_behind n fs t u made = subst IsSome (sym (found_new n fs t u made)) refl

pub relation_is : (n : Name) (fs : List FieldDefinition) (t u : Tables) (rel : RelationOf) → u ≡ with_relation n fs t → relation_named n u ≡ Some rel → rel ≡ new_relation fs t
relation_is n fs t u rel made found = same_Some rel (new_relation fs t) (sym found ∙ found_new n fs t u made)

pub count_fields : (fs : List FieldDefinition) (t : Tables) (rel : RelationOf) → rel ≡ new_relation fs t → length fs ≤ 50 → length rel.fields ≤ 50
count_fields fs t rel is few = omega (arith, ap (λ (r : RelationOf). length r.fields) is, length-map fs (new_field t), few)

-- the lines that are made behind the definition
pub lines_behind : (n : Name) (fs : List FieldDefinition) (before t u : Tables) (rel : RelationOf) (made lines : List CatalogLine) → t ≡ before → u ≡ with_relation n fs t → relation_named n u ≡ Some rel → made ≡ lines_of_relation rel.area n rel.fields → lines ≡ made → lines ≡ relation_lines n fs before
lines_behind n fs before t u rel made lines same defined found is whole =
    whole ∙ is ∙ ap (λ (r : RelationOf). lines_of_relation r.area n r.fields) (relation_is n fs t u rel defined found) ∙ ap (relation_lines n fs) same
