-- What DEFINE INDEX leaves of the catalog.
use Rattle.std.proofs.Common.{◌≡◌, ℕ, ◌<◌, ◌≤◌, false, nat_eq, List, [], ◌∷◌, map, length, Some, None, refl, sym, ap, subst, ◌∙◌, arith}
use Rattle.std.specs.List.{AllByRecursion}
use Rattle.std.specs.Prelude.{IsSome}
use Rattle.std.proofs.lemmas.List.{length-map}
use Rattle.std.specs.FinMap.Entries.{find}
use Rattle.rdb_types.specs.declared.keys.Dbkey.{Dbkey}
use Rattle.rdo_ast.specs.declared.syntax.IndexDefinition.{IndexDefinition}
use Rattle.rdb_meaning.specs.declared.tables.Relation.{Relation as RelationOf}
use Rattle.rdb_meaning.specs.declared.tables.Tables.{Tables}
use Rattle.rdb_meaning.specs.Contents.{no_tables, relation_named, fields_of, is_used, new_index_area}
use Rattle.rdb_types.specs.Order.{chars_order}
use Rattle.rdb_meaning.specs.Checks.{needs_some, needs_none}
use Rattle.rdb_meaning.specs.Defining.{index_names, index_fields_names, positions_of, with_index}
use Rattle.rdb_meaning.specs.Execution.{area_of}
use Rattle.rdb_meaning.specs.declared.tables.Index.{Index as IndexOf}
use Rattle.rdb_definitions.specs.NewIndex.{new_index}
use Rattle.ordered_entries.proofs.Laws.{find-put_same}
use Rattle.rdb_types.specs.OrderLaws.{chars_total}
use Rattle.std.proofs.lemmas.Option.{same_Some}
use Rattle.line_view.specs.Knowledge.{Knowledge, Lines}
use Rattle.line_view.specs.declared.writes.Write.{Write}
use Rattle.line_view.specs.Writes.{laid_all}
use Rattle.catalog_lines.specs.declared.line.IndexLine.{IndexLine}
use Rattle.catalog_lines.specs.declared.line.CatalogLine.TheVariants.{Index}
use Rattle.catalog_lines.specs.Lines.{IsAllowedLine, IsIndexArea, IsRelationArea}
use Rattle.catalog_lines.specs.Parts.{IsName}
use Rattle.catalog.specs.declared.directory.PlacedLine.{PlacedLine}
use Rattle.catalog.specs.declared.reading.Catalog.{Catalog}
use Rattle.catalog.specs.Directory.{area_order, numbered, directory, no_directory}
use Rattle.catalog.specs.Schema.{catalog_tables, differ}
use Rattle.catalog.specs.Reading.{IsCatalogOf, IsWhole}
use Rattle.catalog_definitions.specs.Written.{index_line, index_room, IsIndexWritten}
use Rattle.catalog_definitions.specs.Leaving.{Leaves, Turns}
use Rattle.catalog_definitions.proofs.Growth.{Apart, AllApart}
use Rattle.catalog_definitions.proofs.Laying.{LaidAll, laid_lines, rooms_apart, rooms_free}
use Rattle.catalog_definitions.proofs.Fitting.{Stands, fit_all, all_pairs, tables_by, grown_catalog, laid_one, one_grows}
use Rattle.catalog_definitions.proofs.FreeAreas.{unused, free_bounds}
use Rattle.catalog_definitions.proofs.KeyPlaces.{first_none, count_places, places_within, places_differ}
use Rattle.catalog_definitions.proofs.Lookups.{Good, all_good, RelationFrom, relation_from, odd_offs, off_lines}
use Rattle.catalog_definitions.proofs.IndexLines.{noted_index, with_index_line, lines_apart, still_stands, new_stands}
use Rattle.catalog_definitions.proofs.GlobalFields.{whole_of}
use Rattle.catalog_definitions.proofs.Basics.{none_named, some_named}

-- ---- what isn't refused

pub record Sound (d : IndexDefinition) (t : Tables) : Type 0 where
  pub new : find chars_order d.name t.indexes ≡ None
  pub rel : RelationOf
  pub there : relation_named d.relation t ≡ Some rel
  pub places : index_fields_names [] d.fields rel.fields ≡ None

pub sound : (d : IndexDefinition) (t : Tables) → index_names d t ≡ None → Sound d t
sound d t none =
    let parts = first_none (needs_none d.name (find chars_order d.name t.indexes)) _ none in
    let others = first_none (needs_some d.relation (relation_named d.relation t)) _ parts.1 in
    let some = some_named d.relation (relation_named d.relation t) others.0 in
    record {
      new = none_named d.name (find chars_order d.name t.indexes) parts.0;
      rel = some.0;
      there = some.1;
      places = subst (λ r. index_fields_names [] d.fields (fields_of r) ≡ None) some.1 others.1;
    }

-- ---- the line

pub area_bounds : (t : Tables) → IsIndexArea (new_index_area t)
area_bounds t =
    let bounds = free_bounds (length t.indexes) 17 (map (λ e. e.1.area) t.indexes) in
    (bounds.0, bounds.1)

good_lines : (c : Catalog) → IsWhole c → AllByRecursion (Good (directory c.lines) (catalog_tables c.lines)) c.lines
good_lines c whole = all_good (directory c.lines) (catalog_tables c.lines) c.lines whole.allowed (fit_all (directory c.lines) (catalog_tables c.lines) c.lines whole.fit)

from_catalog : (c : Catalog) (n : List ℕ) (rel : RelationOf) → IsWhole c → relation_named n c.tables ≡ Some rel → RelationFrom (directory c.lines) (directory c.lines) (catalog_tables c.lines) rel
from_catalog c n rel whole there = relation_from c.lines n rel (good_lines c whole) (ap (λ t. relation_named n t) (sym whole.tables) ∙ there)

pub allowed_index : (c : Catalog) (d : IndexDefinition) (root : Dbkey) → IsWhole c → Sound d c.tables → IsName d.name → (1 ≤ length d.fields) × (length d.fields ≤ 8) → IsAllowedLine (index_line d.name (new_index d c.tables) root)
allowed_index c d root whole s name count =
    let from = from_catalog c d.relation s.rel whole s.there in
    let on : area_of (relation_named d.relation c.tables) ≡ from.r.area = ap area_of s.there ∙ ap (λ (r : RelationOf). r.area) from.same in
    let places : length (positions_of d.fields (fields_of (relation_named d.relation c.tables))) ≡ length d.fields =
    ap (λ r. length (positions_of d.fields (fields_of r))) s.there ∙ count_places [] d.fields s.rel.fields s.places in
    record {
      area = area_bounds c.tables;
      relation = subst IsRelationArea (sym on) from.allowed.area;
      count = (omega (arith, places, count.0), omega (arith, places, count.1));
      name = name;
    }

-- ---- the catalog

line_of : IndexDefinition → Tables → Dbkey → IndexLine
line_of d t root = record {
  area = new_index_area t;
  relation = area_of (relation_named d.relation t);
  unique = d.unique;
  root = root;
  fields = positions_of d.fields (fields_of (relation_named d.relation t));
  name = d.name;
}

index_leaves : (all : Lines) (writes : List Write) (c : Catalog) (d : IndexDefinition) (root : Dbkey) → LaidAll (laid_all writes all) (index_line d.name (new_index d c.tables) root ∷ []) c.lines → IsCatalogOf all c → Sound d c.tables → root.area ≡ new_index_area c.tables → Leaves all writes (with_index d c.tables)
unfolding line_of
index_leaves all writes c d root laid is s at =
    let ps = c.lines in
    let dir = directory ps in
    let t = catalog_tables ps in
    let whole = whole_of all c is in
    let good = good_lines c whole in
    let x = line_of d c.tables root in
    let one = laid_one (laid_all writes all) (Index x) ps laid in
    let n : PlacedLine = record { key = one.key; line = Index x } in
    let free : is_used x.area (map (λ e. e.1.area) t.indexes) ≡ false =
    subst (λ u. is_used x.area (map (λ e. e.1.area) u.indexes) ≡ false) is.tables (unused (length c.tables.indexes) 17 (map (λ e. e.1.area) c.tables.indexes) (sym (length-map c.tables.indexes (λ e. e.1.area)))) in
    let off = odd_offs dir t x.area ps (area_bounds c.tables).1 free good in
    let none : find area_order (numbered x.area) dir.areas ≡ None = off_lines x.area ps no_directory off in
    let apart : AllApart n ps = (lines_apart dir one.key x ps no_tables (ap (λ u. find chars_order x.name u.indexes) (sym is.tables) ∙ s.new) off).1 in
    let from = from_catalog c d.relation s.rel whole s.there in
    let e = noted_index one.key x dir in
    let u = with_index_line x t in
    let fields : x.fields ≡ positions_of d.fields s.rel.fields = ap (λ r. positions_of d.fields (fields_of r)) s.there in
    let old = all_pairs (Stands dir t) (λ q. Apart (Index x) q.line) (Stands e u) (λ q stood other. still_stands dir t one.key q.key x q.line none other stood) ps (fit_all dir t ps is.fit) apart in
    let new : Stands e u n = new_stands dir t one.key x s.rel none from (ap area_of s.there)
    (ap (differ nat_eq) fields ∙ places_differ [] d.fields s.rel.fields s.places)
    (subst (AllByRecursion (λ (p : ℕ). p < length s.rel.fields)) (sym fields) (places_within [] d.fields s.rel.fields s.places)) at in
    record {
      after = record { lines = one.rs; tables = u };
      catalog = grown_catalog (laid_all writes all) (n ∷ []) ps one.rs e u (one_grows n ps one.rs one.step apart) one.lines refl (tables_by e dir ps no_tables refl) refl old (new, tt);
      tables = ap (with_index_line x) (sym is.tables);
    }

pub turns : (known : Knowledge) (c : Catalog) (d : IndexDefinition) (writes : List Write) → IsIndexWritten known d.name (new_index d c.tables) writes → Sound d c.tables → Turns known c (with_index d c.tables) writes
turns known c d writes written s all sorted agrees is =
    let root = written.root in
    index_leaves all writes c d root (laid_lines known 0 (index_line d.name (new_index d c.tables) root ∷ []) writes written.line (rooms_apart known all agrees) all sorted (rooms_free known all agrees) c.lines is.lines) is s
    (agrees.within (index_room (new_index_area c.tables)) root written.room)

-- the index that is found behind the definition
pub index_is : (d : IndexDefinition) (t u : Tables) (index : IndexOf) → u ≡ with_index d t → find chars_order d.name u.indexes ≡ Some index → index ≡ new_index d t
index_is d t u index made found =
    same_Some index (new_index d t) (sym found ∙ ap (λ (v : Tables). find chars_order d.name v.indexes) made ∙ find-put_same chars_order chars_total d.name (new_index d t) t.indexes)

pub index_found : (d : IndexDefinition) (t u : Tables) → u ≡ with_index d t → IsSome (find chars_order d.name u.indexes)
index_found d t u made =
    subst IsSome (sym (ap (λ (v : Tables). find chars_order d.name v.indexes) made ∙ find-put_same chars_order chars_total d.name (new_index d t) t.indexes)) refl
