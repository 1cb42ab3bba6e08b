-- An index that isn't in the catalog yet is filled.
use Rattle.std.proofs.Common.{◌≡◌, ℕ, cond, List, [], ◌∷◌, Some, None, refl, sym, ap, subst, ◌∙◌, true, ◌++◌}
use Rattle.std.specs.List.{AllByRecursion}
use Rattle.std.specs.declared.cmp.Ordering.TheVariants.{Less, Greater}
use Rattle.std.specs.Ordering.{is_eq, is_lt, ordering_reverse}
use Rattle.std.specs.Cmp.{tied_itself}
use Rattle.std.specs.FinMap.Entries.{find, put, by_order, is_sorted, below_all}
use Rattle.std.proofs.lemmas.Bool.{and_parts, ne_eqb}
use Rattle.rdb_types.specs.declared.keys.Dbkey.{Dbkey}
use Rattle.rdb_types.specs.Order.{dbkey_order}
use Rattle.rdb_meaning.specs.declared.tables.Tables.{Tables}
use Rattle.rdb_meaning.specs.Contents.{Row, key_of}
use Rattle.line_view.specs.Knowledge.{Lines, line_in, laid}
use Rattle.line_view.specs.declared.writes.Write.{Write}
use Rattle.line_view.specs.Writes.{laid_all}
use Rattle.line_view.proofs.FullMap.{laid_found}
use Rattle.catalog_lines.specs.declared.line.CatalogLine.{CatalogLine}
use Rattle.catalog_lines.specs.declared.line.CatalogLine.TheVariants.{Relation, Global, Field as FieldOf, Index}
use Rattle.catalog_lines.specs.Lines.{IsIndexArea}
use Rattle.catalog.specs.declared.directory.PlacedLine.{PlacedLine}
use Rattle.catalog.specs.declared.reading.Catalog.{Catalog}
use Rattle.catalog.specs.Directory.{directory}
use Rattle.catalog.specs.Schema.{catalog_tables, stands}
use Rattle.index_node.specs.Node.{IsNode}
use Rattle.sorted_index_laws.specs.Tree.{Tree, pairs, Bears}
use Rattle.sorted_index_laws.specs.Changes.{pair_of, with_pair, Leaves}
use Rattle.sorted_index_laws.proofs.Lines.{none_distinct, distinct_more}
use Rattle.sound_lines.specs.Sound.{relation_in, IsSoundLine}
use Rattle.sound_changes.proofs.Basics.{less}
use Rattle.sound_changes.specs.Standing.{IsSoundAs}
use Rattle.sound_definitions.specs.Apart.{IsNoIndexIn}
use Rattle.sound_changes.proofs.Named.{Fits, all_fit, root_area}
use Rattle.sound_changes.proofs.Pairs.{pairs_put}
use Rattle.relation_rows.specs.Indexed.{IsIndexOf}
use Rattle.rdb_types.specs.OrderLaws.{dbkey_total}
use Rattle.sound_changes.proofs.IndexLaid.{AreOn, kept_all, index_stays}

module _ (all : Lines) (c : Catalog) (t : Tables) (area : ℕ) (writes : List Write) (on : AreOn area writes) where
  thing : (q : PlacedLine) (line : CatalogLine) → q.line ≡ line → Fits all (directory c.lines) (catalog_tables c.lines) q → IsNoIndexIn area line → IsSoundLine all t line → IsSoundLine (laid_all writes all) t line
  thing q (Relation r) at fits apart sound = sound
  thing q (Global g) at fits apart sound = tt
  thing q (FieldOf f) at fits apart sound = tt
  thing q (Index x) at fits apart sound =
      let root : x.root.area ≡ x.area = root_area (directory c.lines) (catalog_tables c.lines) q.key x (ap (λ l. stands (directory c.lines) (catalog_tables c.lines) q.key l) (sym at) ∙ fits.stood) in
      index_stays x (relation_in x.relation t.relations) area writes all (ne_eqb area x.root.area (λ same. apart (same ∙ root))) on sound

  things : (ps : List PlacedLine) → AllByRecursion (Fits all (directory c.lines) (catalog_tables c.lines)) ps → AllByRecursion (λ (p : PlacedLine). IsNoIndexIn area p.line) ps → AllByRecursion (λ (p : PlacedLine). IsSoundLine all t p.line) ps → AllByRecursion (λ (p : PlacedLine). IsSoundLine (laid_all writes all) t p.line) ps
  things [] fits apart sound = tt
  things (p ∷ ps) fits apart sound = (thing p p.line refl fits.0 apart.0 sound.0, things ps fits.1 apart.1 sound.1)

-- writes on the area of no index leave the map sound
pub aside : (all : Lines) (c : Catalog) (t : Tables) (area : ℕ) (writes : List Write) → IsSoundAs all c t → IsIndexArea area → AllByRecursion (λ (p : PlacedLine). IsNoIndexIn area p.line) c.lines → AreOn area writes → IsSoundAs (laid_all writes all) c t
aside all c t area writes sound index none on =
    let kept = kept_all c t area writes all index on (record { sorted = sound.sorted; decodes = sound.decodes; are = sound.are; owned = sound.owned }) in
    record {
      sorted = kept.sorted;
      decodes = kept.decodes;
      are = kept.are;
      things = things all c t area writes on c.lines (all_fit all c sound.decodes) none sound.things;
      owned = kept.owned;
    }

-- an empty leaf is an index of no rows
pub empty_index : (all : Lines) (root : Dbkey) (image : List ℕ) (positions : List ℕ) → IsNode image (record { level = 0; entries = [] }) → IsIndexOf (laid root (Some image) all) root positions []
empty_index all root image positions is =
    let tree : Tree 0 = record { at = root; entries = [] } in
    let there : line_in root (laid root (Some image) all) ≡ Some image = laid_found root root (Some image) all ∙ ap (λ r. cond (is_eq r) (Some image) (line_in root all)) (tied_itself dbkey_total root) in
    record {
      level = 0;
      tree = tree;
      is = record { rooted = refl; stands = (refl, subst (λ what. Bears what (record { level = 0; entries = [] })) (sym there) is); once = distinct_more root [] tt none_distinct };
      holds = refl;
    }

-- one more row
pub index_grows : (all : Lines) (root : Dbkey) (positions : List ℕ) (rows : List (Dbkey × Row)) (key : Dbkey) (row : Row) (writes : List Write) (old : IsIndexOf all root positions rows) → find dbkey_order key rows ≡ None →
    Leaves all root old.level old.tree writes (with_pair (pair_of (key_of positions row) key) (pairs old.level old.tree)) → IsIndexOf (laid_all writes all) root positions (put dbkey_order key row rows)
index_grows all root positions rows key row writes old none left = record {
  level = left.level;
  tree = left.tree;
  is = left.index;
  holds = left.pairs_are ∙ ap (with_pair (pair_of (key_of positions row) key)) old.holds ∙ sym (pairs_put positions key row rows none);
}

-- ---- row by row

below_next : (x : Dbkey) (before behind : List (Dbkey × Row)) (key : Dbkey) (row : Row) → below_all dbkey_order x (before ++ (key, row) ∷ behind) ≡ true → dbkey_order x key ≡ Less
below_next x [] behind key row below = less _ (and_parts (is_lt (dbkey_order x key)) (below_all dbkey_order x behind) below).0
below_next x (e ∷ es) behind key row below = below_next x es behind key row (and_parts (is_lt (dbkey_order x e.0)) (below_all dbkey_order x (es ++ (key, row) ∷ behind)) below).1

-- the next row in their order is none of those before, and comes last among them
pub next_row : (before behind : List (Dbkey × Row)) (key : Dbkey) (row : Row) → is_sorted dbkey_order (before ++ (key, row) ∷ behind) ≡ true →
    (find dbkey_order key before ≡ None) × (put dbkey_order key row before ≡ before ++ (key, row) ∷ [])
next_row [] behind key row sorted = (refl, refl)
next_row (e ∷ es) behind key row sorted =
    let parts = and_parts (below_all dbkey_order e.0 (es ++ (key, row) ∷ behind)) (is_sorted dbkey_order (es ++ (key, row) ∷ behind)) sorted in
    let rest = next_row es behind key row parts.1 in
    let above : dbkey_order key e.0 ≡ Greater = dbkey_total.antisymm key e.0 ∙ ap ordering_reverse (below_next e.0 es behind key row parts.0) in (
      ap (λ r. cond (is_eq r) (Some e.1) (find dbkey_order key es)) above ∙ rest.0,
      ap (λ r. by_order r ((key, row) ∷ e ∷ es) ((e.0, row) ∷ es) (e ∷ put dbkey_order key row es)) above ∙ ap (λ l. e ∷ l) rest.1,
    )
