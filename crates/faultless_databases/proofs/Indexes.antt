-- The indexes of a sound map are in order, and hold the rows of their relations.
use Rattle.std.proofs.Common.{◌≡◌, ℕ, List, [], ◌∷◌, ◌++◌, Option, Some, None, refl, sym, ◌∙◌}
use Rattle.std.specs.List.{AllByRecursion}
use Rattle.rdb_types.specs.declared.keys.Dbkey.{Dbkey}
use Rattle.rdo_ast.specs.Tree.{Name}
use Rattle.rdb_meaning.specs.declared.tables.Relation.{Relation as Rows}
use Rattle.rdb_meaning.specs.declared.tables.Tables.{Tables}
use Rattle.index_node.specs.declared.entry.NodeEntry.{NodeEntry}
use Rattle.line_view.specs.Knowledge.{Lines}
use Rattle.sorted_index_laws.specs.Tree.{pairs}
use Rattle.sorted_index_laws.proofs.OneTree.{one_tree}
use Rattle.catalog_lines.specs.declared.line.IndexLine.{IndexLine}
use Rattle.catalog_lines.specs.declared.line.CatalogLine.{CatalogLine}
use Rattle.catalog_lines.specs.declared.line.CatalogLine.TheVariants.{Relation, Global, Field as FieldOf, Index}
use Rattle.catalog.specs.declared.directory.PlacedLine.{PlacedLine}
use Rattle.catalog.specs.declared.reading.Catalog.{Catalog}
use Rattle.relation_rows.specs.Relations.{HasRows}
use Rattle.relation_rows.specs.Indexed.{IsIndexOf}
use Rattle.sound_lines.specs.Contents.{versions_in, HaveRows}
use Rattle.sound_lines.specs.Sound.{relation_in, IsSoundIndex, IsSoundLine}
use Rattle.index_faults.specs.Walks.{IsInOrderWith}
use Rattle.verified_lines.specs.Relations.{stored_entry, entry_in, IsJudged, IsJudgedOf, FindsIndex, FindsIndexes}
use Rattle.verified_lines.specs.Relations.IsJudged.{broken, holds, differs}
use Rattle.faultless_databases.proofs.Alike.{Matches, matches}
use Rattle.faultless_databases.proofs.Standing.{IsSoundOver}

abbrev AreNone : List Dbkey → List Name → Type 0
AreNone nodes names = (nodes ≡ []) × (names ≡ [])

-- ---- one index

-- an index in order has the pairs of its tree, whichever tree it is
same_pairs : (all : Lines) (root : Dbkey) (positions : List ℕ) (rows : _) (held : List NodeEntry) → (is : IsIndexOf all root positions rows) → IsInOrderWith all root held → held ≡ pairs is.level is.tree
same_pairs all root positions rows held is order =
    order.holds ∙ one_tree all root.area order.level is.level order.tree is.tree order.index.stands is.is.stands (order.index.rooted ∙ sym is.is.rooted)

judged_well : (all : Lines) (versions : List (Name × ℕ)) (x : IndexLine) (e : Name × Rows) (w : Rows) (nodes : List Dbkey) (names : List Name)
    → HasRows all (stored_entry versions e) w → IsSoundIndex all x (Some w) → IsJudged all (stored_entry versions e) x nodes names → AreNone nodes names
judged_well all versions x e w nodes names matched sound (broken some none never) =
    absurd (never (pairs sound.is.level sound.is.tree) (record { level = sound.is.level; tree = sound.is.tree; index = sound.is.is; holds = refl }))
judged_well all versions x e w nodes names matched sound (holds held no_node no_name order keys) = (no_node, no_name)
judged_well all versions x e w nodes names matched sound (differs held no_node name order isnt) =
    absurd (isnt w.rows matched.rows (record { holds = same_pairs all x.root x.fields w.rows held sound.is order ∙ sound.is.holds; apart = sound.unique }))

judged_of : (all : Lines) (versions : List (Name × ℕ)) (x : IndexLine) (e : Option (Name × Rows)) (w : Option Rows) (nodes : List Dbkey) (names : List Name)
    → Matches all versions e w → IsSoundIndex all x w → IsJudgedOf all versions e x nodes names → AreNone nodes names
judged_of all versions x None w nodes names matched sound judged = judged
judged_of all versions x (Some e) None nodes names matched sound judged = absurd matched
judged_of all versions x (Some e) (Some w) nodes names matched sound judged = judged_well all versions x e w nodes names matched sound judged

-- ---- all of them

module _ (all : Lines) (versions : List (Name × ℕ)) (c t : Tables) (have : HaveRows all versions c.relations t.relations) where
  none_of : (line : CatalogLine) (nodes : List Dbkey) (names : List Name) → IsSoundLine all t line → FindsIndex all versions c line nodes names → AreNone nodes names
  none_of (Relation r) nodes names sound finds = finds
  none_of (Global g) nodes names sound finds = finds
  none_of (FieldOf f) nodes names sound finds = finds
  none_of (Index x) nodes names sound finds =
      judged_of all versions x (entry_in x.relation c.relations) (relation_in x.relation t.relations) nodes names (matches all versions x.relation c.relations t.relations have) sound finds

  none_of_all : (ps : List PlacedLine) (nodes : List Dbkey) (names : List Name) → AllByRecursion (λ p. IsSoundLine all t p.line) ps → FindsIndexes all versions c ps nodes names → AreNone nodes names
  none_of_all [] nodes names sound finds = finds
  none_of_all (p ∷ ps) nodes names sound finds =
      let here = none_of p.line finds.0 finds.2 sound.0 finds.6 in
      let rest = none_of_all ps finds.1 finds.3 sound.1 finds.7 in
      (finds.4 ∙ (λ i. here.0 i ++ rest.0 i), finds.5 ∙ (λ i. here.1 i ++ rest.1 i))

pub no_index : (all : Lines) (c : Catalog) → IsSoundOver all c → (nodes : List Dbkey) (names : List Name) → FindsIndexes all (versions_in c.lines) c.tables c.lines nodes names → AreNone nodes names
no_index all c is nodes names = none_of_all all (versions_in c.lines) c.tables is.tables is.are.relations c.lines nodes names is.things
