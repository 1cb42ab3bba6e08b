-- The relations and indexes of a catalog, one after another, with what is at fault of them.
use Rattle.std.specs.Prelude.{◌≡◌, ◌%◌, ◌==◌, ◌&&◌, ℕ, Bool, List, [], ◌∷◌, ◌++◌, Option, Some, None, is_none, if◌then◌else◌}
use Rattle.rdb_types.specs.declared.keys.Dbkey.{Dbkey}
use Rattle.rdo_ast.specs.Tree.{Name}
use Rattle.rdb_meaning.specs.declared.tables.Relation.{Relation as Rows}
use Rattle.rdb_meaning.specs.declared.tables.Tables.{Tables}
use Rattle.rdb_meaning.specs.Contents.{Row}
use Rattle.index_node.specs.declared.entry.NodeEntry.{NodeEntry}
use Rattle.line_view.specs.Knowledge.{Lines, lines_in, keys_of}
use Rattle.catalog_lines.specs.declared.line.IndexLine.{IndexLine}
use Rattle.catalog_lines.specs.declared.line.CatalogLine.{CatalogLine}
use Rattle.catalog_lines.specs.declared.line.CatalogLine.TheVariants.{Relation, Global, Field as FieldOf, Index}
use Rattle.catalog.specs.declared.directory.PlacedLine.{PlacedLine}
use Rattle.relation_rows.specs.declared.stored.StoredRelation.{StoredRelation}
use Rattle.sound_lines.specs.Contents.{version_of, stored}
use Rattle.sound_lines.specs.Sound.{relation_in}
use Rattle.line_faults.specs.Rows.{AreRowFaults}
use Rattle.index_faults.specs.Walks.{IsInOrderWith}
use Rattle.index_faults.specs.Contents.{HasTheRows, HoldsRows}

-- ---- rows

-- a relation of a catalog, as its rows are stored
abbrev pub stored_entry : List (Name × ℕ) → Name × Rows → StoredRelation
stored_entry versions b = stored (version_of b.0 versions) b.1

-- of these relations, one after another, the lines that are no rows
abbrev pub FindsRows : Lines → List (Name × ℕ) → List (Name × Rows) → List Dbkey → Type 0
FindsRows all versions [] found = found ≡ []
FindsRows all versions (b ∷ bs) found = (here : List Dbkey) × (rest : List Dbkey) × (found ≡ here ++ rest) × AreRowFaults (stored_entry versions b) all here × FindsRows all versions bs rest

-- ---- lines without a relation

-- an even logical area that no relation has
abbrev pub is_stray : Tables → ℕ → Bool
is_stray t area = (area % 2 == 0) && is_none (relation_in area t.relations)

-- the lines of those of these areas
abbrev pub strays_in : Lines → Tables → List ℕ → List Dbkey
strays_in all t [] = []
strays_in all t (area ∷ areas) = (if is_stray t area then keys_of (lines_in area all) else []) ++ strays_in all t areas

-- ---- indexes

-- the relation of a logical area, with its name
abbrev pub entry_in : ℕ → List (Name × Rows) → Option (Name × Rows)
entry_in area [] = None
entry_in area (e ∷ es) = if e.1.area == area then Some e else entry_in area es

-- An index isn't in order, and some of its nodes are at fault; or it is in order, and it holds its relation's rows, if the lines of the relation are rows, or it doesn't and its name is at fault.
pub data IsJudged (all : Lines) (r : StoredRelation) (x : IndexLine) (nodes : List Dbkey) (names : List Name) : Type 0 where
  broken : (nodes ≡ [] → ⊥) → names ≡ [] → ((held : List NodeEntry) → IsInOrderWith all x.root held → ⊥) → IsJudged all r x nodes names
  holds : (held : List NodeEntry) → nodes ≡ [] → names ≡ [] → IsInOrderWith all x.root held → ((rows : List (Dbkey × Row)) → HasTheRows r all rows → HoldsRows x.fields x.unique held rows) → IsJudged all r x nodes names
  differs : (held : List NodeEntry) → nodes ≡ [] → names ≡ x.name ∷ [] → IsInOrderWith all x.root held → ((rows : List (Dbkey × Row)) → HasTheRows r all rows → HoldsRows x.fields x.unique held rows → ⊥) → IsJudged all r x nodes names

abbrev pub IsJudgedOf : Lines → List (Name × ℕ) → Option (Name × Rows) → IndexLine → List Dbkey → List Name → Type 0
IsJudgedOf all versions (Some e) x nodes names = IsJudged all (stored_entry versions e) x nodes names
IsJudgedOf all versions None x nodes names = (nodes ≡ []) × (names ≡ [])

-- what is found of a line of the catalog
abbrev pub FindsIndex : Lines → List (Name × ℕ) → Tables → CatalogLine → List Dbkey → List Name → Type 0
FindsIndex all versions t (Relation r) nodes names = (nodes ≡ []) × (names ≡ [])
FindsIndex all versions t (Global g) nodes names = (nodes ≡ []) × (names ≡ [])
FindsIndex all versions t (FieldOf f) nodes names = (nodes ≡ []) × (names ≡ [])
FindsIndex all versions t (Index x) nodes names = IsJudgedOf all versions (entry_in x.relation t.relations) x nodes names

-- of the indexes among these lines, one after another
abbrev pub FindsIndexes : Lines → List (Name × ℕ) → Tables → List PlacedLine → List Dbkey → List Name → Type 0
FindsIndexes all versions t [] nodes names = (nodes ≡ []) × (names ≡ [])
FindsIndexes all versions t (p ∷ ps) nodes names =
    (ns : List Dbkey) × (more : List Dbkey) × (ws : List Name) × (others : List Name)
    × (nodes ≡ ns ++ more) × (names ≡ ws ++ others) × FindsIndex all versions t p.line ns ws × FindsIndexes all versions t ps more others
