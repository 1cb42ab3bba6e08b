-- The indexes of each relation of a catalog, in the order of their logical areas.
use Rattle.std.specs.Prelude.{ℕ, not, List, [], ◌∷◌, map, Option, Some, None}
use Rattle.std.specs.Ordering.{is_eq}
use Rattle.std.specs.List.{filter}
use Rattle.std.specs.FinMap.Entries.{find, put}
use Rattle.catalog_lines.specs.declared.line.IndexLine.{IndexLine}
use Rattle.catalog_lines.specs.declared.line.CatalogLine.{CatalogLine}
use Rattle.catalog_lines.specs.declared.line.CatalogLine.TheVariants.{Relation, Global, Field, Index}
use Rattle.catalog.specs.declared.directory.LogicalArea.{LogicalArea}
use Rattle.catalog.specs.declared.directory.PlacedLine.{PlacedLine}
use Rattle.catalog.specs.Directory.{area_order, numbered}
use Rattle.access_paths.specs.declared.choice.IndexPath.{IndexPath}
use Rattle.stored_schema.specs.declared.indexes.RelationIndexes.{RelationIndexes}

-- index lines under their logical areas
abbrev pub Sorted : Type 0
Sorted = List (LogicalArea × IndexLine)

-- ---- the lines of each relation's indexes

abbrev pub own_of : Option Sorted → Sorted
own_of (Some own) = own
own_of None = []

-- the entries of other areas
abbrev pub but_for : {X : Type 0} → LogicalArea → List (LogicalArea × X) → List (LogicalArea × X)
but_for area held = filter (λ e. not (is_eq (area_order area e.0))) held

-- an index is put among those of its relation
abbrev pub with_index : CatalogLine → List (LogicalArea × Sorted) → List (LogicalArea × Sorted)
with_index (Relation r) held = held
with_index (Global g) held = held
with_index (Field f) held = held
with_index (Index x) held = put area_order (numbered x.relation) (put area_order (numbered x.area) x (own_of (find area_order (numbered x.relation) held))) (but_for (numbered x.relation) held)

abbrev pub indexed_from : List (LogicalArea × Sorted) → List PlacedLine → List (LogicalArea × Sorted)
indexed_from held [] = held
indexed_from held (p ∷ ps) = indexed_from (with_index p.line held) ps

abbrev pub indexed_in : List PlacedLine → List (LogicalArea × Sorted)
indexed_in = indexed_from []

-- ---- as they are written and read

-- how a selection reads an index
abbrev pub path_of : IndexLine → IndexPath
path_of x = record { root = x.root; fields = x.fields }

abbrev pub lines_of : Sorted → List IndexLine
lines_of own = map (λ e. e.1) own

abbrev pub both_of : Sorted → RelationIndexes
both_of own = record { lines = lines_of own; paths = map path_of (lines_of own) }

abbrev pub both_from : List (LogicalArea × RelationIndexes) → List (LogicalArea × Sorted) → List (LogicalArea × RelationIndexes)
both_from listed [] = listed
both_from listed (e ∷ es) = both_from (put area_order e.0 (both_of e.1) listed) es

-- the indexes of each relation that has some, under its logical area
abbrev pub indexes_in : List PlacedLine → List (LogicalArea × RelationIndexes)
indexes_in lines = both_from [] (indexed_in lines)

abbrev pub lines_in : Option RelationIndexes → List IndexLine
lines_in (Some indexes) = indexes.lines
lines_in None = []

-- the lines of the indexes of the relation of a logical area, in the order of their own areas
abbrev pub lines_on : ℕ → List PlacedLine → List IndexLine
lines_on area lines = lines_in (find area_order (numbered area) (indexes_in lines))
