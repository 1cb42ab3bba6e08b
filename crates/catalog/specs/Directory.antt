-- Where the things of the catalog stand: the Dbkeys of its lines, found by names, by logical areas and by positions.
use Rattle.std.specs.Prelude.{ℕ, List, [], ◌∷◌}
use Rattle.std.specs.declared.cmp.Ordering.{Ordering}
use Rattle.std.specs.Ordering.{nat_cmp, ordering_then}
use Rattle.std.specs.FinMap.Entries.{put}
use Rattle.rdb_types.specs.declared.keys.Dbkey.{Dbkey}
use Rattle.rdb_types.specs.Order.{chars_order}
use Rattle.catalog_lines.specs.declared.line.CatalogLine.{CatalogLine}
use Rattle.catalog_lines.specs.declared.line.CatalogLine.TheVariants.{Relation, Global, Field as FieldOf, Index}
use Rattle.catalog.specs.declared.directory.LogicalArea.{LogicalArea}
use Rattle.catalog.specs.declared.directory.FieldPlace.{FieldPlace}
use Rattle.catalog.specs.declared.directory.PlacedLine.{PlacedLine}
use Rattle.catalog.specs.declared.directory.Directory.{Directory}

abbrev pub area_order : LogicalArea → LogicalArea → Ordering
area_order a b = nat_cmp a.number b.number

-- by the relation, then by the position
abbrev pub place_order : FieldPlace → FieldPlace → Ordering
place_order a b = ordering_then (nat_cmp a.relation b.relation) (nat_cmp a.position b.position)

abbrev pub numbered : ℕ → LogicalArea
numbered area = record { number = area }

abbrev pub place : ℕ → ℕ → FieldPlace
place relation position = record { relation = relation; position = position }

abbrev pub no_directory : Directory
no_directory = record { globals = []; areas = []; fields = [] }

-- A line is noted under the name of its global field, the area of its relation or index, or the place of its field, and displaces one that was noted there.
abbrev pub noted : Dbkey → CatalogLine → Directory → Directory
noted key (Relation r) d = record d { areas = put area_order (numbered r.area) key d.areas }
noted key (Global g) d = record d { globals = put chars_order g.name key d.globals }
noted key (FieldOf f) d = record d { fields = put place_order (place f.relation f.position) (record { key = key; field = f.field }) d.fields }
noted key (Index x) d = record d { areas = put area_order (numbered x.area) key d.areas }

abbrev pub directory_from : Directory → List PlacedLine → Directory
directory_from d [] = d
directory_from d (p ∷ ps) = directory_from (noted p.key p.line d) ps

abbrev pub directory : List PlacedLine → Directory
directory = directory_from no_directory
