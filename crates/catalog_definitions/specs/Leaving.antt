-- What writes leave of the catalog.
use Rattle.std.specs.Prelude.{◌≡◌, List, map, None}
use Rattle.rdb_types.specs.declared.keys.Dbkey.{Dbkey}
use Rattle.line_view.specs.Knowledge.{Knowledge, Lines, IsInOrder, Agrees}
use Rattle.line_view.specs.declared.writes.Write.{Write}
use Rattle.line_view.specs.Writes.{laid_all}
use Rattle.rdb_meaning.specs.declared.tables.Tables.{Tables}
use Rattle.catalog.specs.declared.reading.Catalog.{Catalog}
use Rattle.catalog.specs.Reading.{IsCatalogOf}

-- The map behind the writes has a catalog, of these tables.
pub record Leaves (all : Lines) (writes : List Write) (t : Tables) : Type 0 where
  pub after : Catalog
  pub catalog : IsCatalogOf (laid_all writes all) after
  pub tables : after.tables ≡ t

-- The writes turn the catalog of each map with which the view agrees into one of these tables.
abbrev pub Turns : Knowledge → Catalog → Tables → List Write → Type 0
Turns known before tables writes = (all : Lines) → IsInOrder all → Agrees known all → IsCatalogOf all before → Leaves all writes tables

-- lines that are erased
abbrev pub erasures : List Dbkey → List Write
erasures keys = map (λ k. record { key = k; image = None }) keys
