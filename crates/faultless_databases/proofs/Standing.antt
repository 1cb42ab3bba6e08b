-- A sound map, over a catalog that it has.
use Rattle.std.proofs.Common.{subst}
use Rattle.std.specs.List.{AllByRecursion}
use Rattle.rdb_meaning.specs.declared.tables.Tables.{Tables}
use Rattle.line_view.specs.Knowledge.{Lines}
use Rattle.catalog.specs.declared.reading.Catalog.{Catalog}
use Rattle.catalog.specs.Reading.{IsCatalogOf}
use Rattle.catalog.proofs.Agreements.{one_catalog}
use Rattle.sound_lines.specs.Contents.{AreTablesWith}
use Rattle.sound_lines.specs.Sound.{IsSoundLine, IsOwned, IsSound}

pub record IsSoundOver (all : Lines) (c : Catalog) : Type 0 where
  pub decodes : IsCatalogOf all c
  pub tables : Tables
  pub are : AreTablesWith all c tables
  pub things : AllByRecursion (λ p. IsSoundLine all tables p.line) c.lines
  pub owned : AllByRecursion (IsOwned tables) all

-- a map has one catalog
pub sound_over : (all : Lines) (c : Catalog) → IsSound all → IsCatalogOf all c → IsSoundOver all c
sound_over all c is decodes = subst (IsSoundOver all) (one_catalog all is.catalog c is.decodes decodes)
    (record { decodes = is.decodes; tables = is.tables; are = is.are; things = is.things; owned = is.owned })
