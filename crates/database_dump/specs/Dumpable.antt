-- What a database has to have for a dump.
use Rattle.std.specs.Prelude.{ℕ, List}
use Rattle.root_file.specs.declared.Root.{Root}
use Rattle.root_file.specs.Root.{IsRoot}
use Rattle.new_database.specs.Maker.{root_file}
use Rattle.rdb_outside.specs.Disk.{Image}
use Rattle.line_view.specs.Knowledge.{Lines}
use Rattle.catalog.specs.declared.reading.Catalog.{Catalog}
use Rattle.catalog.specs.Reading.{IsCatalogOf}
use Rattle.stable_lines.specs.Slots.{IsMember, ruj_file}
use Rattle.stable_lines.specs.Kept.{IsRujHeader}
use Rattle.stable_lines.specs.Image.{StandsFor}
use Rattle.stable_lines.specs.Journal.{Journal, IsJournalOf}
use Rattle.lines_at_rest.specs.Left.{AllPass}

-- a root, the headers of all journals, pages that pass their decoders, and a catalog
pub record IsDumpable (image : Image) : Type 0 where
  pub root : Root
  pub has_root : IsRoot (image root_file 0) root
  pub headers : (member : ℕ) → IsMember member → IsRujHeader (image (ruj_file member) 0)
  pub journal : Journal
  pub has_journal : IsJournalOf image journal
  pub pages : AllPass image
  pub all : Lines
  pub stands : StandsFor image journal.groups all
  pub catalog : Catalog
  pub has_catalog : IsCatalogOf all catalog
