-- The tables of pages of an image.
use Rattle.std.specs.Prelude.{ℕ}
use Rattle.rdb_outside.specs.Disk.{Image}
use Rattle.stable_lines.specs.Slots.{IsAreaFile}
use Rattle.page_table.specs.Reading.{IsTableOf, ArePages}
use Rattle.disk_store.specs.declared.held.Tables.{Tables}
use Rattle.disk_store.specs.Shown.{pages_of}

-- each area file's table is that of the image
abbrev pub AreTablesOf : Image → ℕ → Tables → Type 0
AreTablesOf image pages tables = (file : ℕ) → IsAreaFile file → IsTableOf image file pages (pages_of tables file)

-- each page of the area files is one
abbrev pub AreAllPages : Image → Type 0
AreAllPages image = (file : ℕ) → IsAreaFile file → ArePages image file
