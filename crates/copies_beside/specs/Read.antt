-- What the steps of a copying ask of a store, of a session that reads.
use Rattle.std.specs.Prelude.{ℕ}
use Rattle.rdb_outside.specs.Disk.{View}
use Rattle.page_table.specs.Pages.{Pages}
use Rattle.line_view.specs.Knowledge.{Lines, IsInOrder}
use Rattle.disk_seats.specs.Ledgers.{Ledger}
use Rattle.backup_steps.specs.reader_lines.Readers.{IsReader}
use Rattle.backup_steps.specs.next_lines.Next.{table_in, HaveLines}
use Rattle.disk_store.specs.declared.held.Tables.{Tables}
use Rattle.disk_store.specs.declared.member.Member.{Member}
use Rattle.disk_store.specs.Memory.{StoreMemory}

-- the tables of a store, by the numbers of their files
abbrev pub tables_of : Tables → ℕ → Pages
tables_of tables = table_in tables.catalog tables.relations tables.indexes

-- The session's member is a reader of these lines, and the tables have them.
pub record IsReadBy (v : View) (g : Ledger) (held : StoreMemory) (m : Member) (lines : Lines) : Type 0 where
  pub reader : IsReader v g held.limits.snaps m.reader lines
  pub ordered : IsInOrder lines
  pub have : HaveLines (tables_of held.tables) lines
