use Rattle.std.proofs.Common.{◌≡◌, ℕ, IsTrue, Some}
use Rattle.rdb_types.specs.declared.keys.Dbkey.{Dbkey}
use Rattle.rdb_outside.specs.Disk.{OnlyReads}
use Rattle.rdb_page.specs.Page.{IsOwner}
use Rattle.line_view.specs.Knowledge.{Lines}
use Rattle.seen_lines.specs.disk_seats.Ledgers.{Ledger}
use Rattle.seen_lines.specs.committed_tables.Tables.{WereUsed}
use Rattle.seen_lines.specs.page_table.Pages.{IsLineOf}
use Rattle.seen_lines.specs.Seen.{IsOfArea}
use Rattle.seen_lines.proofs.Gathered.{Gathers, left}
use Rattle.reader_lines.specs.Readers.{IsReader}
use Rattle.reader_lines.proofs.areas.reader_area.Given as goal

abbrev pub invariant-loop-key : goal.invariant-loop-key
invariant-loop-key g l = let old = g.D.Disk.view l.fn.disk in record {
  reads : OnlyReads old (g.D.Disk.view l.disk);
  of_area : IsOfArea l.area l.found;
  line : (from : Dbkey) → l.from ≡ Some from → IsLineOf l.table from × (from.area ≡ l.area);
  gathers : IsTrue old.tells → (ledger : Ledger) (lines : Lines) (file : ℕ) → IsReader old ledger l.limit l.reader lines → IsOwner file l.area → WereUsed l.table file lines → Gathers lines l.area l.from l.found;
}

abbrev pub decreases-loop-key : goal.decreases-loop-key
decreases-loop-key g l = left l.table l.from
