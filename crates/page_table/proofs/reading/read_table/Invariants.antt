use Rattle.std.proofs.Common.{◌≡◌, ◌-◌, ◌≤◌, ℕ, IsTrue, get_or, length}
use Rattle.rdb_outside.specs.Disk.{OnlyReads}
use Rattle.area_files.specs.Areas.{IsPage, IsSpacePage, IsDataPage}
use Rattle.database_opening.specs.stable_lines.Slots.{area_file}
use Rattle.page_table.specs.Pages.{nobodys, use_of}
use Rattle.page_table.specs.Reading.{IsEntryOf}
use Rattle.page_table.proofs.reading.read_table.Given as goal

abbrev pub invariant-loop-slot : goal.invariant-loop-slot
invariant-loop-slot g l =
    let before = g.D.Disk.view l.fn.disk in
    record {
      reads : OnlyReads before (g.D.Disk.view l.disk);
      long : length l.table ≡ l.pages;
      page : IsTrue before.tells → (page : ℕ) → IsDataPage page → page ≤ l.slot → IsEntryOf (get_or l.owners.items (page - 1) 0) page (before.content (area_file l.file) (page - 1)) (use_of l.table page);
      space : (page : ℕ) → IsPage page → IsSpacePage page → page ≤ l.slot → use_of l.table page ≡ nobodys;
    }
