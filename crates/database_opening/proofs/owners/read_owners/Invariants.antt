use Rattle.std.proofs.Common.{◌≡◌, ◌+◌, ◌-◌, ◌≤◌, ℕ, IsTrue, get_or, length}
use Rattle.rdb_outside.specs.Disk.{OnlyReads}
use Rattle.area_files.specs.Areas.{IsDataPage, space_page_of}
use Rattle.line_opening.specs.stable_lines.Slots.{area_file}
use Rattle.database_opening.specs.Owners.{owner_said}
use Rattle.database_opening.proofs.owners.read_owners.Given as goal

abbrev pub invariant-loop-slot : goal.invariant-loop-slot
invariant-loop-slot g l =
    let before = g.D.Disk.view l.fn.disk in
    record {
      size : length l.spam ≡ 1024;
      reads : OnlyReads before (g.D.Disk.view l.disk);
      long : length l.owners.items ≡ l.slot;
      spam : IsTrue before.tells → IsDataPage (l.slot + 1) → l.spam ≡ before.content (area_file l.file) (space_page_of (l.slot + 1) - 1);
      each : IsTrue before.tells → (page : ℕ) → IsDataPage page → page ≤ l.slot → get_or l.owners.items (page - 1) 0 ≡ owner_said before.content l.file page;
    }
