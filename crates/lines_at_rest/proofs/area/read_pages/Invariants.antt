use Rattle.std.proofs.Common.{◌+◌, IsTrue, List}
use Rattle.rdb_outside.specs.Disk.{Image, OnlyReads}
use Rattle.journal_scan.specs.declared.group.Group.{Group}
use Rattle.rdb_page.specs.Page.{IsOwner}
use Rattle.before_images.specs.Before.{LaysLines}
use Rattle.lines_at_rest.specs.Area.{HoldsTo}
use Rattle.lines_at_rest.specs.Left.{IsReadAs}
use Rattle.lines_at_rest.proofs.area.read_pages.Given as goal

abbrev pub invariant-loop-slot : goal.invariant-loop-slot
invariant-loop-slot g l =
    let before = g.D.Disk.view l.fn.disk in
    record {
      reads : OnlyReads before (g.D.Disk.view l.disk);
      lines : IsTrue before.tells → (left : Image) → IsReadAs l.held.faulty before.content left → (groups : List Group) → LaysLines left groups l.held.before → IsOwner l.file l.area → HoldsTo left l.held.before l.area 1 0 l.fn.found → HoldsTo left l.held.before l.area (l.slot + 1) 0 l.found;
    }
