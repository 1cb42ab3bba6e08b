use Rattle.std.proofs.Common.{◌≡◌, ◌-◌}
use Rattle.rdb_outside.specs.Disk.{Image}
use Rattle.stable_lines.specs.Slots.{area_file}
use Rattle.lines_at_rest.specs.Area.{HoldsTo}
use Rattle.lines_at_rest.proofs.page.add_lines.Given as goal

abbrev pub invariant-loop-line : goal.invariant-loop-line
invariant-loop-line l = (image : Image) → l.page ≡ image (area_file l.file) (l.head.page - 1) → HoldsTo image l.held l.head.owner l.head.page 0 l.fn.found → HoldsTo image l.held l.head.owner l.head.page l.line l.found
