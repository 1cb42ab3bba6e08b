use Rattle.std.proofs.Common.{◌-◌}
use Rattle.next_lines.specs.Next.{table_in}
use Rattle.next_lines.proofs.Leading.{HasPassed}
use Rattle.next_lines.proofs.next.next_line.Given as goal

abbrev pub invariant-loop-next : goal.invariant-loop-next
invariant-loop-next l = HasPassed (table_in l.catalog l.relations l.indexes) l.from l.area

abbrev pub decreases-loop-next : goal.decreases-loop-next
decreases-loop-next l = 4294967296 - l.area
