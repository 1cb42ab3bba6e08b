use Rattle.std.proofs.Common.{take}
use Rattle.disk_store.specs.Landing.{PutsAll}
use Rattle.disk_store.proofs.landing.put_lines.Given as goal

abbrev pub invariant-loop-line : goal.invariant-loop-line
invariant-loop-line l = PutsAll l.fn.tables (take l.line-index l.lines) l.tables
