use Rattle.std.proofs.Common.{take}
use Rattle.catalog_definitions.specs.Written.{AreWritten}
use Rattle.catalog_definitions.proofs.writing.write_lines.Given as goal

abbrev pub invariant-loop-nth : goal.invariant-loop-nth
invariant-loop-nth g l = AreWritten (g.V.View.knows l.view) 0 (take l.nth l.lines) l.writes
