use Rattle.std.proofs.Common.{◌≤◌}
use Rattle.rdb_types.specs.declared.keys.Dbkey.{Dbkey}
use Rattle.page_table.specs.Scans.{Fits}
use Rattle.page_table.proofs.table.PageTable.next_line.Given as goal

abbrev pub invariant-loop-page : goal.invariant-loop-page
invariant-loop-page l = (1 ≤ l.page) × ((other : Dbkey) → Fits l.self l.sought l.area l.from other → l.page ≤ other.page)
