use Rattle.std.proofs.Common.{◌≡◌, take}
use Rattle.line_view.specs.Knowledge.{Lines}
use Rattle.rdb_outside.specs.Disk.{OnlyReads}
use Rattle.areas_at_rest.specs.Runs.{AtRest}
use Rattle.database_dump.specs.Dumped.{indexes_counted}
use Rattle.database_dump.proofs.counts.count_indexes.Given as goal

abbrev pub invariant-loop-name : goal.invariant-loop-name
invariant-loop-name g l = let before = g.D.Disk.view l.fn.disk in record {
  reads : OnlyReads before (g.D.Disk.view l.disk);
  counted : AtRest before l.held (λ (all : Lines). l.counted ≡ indexes_counted all (take l.name-index l.indexes));
}
