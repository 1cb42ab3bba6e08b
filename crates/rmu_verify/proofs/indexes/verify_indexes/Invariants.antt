use Rattle.std.proofs.Common.{take}
use Rattle.rdb_outside.specs.Disk.{OnlyReads}
use Rattle.sound_lines.specs.Contents.{versions_in}
use Rattle.verified_lines.specs.Relations.{FindsIndexes}
use Rattle.areas_at_rest.specs.Runs.{AtRest}
use Rattle.rmu_verify.proofs.IndexLines.{Adds}
use Rattle.rmu_verify.proofs.indexes.verify_indexes.Given as goal

abbrev pub invariant-loop-line : goal.invariant-loop-line
invariant-loop-line g l = let before = g.D.Disk.view l.fn.disk in record {
  reads : OnlyReads before (g.D.Disk.view l.disk);
  found : AtRest before l.held (λ all. Adds (FindsIndexes all (versions_in l.catalog.lines) l.catalog.tables (take l.line-index l.catalog.lines)) l.fn.found.nodes l.fn.found.names l.found.nodes l.found.names);
}
