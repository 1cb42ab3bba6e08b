use Rattle.std.proofs.Common.{take}
use Rattle.rdb_outside.specs.Disk.{OnlyReads}
use Rattle.sound_lines.specs.Contents.{versions_in}
use Rattle.verified_lines.specs.Relations.{FindsRows}
use Rattle.areas_at_rest.specs.Runs.{AtRest}
use Rattle.rmu_verify.specs.Added.{AddsSome}
use Rattle.rmu_verify.proofs.rows.verify_rows.Given as goal

abbrev pub invariant-loop-name : goal.invariant-loop-name
invariant-loop-name g l = let before = g.D.Disk.view l.fn.disk in record {
  reads : OnlyReads before (g.D.Disk.view l.disk);
  found : AtRest before l.held (λ all. AddsSome (FindsRows all (versions_in l.catalog.lines) (take l.name-index l.catalog.tables.relations)) l.fn.keys l.keys);
}
