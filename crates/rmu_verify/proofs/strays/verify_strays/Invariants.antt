use Rattle.std.proofs.Common.{map}
use Rattle.rdb_outside.specs.Disk.{OnlyReads}
use Rattle.areas_at_rest.specs.Runs.{AtRest}
use Rattle.rmu_verify.proofs.StrayLines.{StraysOf}
use Rattle.rmu_verify.proofs.strays.verify_strays.Given as goal

abbrev pub invariant-loop-area : goal.invariant-loop-area
invariant-loop-area g l = let before = g.D.Disk.view l.fn.disk in record {
  reads : OnlyReads before (g.D.Disk.view l.disk);
  found : AtRest before l.held (λ all. StraysOf all l.tables (map (λ r. r.now) l.yielded) l.fn.keys l.keys);
}
