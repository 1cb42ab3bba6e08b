use Rattle.std.proofs.Common.{IsTrue}
use Rattle.rdb_outside.specs.Disk.{OnlyReads}
use Rattle.rmu_verify.specs.Owners.{HasOwners}
use Rattle.rmu_verify.proofs.owners.owners_to.Given as goal

abbrev pub invariant-loop-slot : goal.invariant-loop-slot
invariant-loop-slot g l = let before = g.D.Disk.view l.fn.disk in record {
  reads : OnlyReads before (g.D.Disk.view l.disk);
  owners : IsTrue before.tells → HasOwners before.content l.file l.slot l.owners.keys;
}
