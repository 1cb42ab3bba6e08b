use Rattle.std.proofs.Common.{refl}
use Rattle.backup_steps.specs.backup_making.Making.{file_of}
use Rattle.disk_store.proofs.OwnFiles.{others-left, others-read}
use Rattle.copies_beside.proofs.laws.a_store_leaves_backups.Goals as goal

pub returns : goal.returns
returns g c = let v = g.D.Disk.view c.args.before.now in let w = g.D.Disk.view c.args.after.now in λ t writes number. record {
  content = λ slot. others-read v w t writes (file_of number) slot refl;
  pending = λ slot bytes p. others-left v w t writes (file_of number) slot bytes refl p;
}
