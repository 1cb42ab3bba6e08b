-- A step of a backup leaves each other file as it is.
use Rattle.std.proofs.Common.{◌≢◌, ℕ, Bool, IsTrue}
use Rattle.rdb_types.specs.declared.file.FileId.{FileId}
use Rattle.rdb_outside.specs.Disk.{Image, View, Pending}
use Rattle.rdb_outside.specs.Moments.{each_slot}
use Rattle.backup_making.specs.Making.{file_of, Steps}
use Rattle.database_opening.specs.Others.{KeepsFile}
use Rattle.copied_lines.proofs.Runs.{leaves_step}

pub file_step : (number : ℕ) (old new : View) (done : Bool) → Steps (file_of number) old new done → IsTrue old.tells → (file : FileId) → file ≢ file_of number → KeepsFile file old new
file_step number old new done steps t file apart = record {
  content = λ slot. (steps.others t).content file slot apart;
  pending = λ slot bytes p. (steps.others t).pending file slot bytes apart p;
  leaves = leaves_step number old new done steps t (λ (image : Image). (slot : ℕ) → Pending old file slot (image file slot)) (λ image left slot. each_slot old image left file slot)
      (λ image left slot. (steps.others t).pending file slot (image file slot) apart (each_slot new image left file slot));
}
