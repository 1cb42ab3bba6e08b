-- Calls that write one file alone.
use Rattle.std.specs.Prelude.{◌≤◌, ◌≡◌, ◌⊎◌, IsTrue}
use Rattle.rdb_types.specs.declared.file.FileId.{FileId}
use Rattle.rdb_outside.specs.Disk.{View, LeavesOnly, IsPending}
use Rattle.backup_making.specs.Making.{KeepsOthers}

-- Other files than this are as they were. A crash at any moment of the calls leaves in each slot what one at their beginning might have left there, or in each what one at their end may.
pub record IsBeside (file : FileId) (old new : View) : Type 0 where
  pub told : new.tells ≡ old.tells
  pub later : old.moment ≤ new.moment
  pub no_fewer : old.faults ≤ new.faults
  pub others : IsTrue old.tells → KeepsOthers file old new
  pub leaves : IsTrue old.tells → LeavesOnly old new (λ image. IsPending old image ⊎ IsPending new image)
