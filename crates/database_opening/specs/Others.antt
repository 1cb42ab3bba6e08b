-- What an opening leaves as it is of other files.
use Rattle.std.specs.Prelude.{ℕ, ◌≡◌, ◌≢◌, List}
use Rattle.rdb_types.specs.declared.file.FileId.{FileId}
use Rattle.rdb_types.specs.declared.file.FileKind.TheVariants.{Area, Ruj}
use Rattle.rdb_outside.specs.Disk.{View, Pending, LeavesOnly}

-- neither an area file nor a before-image journal
pub record IsOther (file : FileId) : Type 0 where
  pub area : file.kind ≢ Area
  pub journal : file.kind ≢ Ruj

-- The file is as it was. A crash at any moment of the run leaves in each slot what one at its beginning might have left there.
pub record KeepsFile (file : FileId) (old new : View) : Type 0 where
  pub content : (slot : ℕ) → new.content file slot ≡ old.content file slot
  pub pending : (slot : ℕ) (bytes : List ℕ) → Pending new file slot bytes → Pending old file slot bytes
  pub leaves : LeavesOnly old new (λ image. (slot : ℕ) → Pending old file slot (image file slot))
