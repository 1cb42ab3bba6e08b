-- What a run of device calls does, of which one at most writes.
use Rattle.std.specs.Prelude.{ℕ, ◌≤◌, ◌≡◌, ◌≢◌, ◌⊎◌, IsTrue, List}
use Rattle.rdb_types.specs.declared.file.FileId.{FileId}
use Rattle.line_store.specs.rdb_outside.Disk.{View, Pending, LeavesOnly, IsPending}

-- All slots but one are as they were. A crash at any moment of the run leaves what one at its beginning might have left, or what one at its end may leave.
pub record OnlyWrites (file : FileId) (slot : ℕ) (old new : View) : Type 0 where
  pub told : new.tells ≡ old.tells
  pub later : old.moment ≤ new.moment
  pub no_fewer : old.faults ≤ new.faults
  pub pending : IsTrue old.tells → (f : FileId) (i : ℕ) (x : List ℕ) → (f ≡ file → i ≢ slot) → Pending new f i x → Pending old f i x
  pub content : IsTrue old.tells → (f : FileId) (i : ℕ) → (f ≡ file → i ≢ slot) → new.content f i ≡ old.content f i
  pub leaves : IsTrue old.tells → LeavesOnly old new (λ image. IsPending old image ⊎ IsPending new image)
