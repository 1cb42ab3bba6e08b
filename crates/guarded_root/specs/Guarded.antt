-- A root that says that work is unfinished, and what images are behind it.
use Rattle.std.specs.Prelude.{ℕ, ◌≤◌, ◌≡◌, ◌≢◌, ◌⊎◌, IsTrue, List}
use Rattle.rdb_types.specs.declared.file.FileId.{FileId}
use Rattle.rdb_outside.specs.Disk.{Image, View, Pending, IsPending, LeavesOnly}
use Rattle.root_file.specs.declared.Root.{Root}
use Rattle.root_file.specs.Root.{IsRoot}
use Rattle.new_database.specs.Maker.{root_file}
use Rattle.database_opening.specs.Others.{KeepsFile}

-- the slot is a root of this state
pub record IsRootIn (state : ℕ) (slot : List ℕ) : Type 0 where
  pub root : Root
  pub is : IsRoot slot root
  pub same : root.state ≡ state

abbrev pub IsInState : ℕ → Image → Type 0
IsInState state image = IsRootIn state (image root_file 0)

-- whatever a crash leaves in the root's slot is a root of this state
abbrev pub IsGuarded : ℕ → View → Type 0
IsGuarded state v = (x : List ℕ) → Pending v root_file 0 x → IsRootIn state x

-- what a crash might have left at the beginning, or in this state
abbrev pub BeforeOrIn : View → ℕ → Image → Type 0
BeforeOrIn v state image = IsPending v image ⊎ IsInState state image

-- all slots but that of the root are as they were
abbrev pub KeepsOthers : Image → Image → Type 0
KeepsOthers old new = (file : FileId) (slot : ℕ) → (file ≡ root_file → slot ≢ 0) → new file slot ≡ old file slot

-- the content with this root
pub record IsEndOf (content : Image) (root : Root) (image : Image) : Type 0 where
  pub is : IsRoot (image root_file 0) root
  pub others : KeepsOthers content image

-- still unfinished, or ended
abbrev pub InOrEnd : ℕ → Image → Root → Image → Type 0
InOrEnd state content root image = IsInState state image ⊎ IsEndOf content root image

-- what a crash might have left at the beginning, or the end
abbrev pub PendingOrEnd : View → Root → Image → Type 0
PendingOrEnd v root image = IsPending v image ⊎ IsEndOf v.content root image

-- ---- what calls add to what a crash may leave

-- this slot of this file, with these bytes
abbrev pub IsWrite : FileId → ℕ → List ℕ → FileId → ℕ → List ℕ → Type 0
IsWrite file slot bytes f i x = (f ≡ file) × (i ≡ slot) × (x ≡ bytes)

-- the slot of the root, with this root
abbrev pub IsRootSlot : Root → FileId → ℕ → List ℕ → Type 0
IsRootSlot root f i x = (f ≡ root_file) × (i ≡ 0) × IsRoot x root

-- each slot of the image has what a crash might have left there, or one of these
abbrev pub IsPendingOr : View → (FileId → ℕ → List ℕ → Type 0) → Image → Type 0
IsPendingOr v more image = (file : FileId) (slot : ℕ) → Pending v file slot (image file slot) ⊎ more file slot (image file slot)

-- Behind a run of calls a crash leaves in each slot what it might have left there before, or one of these, and so at every moment of it.
pub record AddsOnly (more : FileId → ℕ → List ℕ → Type 0) (old new : View) : Type 0 where
  pub pending : (file : FileId) (slot : ℕ) (bytes : List ℕ) → Pending new file slot bytes → Pending old file slot bytes ⊎ more file slot bytes
  pub leaves : LeavesOnly old new (IsPendingOr old more)

-- ---- runs

-- this file, and no other
abbrev pub IsFile : FileId → FileId → Type 0
IsFile file other = other ≡ file

-- A run of calls behind such a root, which writes none but these files.
pub record RunsBehind (may : FileId → Type 0) (old new : View) : Type 0 where
  pub told : new.tells ≡ old.tells
  pub no_fewer : old.faults ≤ new.faults
  -- each image says still that it is unfinished, at every moment
  pub guarded : (state : ℕ) → IsTrue old.tells → IsGuarded state old → IsGuarded state new
  pub leaves : (state : ℕ) → IsTrue old.tells → IsGuarded state old → LeavesOnly old new (IsInState state)
  -- each other file is as it was, at every moment
  pub others : IsTrue old.tells → (file : FileId) → (may file → ⊥) → KeepsFile file old new
