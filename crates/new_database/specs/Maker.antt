-- What a new database is.
use Rattle.std.specs.Prelude.{ℕ, ◌≡◌, ◌≢◌, ◌⊎◌, ◌≤◌, IsTrue, List}
use Rattle.rdb_outside.specs.rdb_types.declared.file.FileId.{FileId}
use Rattle.rdb_outside.specs.rdb_types.declared.file.FileKind.TheVariants.{Root, Aij}
use Rattle.rdb_outside.specs.Disk.{Image, View, LeftNow, LeavesOnly, zeros}

abbrev pub root_file : FileId
root_file = record { kind = Root; number = 0 }

abbrev pub aij_file : FileId
aij_file = record { kind = Aij; number = 0 }

-- no database: zeros, but for the journal's first slot, where a NEW that was stopped may have left a header
abbrev pub IsNone : Image → Type 0
IsNone image = (file : FileId) (slot : ℕ) → (file ≡ aij_file → slot ≢ 0) → image file slot ≡ zeros file

-- all that a crash may leave is no database
abbrev pub IsUnmade : View → Type 0
IsUnmade v = (image : Image) → LeftNow v image → IsNone image

-- the root slot isn't zeros
abbrev pub HasRoot : Image → Type 0
HasRoot image = image root_file 0 ≢ zeros root_file

-- a root, an after-image journal with this header, and nothing else
pub record IsNew (header root : List ℕ) (image : Image) : Type 0 where
  pub root_slot : image root_file 0 ≡ root
  pub header_slot : image aij_file 0 ≡ header
  pub rest : (file : FileId) (slot : ℕ) → (file ≡ root_file → slot ≢ 0) → (file ≡ aij_file → slot ≢ 0) → image file slot ≡ zeros file

-- no database yet, or a new one
abbrev pub IsNewOrNone : List ℕ → List ℕ → Image → Type 0
IsNewOrNone header root image = IsNone image ⊎ IsNew header root image

-- A run of device calls that makes no database where there is none.
pub record MakesNone (old new : View) : Type 0 where
  pub told : new.tells ≡ old.tells
  pub later : old.moment ≤ new.moment
  pub no_fewer : old.faults ≤ new.faults
  pub unmade : IsTrue old.tells → IsUnmade old → IsUnmade new
  -- a crash at any moment of the run leaves none
  pub leaves : IsTrue old.tells → IsUnmade old → LeavesOnly old new IsNone
