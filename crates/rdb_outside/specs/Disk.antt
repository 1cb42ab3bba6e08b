-- What a disk tells of itself, and what its calls do to it.
use Rattle.std.specs.Prelude.{ℕ, ◌<◌, ◌≤◌, ◌≡◌, ◌≢◌, ◌⊎◌, Bool, IsTrue, List, replicate, Result, IsOk, IsErr}
use Rattle.rdb_types.specs.declared.file.FileId.{FileId}
use Rattle.rdb_types.specs.File.{slot_bytes}
use Rattle.rdb_outside.specs.Causes.{Rose}

-- An image gives the bytes of each slot of each file.
abbrev pub Image : Type 0
Image = FileId → ℕ → List ℕ

pub record View : Type 1 where
  -- whether the disk tells its content and its images
  pub tells : Bool
  -- what reads give
  pub content : Image
  -- the images that a crash at some moment since this one might leave
  pub left_since : ℕ → Image → Type 0
  pub moment : ℕ
  pub faults : ℕ

-- the images that a crash may leave now
abbrev pub LeftNow : View → Image → Type 0
LeftNow v image = v.left_since v.moment image

-- the contents of one slot in these images
pub record Pending (v : View) (file : FileId) (slot : ℕ) (bytes : List ℕ) : Type 0 where
  pub image : Image
  pub left : LeftNow v image
  pub same : image file slot ≡ bytes

-- Time goes on: a crash since t might have left what it might have left before, or what it may leave now.
pub record Elapses (old new : View) : Type 0 where
  pub nothing_else : (t : ℕ) (image : Image) → t ≤ old.moment → new.left_since t image
      → old.left_since t image ⊎ LeftNow new image
  pub keeps : (t : ℕ) (image : Image) → t ≤ old.moment → old.left_since t image → new.left_since t image

-- What each call does. One that succeeds moves the time on, and one that fails counts as a fault.
pub record Counts {T E : Type 0} (old new : View) (result : Result T E) : Type 0 where
  pub told : new.tells ≡ old.tells
  pub later : old.moment ≤ new.moment
  pub moves : IsOk result → old.moment < new.moment
  pub no_fewer : old.faults ≤ new.faults
  pub cause : IsErr result → Rose old.faults new.faults
  pub time : IsTrue old.tells → Elapses old new

-- slot by slot
abbrev pub SameContent : Image → Image → Type 0
SameContent old new = (file : FileId) (slot : ℕ) → new file slot ≡ old file slot

-- a call that writes nothing
pub record Keeps (old new : View) : Type 0 where
  pub content : SameContent old.content new.content
  pub pending : (file : FileId) (slot : ℕ) (bytes : List ℕ) → Pending new file slot bytes → Pending old file slot bytes

-- what a crash might have left in a slot it may leave there still
abbrev pub StillPending : View → View → Type 0
StillPending old new = (file : FileId) (slot : ℕ) (bytes : List ℕ) → Pending old file slot bytes → Pending new file slot bytes

-- one slot has these bytes, and the others are as they were
pub record Puts (file : FileId) (slot : ℕ) (bytes : List ℕ) (old new : Image) : Type 0 where
  pub here : new file slot ≡ bytes
  pub others : (f : FileId) (i : ℕ) → (f ≡ file → i ≢ slot) → new f i ≡ old f i

-- the slot may have these bytes after a crash, beside what it might have had
abbrev pub Adds : FileId → ℕ → List ℕ → View → View → Type 0
Adds file slot bytes old new = (f : FileId) (i : ℕ) (x : List ℕ) → Pending new f i x
    → Pending old f i x ⊎ ((f ≡ file) × (i ≡ slot) × (x ≡ bytes))

-- a crash leaves what reads give
abbrev pub IsStable : View → Type 0
IsStable v = (file : FileId) (slot : ℕ) (bytes : List ℕ) → Pending v file slot bytes
    → bytes ≡ v.content file slot

-- a slot that was never written
abbrev pub zeros : FileId → List ℕ
zeros file = replicate (slot_bytes file) 0

-- A crash at any moment since old leaves an image that has P.
pub record LeavesOnly (old new : View) (P : Image → Type 0) : Type 0 where
  pub told : new.tells ≡ old.tells
  pub later : old.moment ≤ new.moment
  pub each : (image : Image) → new.left_since old.moment image → P image
  -- for a run that began earlier
  pub before : (t : ℕ) (image : Image) → t ≤ old.moment → new.left_since t image → old.left_since t image ⊎ P image

-- each slot of the image has what a crash might have left there
abbrev pub IsPending : View → Image → Type 0
IsPending v image = (file : FileId) (slot : ℕ) → Pending v file slot (image file slot)

-- A run of device calls that write nothing.
pub record OnlyReads (old new : View) : Type 0 where
  pub told : new.tells ≡ old.tells
  pub later : old.moment ≤ new.moment
  pub no_fewer : old.faults ≤ new.faults
  pub keeps : IsTrue old.tells → Keeps old new
  -- a crash at any moment of the run leaves in each slot what one at its beginning might have left there
  pub leaves : IsTrue old.tells → LeavesOnly old new (IsPending old)
