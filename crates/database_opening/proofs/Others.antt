-- How a run of calls leaves a file as it is.
use Rattle.std.proofs.Common.{◌≡◌, ℕ, IsTrue, ◌∙◌, ap, ⊎_elim}
use Rattle.rdb_types.specs.declared.file.FileId.{FileId}
use Rattle.rdb_outside.specs.Disk.{Image, View, Pending, IsPending, OnlyReads}
use Rattle.rdb_outside.specs.Moments.{weaker}
use Rattle.rdb_outside.specs.Runs.{no_calls}
use Rattle.line_opening.specs.stable_lines.Slots.{area_file, ruj_file}
use Rattle.line_opening.specs.line_moves.Calls.{OnlyWrites}
use Rattle.line_opening.proofs.Standing.{leaves_on}
use Rattle.database_opening.specs.Others.{IsOther, KeepsFile}

-- each slot of the file has what a crash might have left there
abbrev IsPendingIn : FileId → View → Image → Type 0
IsPendingIn file v image = (slot : ℕ) → Pending v file slot (image file slot)

-- ---- one run

pub file_read : (old new : View) → OnlyReads old new → IsTrue old.tells → (file : FileId) → KeepsFile file old new
file_read old new reads t file = record {
  content = λ slot. (reads.keeps t).content file slot;
  pending = λ slot bytes p. (reads.keeps t).pending file slot bytes p;
  leaves = weaker old new (IsPending old) (IsPendingIn file old) (λ image is slot. is file slot) (reads.leaves t);
}

pub file_unused : (v : View) → IsTrue v.tells → (file : FileId) → KeepsFile file v v
file_unused v = file_read v v (no_calls v)

module _ (old new : View) (g : FileId) (at : ℕ) (writes : OnlyWrites g at old new) (t : IsTrue old.tells) (file : FileId) (apart : file ≡ g → ⊥) where
  pub file_apart : KeepsFile file old new
  file_apart = record {
    content = λ slot. writes.content t file slot (λ same. absurd (apart same));
    pending = kept;
    leaves = weaker old new _ (IsPendingIn file old) (λ image is slot. ⊎_elim (λ before. before file slot) (λ behind. kept slot (image file slot) (behind file slot)) is) (writes.leaves t);
  }
    where
      kept : (slot : ℕ) (bytes : _) → Pending new file slot bytes → Pending old file slot bytes
      kept slot bytes p = writes.pending t file slot bytes (λ same. absurd (apart same)) p

-- a data page is written
pub page_apart : (old new : View) (number at : ℕ) → OnlyWrites (area_file number) at old new → IsTrue old.tells → (file : FileId) → IsOther file → KeepsFile file old new
page_apart old new number at writes t file other = file_apart old new (area_file number) at writes t file (λ same. other.area (ap (λ (f : FileId). f.kind) same))

-- a header of a before-image journal is written
pub header_apart : (old new : View) (member at : ℕ) → OnlyWrites (ruj_file member) at old new → IsTrue old.tells → (file : FileId) → IsOther file → KeepsFile file old new
header_apart old new member at writes t file other = file_apart old new (ruj_file member) at writes t file (λ same. other.journal (ap (λ (f : FileId). f.kind) same))

-- ---- one run behind another

pub file_on : (old mid new : View) (file : FileId) → KeepsFile file old mid → KeepsFile file mid new → KeepsFile file old new
file_on old mid new file first behind = record {
  content = λ slot. behind.content slot ∙ first.content slot;
  pending = λ slot bytes p. first.pending slot bytes (behind.pending slot bytes p);
  leaves = leaves_on old mid new (IsPendingIn file old) first.leaves
      (weaker mid new (IsPendingIn file mid) (IsPendingIn file old) (λ image is slot. first.pending slot (image file slot) (is slot)) behind.leaves);
}
