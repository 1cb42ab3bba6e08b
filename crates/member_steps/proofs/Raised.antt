-- What else stays while a root is raised and made stable: other slots, at every moment, and what an image stands for.
use Rattle.std.proofs.Common.{◌≡◌, ◌⊎◌, ℕ, IsTrue, List, ⊎_elim, ◌∙◌}
use Rattle.rdb_types.specs.declared.file.FileId.{FileId}
use Rattle.rdb_outside.specs.Disk.{View, Image, IsPending, Pending, LeavesOnly, OnlyReads}
use Rattle.rdb_outside.specs.Moments.{weaker}
use Rattle.new_database.specs.Maker.{root_file}
use Rattle.disk_seats.specs.stable_lines.Progress.{Progress}
use Rattle.disk_seats.specs.stable_lines.Facts.{Facts, StandsAs}
use Rattle.disk_seats.specs.line_moves.Calls.{OnlyWrites}
use Rattle.disk_seats.proofs.of_line_moves.Runs.{still_tells, facts_read}
use Rattle.disk_seats.proofs.of_line_opening.Standing.{read_stands, written_stands, leaves_on}

module _ (old mid put : View) (reads : OnlyReads old mid) (writes : OnlyWrites root_file 0 mid put) (t : IsTrue old.tells) where
  told : IsTrue mid.tells
  told = still_tells old mid reads.told t

  pub others_written : (file : FileId) (slot : ℕ) → (file ≡ root_file → ⊥) → put.content file slot ≡ old.content file slot
  others_written file slot other = writes.content told file slot (λ same. absurd (other same)) ∙ (reads.keeps t).content file slot

  pub pending_written : (file : FileId) (slot : ℕ) (bytes : List ℕ) → (file ≡ root_file → ⊥) → Pending put file slot bytes → Pending old file slot bytes
  pending_written file slot bytes other p = (reads.keeps t).pending file slot bytes (writes.pending told file slot bytes (λ same. absurd (other same)) p)

  -- each slot of the file has what a crash might have left there
  abbrev IsPendingIn : FileId → Image → Type 0
  IsPendingIn file image = (slot : ℕ) → Pending old file slot (image file slot)

  pub beside_written : (file : FileId) → (file ≡ root_file → ⊥) → LeavesOnly old put (λ image. (slot : ℕ) → Pending old file slot (image file slot))
  beside_written file other = leaves_on old mid put (IsPendingIn file)
      (weaker old mid (IsPending old) (IsPendingIn file) (λ image is slot. is file slot) (reads.leaves t))
      (weaker mid put (λ image. IsPending mid image ⊎ IsPending put image) (IsPendingIn file)
      (λ image is slot. ⊎_elim (λ before. (reads.keeps t).pending file slot (image file slot) (before file slot)) (λ behind. pending_written file slot (image file slot) other (behind file slot)) is)
      (writes.leaves told))

  pub left_written : (base : Progress) → Facts (Pending old) base → Facts (Pending put) base → LeavesOnly old put (StandsAs base)
  left_written base was is =
      leaves_on old mid put (StandsAs base) (read_stands old mid base reads t was)
      (written_stands mid put root_file 0 base writes told (facts_read old mid reads t base was) is)

  module _ (new : View) (settles : OnlyReads put new) where
    told_behind : IsTrue put.tells
    told_behind = still_tells mid put writes.told told

    pub others_settled : (file : FileId) (slot : ℕ) → (file ≡ root_file → ⊥) → new.content file slot ≡ old.content file slot
    others_settled file slot other = (settles.keeps told_behind).content file slot ∙ others_written file slot other

    pub pending_settled : (file : FileId) (slot : ℕ) (bytes : List ℕ) → (file ≡ root_file → ⊥) → Pending new file slot bytes → Pending old file slot bytes
    pending_settled file slot bytes other p = pending_written file slot bytes other ((settles.keeps told_behind).pending file slot bytes p)

    pub beside_settled : (file : FileId) → (file ≡ root_file → ⊥) → LeavesOnly old new (λ image. (slot : ℕ) → Pending old file slot (image file slot))
    beside_settled file other = leaves_on old put new (IsPendingIn file) (beside_written file other)
        (weaker put new (IsPending put) (IsPendingIn file) (λ image is slot. pending_written file slot (image file slot) other (is file slot)) (settles.leaves told_behind))

    pub left_settled : (base : Progress) → Facts (Pending old) base → Facts (Pending put) base → LeavesOnly old new (StandsAs base)
    left_settled base was is = leaves_on old put new (StandsAs base) (left_written base was is) (read_stands put new base settles told_behind is)
