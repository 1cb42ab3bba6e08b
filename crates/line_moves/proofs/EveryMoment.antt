-- What images since a commit stand for, at every moment of a run that writes one slot.
use Rattle.std.proofs.Common.{ℕ, ◌<◌, length, IsTrue, ⊎_elim, arith}
use Rattle.rdb_types.specs.declared.file.FileId.{FileId}
use Rattle.line_store.specs.rdb_outside.Disk.{View, Pending}
use Rattle.line_store.specs.rdb_outside.Moments.{Since}
use Rattle.stable_lines.specs.Progress.{Progress}
use Rattle.stable_lines.specs.Facts.{Facts}
use Rattle.stable_lines.specs.History.{History, StandsFrom, IsAt}
use Rattle.stable_lines.proofs.Stands.{stands}
use Rattle.stable_lines.proofs.Histories.{stands_from}
use Rattle.line_moves.specs.Calls.{OnlyWrites}

pub since_written : (old new : View) (file : FileId) (slot moment k : ℕ) (h : History) (now : Progress) → IsTrue old.tells → OnlyWrites file slot old new → Facts (Pending old) now → Facts (Pending new) now → IsAt h now → k < length h.reached
    → Since old moment (StandsFrom h k) → Since new moment (StandsFrom h k)
since_written old new file slot moment k h now t writes was is at within since = record {
  past = omega (arith, since.past, writes.later);
  each = λ image left. ⊎_elim (since.each image)
      (λ pending. ⊎_elim (λ each. stands_from h now k image at within (stands (Pending old) now was image each)) (λ each. stands_from h now k image at within (stands (Pending new) now is image each)) pending)
      ((writes.leaves t).before moment image since.past left);
}
