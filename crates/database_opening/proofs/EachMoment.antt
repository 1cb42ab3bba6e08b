-- What a crash leaves at every moment of a whole opening.
use Rattle.std.proofs.Common.{◌⊎◌, inl, inr, ℕ, IsTrue}
use Rattle.rdb_outside.specs.Disk.{Image, View, LeavesOnly, IsPending, OnlyReads}
use Rattle.rdb_outside.specs.Moments.{weaker}
use Rattle.line_view.specs.Knowledge.{Lines}
use Rattle.line_opening.specs.stable_lines.Journal.{Journal}
use Rattle.line_opening.specs.stable_lines.Kept.{Kept}
use Rattle.line_opening.proofs.Standing.{leaves_on}

-- what a crash may leave of a whole opening
abbrev pub IsLeft : (ℕ → ℕ) → Lines → Journal → View → Image → Type 0
IsLeft classes lines journal old image = IsPending old image ⊎ Kept classes lines journal image

pub left_by_reads : (classes : ℕ → ℕ) (lines : Lines) (journal : Journal) (old new : View) → OnlyReads old new → IsTrue old.tells → LeavesOnly old new (IsLeft classes lines journal old)
left_by_reads classes lines journal old new reads t = weaker old new (IsPending old) (IsLeft classes lines journal old) (λ image is. inl is) (reads.leaves t)

pub left_by_step : (classes : ℕ → ℕ) (lines : Lines) (journal : Journal) (old mid new : View) → LeavesOnly old mid (IsLeft classes lines journal old) → LeavesOnly mid new (Kept classes lines journal) → LeavesOnly old new (IsLeft classes lines journal old)
left_by_step classes lines journal old mid new was now =
    leaves_on old mid new (IsLeft classes lines journal old) was (weaker mid new (Kept classes lines journal) (IsLeft classes lines journal old) (λ image is. inr is) now)
