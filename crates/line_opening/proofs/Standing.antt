-- What a crash leaves at every moment of a run, while the facts stay; and lines that no open transaction gets back.
use Rattle.std.proofs.Common.{◌≡◌, ℕ, IsTrue, ◌⊎◌, inl, inr, ⊎_elim, sym, ◌∙◌, subst, arith}
use Rattle.rdb_types.specs.declared.file.FileId.{FileId}
use Rattle.rdb_types.specs.declared.keys.Dbkey.{Dbkey}
use Rattle.rdb_types.specs.declared.keys.Line.{Line}
use Rattle.rdb_outside.specs.Disk.{Image, View, Pending, LeavesOnly, IsPending, OnlyReads}
use Rattle.rdb_outside.specs.Moments.{each_slot, started, weaker}
use Rattle.line_moves.specs.stable_lines.Slots.{line_at}
use Rattle.line_moves.specs.stable_lines.Progress.{Progress}
use Rattle.line_moves.specs.stable_lines.Facts.{IsNotOpen, Facts, StandsAs}
use Rattle.line_moves.proofs.of_stable_lines.Stands.{stands}
use Rattle.line_moves.specs.Calls.{OnlyWrites}

-- before the first call
pub stands_now : (v : View) (now : Progress) → Facts (Pending v) now → LeavesOnly v v (StandsAs now)
stands_now v now facts = started v (StandsAs now) (λ image left. stands (Pending v) now facts image (each_slot v image left))

-- a run that writes one slot at most
pub written_stands : (old new : View) (file : FileId) (slot : ℕ) (now : Progress) → OnlyWrites file slot old new → IsTrue old.tells → Facts (Pending old) now → Facts (Pending new) now → LeavesOnly old new (StandsAs now)
written_stands old new file slot now writes t was is =
    weaker old new (λ image. IsPending old image ⊎ IsPending new image) (StandsAs now)
    (λ image either. ⊎_elim (λ each. stands (Pending old) now was image each) (λ each. stands (Pending new) now is image each) either)
    (writes.leaves t)

-- a run that only reads
pub read_stands : (old new : View) (now : Progress) → OnlyReads old new → IsTrue old.tells → Facts (Pending old) now → LeavesOnly old new (StandsAs now)
read_stands old new now reads t was = weaker old new (IsPending old) (StandsAs now) (λ image each. stands (Pending old) now was image each) (reads.leaves t)

-- one run behind another
pub leaves_on : (old mid new : View) (P : Image → Type 0) → LeavesOnly old mid P → LeavesOnly mid new P → LeavesOnly old new P
leaves_on old mid new P was now = record {
  told = now.told ∙ was.told;
  later = omega (arith, was.later, now.later);
  each = λ image left. ⊎_elim (λ earlier. was.each image earlier) (λ here. here) (now.before old.moment image was.later left);
  before = λ t image le left. ⊎_elim (λ earlier. was.before t image le earlier) (λ here. inr here) (now.before t image (omega (arith, le, was.later)) left);
}

-- ---- lines

-- the line as it was, or one that bears no open transaction
abbrev pub IsOrEnded : Progress → Image → Image → Dbkey → Type 0
IsOrEnded now old new key = (line_at new key ≡ line_at old key) ⊎ IsNotOpen now (line_at new key).tsn.number

pub ended_on : (now : Progress) (old mid new : Image) (key : Dbkey) → IsOrEnded now old mid key → IsOrEnded now mid new key → IsOrEnded now old new key
ended_on now old mid new key was is = ⊎_elim
    (λ same. ⊎_elim (λ before. inl (same ∙ before)) (λ ended. inr (subst (λ (l : Line). IsNotOpen now l.tsn.number) (sym same) ended)) was)
    (λ ended. inr ended)
    is
