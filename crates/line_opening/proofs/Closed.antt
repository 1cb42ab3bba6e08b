-- Headers closed one by one.
use Rattle.std.proofs.Common.{◌≡◌, ℕ, ◌+◌, ◌≤◌, ◌<◌, IsTrue, refl, sym, ◌∙◌, ap, arith}
use Rattle.rdb_types.specs.declared.file.FileId.{FileId}
use Rattle.rdb_outside.specs.Disk.{View, OnlyReads}
use Rattle.line_moves.specs.stable_lines.Slots.{ruj_file, named}
use Rattle.line_moves.specs.Calls.{OnlyWrites}
use Rattle.line_opening.specs.Headers.{AreClosed}
use Rattle.line_opening.proofs.Reading.{closed_more}

-- the header that was read names none
pub passed_over : (old mid : View) (member number : ℕ) → OnlyReads old mid → IsTrue old.tells → number ≡ named (mid.content (ruj_file member) 0) → number ≡ 0 → AreClosed old.content member → AreClosed old.content (member + 1)
passed_over old mid member number reads t read none was =
    closed_more old.content old.content member (λ m lt. refl) (ap named (sym ((reads.keeps t).content (ruj_file member) 0)) ∙ sym read ∙ none) was

-- the header that was written names none
pub closed_there : (old mid new : View) (member : ℕ) → OnlyReads old mid → IsTrue old.tells → IsTrue mid.tells → OnlyWrites (ruj_file member) 0 mid new → named (new.content (ruj_file member) 0) ≡ 0 → AreClosed old.content member → AreClosed new.content (member + 1)
closed_there old mid new member reads t told writes here was = closed_more old.content new.content member others here was
  where
    others : (m : ℕ) → m < member → named (new.content (ruj_file m) 0) ≡ named (old.content (ruj_file m) 0)
    others m lt = ap named (writes.content told (ruj_file m) 0 (λ same zero. let at : m ≡ member = ap (λ (f : FileId). f.number) same in omega (arith, at, lt)) ∙ (reads.keeps t).content (ruj_file m) 0)

pub all_closed : (old new : View) (member end : ℕ) → OnlyReads old new → IsTrue old.tells → end ≤ member → AreClosed old.content member → AreClosed new.content end
all_closed old new member end reads t past was m is lt = ap named ((reads.keeps t).content (ruj_file m) 0) ∙ was m is (omega (arith, lt, past))
