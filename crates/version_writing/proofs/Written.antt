-- A write behind reads, whose bytes are told only where the disk tells.
use Rattle.std.proofs.Common.{ℕ, IsTrue, Result, List, ◌⊎◌, inl, inr, ⊎_elim, ◌∙◌, arith}
use Rattle.rdb_types.specs.declared.file.FileId.{FileId}
use Rattle.rdb_outside.specs.Disk.{View, Counts, SameContent, Puts, Adds, IsPending, OnlyReads}
use Rattle.rdb_outside.specs.Moments.{each_slot, goes_on, weaker}
use Rattle.line_moves.specs.Calls.{OnlyWrites}
use Rattle.line_moves.proofs.Runs.{still_tells}

pub writes_told : {T E : Type 0} (old mid new : View) (file : FileId) (slot : ℕ) (result : Result T E) → OnlyReads old mid → Counts mid new result
    → (IsTrue mid.tells → (bytes : List ℕ) × Adds file slot bytes mid new × (SameContent mid.content new.content ⊎ Puts file slot bytes mid.content new.content)) → OnlyWrites file slot old new
writes_told old mid new file slot result reads counts puts = record {
  told = counts.told ∙ reads.told;
  later = omega (arith, reads.later, counts.later);
  no_fewer = omega (arith, reads.no_fewer, counts.no_fewer);
  pending = λ t f i x apart q. ⊎_elim (λ p. (reads.keeps t).pending f i x p) (λ here. absurd (apart here.0 here.1)) ((puts (told t)).1 f i x q);
  content = λ t f i apart. ⊎_elim (λ (still : SameContent mid.content new.content). still f i) (λ (p : Puts file slot (puts (told t)).0 mid.content new.content). p.others f i apart) (puts (told t)).2 ∙ (reads.keeps t).content f i;
  leaves = λ t. goes_on old mid new (λ image. IsPending old image ⊎ IsPending new image) result t
      (weaker old mid (IsPending old) (λ image. IsPending old image ⊎ IsPending new image) (λ image p. inl p) (reads.leaves t)) counts (λ image left. inr (each_slot new image left));
}
  where
    told : IsTrue old.tells → IsTrue mid.tells
    told t = still_tells old mid reads.told t
