-- Calls that read, and one that writes the backup behind them.
use Rattle.std.proofs.Common.{◌≡◌, ℕ, Bool, IsTrue, ◌⊎◌, inl, inr, ⊎_elim, refl, sym, subst, ◌∙◌, arith}
use Rattle.rdb_types.specs.declared.file.FileId.{FileId}
use Rattle.rdb_outside.specs.Disk.{Image, View, IsPending, OnlyReads}
use Rattle.rdb_outside.specs.Moments.{each_slot, started, weaker}
use Rattle.line_view.specs.Knowledge.{Lines}
use Rattle.backup_making.specs.Making.{file_of, Former, Steps}
use Rattle.next_lines.specs.partial_backup.declared.copying.Copying.{Copying}
use Rattle.next_lines.specs.partial_backup.Partial.{IsCopying, IsUntouched}
use Rattle.next_lines.proofs.of_partial_backup.Standing.{untouched}
use Rattle.backup_steps.specs.Beside.{IsBeside}

pub still_tells : (old new : View) → new.tells ≡ old.tells → IsTrue old.tells → IsTrue new.tells
still_tells old new told t = subst (λ b. IsTrue b) (sym told) t

pub reads_none : (v : View) → OnlyReads v v
reads_none v = record {
  told = refl;
  later = omega arith;
  no_fewer = omega arith;
  keeps = λ t. record { content = λ file slot. refl; pending = λ file slot bytes p. p };
  leaves = λ t. started v (IsPending v) (λ image left. each_slot v image left);
}

abbrev IsEither : View → View → Image → Type 0
IsEither old new image = IsPending old image ⊎ IsPending new image

pub beside_reads : (file : FileId) (old new : View) → OnlyReads old new → IsBeside file old new
beside_reads file old new reads = record {
  told = reads.told;
  later = reads.later;
  no_fewer = reads.no_fewer;
  others = λ t. record { content = λ f i apart. (reads.keeps t).content f i; pending = λ f i x apart p. (reads.keeps t).pending f i x p };
  leaves = λ t. weaker old new (IsPending old) (IsEither old new) (λ image p. inl p) (reads.leaves t);
}

-- one call on the file behind reads
pub beside_step : (file : FileId) (old mid new : View) (done : Bool) → OnlyReads old mid → Steps file mid new done → IsBeside file old new
beside_step file old mid new done reads steps = record {
  told = steps.told ∙ reads.told;
  later = let a = reads.later in let b = steps.later in omega (arith, a, b);
  no_fewer = let a = reads.no_fewer in let b = steps.no_fewer in omega (arith, a, b);
  others = λ t. let others = steps.others (still_tells old mid reads.told t) in record {
    content = λ f i apart. others.content f i apart ∙ (reads.keeps t).content f i;
    pending = λ f i x apart p. (reads.keeps t).pending f i x (others.pending f i x apart p);
  };
  leaves = λ t. let time = steps.time (still_tells old mid reads.told t) in let le = reads.later in
      let so_far = weaker old mid (IsPending old) (IsEither old new) (λ image p. inl p) (reads.leaves t) in
      record {
        told = steps.told ∙ reads.told;
        later = let b = steps.later in omega (arith, le, b);
        each = λ image left. ⊎_elim (so_far.each image) (λ here. inr (each_slot new image here)) (time.nothing_else old.moment image le left);
        before = λ moment image early left. ⊎_elim (so_far.before moment image early) (λ here. inr (inr (each_slot new image here))) (time.nothing_else moment image (omega (arith, early, le)) left);
      };
}

-- calls that only read leave the backup where it is
pub read_on : (former : Former) (classes : ℕ → ℕ) (lines : Lines) (old new : View) (c : Copying) → OnlyReads old new → IsTrue old.tells → IsCopying former classes lines old c → IsCopying former classes lines new c
read_on former classes lines old new c reads t was = untouched former classes lines old new c (is_untouched (file_of c.backup.number)) was
  where
    is_untouched : (file : FileId) → IsUntouched file old new
    is_untouched file = record { content = λ slot. (reads.keeps t).content file slot; pending = λ slot bytes p. (reads.keeps t).pending file slot bytes p }
