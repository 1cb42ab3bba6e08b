-- How a run of calls that write nothing goes on, for the proofs of the crates above.
use Rattle.std.proofs.Common.{IsTrue, Result, refl, sym, ◌∙◌, subst, ⊎_elim, inr, arith}
use Rattle.rdb_outside.specs.Disk.{Image, View, Counts, Keeps, LeavesOnly, IsPending, OnlyReads}
use Rattle.rdb_outside.specs.Moments.{each_slot, started, goes_on}

-- before the first call
pub no_calls : (v : View) → OnlyReads v v
no_calls v = record {
  told = refl;
  later = omega arith;
  no_fewer = omega arith;
  keeps = λ tells. record { content = λ file slot. refl; pending = λ file slot bytes p. p };
  leaves = λ tells. started v (IsPending v) (λ image left. each_slot v image left);
}

-- one call more
pub one_call : {T E : Type 0} (old mid new : View) (result : Result T E) → OnlyReads old mid → Counts mid new result → (IsTrue mid.tells → Keeps mid new) → OnlyReads old new
one_call old mid new result was counts keeps = record {
  told = counts.told ∙ was.told;
  later = omega (arith, was.later, counts.later);
  no_fewer = omega (arith, was.no_fewer, counts.no_fewer);
  keeps = λ tells. record {
    content = λ file slot. (keeps (told tells)).content file slot ∙ (was.keeps tells).content file slot;
    pending = λ file slot bytes p. (was.keeps tells).pending file slot bytes ((keeps (told tells)).pending file slot bytes p);
  };
  leaves = λ tells. goes_on old mid new (IsPending old) result tells (was.leaves tells) counts
      (λ image left file slot. (was.keeps tells).pending file slot (image file slot) ((keeps (told tells)).pending file slot (image file slot) (each_slot new image left file slot)));
}
  where
    told : IsTrue old.tells → IsTrue mid.tells
    told tells = subst (λ b. IsTrue b) (sym was.told) tells

-- behind any other run
pub runs_on : (old mid new : View) (P : Image → Type 0) → LeavesOnly old mid P → OnlyReads mid new → IsTrue mid.tells → ((image : Image) → IsPending mid image → P image) → LeavesOnly old new P
runs_on old mid new P so_far now tells here =
    let reads : LeavesOnly mid new (IsPending mid) = now.leaves tells in
    record {
      told = now.told ∙ so_far.told;
      later = omega (arith, so_far.later, now.later);
      each = λ image left. ⊎_elim (so_far.each image) (here image) (reads.before old.moment image so_far.later left);
      before = λ t image le left. ⊎_elim (so_far.before t image le) (λ may. inr (here image may)) (reads.before t image (omega (arith, le, so_far.later)) left);
    }

-- another run that writes nothing
pub then_reads : (old mid new : View) → OnlyReads old mid → OnlyReads mid new → OnlyReads old new
then_reads old mid new was now = record {
  told = now.told ∙ was.told;
  later = omega (arith, was.later, now.later);
  no_fewer = omega (arith, was.no_fewer, now.no_fewer);
  keeps = λ tells. record {
    content = λ file slot. (now.keeps (told tells)).content file slot ∙ (was.keeps tells).content file slot;
    pending = λ file slot bytes p. (was.keeps tells).pending file slot bytes ((now.keeps (told tells)).pending file slot bytes p);
  };
  leaves = λ tells. runs_on old mid new (IsPending old) (was.leaves tells) now (told tells)
      (λ image may file slot. (was.keeps tells).pending file slot (image file slot) (may file slot));
}
  where
    told : IsTrue old.tells → IsTrue mid.tells
    told tells = subst (λ b. IsTrue b) (sym was.told) tells
