-- How runs of device calls go on of which one at most writes.
use Rattle.std.specs.Prelude.{OnOk, OnErr, Ok, Err}
use Rattle.std.proofs.Common.{◌≡◌, ℕ, IsTrue, Result, List, ◌⊎◌, inl, inr, ⊎_elim, sym, subst, ◌∙◌, arith}
use Rattle.rdb_types.specs.declared.file.FileId.{FileId}
use Rattle.line_store.specs.rdb_outside.Disk.{Image, View, LeftNow, Pending, Counts, Keeps, SameContent, Puts, Adds, IsPending, OnlyReads}
use Rattle.line_store.specs.rdb_outside.Moments.{each_slot, goes_on, weaker}
use Rattle.line_store.specs.rdb_outside.Runs.{no_calls, one_call}
use Rattle.stable_lines.specs.Progress.{Progress}
use Rattle.stable_lines.specs.Facts.{More, Facts}
use Rattle.stable_lines.proofs.Fewer.{fewer}
use Rattle.line_moves.specs.Calls.{OnlyWrites}

-- what reads give is pending
pub pends : (v : View) → LeftNow v v.content → (file : FileId) (slot : ℕ) → Pending v file slot (v.content file slot)
pends v left file slot = each_slot v v.content left file slot

pub still_tells : (old new : View) → new.tells ≡ old.tells → IsTrue old.tells → IsTrue new.tells
still_tells old new told t = subst (λ b. IsTrue b) (sym told) t

-- a call that only reads
pub reads_once : {T E : Type 0} (old new : View) (result : Result T E) → Counts old new result → (IsTrue old.tells → Keeps old new) → OnlyReads old new
reads_once old new result counts keeps = one_call old old new result (no_calls old) counts keeps

pub facts_read : (old new : View) → OnlyReads old new → IsTrue old.tells → (now : Progress) → Facts (Pending old) now → Facts (Pending new) now
facts_read old new reads t now was = fewer (Pending old) (Pending new) now (reads.keeps t).pending was

-- such a run writes no slot, so none but any one
pub writes_none : (file : FileId) (slot : ℕ) (old new : View) → OnlyReads old new → OnlyWrites file slot old new
writes_none file slot old new reads = record {
  told = reads.told;
  later = reads.later;
  no_fewer = reads.no_fewer;
  pending = λ t f i x apart p. (reads.keeps t).pending f i x p;
  content = λ t f i apart. (reads.keeps t).content f i;
  leaves = λ t. weaker old new (IsPending old) (λ image. IsPending old image ⊎ IsPending new image) (λ image p. inl p) (reads.leaves t);
}

-- a write behind reads
pub writes_one : {T E : Type 0} (old mid new : View) (file g : FileId) (slot j : ℕ) (bytes : List ℕ) (result : Result T E) → file ≡ g → slot ≡ j → OnlyReads old mid → Counts mid new result → (IsTrue mid.tells → Adds file slot bytes mid new)
    → (IsTrue mid.tells → SameContent mid.content new.content ⊎ Puts file slot bytes mid.content new.content) → OnlyWrites g j old new
writes_one old mid new file g slot j bytes result same at reads counts adds put = record {
  told = counts.told ∙ reads.told;
  later = omega (arith, reads.later, counts.later);
  no_fewer = omega (arith, reads.no_fewer, counts.no_fewer);
  pending = λ t f i x apart q. ⊎_elim (λ p. (reads.keeps t).pending f i x p) (λ here. absurd (apart (here.0 ∙ same) (here.1 ∙ at))) (adds (told t) f i x q);
  content = λ t f i apart. ⊎_elim (λ (still : SameContent mid.content new.content). still f i) (λ (p : Puts file slot bytes mid.content new.content). p.others f i (λ e n. apart (e ∙ same) (n ∙ at))) (put (told t)) ∙ (reads.keeps t).content f i;
  leaves = λ t. goes_on old mid new (λ image. IsPending old image ⊎ IsPending new image) result t
      (weaker old mid (IsPending old) (λ image. IsPending old image ⊎ IsPending new image) (λ image p. inl p) (reads.leaves t)) counts (λ image left. inr (each_slot new image left));
}
  where
    told : IsTrue old.tells → IsTrue mid.tells
    told t = still_tells old mid reads.told t

-- what a write leaves in the content
either : {T E : Type 0} (A B C : Type 0) (result : Result T E) → OnOk result (A → C) → OnErr result (A → B ⊎ C) → A → B ⊎ C
either A B C (Ok x) is none given = inr (is given)
either A B C (Err e) none is given = is given

-- a write alone
pub writes_now : {T E : Type 0} (old new : View) (file g : FileId) (slot j : ℕ) (bytes : List ℕ) (result : Result T E) → file ≡ g → slot ≡ j → Counts old new result → (IsTrue old.tells → Adds file slot bytes old new)
    → OnOk result (IsTrue old.tells → Puts file slot bytes old.content new.content) → OnErr result (IsTrue old.tells → SameContent old.content new.content ⊎ Puts file slot bytes old.content new.content) → OnlyWrites g j old new
writes_now old new file g slot j bytes result same at counts adds written failed =
    writes_one old old new file g slot j bytes result same at (no_calls old) counts adds (either (IsTrue old.tells) (SameContent old.content new.content) (Puts file slot bytes old.content new.content) result written failed)

-- what may be left behind it
pub more_behind : (old mid new : View) (file g : FileId) (slot j : ℕ) (bytes : List ℕ) → file ≡ g → slot ≡ j → IsTrue old.tells → OnlyReads old mid → Adds file slot bytes mid new → More (Pending new) (Pending old) g j bytes
more_behind old mid new file g slot j bytes same at t reads adds f i x p = ⊎_elim (λ q. inl ((reads.keeps t).pending f i x q)) (λ here. inr (here.0 ∙ same, here.1 ∙ at, here.2)) (adds f i x p)

-- the content behind a write, in its slot
pub here_at : (new : View) (file g : FileId) (slot j : ℕ) (bytes : List ℕ) → file ≡ g → slot ≡ j → new.content file slot ≡ bytes → new.content g j ≡ bytes
here_at new file g slot j bytes same at is = (λ k. new.content (sym same k) (sym at k)) ∙ is

-- what was read is pending
pub read_pends : (old : View) → LeftNow old old.content → (file g : FileId) (slot j : ℕ) (bytes : List ℕ) → file ≡ g → slot ≡ j → bytes ≡ old.content file slot → Pending old g j bytes
read_pends old left file g slot j bytes same at is =
    let content : bytes ≡ old.content g j = is ∙ (λ k. old.content (same k) (at k)) in
    subst (λ b. Pending old g j b) (sym content) (pends old left g j)

pub on_ok : {T E : Type 0} (A B : Type 0) (result : Result T E) → (A → B) → OnOk result A → OnOk result B
on_ok A B (Ok x) to is = to is
on_ok A B (Err e) to is = is

-- reads, and a run that writes one slot at most
pub reads_then_writes : (a b c : View) (file : FileId) (slot : ℕ) → OnlyReads a b → OnlyWrites file slot b c → OnlyWrites file slot a c
reads_then_writes a b c file slot reads writes = record {
  told = writes.told ∙ reads.told;
  later = omega (arith, reads.later, writes.later);
  no_fewer = omega (arith, reads.no_fewer, writes.no_fewer);
  pending = λ t f i x apart q. (reads.keeps t).pending f i x (writes.pending (told t) f i x apart q);
  content = λ t f i apart. writes.content (told t) f i apart ∙ (reads.keeps t).content f i;
  leaves = λ t. record {
    told = writes.told ∙ reads.told;
    later = omega (arith, reads.later, writes.later);
    each = λ image left. ⊎_elim (λ was. inl ((reads.leaves t).each image was)) (λ now. back t image now) ((writes.leaves (told t)).before a.moment image reads.later left);
    before = λ moment image le left. ⊎_elim (λ was. ⊎_elim (λ earlier. inl earlier) (λ here. inr (inl here)) ((reads.leaves t).before moment image le was))
        (λ now. inr (back t image now)) ((writes.leaves (told t)).before moment image (omega (arith, le, reads.later)) left);
  };
}
  where
    told : IsTrue a.tells → IsTrue b.tells
    told t = still_tells a b reads.told t

    back : IsTrue a.tells → (image : Image) → IsPending b image ⊎ IsPending c image → IsPending a image ⊎ IsPending c image
    back t image now = ⊎_elim (λ here. inl (λ f i. (reads.keeps t).pending f i (image f i) (here f i))) (λ there. inr there) now

pub on_err : {T E : Type 0} (A : Type 0) (result : Result T E) → A → OnErr result A
on_err A (Ok x) is = tt
on_err A (Err e) is = is
