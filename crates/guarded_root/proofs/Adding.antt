-- What runs of calls add to what a crash may leave.
use Rattle.std.specs.Prelude.{ℕ, ◌≡◌, ◌⊎◌, IsTrue, List, Result}
use Rattle.std.proofs.Common.{inl, inr, ⊎_elim}
use Rattle.rdb_types.specs.declared.file.FileId.{FileId}
use Rattle.rdb_outside.specs.Disk.{Image, View, Pending, Counts, Keeps, Adds, IsPending, OnlyReads}
use Rattle.rdb_outside.specs.Moments.{each_slot, started, goes_on, weaker}
use Rattle.line_moves.proofs.Runs.{reads_once}
use Rattle.database_opening.proofs.of_line_opening.Standing.{leaves_on}
use Rattle.guarded_root.specs.Guarded.{IsWrite, IsPendingOr, AddsOnly}

-- a call that writes one slot, or fails
pub adds_write : {T E : Type 0} (file : FileId) (slot : ℕ) (bytes : List ℕ) (old new : View) (r : Result T E) → IsTrue old.tells → Counts old new r → Adds file slot bytes old new → AddsOnly (IsWrite file slot bytes) old new
adds_write file slot bytes old new r t counts adds =
    let P = IsPendingOr old (IsWrite file slot bytes) in
    record {
      pending = adds;
      leaves = goes_on old old new P r t (started old P (λ image left f i. inl (each_slot old image left f i))) counts (λ image left f i. adds f i (image f i) (each_slot new image left f i));
    }

-- of more kinds
pub adds_more : (some more : FileId → ℕ → List ℕ → Type 0) (old new : View) → ((f : FileId) (i : ℕ) (x : List ℕ) → some f i x → more f i x) → AddsOnly some old new → AddsOnly more old new
adds_more some more old new to adds = record {
  pending = λ f i x p. ⊎_elim (λ was. inl was) (λ is. inr (to f i x is)) (adds.pending f i x p);
  leaves = weaker old new (IsPendingOr old some) (IsPendingOr old more) (λ image is f i. ⊎_elim (λ was. inl was) (λ there. inr (to f i (image f i) there)) (is f i)) adds.leaves;
}

pub adds_none : (more : FileId → ℕ → List ℕ → Type 0) (v : View) → AddsOnly more v v
adds_none more v = record {
  pending = λ f i x p. inl p;
  leaves = started v (IsPendingOr v more) (λ image left f i. inl (each_slot v image left f i));
}

pub adds_read : (more : FileId → ℕ → List ℕ → Type 0) (old new : View) → IsTrue old.tells → OnlyReads old new → AddsOnly more old new
adds_read more old new t reads = record {
  pending = λ f i x p. inl ((reads.keeps t).pending f i x p);
  leaves = weaker old new (IsPending old) (IsPendingOr old more) (λ image is f i. inl (is f i)) (reads.leaves t);
}

pub adds_call : {T E : Type 0} (more : FileId → ℕ → List ℕ → Type 0) (old new : View) (r : Result T E) → IsTrue old.tells → Counts old new r → (IsTrue old.tells → Keeps old new) → AddsOnly more old new
adds_call more old new r t counts keeps = adds_read more old new t (reads_once old new r counts keeps)

-- one behind another
pub adds_on : (more : FileId → ℕ → List ℕ → Type 0) (old mid new : View) → AddsOnly more old mid → AddsOnly more mid new → AddsOnly more old new
adds_on more old mid new first second = record {
  pending = λ f i x p. ⊎_elim (λ was. first.pending f i x was) (λ is. inr is) (second.pending f i x p);
  leaves = leaves_on old mid new (IsPendingOr old more) first.leaves
      (weaker mid new (IsPendingOr mid more) (IsPendingOr old more) (λ image is f i. ⊎_elim (λ was. first.pending f i (image f i) was) (λ there. inr there) (is f i)) second.leaves);
}
