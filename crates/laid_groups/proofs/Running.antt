-- Runs behind which each slot holds what it may, and what their writes come to.
use Rattle.std.proofs.Common.{◌≡◌, ℕ, IsTrue, List, [], ◌++◌, Option, inl, inr, ⊎_elim, refl, sym, ◌∙◌, ap, subst}
use Rattle.rdb_outside.specs.Disk.{Image, View, LeftNow, OnlyReads}
use Rattle.rdb_outside.specs.Moments.{each_slot}
use Rattle.line_view.specs.declared.writes.Write.{Write}
use Rattle.stable_lines.specs.Slots.{line_at}
use Rattle.line_versions.specs.Lines.{shown}
use Rattle.rolled_lines.specs.HalfLaid.{line_behind}
use Rattle.guarded_root.specs.Guarded.{AddsOnly}
use Rattle.guarded_root.proofs.Adding.{adds_none, adds_read, adds_on}
use Rattle.laid_groups.specs.Forward.{Forward, IsUnderWay, IsReady, IsHeld, KeepsReady, IsWrittenBy}
use Rattle.laid_groups.specs.Laid.{LaidOver}
use Rattle.laid_groups.proofs.Behind.{behind_both, written_either}

-- ---- at every moment

pub ready_image : (forward : Forward) (v : View) → IsReady forward v → (image : Image) → LeftNow v image → IsUnderWay forward image
ready_image forward v ready image left f i = ready f i (image f i) (each_slot v image left f i)

pub still_ready : (forward : Forward) (old new : View) → AddsOnly (IsHeld forward) old new → IsReady forward old → IsReady forward new
still_ready forward old new adds is f i x p = ⊎_elim (λ was. is f i x was) (λ it. it.1) (adds.pending f i x p)

pub none_ready : (forward : Forward) (v : View) → KeepsReady forward v v
none_ready forward v is = adds_none (IsHeld forward) v

pub read_ready : (forward : Forward) (old new : View) → IsTrue old.tells → OnlyReads old new → KeepsReady forward old new
read_ready forward old new t reads is = adds_read (IsHeld forward) old new t reads

pub ready_on : (forward : Forward) (old mid new : View) → KeepsReady forward old mid → KeepsReady forward mid new → KeepsReady forward old new
ready_on forward old mid new first second is = adds_on (IsHeld forward) old mid new (first is) (second (still_ready forward old mid (first is) is))

-- ---- what the writes come to

pub none_laid : (forward : Forward) (image : Image) → LaidOver forward [] image image
none_laid forward image = record {
  line = λ key. refl;
  entered = λ file number is plain. ⊎_elim (λ (by : IsWrittenBy [] file number). absurd (nothing by)) (λ was. was);
}
  where
    nothing : {file number : ℕ} → IsWrittenBy [] file number → ⊥
    nothing by = let bad = by.is in cc

pub laid_on : (forward : Forward) (xs ys : List Write) (old mid new : Image) → LaidOver forward xs old mid → LaidOver forward ys mid new → LaidOver forward (xs ++ ys) old new
laid_on forward xs ys old mid new first second = record {
  line = λ key. second.line key ∙ ap (λ (w : Option (List ℕ)). line_behind key ys w) (first.line key) ∙ sym (behind_both key xs ys (shown (line_at old key)));
  entered = λ file number is plain. ⊎_elim
      (λ by. ⊎_elim (λ early. second.entered file number is plain (inr (first.entered file number is plain (inl early)))) (λ late. second.entered file number is plain (inl late)) (written_either xs ys file number by))
      (λ was. second.entered file number is plain (inr (first.entered file number is plain (inr was))));
}

-- over the same content
pub laid_from : (forward : Forward) (ws : List Write) (old mid new : Image) → mid ≡ old → LaidOver forward ws mid new → LaidOver forward ws old new
laid_from forward ws old mid new same = subst (λ (m : Image). LaidOver forward ws m new) same

pub laid_to : (forward : Forward) (ws : List Write) (old mid new : Image) → new ≡ mid → LaidOver forward ws old mid → LaidOver forward ws old new
laid_to forward ws old mid new same = subst (λ (m : Image). LaidOver forward ws old m) (sym same)
