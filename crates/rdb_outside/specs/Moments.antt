-- How a run of device calls goes on, for the proofs of the crates above.
use Rattle.std.specs.Prelude.{ℕ, ◌≤◌, IsTrue, Result, refl}
use Rattle.std.proofs.Common.{inl, inr, sym, ◌∙◌, subst, ⊎_elim, arith}
use Rattle.rdb_types.specs.declared.file.FileId.{FileId}
use Rattle.rdb_outside.specs.Disk.{Image, View, LeftNow, Pending, Counts, LeavesOnly}

-- each slot of an image has one of its pending contents
pub each_slot : (v : View) (image : Image) → LeftNow v image → (file : FileId) (slot : ℕ) → Pending v file slot (image file slot)
each_slot v image left file slot = record { image = image; left = left; same = refl }

-- before the first call
pub started : (v : View) (P : Image → Type 0) → ((image : Image) → LeftNow v image → P image) → LeavesOnly v v P
started v P here = record { told = refl; later = omega arith; each = here; before = λ t image le left. inl left }

-- one call more, after which a crash leaves what has P
pub goes_on : {T E : Type 0} (old mid new : View) (P : Image → Type 0) (result : Result T E) → IsTrue old.tells → LeavesOnly old mid P → Counts mid new result → ((image : Image) → LeftNow new image → P image) → LeavesOnly old new P
goes_on old mid new P result tells so_far counts here =
    let time = counts.time (subst (λ b. IsTrue b) (sym so_far.told) tells) in
    record {
      told = counts.told ∙ so_far.told;
      later = omega (arith, so_far.later, counts.later);
      each = λ image left. ⊎_elim (so_far.each image) (here image) (time.nothing_else old.moment image so_far.later left);
      before = λ t image le left. ⊎_elim (so_far.before t image le) (λ now. inr (here image now)) (time.nothing_else t image (omega (arith, le, so_far.later)) left);
    }

-- a weaker claim
pub weaker : (old new : View) (P Q : Image → Type 0) → ((image : Image) → P image → Q image) → LeavesOnly old new P → LeavesOnly old new Q
weaker old new P Q to so_far = record { told = so_far.told; later = so_far.later; each = λ image left. to image (so_far.each image left); before = λ t image le left. ⊎_elim (λ was. inl was) (λ has. inr (to image has)) (so_far.before t image le left) }

-- what holds of every image since a moment
pub record Since (v : View) (t : ℕ) (P : Image → Type 0) : Type 0 where
  pub past : t ≤ v.moment
  pub each : (image : Image) → v.left_since t image → P image

-- from now on
pub from_now : (v : View) (P : Image → Type 0) → ((image : Image) → LeftNow v image → P image) → Since v v.moment P
from_now v P here = record { past = omega arith; each = here }

-- a call more, after which the images have P too
pub since_goes_on : {T E : Type 0} (old new : View) (t : ℕ) (P : Image → Type 0) (result : Result T E) → IsTrue old.tells → Since old t P → Counts old new result → ((image : Image) → LeftNow new image → P image) → Since new t P
since_goes_on old new t P result tells was counts here = record {
  past = omega (arith, was.past, counts.later);
  each = λ image left. ⊎_elim (was.each image) (here image) ((counts.time tells).nothing_else t image was.past left);
}

pub since_weaker : (v : View) (t : ℕ) (P Q : Image → Type 0) → ((image : Image) → P image → Q image) → Since v t P → Since v t Q
since_weaker v t P Q to was = record { past = was.past; each = λ image left. to image (was.each image left) }
