-- Copies and backups behind calls that leave their files as they are.
use Rattle.std.proofs.Common.{◌≡◌, ◌≤◌, ◌+◌, ◌⊎◌, ⊎_elim, inl, inr, ℕ, Bool, IsTrue, refl, sym, subst, arith}
use Rattle.rdb_outside.specs.Disk.{View, Image, LeavesOnly, IsPending, Pending}
use Rattle.backup_file.specs.Whole.{lines_in}
use Rattle.line_view.specs.Knowledge.{Lines}
use Rattle.backup_making.specs.declared.making.Stage.{Stage}
use Rattle.backup_making.specs.declared.making.Stage.TheVariants.{Ended}
use Rattle.backup_making.specs.Making.{file_of, head_of, slots_of, Former, StandsAt}
use Rattle.partial_backup.specs.declared.copying.Copying.{Copying}
use Rattle.partial_backup.specs.Partial.{HasAt, IsCopying, IsUntouched}
use Rattle.partial_backup.specs.Left.{HasCopied}
use Rattle.partial_backup.proofs.Standing.{untouched}
use Rattle.disk_store.specs.declared.held.Tables.{Tables}
use Rattle.disk_store.specs.Grown.{Grow}
use Rattle.store_copies.specs.Shown.{GoesOn, IsBackedUp, IsFit}
use Rattle.store_copies.specs.Stood.{HasBackup, NumbersFromOne, RollsFrom, Stood}
use Rattle.store_copies.proofs.Keeping.{stay}

-- an image whose slots of the file have pending contents has a backup that has ended
pub ended-slots : (former : Former) (classes : ℕ → ℕ) (lines : Lines) (v : View) (c : Copying) → c.backup.stage ≡ Ended → IsCopying former classes lines v c → (image : Image) → ((i : ℕ) → Pending v (file_of c.backup.number) i (image (file_of c.backup.number) i)) → HasCopied classes lines c.backup image
ended-slots former classes lines v c stage is image pending = record {
  copies = is.copies;
  stores = record {
    header = at.header (image (file_of c.backup.number) 0) (pending 0);
    count = refl;
    each = λ i line got. at.stand i line (image (file_of c.backup.number) (i + 1)) got (pending (i + 1));
  };
  has = subst (λ (s : Stage). HasAt s c.from lines (lines_in is.copies)) stage is.has;
  class = is.class;
}
  where
    at : StandsAt former v (file_of c.backup.number) (head_of c.backup is.copies) is.copies Ended
    at = subst (λ (s : Stage). StandsAt former v (file_of c.backup.number) (head_of c.backup is.copies) is.copies s) stage is.at.stands

-- so does an image of pending contents
pub ended-pending : (former : Former) (classes : ℕ → ℕ) (lines : Lines) (v : View) (c : Copying) → c.backup.stage ≡ Ended → IsCopying former classes lines v c → (image : Image) → IsPending v image → HasCopied classes lines c.backup image
ended-pending former classes lines v c stage is image pending = ended-slots former classes lines v c stage is image (λ i. pending (file_of c.backup.number) i)

-- tables that grow keep what lines a backup may have
pub fit-grown : (old new : Tables) (limits : _) (classes : ℕ → ℕ) (lines : Lines) → Grow old new → IsFit old limits classes lines → IsFit new limits classes lines
fit-grown old new limits classes lines grow fit = record {
  ordered = fit.ordered;
  lie = stay old new classes lines grow fit.lie;
  class = fit.class;
  image = fit.image;
  few = fit.few;
  limited = fit.limited;
  pages = fit.pages;
}

pub goes-on-still : (v w : View) (old new : Tables) (c : Copying) (lines : Lines) → IsUntouched (file_of c.backup.number) v w → Grow old new → GoesOn v old c lines → GoesOn w new c lines
goes-on-still v w old new c lines kept grow goes = record {
  former = goes.former;
  classes = goes.classes;
  is = untouched goes.former goes.classes lines v w c kept goes.is;
  fit = fit-grown old new c.backup.limits goes.classes lines grow goes.fit;
}

-- A backup stays whole, and rolls forward where it does so over what a crash may leave before and behind the call.
pub backed-still : (v w : View) (number t : ℕ) (lines : Lines) → t ≤ v.moment → LeavesOnly v w (λ image. IsPending v image ⊎ IsPending w image) → IsUntouched (file_of number) v w → (was : IsBackedUp v number t lines)
    → ((image : Image) → IsPending v image ⊎ IsPending w image → NumbersFromOne image → RollsFrom lines was.copying.backup.last_group image) → IsBackedUp w number t lines
backed-still v w number t lines early leaves kept was rolls = record {
  early = let later = leaves.later in omega (arith, early, later);
  former = was.former;
  classes = was.classes;
  copying = was.copying;
  number_is = was.number_is;
  ended = was.ended;
  is = behind;
  left = λ image left. ⊎_elim (was.left image) (λ pending. ⊎_elim
      (ended-pending was.former was.classes lines v was.copying was.ended was.is image)
      (ended-pending was.former was.classes lines w was.copying was.ended behind image) pending) (leaves.before t image early left);
  rolls = λ image left from. ⊎_elim (λ old. was.rolls image old from) (λ pending. rolls image pending from) (leaves.before t image early left);
  ordered = was.ordered;
  limited = was.limited;
  pages = was.pages;
}
  where
    behind : IsCopying was.former was.classes lines w was.copying
    behind = untouched was.former was.classes lines v w was.copying (subst (λ (n : ℕ). IsUntouched (file_of n) v w) (sym was.number_is) kept) was.is

-- so does a backup that stands, whoever made it
pub stood-still : (v w : View) (number since : ℕ) (b : Stood) → LeavesOnly v w (λ image. IsPending v image ⊎ IsPending w image) → IsUntouched (file_of number) v w → HasBackup v number since b
    → ((image : Image) → IsPending v image ⊎ IsPending w image → NumbersFromOne image → RollsFrom b.lines b.last_group image) → HasBackup w number since b
stood-still v w number since b leaves kept was rolls = record {
  tells = subst (λ (t : Bool). IsTrue t) (sym leaves.told) was.tells;
  early = let early = was.early in let later = leaves.later in omega (arith, early, later);
  left = λ image left. ⊎_elim (λ old. was.left image old) (λ pending. was.pending (slots_of image (file_of number)) (λ i. at image pending i)) (leaves.before since image was.early left);
  pending = λ slots each. was.pending slots (λ i. kept.pending i (slots i) (each i));
  rolls = λ image left from. ⊎_elim
      (λ stood. ⊎_elim (λ old. was.rolls image (inl old) from) (λ pending. rolls image pending from) (leaves.before since image was.early stood))
      (λ pending. rolls image (inr pending) from) left;
}
  where
    at : (image : Image) → IsPending v image ⊎ IsPending w image → (i : ℕ) → Pending v (file_of number) i (image (file_of number) i)
    at image pending i = ⊎_elim (λ old. old (file_of number) i) (λ new. kept.pending i (image (file_of number) i) (new (file_of number) i)) pending
