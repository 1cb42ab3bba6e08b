-- Backups that stand in the disk behind a store: those that it made, and those that stood before it was opened.
use Rattle.std.proofs.Common.{◌≡◌, ⊎_elim, ℕ, IsTrue, List, None, refl, sym, subst}
use Rattle.rdb_outside.specs.Disk.{View, Image, LeftNow, Pending}
use Rattle.root_file.specs.Root.{AreLimits}
use Rattle.backup_file.specs.Whole.{IsBackup}
use Rattle.line_view.specs.Knowledge.{Lines, IsInOrder}
use Rattle.line_store.specs.Shelves.{Shelf}
use Rattle.backup_making.specs.declared.making.Backup.{Backup}
use Rattle.backup_making.specs.Making.{file_of, head_of, slots_of}
use Rattle.partial_backup.specs.Left.{FitOnPages, HasCopied}
use Rattle.partial_backup.proofs.Standing.{whole}
use Rattle.disk_store.specs.Memory.{StoreMemory}
use Rattle.store_copies.specs.Memory.{CopiesMemory, copier_in}
use Rattle.store_copies.specs.Shown.{IsBackedUp, IsBacked, ShownWith}
use Rattle.store_copies.specs.Stood.{HasBackup, IsInUse, IsWholeOf, Stood}
use Rattle.store_copies.proofs.OneBackup.{rolls-whole}
use Rattle.store_copies.proofs.Others.{ended-slots}
use Rattle.store_copies.proofs.Rolled.{pending-rolls}

-- what is copied whole is a whole backup
whole-of : (classes : ℕ → ℕ) (lines : Lines) (b : Backup) (number : ℕ) → b.number ≡ number → FitOnPages classes b.limits.pages lines → AreLimits b.limits → IsInOrder lines → (image : Image) → HasCopied classes lines b image
    → IsWholeOf (record { classes = classes; lines = lines; last_group = b.last_group }) (slots_of image (file_of number))
whole-of classes lines b number number-is pages limited ordered image copied = record {
  head = head_of b copied.copies;
  copies = copied.copies;
  is = subst (λ (n : ℕ). IsBackup (slots_of image (file_of n)) (head_of b copied.copies) copied.copies) number-is (whole classes lines b image copied pages limited ordered);
  has = copied.has;
  class = copied.class;
  last = refl;
}

module _ {former : View} (v : View) (held : StoreMemory) (copies : CopiesMemory) (h : Shelf) (shown : ShownWith former v held copies h) where
  module _ (number since : ℕ) (lines : Lines) (it : IsBacked v copies number since lines) where
    abbrev up : IsBackedUp v number since lines
    up = it.whole

    abbrev stood : Stood
    stood = record { classes = up.classes; lines = lines; last_group = up.copying.backup.last_group }

    made : (image : Image) → HasCopied up.classes lines up.copying.backup image → IsWholeOf stood (slots_of image (file_of number))
    made image copied = whole-of up.classes lines up.copying.backup number up.number_is up.pages up.limited up.ordered image copied

    in-slots : (slots : ℕ → List ℕ) → ((i : ℕ) → Pending v (file_of number) i (slots i)) → HasCopied up.classes lines up.copying.backup (λ file i. slots i)
    in-slots slots each = ended-slots up.former up.classes lines v up.copying up.ended up.is (λ file i. slots i)
        (λ i. subst (λ (n : ℕ). Pending v (file_of n) i (slots i)) (sym up.number_is) (each i))

    -- a backup that the store has whole stands
    pub has-backup : (IsTrue v.tells → LeftNow v v.content) → HasBackup v number since stood
    has-backup reads = record {
      tells = shown.shown.tells;
      early = up.early;
      left = λ image left. made image (up.left image left);
      pending = λ slots each. made (λ file i. slots i) (in-slots slots each);
      rolls = λ image left from. ⊎_elim (λ old. up.rolls image old from)
          (λ pending. pending-rolls v shown.shown.ledger shown.shown.facts lines up.copying.backup.last_group (rolls-whole v held copies h shown reads number since lines up it.done) image pending from) left;
    }

  -- and so does one that stood before the store was opened, where nobody began one of its number
  pub stands-still-whole : IsInUse former → (number since : ℕ) (b : Stood) → HasBackup former number since b → copier_in copies number ≡ None → HasBackup v number since b
  stands-still-whole used number since b had none = (shown.standing used number since b had none).has
