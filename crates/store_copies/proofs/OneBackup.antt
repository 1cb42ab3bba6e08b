-- The slots of a file are one backup at most, so what is known of one that has come to its end is known of that which the store has whole.
use Rattle.std.proofs.Common.{◌≡◌, ℕ, true, IsTrue, List, sym, ap, subst, ◌∙◌}
use Rattle.rdb_outside.specs.Disk.{View, LeftNow}
use Rattle.rdb_outside.specs.Moments.{each_slot}
use Rattle.line_view.specs.Knowledge.{Lines}
use Rattle.stable_lines.specs.Progress.{Progress}
use Rattle.line_store.specs.Shelves.{Shelf}
use Rattle.backup_file.specs.declared.header.BackupHead.{BackupHead}
use Rattle.backup_file.specs.Whole.{Stores, lines_in}
use Rattle.backup_file.proofs.Unique.{same_head, same_lines}
use Rattle.backup_making.specs.declared.making.Backup.{Backup}
use Rattle.backup_making.specs.Making.{file_of, head_of, slots_of}
use Rattle.partial_backup.specs.Left.{HasCopied}
use Rattle.partial_backup.specs.Partial.{IsUntouched}
use Rattle.disk_store.specs.Memory.{StoreMemory}
use Rattle.disk_store.specs.Shown.{RollsOn, RollsTo}
use Rattle.store_copies.specs.Memory.{CopiesMemory, is_done}
use Rattle.store_copies.specs.Shown.{IsBackedUp, IsRolling, ShownWith}
use Rattle.store_copies.proofs.Others.{ended-pending}

-- a backup whose file stays
copied-still : (v w : View) (classes : ℕ → ℕ) (lines : Lines) (b : Backup) → IsUntouched (file_of b.number) v w → HasCopied classes lines b v.content → HasCopied classes lines b w.content
copied-still v w classes lines b kept was =
    let same : slots_of v.content (file_of b.number) ≡ slots_of w.content (file_of b.number) = λ i slot. sym (kept.content slot) i in
    record { copies = was.copies; stores = subst (λ (slots : ℕ → List ℕ). Stores slots (head_of b was.copies) was.copies) same was.stores; has = was.has; class = was.class }

pub rolling-still : (v w : View) (number : ℕ) (old new : Progress) → IsUntouched (file_of number) v w → RollsOn old new → IsRolling v number old → IsRolling w number new
rolling-still v w number old new kept on was = record {
  classes = was.classes;
  lines = was.lines;
  copying = was.copying;
  number_is = was.number_is;
  has = copied-still v w was.classes was.lines was.copying.backup (subst (λ (n : ℕ). IsUntouched (file_of n) v w) (sym was.number_is) kept) was.has;
  rolls = on was.lines was.copying.backup.last_group was.rolls;
}

pub same-rolls : (v : View) (number : ℕ) (now : Progress) (classes : ℕ → ℕ) (lines : Lines) (b : Backup) → b.number ≡ number → HasCopied classes lines b v.content → IsRolling v number now → RollsTo lines b.last_group now
same-rolls v number now classes lines b number-is has is =
    let slots : ℕ → List ℕ = slots_of v.content (file_of number) in
    let mine : Stores slots (head_of b has.copies) has.copies = subst (λ (n : ℕ). Stores (slots_of v.content (file_of n)) (head_of b has.copies) has.copies) number-is has.stores in
    let its : Stores slots (head_of is.copying.backup is.has.copies) is.has.copies =
    subst (λ (n : ℕ). Stores (slots_of v.content (file_of n)) (head_of is.copying.backup is.has.copies) is.has.copies) is.number_is is.has.stores in
    let group : is.copying.backup.last_group ≡ b.last_group = ap (λ (h : BackupHead). h.last_group) (same_head slots (head_of is.copying.backup is.has.copies) (head_of b has.copies) is.has.copies has.copies its mine) in
    let same : is.lines ≡ lines = sym is.has.has ∙ ap lines_in (same_lines slots (head_of is.copying.backup is.has.copies) (head_of b has.copies) is.has.copies has.copies its mine) ∙ has.has in
    subst (λ (l : Lines). RollsTo l b.last_group now) same (subst (λ (n : ℕ). RollsTo is.lines n now) group is.rolls)

-- what is known of a backup that the store has whole
pub rolls-whole : {former : View} (v : View) (held : StoreMemory) (copies : CopiesMemory) (h : Shelf) (shown : ShownWith former v held copies h) → (IsTrue v.tells → LeftNow v v.content) → (n since : ℕ) (lines : Lines) (it : IsBackedUp v n since lines) → is_done copies n ≡ true
    → RollsTo lines it.copying.backup.last_group shown.shown.ledger.base
rolls-whole v held copies h shown reads n since lines it done =
    let has : HasCopied it.classes lines it.copying.backup v.content = ended-pending it.former it.classes lines v it.copying it.ended it.is v.content (each_slot v v.content (reads shown.shown.tells)) in
    same-rolls v n shown.shown.ledger.base it.classes lines it.copying.backup it.number_is has (shown.rolling n done).1
