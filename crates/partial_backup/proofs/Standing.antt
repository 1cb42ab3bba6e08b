-- What stands of a backup between its steps, and what a crash leaves of it.
use Rattle.std.proofs.Common.{◌≡◌, ℕ, zero, suc, ◌+◌, ◌<◌, Bool, true, false, cond, IsTrue, List, [], ◌∷◌, length, slice_get, Option, Some, None, ◌⊎◌, inl, inr, ⊎_elim, refl, sym, ap, subst, ◌∙◌, arith}
use Rattle.std.specs.Ordering.{is_eq}
use Rattle.std.specs.Cmp.{tied_itself}
use Rattle.rdb_types.specs.declared.file.FileId.{FileId}
use Rattle.rdb_types.specs.declared.keys.Dbkey.{Dbkey}
use Rattle.rdb_types.specs.Order.{dbkey_order}
use Rattle.rdb_types.specs.OrderLaws.{dbkey_total}
use Rattle.rdb_outside.specs.Disk.{Image, View, LeftNow, zeros}
use Rattle.rdb_outside.specs.Moments.{each_slot}
use Rattle.rdb_page.specs.Page.{IsOwner, lines_of}
use Rattle.root_file.specs.Root.{AreLimits}
use Rattle.line_view.specs.Knowledge.{Lines, IsInOrder, line_in}
use Rattle.backup_file.specs.declared.header.BackupHead.{BackupHead}
use Rattle.backup_file.specs.declared.line.BackupLine.{BackupLine}
use Rattle.backup_file.specs.Header.{IsHead}
use Rattle.backup_file.specs.Line.{IsBackupLine}
use Rattle.backup_file.specs.Whole.{lines_in, IsBackup, HasPage, SharePages, Stores}
use Rattle.backup_making.specs.declared.making.Backup.{Backup}
use Rattle.backup_making.specs.declared.making.Stage.{Stage}
use Rattle.backup_making.specs.declared.making.Stage.TheVariants.{Begun, Blanked, Open, Closed, Headed, Ended}
use Rattle.backup_making.specs.Making.{file_of, Former, head_of, IsFormer, StandsAt, IsAt, WasFormer, StoresNothing, slots_of, Leaves, the_old as left_old, none as left_none, the_new as left_new}
use Rattle.backup_making.proofs.Stages.{no_head, leaves}
use Rattle.partial_backup.specs.declared.copying.Copying.{Copying}
use Rattle.partial_backup.specs.Partial.{HasAt, HaveClasses, IsCopying, IsUntouched}
use Rattle.partial_backup.specs.Left.{HasCopied, IsOldOrNew, FitOnPages, the_old, none, the_new}

-- ---- between its steps

untouched_at : (former : Former) (file : FileId) (head : BackupHead) (copies : List BackupLine) (old new : View) → IsUntouched file old new → (s : Stage) → StandsAt former old file head copies s → StandsAt former new file head copies s
untouched_at former file head copies old new u Begun at = ((λ i x p. at.0 i x (u.pending i x p)), at.1)
untouched_at former file head copies old new u Blanked at = (record { slots = λ i x p. at.0.slots i x (u.pending i x p); first = u.content 0 ∙ at.0.first }, at.1)
untouched_at former file head copies old new u Open at = record {
  blank = λ x p. at.blank x (u.pending 0 x p);
  first = u.content 0 ∙ at.first;
  reads = λ i line is. subst (λ (s : List ℕ). IsBackupLine s (i + 1) line) (sym (u.content (i + 1))) (at.reads i line is);
}
untouched_at former file head copies old new u Closed at = record { header = λ x p. at.header x (u.pending 0 x p); stand = λ i line x got p. at.stand i line x got (u.pending (i + 1) x p) }
untouched_at former file head copies old new u Headed at = record {
  closed = record { header = λ x p. at.closed.header x (u.pending 0 x p); stand = λ i line x got p. at.closed.stand i line x got (u.pending (i + 1) x p) };
  first = subst (λ (s : List ℕ). IsHead s head) (sym (u.content 0)) at.first;
}
untouched_at former file head copies old new u Ended at = record { header = λ x p. at.header x (u.pending 0 x p); stand = λ i line x got p. at.stand i line x got (u.pending (i + 1) x p) }

pub untouched : (former : Former) (classes : ℕ → ℕ) (lines : Lines) (old new : View) (c : Copying) → IsUntouched (file_of c.backup.number) old new → IsCopying former classes lines old c → IsCopying former classes lines new c
untouched former classes lines old new c u was = record {
  copies = was.copies;
  at = record { count = was.at.count; stands = untouched_at former (file_of c.backup.number) (head_of c.backup was.copies) was.copies old new u c.backup.stage was.at.stands };
  has = was.has;
  class = was.class;
}

-- ---- what a crash leaves

module _ (former : Former) (classes : ℕ → ℕ) (lines : Lines) (b : Backup) (v : View) (image : Image) (left : LeftNow v image) where
  abbrev Old : Type 0
  Old = IsOldOrNew former classes lines b image

  old_or_none : IsFormer former v (file_of b.number) → Old
  old_or_none was = ⊎_elim (λ first. the_old (each first)) (λ blank. none (no_head b.number (image (file_of b.number) 0) blank.1)) (slot 0)
    where
      slot : (i : ℕ) → IsTrue (former i (image (file_of b.number) i)) ⊎ ((i ≡ 0) × (image (file_of b.number) i ≡ zeros (file_of b.number)))
      slot i = was i (image (file_of b.number) i) (each_slot v image left (file_of b.number) i)

      each : IsTrue (former 0 (image (file_of b.number) 0)) → WasFormer former (slots_of image (file_of b.number))
      each first zero = first
      each first (suc i) = ⊎_elim (λ before. before) (λ there. absurd (let bad : suc i ≡ 0 = there.0 in omega (arith, bad))) (slot (suc i))

  by_leaves : (copies : List BackupLine) → lines_in copies ≡ lines → HaveClasses classes copies → Leaves former (head_of b copies) copies (slots_of image (file_of b.number)) → Old
  by_leaves copies has class (left_old was) = the_old was
  by_leaves copies has class (left_none is) = none is
  by_leaves copies has class (left_new stores) = the_new (record { copies = copies; stores = stores; has = has; class = class })

  by_stage : (copies : List BackupLine) (from : Option Dbkey) → HaveClasses classes copies → IsAt former v b copies → (s : Stage) → StandsAt former v (file_of b.number) (head_of b copies) copies s → HasAt s from lines (lines_in copies) → Old
  by_stage copies from class at Begun stands has = old_or_none stands.0
  by_stage copies from class at Blanked stands has = old_or_none stands.0.slots
  by_stage copies from class at Open stands has = none (no_head b.number (image (file_of b.number) 0) (stands.blank (image (file_of b.number) 0) (each_slot v image left (file_of b.number) 0)))
  by_stage copies from class at Closed stands has = by_leaves copies has class (leaves former b copies v at image left)
  by_stage copies from class at Headed stands has = by_leaves copies has class (leaves former b copies v at image left)
  by_stage copies from class at Ended stands has = by_leaves copies has class (leaves former b copies v at image left)

  stored : (copies : List BackupLine) → StandsAt former v (file_of b.number) (head_of b copies) copies Ended → Stores (slots_of image (file_of b.number)) (head_of b copies) copies
  stored copies at = record { header = at.header _ (each_slot v image left (file_of b.number) 0); count = refl; each = λ i line got. at.stand i line _ got (each_slot v image left (file_of b.number) (i + 1)) }

pub crashed : (former : Former) (classes : ℕ → ℕ) (lines : Lines) (v : View) (c : Copying) → IsCopying former classes lines v c → (image : Image) → LeftNow v image → IsOldOrNew former classes lines c.backup image
crashed former classes lines v c is image left = by_stage former classes lines c.backup v image left is.copies c.from is.class is.at c.backup.stage is.at.stands is.has

pub ended : (former : Former) (classes : ℕ → ℕ) (lines : Lines) (v : View) (c : Copying) → c.backup.stage ≡ Ended → IsCopying former classes lines v c → (image : Image) → LeftNow v image → HasCopied classes lines c.backup image
ended former classes lines v c stage is image left = record {
  copies = is.copies;
  stores = stored former classes lines c.backup v image left is.copies (subst (λ (s : Stage). StandsAt former v (file_of c.backup.number) (head_of c.backup is.copies) is.copies s) stage is.at.stands);
  has = subst (λ (s : Stage). HasAt s c.from lines (lines_in is.copies)) stage is.has;
  class = is.class;
}

-- ---- it is whole

some_there : (copies : List BackupLine) (i : ℕ) (line : BackupLine) → slice_get copies i ≡ Some line → (bytes : List ℕ) × (line_in line.key (lines_in copies) ≡ Some bytes)
some_there [] i line got = let bad : None ≡ Some line = got in absurd (cc)
some_there (l ∷ copies) zero line got =
    let same : l ≡ line = cc in
    (l.image, ap (λ (k : Dbkey). line_in k (lines_in (l ∷ copies))) (sym (ap (λ (x : BackupLine). x.key) same)) ∙ ap (λ r. cond (is_eq r) (Some l.image) (line_in l.key (lines_in copies))) (tied_itself dbkey_total l.key))
some_there (l ∷ copies) (suc i) line got =
    elim (is_eq (dbkey_order line.key l.key)) as (λ b. (bytes : List ℕ) × (cond b (Some l.image) (line_in line.key (lines_in copies)) ≡ Some bytes)) [
      | true ↦ (l.image, refl)
      | false ↦ some_there copies i line got
    ]

module _ (classes : ℕ → ℕ) (lines : Lines) (b : Backup) (image : Image) (copied : HasCopied classes lines b image) (fit : FitOnPages classes b.limits.pages lines) where
  there : (i : ℕ) (line : BackupLine) → slice_get copied.copies i ≡ Some line → (bytes : List ℕ) × (line_in line.key lines ≡ Some bytes)
  there i line got = let some = some_there copied.copies i line got in (some.0, ap (λ (l : Lines). line_in line.key l) (sym copied.has) ∙ some.1)

  on_page : (i : ℕ) (line : BackupLine) → slice_get copied.copies i ≡ Some line → HasPage b.limits.pages line
  on_page i line got = let is = there i line got in record {
    page = fit.page line.key is.0 is.1;
    within = fit.within line.key is.0 is.1;
    line = subst (λ (n : ℕ). line.key.line < lines_of n) (sym (copied.class i line got)) (fit.line line.key is.0 is.1);
    area = fit.area line.key is.0 is.1;
  }

  share : SharePages copied.copies
  share i k a c file got_a got_c own_a own_c page =
      let x = there i a got_a in let y = there k c got_c in
      let area : a.key.area ≡ c.key.area = fit.share a.key c.key x.0 y.0 file x.1 y.1 own_a own_c page in
      (area, copied.class i a got_a ∙ ap classes area ∙ sym (copied.class k c got_c))

  pub whole : AreLimits b.limits → IsInOrder lines → IsBackup (slots_of image (file_of b.number)) (head_of b copied.copies) copied.copies
  whole limits ordered = record {
    stores = copied.stores;
    whole = record { format = refl; limits = limits; in_order = subst (λ (l : Lines). IsInOrder l) (sym copied.has) ordered; on_pages = on_page; share = share };
  }
