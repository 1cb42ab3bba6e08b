-- A backup that stood before the opening stands behind it, and rolled forward it gives what the store begins with.
use Rattle.std.proofs.Common.{◌≡◌, ◌≤◌, ◌<◌, ◌+◌, ◌==◌, ◌⊎◌, ⊎_elim, inl, inr, ℕ, Bool, true, false, IsTrue, if◌then◌else◌, refl, sym, ap, subst, ◌∙◌, arith}
use Rattle.std.proofs.lemmas.Bool.{eqb-true}
use Rattle.rdb_types.specs.declared.file.FileId.{FileId}
use Rattle.rdb_types.specs.declared.file.FileKind.TheVariants.{Aij, Area, Backup, Root as OfRoot, Ruj}
use Rattle.rdb_outside.specs.Disk.{Image, View, LeftNow, LeavesOnly, IsPending}
use Rattle.rdb_outside.specs.Moments.{each_slot}
use Rattle.root_file.specs.declared.Root.{Root}
use Rattle.line_view.specs.Knowledge.{Lines}
use Rattle.backup_making.specs.Making.{file_of, slots_of}
use Rattle.stable_lines.specs.Image.{StandsFor}
use Rattle.stable_lines.specs.Journal.{Journal, next_number}
use Rattle.stable_lines.specs.Kept.{Kept}
use Rattle.stable_lines.specs.Rolling.{rolled}
use Rattle.stable_lines.proofs.Unique.{one_journal, one_lines}
use Rattle.journal_anew.specs.Anew.{IsApart, StandsInUse, journal_in_use, no_groups}
use Rattle.opened_store.specs.database_opening.Others.{IsOther, KeepsFile}
use Rattle.opened_store.specs.disk_store.Memory.{StoreMemory}
use Rattle.opened_store.specs.disk_store.Shown.{RollsTo}
use Rattle.opened_store.specs.Opened.{BeginsFrom, IsLeft}
use Rattle.disk_line_store.specs.store_copies.Shown.{AllStand, IsStanding}
use Rattle.disk_line_store.specs.store_copies.Stood.{HasBackup, NumbersFromOne, RollsFrom, Stood}
use Rattle.disk_line_store.proofs.of_store_copies.Rolled.{pending-rolls}
use Rattle.line_runs.specs.Backups.{IsFormer}

-- a backup's file is none that an opening writes
pub backup-other : (number : ℕ) → IsOther (file_of number)
backup-other number = record { area = λ (same : Backup ≡ Area). absurd (cc); journal = λ (same : Backup ≡ Ruj). absurd (cc) }

pub backup-apart : (number : ℕ) → IsApart (file_of number)
backup-apart number = record {
  root = λ same. let kind : Backup ≡ OfRoot = ap (λ (f : FileId). f.kind) same in absurd (cc);
  journal = λ same. let kind : Backup ≡ Aij = ap (λ (f : FileId). f.kind) same in absurd (cc);
}

-- the journal of a database that was in use is the one that it has
in-use : (root : Root) (journal : Journal) → (root.state ≡ 3 → ⊥) → journal_in_use root journal ≡ journal
in-use root journal used = by (root.state == 3) refl
  where
    by : (b : Bool) → (root.state == 3) ≡ b → (if b then no_groups (next_number journal + 1) else journal) ≡ journal
    by true same = absurd (used (eqb-true root.state 3 same))
    by false apart = refl

module _ (old w : View) (told : w.tells ≡ old.tells) (left : LeftNow old old.content) (classes : ℕ → ℕ) (lines : Lines) (journal : Journal) (kept : Kept classes lines journal old.content)
    (stands : LeavesOnly old w (IsLeft old classes lines journal kept.root)) (beside : (number : ℕ) → KeepsFile (file_of number) old w) (held : StoreMemory) (begins : BeginsFrom old.content lines journal w held) where
  there : IsPending old old.content
  there = each_slot old old.content left

  module _ (used : kept.root.state ≡ 3 → ⊥) (number since : ℕ) (b : Stood) (was : HasBackup old number since b) where
    its-journal : begins.shown.ledger.base.journal ≡ journal
    its-journal = begins.groups kept.root kept.is_root.is ∙ in-use kept.root journal used

    -- what the backup gives of the image that was opened
    abbrev Gives : Type 0
    Gives = (b.last_group < next_number journal) × (lines ≡ rolled b.lines b.last_group journal.groups)

    gives-now : 1 ≤ journal.first → Gives
    gives-now one =
        let it : RollsFrom b.lines b.last_group old.content = was.rolls old.content (inr there) (λ first header. subst (λ (n : ℕ). 1 ≤ n) (sym kept.journal.header.fields.1.0 ∙ header.fields.1.0) one) in
        let same : it.rolls.journal ≡ journal = one_journal old.content it.rolls.journal journal it.rolls.kept.journal kept.journal in (
          subst (λ (j : Journal). b.last_group < next_number j) same it.below,
          one_lines old.content journal.groups lines it.rolls.lines kept.stands (subst (λ (j : Journal). StandsFor old.content j.groups it.rolls.lines) same it.rolls.kept.stands)
              ∙ it.rolls.gives ∙ ap (λ (j : Journal). rolled b.lines b.last_group j.groups) same,
        )

    rolls-kept : (image : Image) → Kept classes lines journal image → NumbersFromOne image → RollsFrom b.lines b.last_group image
    rolls-kept image is from =
        let it : Gives = gives-now (from journal.first is.journal.header) in
        record { rolls = record { classes = classes; lines = lines; journal = journal; kept = is; gives = it.1 }; below = it.0 }

    rolls-in-use : (image : Image) → StandsInUse classes lines journal kept.root image → NumbersFromOne image → RollsFrom b.lines b.last_group image
    rolls-in-use image (inl is) from = rolls-kept image is from
    rolls-in-use image (inr is) from = rolls-kept image (subst (λ (j : Journal). Kept classes lines j image) (in-use kept.root journal used) is) from

    rolls-there : RollsTo b.lines b.last_group begins.shown.ledger.base
    rolls-there one =
        let it : Gives = gives-now (subst (λ (j : Journal). 1 ≤ j.first) its-journal one) in
        record {
          below = subst (λ (j : Journal). b.last_group < next_number j) (sym its-journal) it.0;
          gives = begins.base ∙ it.1 ∙ ap (λ (j : Journal). rolled b.lines b.last_group j.groups) (sym its-journal);
        }

    rolls-left : (image : Image) → IsLeft old classes lines journal kept.root image → NumbersFromOne image → RollsFrom b.lines b.last_group image
    rolls-left image (inl pending) from = was.rolls image (inr pending) from
    rolls-left image (inr is) from = rolls-in-use image is from

    stands-there : IsStanding w number since b begins.shown.ledger.base
    stands-there = record {
      has = record {
        tells = subst (λ (t : Bool). IsTrue t) (sym told) was.tells;
        early = (let early = was.early in let later = stands.later in omega (arith, early, later));
        left = λ image l. ⊎_elim (λ before. was.left image before) (λ slots. was.pending (slots_of image (file_of number)) slots) ((beside number).leaves.before since image was.early l);
        pending = λ slots each. was.pending slots (λ i. (beside number).pending i (slots i) (each i));
        rolls = λ image either from. ⊎_elim
            (λ l. ⊎_elim (λ before. was.rolls image (inl before) from) (λ is. rolls-left image is from) (stands.before since image was.early l))
            (λ pending. pending-rolls w begins.shown.ledger begins.shown.facts b.lines b.last_group rolls-there image pending from)
            either;
      };
      rolls = rolls-there;
    }

  pub all-stand : (former : View) → IsFormer former old → AllStand former w begins.shown.ledger.base
  all-stand former is in_use number since b was = stands-there (is.in_use in_use kept.root kept.is_root.is) number since b (is.stood number since b was)
