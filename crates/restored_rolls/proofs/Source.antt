-- Groups that follow on from the backup are what is laid over a restored image.
use Rattle.std.proofs.Common.{◌≡◌, ℕ, ◌+◌, ◌≤◌, ◌<◌, List, slice_get, Option, Some, inl, refl, sym, ◌∙◌, ap, subst, arith}
use Rattle.rdb_types.specs.declared.keys.Limits.{Limits}
use Rattle.rdb_outside.specs.Disk.{Image}
use Rattle.root_file.specs.declared.Root.{Root}
use Rattle.rdb_page.specs.Page.{class_at}
use Rattle.aij_journal.specs.declared.part.GroupLine.{GroupLine}
use Rattle.aij_journal.specs.Header.{IsHeader}
use Rattle.journal_scan.specs.declared.group.Group.{Group}
use Rattle.journal_scan.specs.Standing.{what_stands}
use Rattle.line_view.specs.Knowledge.{Lines}
use Rattle.new_database.specs.Maker.{aij_file}
use Rattle.backup_file.specs.declared.header.BackupHead.{BackupHead}
use Rattle.backup_file.specs.declared.line.BackupLine.{BackupLine}
use Rattle.backup_file.specs.Whole.{lines_in}
use Rattle.stable_lines.specs.Slots.{owner_at}
use Rattle.stable_lines.specs.Journal.{Journal, IsJournalOf, next_number}
use Rattle.stable_lines.proofs.Never.{zeros_owner}
use Rattle.stable_lines.specs.Kept.{HasNoCommit}
use Rattle.rolled_lines.specs.Journals.{follow, laid}
use Rattle.laid_groups.specs.Forward.{Forward}
use Rattle.fitted_groups.specs.Meeting.{TakesFirst, FitPages, page_in, entry_in, owner_met, class_met}
use Rattle.rmu_restore.specs.Restored.{IsRestored}
use Rattle.rmu_recover.specs.Journals.{files_of, AreJournalsIn}
use Rattle.rmu_recover.specs.Recovering.{MayBeRolled, IsSource, FitsImage}
use Rattle.restored_rolls.specs.Meeting.{forward_over}
use Rattle.restored_rolls.specs.Forth.{KeepsJournals}
use Rattle.restored_rolls.proofs.Slots.{may_stand, below, top_grows}

module _ (was image : Image) (classes : ℕ → ℕ) (head : BackupHead) (lines : List BackupLine) (journal : Journal) (groups : List Group) (keeps : KeepsJournals was image) (is : IsRestored was classes head lines journal image) where
  abbrev forward : Forward
  forward = forward_over image is.root (lines_in lines) groups

  pub may : MayBeRolled was is.root (forward_over image is.root (lines_in lines) groups) image
  may f i = may_stand image classes (lines_in lines) journal is.kept is.root is.is is.says.state groups was keeps f i

  -- the journal as it was
  same : (i : ℕ) → was aij_file i ≡ image aij_file i
  same i = sym (keeps aij_file i (inl refl))

  its_journal : IsJournalOf was journal
  its_journal = record {
    header = subst (λ (b : List ℕ). IsHeader b journal.first) (sym (same 0)) is.kept.journal.header;
    whole = is.kept.journal.whole;
    stand = λ i what got. ap what_stands (same (i + 1)) ∙ is.kept.journal.stand i what got;
    no_more = λ g whole stands. is.kept.journal.no_more g whole (λ i what got. ap what_stands (sym (same _)) ∙ stands i what got);
  }

  commits : HasNoCommit was (next_number journal)
  commits slot part some stands none = is.kept.commits slot part some (ap what_stands (sym (same slot)) ∙ stands) none

  group_below : (i : ℕ) (g : Group) → slice_get journal.groups i ≡ Some g → g.tsn.number < forward.top
  group_below i g got =
      let less = (below image classes (lines_in lines) journal is.kept is.root is.is is.says.state).group i g got in
      let grows = top_grows image classes (lines_in lines) journal is.kept is.root is.is is.says.state groups in
      omega (arith, less, grows)

  pub source : (copies : List ℕ) (journals : List Journal) → AreJournalsIn was (files_of copies) journals → follow head.last_group journals ≡ laid groups → IsSource was copies is.root (forward_over image is.root (lines_in lines) groups) journals groups journal
  source copies journals stand follows = record {
    journals_stand = stand;
    follows = ap (λ (n : ℕ). follow n journals) is.says.applied ∙ follows;
    writes = refl;
    pages = refl;
    top = refl;
    journal = its_journal;
    commits = commits;
    below = group_below;
  }

-- ---- pages that were never used

pub first : (image : Image) (root : Root) (lines : Lines) (groups : List Group) → TakesFirst image (forward_over image root lines groups) groups
first image root lines groups file number l area plain unused found =
    let page = page_in image file number in
    let none : owner_at page ≡ 0 = zeros_owner page unused in (
      ap (λ (w : Option GroupLine). owner_met (owner_at page) w (entry_in image file number)) found ∙ ap (λ (n : ℕ). owner_met n (Some l) (entry_in image file number)) none,
      ap (λ (w : Option GroupLine). class_met (owner_at page) w (class_at page)) found ∙ ap (λ (n : ℕ). class_met n (Some l) (class_at page)) none,
    )

module _ (was image : Image) (classes : ℕ → ℕ) (head : BackupHead) (lines : List BackupLine) (journal : Journal) (groups : List Group) (is : IsRestored was classes head lines journal image) where
  pub fits : FitPages image head.limits.pages groups → FitsImage (forward_over image is.root (lines_in lines) groups) is.root groups image
  fits fit = record {
    fit = subst (λ (n : ℕ). FitPages image n groups) (ap (λ (limits : Limits). limits.pages) (sym is.says.limits)) fit;
    first = first image is.root (lines_in lines) groups;
  }
