-- A whole backup, call by call.
use Rattle.std.proofs.Common.{◌≡◌, ℕ, ◌+◌, false, IsTrue, slice_get, Some, refl, ap, subst, ◌∙◌}
use Rattle.rdb_outside.specs.Disk.{Image, View, LeftNow, Pending, LeavesOnly, OnlyReads}
use Rattle.rdb_outside.specs.Moments.{weaker}
use Rattle.backup_file.specs.declared.header.BackupHead.{BackupHead}
use Rattle.backup_file.specs.declared.line.BackupLine.{BackupLine}
use Rattle.backup_file.specs.Whole.{IsWhole, lines_in}
use Rattle.backup_making.specs.declared.making.Backup.{Backup}
use Rattle.backup_making.specs.declared.making.Stage.TheVariants.{Open}
use Rattle.backup_making.specs.Making.{file_of, Former, IsEnded, head_of}
use Rattle.line_view.specs.Knowledge.{Lines}
use Rattle.stable_lines.specs.Slots.{area_file, ruj_file, IsMember, named}
use Rattle.stable_lines.specs.Journal.{Journal, next_number}
use Rattle.stable_lines.specs.Kept.{Kept}
use Rattle.stable_lines.specs.Progress.{Progress}
use Rattle.stable_lines.specs.Facts.{Facts}
use Rattle.stable_lines.proofs.Stands.{stands}
use Rattle.line_moves.proofs.Runs.{pends, facts_read, still_tells}
use Rattle.line_opening.proofs.Standing.{leaves_on}
use Rattle.database_opening.specs.declared.start.StoreStart.{StoreStart}
use Rattle.database_opening.specs.Start.{beginning_with, IsStart}
use Rattle.copied_lines.specs.Copying.{Copying, SameAreas, IsStopped}
use Rattle.whole_backup.specs.BackedUp.{HasBackup, MightHold, WithinBackup}
use Rattle.whole_backup.specs.Making.{IsBeginning, IsEnding}
use Rattle.whole_backup.proofs.Copies.{copies_whole, copies_same, copies_class}
use Rattle.whole_backup.proofs.Moments.{kept_image, ended_backup, ending_within, stopped_within, beginning_within, read_within}

-- how a backup of this number begins
abbrev pub fresh : ℕ → StoreStart → ℕ → Backup
fresh number start last = record { number = number; limits = start.root.limits; last_group = last; lines = 0; stage = Open }

module _ (classes : ℕ → ℕ) (lines : Lines) (journal : Journal) (start : StoreStart) (old read : View) (t : IsTrue old.tells) (content : LeftNow old old.content) (begins : IsStart classes lines journal old start) (reads : OnlyReads old read) where
  abbrev pub now : Progress
  now = beginning_with classes lines journal start

  pub told_read : IsTrue read.tells
  told_read = still_tells old read reads.told t

  pub facts_then : Facts (Pending read) now
  facts_then = facts_read old read reads t now begins.facts

  pub same_read : SameAreas old.content read.content
  same_read file slot = (reads.keeps t).content (area_file file) slot

  module _ (former : Former) (number : ℕ) where
    abbrev Within : Image → Type 0
    Within = WithinBackup classes lines former number

    pub might_then : MightHold former old number → MightHold former read number
    might_then might slot bytes p = might slot bytes ((reads.keeps t).pending (file_of number) slot bytes p)

    module _ (might : MightHold former old number) where
      pub within_read : LeavesOnly old read Within
      within_read = read_within classes lines journal start old read former number reads t begins.facts might

      -- it has begun
      module _ (begun : View) (beginning : LeavesOnly read begun (IsBeginning now former number)) where
        pub within_begun : LeavesOnly old begun Within
        within_begun = leaves_on old read begun Within within_read (weaker read begun (IsBeginning now former number) Within (beginning_within classes lines journal start former number) beginning)

        -- the lines are copied
        module _ (copied : View) (copying : LeavesOnly begun copied (IsStopped now number)) where
          pub within_copied : LeavesOnly old copied Within
          within_copied = leaves_on old begun copied Within within_begun (weaker begun copied (IsStopped now number) Within (stopped_within classes lines journal start former number) copying)

-- what is copied
module _ (classes : ℕ → ℕ) (lines : Lines) (journal : Journal) (start : StoreStart) (old : View) (t : IsTrue old.tells) (content : LeftNow old old.content) (begins : IsStart classes lines journal old start) (former : Former) (w : View) (b : Backup) (copying : Copying former old.content (beginning_with classes lines journal start) (λ key. false) w b) where
  closed : (member : ℕ) → IsMember member → named (old.content (ruj_file member) 0) ≡ 0
  closed member is = begins.closed member (old.content (ruj_file member) 0) is (pends old content (ruj_file member) 0)

  kept : Kept classes lines journal old.content
  kept = kept_image classes lines journal start old.content (stands (Pending old) (beginning_with classes lines journal start) begins.facts old.content (λ file slot. pends old content file slot))

  pub its_lines : lines_in copying.lines ≡ lines
  its_lines = copies_same old (beginning_with classes lines journal start) content begins.facts former w b copying classes lines journal kept closed

  pub its_class : (i : ℕ) (line : BackupLine) → slice_get copying.lines i ≡ Some line → line.class ≡ classes line.key.area
  its_class = copies_class old (beginning_with classes lines journal start) content begins.facts former w b copying classes lines journal kept its_lines

  pub is_whole : b.limits ≡ start.root.limits → IsWhole (head_of b copying.lines) copying.lines
  is_whole same = copies_whole old (beginning_with classes lines journal start) content begins.facts former w b copying same

-- the end
module _ (classes : ℕ → ℕ) (lines : Lines) (journal : Journal) (start : StoreStart) (old : View) (t : IsTrue old.tells) (content : LeftNow old old.content) (begins : IsStart classes lines journal old start) (former : Former) (number last : ℕ) (next : last + 1 ≡ start.next.number) (w : View) (b : Backup) (is : b ≡ record (fresh number start last) { lines = b.lines })
    (copying : Copying former old.content (beginning_with classes lines journal start) (λ key. false) w b) where
  abbrev its_head : BackupHead
  its_head = head_of b copying.lines

  its_number : b.number ≡ number
  its_number = ap (λ (x : Backup). x.number) is

  its_group : b.last_group ≡ last
  its_group = ap (λ (x : Backup). x.last_group) is

  its_limits : b.limits ≡ start.root.limits
  its_limits = ap (λ (x : Backup). x.limits) is

  comes_next : last + 1 ≡ next_number journal
  comes_next = next ∙ begins.next.numbered

  whole : IsWhole its_head copying.lines
  whole = is_whole classes lines journal start old t content begins former w b copying its_limits

  same : lines_in copying.lines ≡ lines
  same = its_lines classes lines journal start old t content begins former w b copying

  class : (i : ℕ) (line : BackupLine) → slice_get copying.lines i ≡ Some line → line.class ≡ classes line.key.area
  class = its_class classes lines journal start old t content begins former w b copying

  pub ending_leaves : (new : View) → LeavesOnly w new (IsEnding (beginning_with classes lines journal start) its_head copying.lines b.number) → LeavesOnly w new (WithinBackup classes lines former number)
  ending_leaves new ending = weaker w new (IsEnding (beginning_with classes lines journal start) its_head copying.lines b.number) (WithinBackup classes lines former number)
      (λ image at. subst (λ (n : ℕ). WithinBackup classes lines former n image) its_number (ending_within classes lines journal start old begins.facts last comes_next b.number its_head copying.lines its_group whole same class former image at)) ending

  pub ended_run : (new : View) → Facts (Pending new) (beginning_with classes lines journal start) → IsEnded new (file_of b.number) its_head copying.lines → (image : Image) → LeftNow new image → HasBackup classes lines number image
  ended_run new facts ended image left = subst (λ (n : ℕ). HasBackup classes lines n image) its_number
      (ended_backup classes lines journal start old begins.facts last comes_next b.number its_head copying.lines its_group whole same class new facts refl ended image left)
