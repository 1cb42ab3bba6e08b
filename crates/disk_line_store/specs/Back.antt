-- What is true of a disk that a store has given back.
use Rattle.std.specs.Prelude.{ℕ, ◌≡◌, ◌≤◌, None}
use Rattle.rdb_outside.specs.Disk.{View}
use Rattle.line_view.specs.Knowledge.{Lines}
use Rattle.line_store.specs.Seats.{outside}
use Rattle.line_store.specs.Shelves.{Shelf}
use Rattle.line_store.specs.Sights.{Sight}
use Rattle.store_shows.specs.Shows.{AllOpen, Leaves}
use Rattle.change_steps.specs.disk_store.Memory.{StoreMemory}
use Rattle.change_steps.specs.disk_store.Seats.{stand_at}
use Rattle.change_steps.specs.disk_store.Shown.{Shown}
use Rattle.store_copies.specs.Stood.{HasBackup, IsInUse, Stood}

-- A shelf is shown of the disk, but for what sessions copied.
pub record ShownBack (v : View) (held : StoreMemory) (h : Shelf) : Type 0 where
  pub plain : Shelf
  pub shown : Shown v held plain
  pub clock : plain.clock ≡ h.clock
  pub now : plain.now ≡ h.now

-- The disk has a backup of this number, of these lines.
pub record HasBackupOf (v : View) (number since : ℕ) (lines : Lines) : Type 0 where
  pub backup : Stood
  pub lines_are : backup.lines ≡ lines
  pub has : HasBackup v number since backup

-- What the store showed, which was opened over the former disk, it showed of this disk and of what its memory held, and what a crash leaves of the disk it left of the store. What was backed up is so of the disk, and a backup that stood in the former disk stands, but for those of whose number one was begun.
pub record IsBack (former : View) (sight : Sight) (v : View) : Type 0 where
  pub held : StoreMemory
  pub shows : (h : Shelf) → sight.shows h → ShownBack v held h
  pub left : (t : ℕ) (lines : Lines) → Leaves v t lines → sight.left t lines
  pub opens : (t : ℕ) → sight.opens t → AllOpen v t
  pub stand : (s : ℕ) → sight.stand s ≡ outside → stand_at held.members s ≡ outside
  pub backed : (h : Shelf) → sight.shows h → (number since : ℕ) (lines : Lines) → since ≤ h.clock.time → sight.backed number since lines → HasBackupOf v number since lines
  pub standing : (h : Shelf) → sight.shows h → IsInUse former → (number since : ℕ) (b : Stood) → HasBackup former number since b → sight.copier number ≡ None → HasBackup v number since b
