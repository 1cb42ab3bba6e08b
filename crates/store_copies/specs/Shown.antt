-- What a store on a disk shows whose sessions copy backups.
use Rattle.std.specs.Prelude.{ℕ, ◌+◌, ◌<◌, ◌≤◌, ◌≡◌, ◌^◌, ◌==◌, Bool, true, false, List, length, Option, Some, None}
use Rattle.rdb_types.specs.declared.keys.Dbkey.{Dbkey}
use Rattle.rdb_types.specs.declared.keys.Limits.{Limits}
use Rattle.rdb_outside.specs.Disk.{View, Image}
use Rattle.rdb_page.specs.Page.{IsClass}
use Rattle.root_file.specs.Root.{AreLimits}
use Rattle.line_view.specs.Knowledge.{Lines, IsInOrder, line_in}
use Rattle.stable_lines.specs.Progress.{Progress}
use Rattle.line_store.specs.Seats.{Seat, reading, copying}
use Rattle.line_store.specs.Shelves.{Shelf}
use Rattle.line_store.specs.Sights.{bare, Sight}
use Rattle.backup_steps.specs.backup_making.declared.making.Stage.TheVariants.{Ended}
use Rattle.backup_steps.specs.backup_making.Making.{Former}
use Rattle.backup_steps.specs.next_lines.partial_backup.declared.copying.Copying.{Copying}
use Rattle.backup_steps.specs.next_lines.partial_backup.Partial.{IsCopying}
use Rattle.backup_steps.specs.next_lines.partial_backup.Left.{FitOnPages, HasCopied}
use Rattle.backup_steps.specs.Steps.{steps_left}
use Rattle.store_shows.specs.Shows.{AllOpen, Leaves}
use Rattle.disk_store.specs.declared.held.Tables.{Tables}
use Rattle.disk_store.specs.Classed.{LieClassed}
use Rattle.disk_store.specs.Memory.{StoreMemory}
use Rattle.disk_store.specs.Seats.{stand_at, steps_at}
use Rattle.disk_store.specs.Shown.{RollsTo, Shown}
use Rattle.store_copies.specs.Memory.{CopiesMemory, copied_by, copier_in, is_done}
use Rattle.store_copies.specs.Stood.{HasBackup, IsInUse, NumbersFromOne, RollsFrom, Stood}

-- ---- seats

-- a reader, whose lines are copied into the backup of this number
abbrev pub copying_at : ℕ → Seat → Seat
copying_at number (reading start) = copying number start
copying_at number seat = seat

-- where a session stands that copies this, or nothing
abbrev pub seated : Option Copying → Seat → Seat
seated None seat = seat
seated (Some c) seat = copying_at c.backup.number seat

abbrev pub steps_with : Option Copying → ℕ → ℕ
steps_with None steps = steps
steps_with (Some c) steps = steps_left c

-- the shelf of a store whose sessions copy these
abbrev pub with_copies : (ℕ → Option Copying) → Shelf → Shelf
with_copies copied h = record h {
  seat = λ s. seated (copied s) (h.seat s);
  steps = λ s. steps_with (copied s) (h.steps s);
}

-- ---- copies

-- Lines that fit a backup of these limits: they lie on pages of their areas' classes, which they have by the tables, and can be counted.
pub record IsFit (tables : Tables) (limits : Limits) (classes : ℕ → ℕ) (lines : Lines) : Type 0 where
  pub ordered : IsInOrder lines
  pub lie : LieClassed tables classes lines
  pub class : (key : Dbkey) (image : List ℕ) → line_in key lines ≡ Some image → IsClass (classes key.area)
  pub image : (key : Dbkey) (image : List ℕ) → line_in key lines ≡ Some image → length image ≤ classes key.area
  pub few : length lines + 2 < 2 ^ 32
  pub limited : AreLimits limits
  pub pages : FitOnPages classes limits.pages lines

-- The backup has the lines of the map so far.
pub record GoesOn (v : View) (tables : Tables) (c : Copying) (lines : Lines) : Type 0 where
  pub former : Former
  pub classes : ℕ → ℕ
  pub is : IsCopying former classes lines v c
  pub fit : IsFit tables c.backup.limits classes lines

-- Of who began a backup last, that backup goes on.
abbrev pub AreGoing : View → Tables → CopiesMemory → Shelf → Type 0
AreGoing v tables copies h = (s : ℕ) (c : Copying) (start : Lines) → copied_by copies s ≡ Some c → copier_in copies c.backup.number ≡ Some s → h.seat s ≡ reading start → GoesOn v tables c start

-- and rolled forward its lines give what is committed
abbrev pub AreBehind : CopiesMemory → Progress → Shelf → Type 0
AreBehind copies now h = (s : ℕ) (c : Copying) (start : Lines) → copied_by copies s ≡ Some c → copier_in copies c.backup.number ≡ Some s → h.seat s ≡ reading start → RollsTo start c.backup.last_group now

-- nobody is at work on the backup of this number
abbrev pub IsQuiet : CopiesMemory → ℕ → Type 0
IsQuiet copies number = (s : ℕ) (c : Copying) → copied_by copies s ≡ Some c → c.backup.number ≡ number → copier_in copies number ≡ Some s → ⊥

-- Reads give the backup whole, whose lines rolled forward give what is committed.
pub record IsRolling (v : View) (number : ℕ) (now : Progress) : Type 0 where
  pub classes : ℕ → ℕ
  pub lines : Lines
  pub copying : Copying
  pub number_is : copying.backup.number ≡ number
  pub has : HasCopied classes lines copying.backup v.content
  pub rolls : RollsTo lines copying.backup.last_group now

-- Nobody is at work on a backup that has come to its end, and it is so.
abbrev pub AreRolling : View → CopiesMemory → Progress → Type 0
AreRolling v copies now = (number : ℕ) → is_done copies number ≡ true → IsQuiet copies number × IsRolling v number now

-- The backup goes on standing, and rolled forward it gives what is committed.
pub record IsStanding (v : View) (number since : ℕ) (b : Stood) (now : Progress) : Type 0 where
  pub has : HasBackup v number since b
  pub rolls : RollsTo b.lines b.last_group now

-- so does each that stood in the former disk, which was in use
abbrev pub AllStand : (former v : View) → Progress → Type 0
AllStand former v now = IsInUse former → (number since : ℕ) (b : Stood) → HasBackup former number since b → IsStanding v number since b now

-- but for those of whose number a backup was begun
abbrev pub AreStanding : (former v : View) → CopiesMemory → Progress → Type 0
AreStanding former v copies now = IsInUse former → (number since : ℕ) (b : Stood) → HasBackup former number since b → copier_in copies number ≡ None → IsStanding v number since b now

-- A shelf is shown, without what is copied, and each backup is as it was left.
pub record ShownWith (former v : View) (held : StoreMemory) (copies : CopiesMemory) (h : Shelf) : Type 0 where
  pub plain : Shelf
  pub shown : Shown v held plain
  pub is : h ≡ with_copies (copied_by copies) plain
  pub goes_on : AreGoing v held.tables copies plain
  pub behind : AreBehind copies shown.ledger.base plain
  pub rolling : AreRolling v copies shown.ledger.base
  pub standing : AreStanding former v copies shown.ledger.base

-- ---- what a crash leaves

-- Each image that a crash since a moment might have left has the backup whole, of these lines, which fit its limits; and rolled forward over the image's journal they give what the image stands for.
pub record IsBackedUp (v : View) (number since : ℕ) (lines : Lines) : Type 0 where
  pub early : since ≤ v.moment
  pub former : Former
  pub classes : ℕ → ℕ
  pub copying : Copying
  pub number_is : copying.backup.number ≡ number
  pub ended : copying.backup.stage ≡ Ended
  pub is : IsCopying former classes lines v copying
  pub left : (image : Image) → v.left_since since image → HasCopied classes lines copying.backup image
  pub rolls : (image : Image) → v.left_since since image → NumbersFromOne image → RollsFrom lines copying.backup.last_group image
  pub ordered : IsInOrder lines
  pub limited : AreLimits copying.backup.limits
  pub pages : FitOnPages classes copying.backup.limits.pages lines

-- and nobody is at work on it
pub record IsBacked (v : View) (copies : CopiesMemory) (number since : ℕ) (lines : Lines) : Type 0 where
  pub whole : IsBackedUp v number since lines
  pub done : is_done copies number ≡ true
  pub quiet : IsQuiet copies number

-- what the store shows, which was opened over the former disk
abbrev pub copied_sight : (former v : View) → StoreMemory → CopiesMemory → Sight
copied_sight former v held copies = record {
  shows = ShownWith former v held copies;
  stand = λ s. seated (copied_by copies s) (stand_at held.members s);
  steps = λ s. steps_with (copied_by copies s) (steps_at held.members s);
  left = Leaves v;
  opens = AllOpen v;
  copier = copier_in copies;
  backed = λ number since lines. IsBacked v copies number since lines;
}

-- ---- what is known of sessions that copy

-- Others stand as they did in the store's database, and have as many steps.
pub record LeavesOthers (s : ℕ) (old new : StoreMemory) : Type 0 where
  pub stand : (t : ℕ) → (t == s) ≡ false → bare (stand_at new.members t) ≡ bare (stand_at old.members t)
  pub steps : (t : ℕ) → (t == s) ≡ false → steps_at new.members t ≡ steps_at old.members t

abbrev pub is_reader : Seat → Bool
is_reader (reading start) = true
is_reader seat = false

-- Who copies is a reader for the store's database.
abbrev pub AreReaders : StoreMemory → CopiesMemory → Type 0
AreReaders held copies = (s : ℕ) (c : Copying) → copied_by copies s ≡ Some c → is_reader (stand_at held.members s) ≡ true
