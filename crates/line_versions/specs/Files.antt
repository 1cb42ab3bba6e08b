-- The entries that the snapshot files of a database hold.
use Rattle.std.specs.Prelude.{ℕ, ◌-◌, ◌≤◌, ◌≡◌, true}
use Rattle.rdb_outside.specs.rdb_types.declared.file.FileId.{FileId}
use Rattle.rdb_outside.specs.rdb_types.declared.file.FileKind.TheVariants.{Snap}
use Rattle.rdb_outside.specs.Disk.{Image}
use Rattle.snapshot_file.specs.declared.entry.SnapEntry.{SnapEntry}
use Rattle.snapshot_file.specs.Entry.{IsEntry}
use Rattle.line_versions.specs.Versions.{Entries, Followed}

abbrev pub snap_file : ℕ → FileId
snap_file number = record { kind = Snap; number = number }

-- the slot of that chain is this entry
pub record StandsIn (image : Image) (file chain : ℕ) (entry : SnapEntry) : Type 0 where
  pub number : 1 ≤ chain
  pub is : IsEntry (image (snap_file file) (chain - 1)) entry

abbrev pub entries_in : Image → Entries
entries_in image = StandsIn image

-- no chain is followed past the limit of slots
abbrev pub IsWithin : ℕ → Followed → Type 0
IsWithin limit followed = (file chain : ℕ) → followed file chain ≡ true → chain ≤ limit
