-- The slots of all three snapshot files, beside the versions.
use Rattle.std.specs.Prelude.{ℕ, ◌==◌, if◌then◌else◌}
use Rattle.rdb_outside.specs.Disk.{Image}
use Rattle.line_versions.specs.Versions.{Followed}
use Rattle.stable_lines.specs.Slots.{IsAreaFile}
use Rattle.version_writing.specs.Slots.{SlotTable, HoldsFile}
use Rattle.version_writing.specs.declared.snapshot_slots.SnapshotSlots.{SnapshotSlots}

-- what is kept of a file's slots
abbrev pub table_of : SnapshotSlots → ℕ → SlotTable
table_of slots file = if file == 1 then slots.catalog else (if file == 2 then slots.relations else slots.indexes)

abbrev pub HoldsAll : Image → Followed → ℕ → SnapshotSlots → Type 0
HoldsAll image followed limit slots = (file : ℕ) → IsAreaFile file → HoldsFile image followed file limit (table_of slots file)
