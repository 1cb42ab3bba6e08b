-- What a store on a disk keeps in memory.
use Rattle.std.specs.Prelude.{ℕ, ◌+◌, List, [], slice_set}
use Rattle.rdb_types.specs.declared.keys.Limits.{Limits}
use Rattle.line_opening.specs.declared.groups.NextGroup.{NextGroup}
use Rattle.reader_lines.specs.version_writing.declared.snapshot_slots.SnapshotSlots.{SnapshotSlots}
use Rattle.disk_store.specs.declared.member.Member.{Member}
use Rattle.disk_store.specs.declared.member.MemberStage.{MemberStage}
use Rattle.disk_store.specs.declared.member.MemberStage.TheVariants as stage
use Rattle.disk_store.specs.declared.held.Numbers.{Numbers}
use Rattle.disk_store.specs.declared.held.Tables.{Tables}

-- Each session's member stands in the place of its number.
pub record StoreMemory : Type 0 where
  pub limits : Limits
  pub numbers : Numbers
  pub next : NextGroup
  pub tables : Tables
  pub slots : SnapshotSlots
  pub members : List Member

-- one session's member is another
abbrev pub with_member : ℕ → Member → StoreMemory → StoreMemory
with_member s m held = record held { members = slice_set held.members s m }

abbrev pub at_stage : MemberStage → Member → Member
at_stage next m = record m { stage = next }

-- its transaction begins with this number, and has written nothing
abbrev pub begun_with : ℕ → Member → Member
begun_with number m = record m { stage = stage.Writing; tsn = record { number = number }; written = record { lines = []; keys = [] }; journalled = 0; pushed = 0 }

abbrev pub drawn : Numbers → Numbers
drawn numbers = record numbers { next = numbers.next + 1 }

-- a session draws the next number
abbrev pub with_number : ℕ → Member → StoreMemory → StoreMemory
with_number s m held = record (with_member s (begun_with held.numbers.next m) held) { numbers = drawn held.numbers }

-- the tables of pages are others
abbrev pub with_tables : Tables → StoreMemory → StoreMemory
with_tables tables held = record held { tables = tables }
