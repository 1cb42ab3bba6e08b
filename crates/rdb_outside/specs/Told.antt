-- What a disk in memory tells.
use Rattle.std.specs.Prelude.{ℕ, ◌≡◌, ◌≤◌, ◌<◌, ◌^◌, Bool, List, take, length}
use Rattle.rdb_types.specs.declared.file.FileId.{FileId}
use Rattle.rdb_outside.specs.declared.event.Event.{Event}
use Rattle.rdb_outside.specs.declared.memory_disk.MemoryDisk.{MemoryDisk}
use Rattle.rdb_outside.specs.Disk.{Image, View}
use Rattle.rdb_outside.specs.Memory.{memory_view}
use Rattle.rdb_outside.specs.Picks.{picked, turned, bit_of, late_writes}
use Rattle.rdb_outside.specs.Plan.{Plan}

abbrev pub told_by : MemoryDisk → View
told_by d = memory_view d.log.items d.faults

-- what it was made for
abbrev pub plan_of : MemoryDisk → Plan
plan_of d = record { slots = d.slots; calls = d.calls; fails = d.fails.items; done = d.done.items }

-- its calls up to a moment
abbrev pub calls_of : MemoryDisk → ℕ → List Event
calls_of d t = take t d.log.items

-- what a crash at a moment leaves where it keeps the late writes that are picked
abbrev pub picked_at : MemoryDisk → ℕ → (ℕ → Bool) → Image
picked_at d t keep = picked (calls_of d t) keep

-- The image is one of the picks behind some call since t, with one choice for each late write.
pub record IsPick (d : MemoryDisk) (t : ℕ) (image : Image) : Type 0 where
  pub moment : ℕ
  pub from : t ≤ moment
  pub made : moment ≤ (told_by d).moment
  pub kept : List Bool
  pub one_each : length kept ≡ late_writes (calls_of d moment)
  pub same : (file : FileId) (slot : ℕ) → picked_at d moment (turned kept) file slot ≡ image file slot

-- the bits of one number of 32 bits are choices that give the same image
pub record HasNumber (d : MemoryDisk) (t : ℕ) (keep : ℕ → Bool) : Type 0 where
  pub pick : ℕ
  pub small : pick < 2 ^ 32
  pub same : (file : FileId) (slot : ℕ) → picked_at d t (bit_of pick) file slot ≡ picked_at d t keep file slot
