-- Calls as a disk in memory keeps them.
use Rattle.std.specs.Prelude.{ℕ, Bool, true, false, ◌==◌, ◌&&◌}
use Rattle.rdb_types.specs.declared.file.FileId.{FileId}
use Rattle.rdb_types.specs.File.{is_same}
use Rattle.rdb_outside.specs.declared.event.Effect.{Effect}
use Rattle.rdb_outside.specs.declared.event.Effect.TheVariants.{Passed, Written, Lost, Settled}
use Rattle.rdb_outside.specs.declared.event.Event.{Event}

-- A write that failed may still be left by a crash.
abbrev pub failing : Effect → Effect
failing Passed = Passed
failing Written = Lost
failing Lost = Lost
failing Settled = Passed

abbrev pub failed : Event → Event
failed e = record { effect = failing e.effect; file = e.file; slot = e.slot; bytes = e.bytes }

abbrev pub is_written : Effect → Bool
is_written Written = true
is_written _ = false

-- whether the call wrote that slot
abbrev pub writes : Event → FileId → ℕ → Bool
writes e file slot = is_written e.effect && is_same file e.file && (slot == e.slot)

abbrev pub may_be_left : Effect → Bool
may_be_left Written = true
may_be_left Lost = true
may_be_left _ = false

abbrev pub is_settled : Effect → Bool
is_settled Settled = true
is_settled _ = false

-- the write as one that reads see
abbrev pub kept : Event → Event
kept e = record { effect = Written; file = e.file; slot = e.slot; bytes = e.bytes }
