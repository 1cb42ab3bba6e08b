-- What a crash leaves, by the calls and by which of the late writes it keeps.
use Rattle.std.specs.Prelude.{ℕ, ◌+◌, ◌/◌, ◌%◌, ◌^◌, Bool, false, List, [], ◌∷◌, ◌++◌, length, ◌==◌, get_or, if◌then◌else◌}
use Rattle.rdb_outside.specs.declared.event.Effect.{Effect}
use Rattle.rdb_outside.specs.declared.event.Effect.TheVariants.{Passed, Written, Lost, Settled}
use Rattle.rdb_outside.specs.declared.event.Event.{Event}
use Rattle.rdb_outside.specs.Disk.{Image, zeros}
use Rattle.rdb_outside.specs.Memory.{put, written}

pub record Crash : Type 0 where
  -- what reads give
  pub now : Image
  -- what reads gave at the last barrier
  pub stable : Image
  -- the writes since then, failed ones too, the oldest first
  pub late : List Event

abbrev pub crash_call : Effect → Event → Crash → Crash
crash_call Passed e c = c
crash_call Written e c = record { now = put e.file e.slot (written e) c.now; stable = c.stable; late = c.late ++ e ∷ [] }
crash_call Lost e c = record { now = c.now; stable = c.stable; late = c.late ++ e ∷ [] }
crash_call Settled e c = record { now = c.now; stable = c.now; late = [] }

abbrev pub crash_after : Crash → List Event → Crash
crash_after c [] = c
crash_after c (e ∷ es) = crash_after (crash_call e.effect e c) es

abbrev pub crash_of : List Event → Crash
crash_of log = crash_after (record { now = λ f i. zeros f; stable = λ f i. zeros f; late = [] }) log

-- The writes over an image: the first is the j-th, and the j-th is kept where `keep j` is true.
abbrev pub over : (ℕ → Bool) → ℕ → List Event → Image → Image
over keep j [] image = image
over keep j (e ∷ es) image = over keep (j + 1) es (if keep j then put e.file e.slot (written e) image else image)

-- What a crash behind these calls leaves where it keeps the late writes that are picked, the first of them the 0-th.
abbrev pub picked : List Event → (ℕ → Bool) → Image
picked log keep = over keep 0 (crash_of log).late (crash_of log).stable

-- The j-th choice of a list, which begins anew behind its last. An empty list keeps nothing.
abbrev pub turned : List Bool → ℕ → Bool
turned kept j = get_or kept (j % length kept) false

-- The bits of a number of 32 bits, from the lowest, which begin anew behind the last.
abbrev pub bit_of : ℕ → ℕ → Bool
bit_of pick j = (pick / 2 ^ (j % 32)) % 2 == 1

-- how many choices a crash has
abbrev pub late_writes : List Event → ℕ
late_writes log = length (crash_of log).late
