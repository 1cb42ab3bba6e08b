-- What a disk in memory tells, by the calls that it keeps, the oldest first.
use Rattle.std.specs.Prelude.{ℕ, ◌≡◌, ◌≤◌, ◌⊎◌, true, List, [], ◌∷◌, length, take, ◌==◌, ◌&&◌, if◌then◌else◌}
use Rattle.rdb_types.specs.declared.file.FileId.{FileId}
use Rattle.rdb_outside.specs.declared.event.Effect.{Effect}
use Rattle.rdb_outside.specs.declared.event.Effect.TheVariants.{Passed, Written, Lost, Settled}
use Rattle.rdb_outside.specs.declared.event.Event.{Event}
use Rattle.rdb_types.specs.File.{slot_bytes, is_same}
use Rattle.rdb_outside.specs.Disk.{Image, View, zeros}

-- the slot has these bytes, and the others are as they were
abbrev pub put : FileId → ℕ → List ℕ → Image → Image
put file slot bytes image = λ f i. if is_same f file && (i == slot) then bytes else image f i

pub record State : Type 1 where
  pub content : Image
  -- what each slot may have after a crash
  pub pending : FileId → ℕ → List ℕ → Type 0

abbrev pub written : Event → List ℕ
written e = take (slot_bytes e.file) e.bytes

abbrev pub adds : FileId → ℕ → List ℕ → (FileId → ℕ → List ℕ → Type 0) → FileId → ℕ → List ℕ → Type 0
adds file slot bytes pending f i x = pending f i x ⊎ ((f ≡ file) × (i ≡ slot) × (x ≡ bytes))

abbrev pub after_call : Effect → Event → State → State
after_call Passed e s = s
after_call Written e s = record { content = put e.file e.slot (written e) s.content; pending = adds e.file e.slot (written e) s.pending }
after_call Lost e s = record { content = s.content; pending = adds e.file e.slot (written e) s.pending }
after_call Settled e s = record { content = s.content; pending = λ f i x. x ≡ s.content f i }

abbrev pub after : State → List Event → State
after s [] = s
after s (e ∷ es) = after (after_call e.effect e s) es

-- a disk of zeros
abbrev pub zeroed : State
zeroed = record { content = λ f i. zeros f; pending = λ f i x. x ≡ zeros f }

abbrev pub state_of : List Event → State
state_of log = after zeroed log

abbrev pub content_of : List Event → Image
content_of log = (state_of log).content

abbrev pub IsImage : List Event → Image → Type 0
IsImage log image = (f : FileId) (i : ℕ) → (state_of log).pending f i (image f i)

-- the image might have been left behind the k-th call, for some k from t on
pub record LeftSince (log : List Event) (t : ℕ) (image : Image) : Type 0 where
  pub calls : ℕ
  pub from : t ≤ calls
  pub made : calls ≤ length log
  pub is_image : IsImage (take calls log) image

abbrev pub memory_view : List Event → ℕ → View
memory_view log faults = record { tells = true; content = content_of log; left_since = LeftSince log; moment = length log; faults = faults }
