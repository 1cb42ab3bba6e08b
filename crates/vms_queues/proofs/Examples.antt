-- The rules at worked cases.
use Rattle.std.proofs.Common.{◌≡◌, [], ◌∷◌, refl}
use Rattle.vms_queues.specs.declared.lock_mode.Mode.TheVariants.{CR, CW, PR, EX}
use Rattle.vms_queues.specs.declared.answer.Answer.TheVariants.{Queued}
use Rattle.vms_queues.specs.Queues.{Queues, entry, after_convert, after_release, after_cancel}
use Rattle.vms_queues.specs.Answers.{ask_answer}

-- a reader, a writer that waits for it, and a reader that waits behind the writer
abbrev reading : Queues
reading = record { granted = entry 1 PR ∷ []; converting = []; waiting = entry 2 EX ∷ (entry 3 PR ∷ []) }

-- a reader doesn't overtake a writer that waits
no_overtaking : ask_answer reading 4 CR ≡ Queued (2 ∷ [])
no_overtaking = refl

-- the writer is granted where the reader is gone, and the other reader waits on
writer_next : after_release reading 1 ≡ record { granted = entry 2 EX ∷ []; converting = []; waiting = entry 3 PR ∷ [] }
writer_next = refl

-- where the writer gives up, the other reader is granted
reader_next : after_cancel reading 2 ≡ record { granted = entry 1 PR ∷ (entry 3 PR ∷ []); converting = []; waiting = [] }
reader_next = refl

-- 2 and then 1 ask to convert to PR, beside 3 with CW
abbrev converting : Queues
converting = record { granted = entry 1 CW ∷ (entry 2 CR ∷ (entry 3 CW ∷ [])); converting = entry 2 PR ∷ (entry 1 PR ∷ []); waiting = [] }

-- 2 is in the way of 1's old mode until 1 is converted, and is granted by the second pass
second_pass : after_release converting 3 ≡ record { granted = entry 1 PR ∷ (entry 2 PR ∷ []); converting = []; waiting = [] }
second_pass = refl

-- a conversion from CW to PR lets a waiting reader in
reader_in : after_convert (record { granted = entry 1 CW ∷ []; converting = []; waiting = entry 2 PR ∷ [] }) 1 PR ≡ record { granted = entry 1 PR ∷ (entry 2 PR ∷ []); converting = []; waiting = [] }
reader_in = refl
