-- What stopped the laying, of what stopped a call or a reading.
use Rattle.std.proofs.Common.{◌≡◌, ℕ, Result, Err, refl}
use Rattle.rdb_types.specs.declared.file.FileId.{FileId}
use Rattle.journal_reading.specs.declared.reading.AijFault.{AijFault}
use Rattle.journal_reading.specs.declared.reading.AijFault.TheVariants as reading
use Rattle.line_store.specs.declared.answers.Fault.{Fault}
use Rattle.line_store.specs.declared.answers.Fault.TheVariants as call
use Rattle.line_opening.specs.declared.fault.OpeningFault.TheVariants.{Bad}
use Rattle.line_opening.specs.Faults.{of_call, of_journal}

pub err_same : {A E : Type 0} (a b : E) → ◌≡◌ {A = Result A E} (Err a) (Err b) → a ≡ b
err_same a b same = cc

pub only_header : (fault : AijFault) (file : FileId) (slot : ℕ) → of_journal fault ≡ Bad file slot → fault ≡ reading.BadHeader
only_header reading.Failed file slot is = let bad : ⊥ = cc in absurd bad
only_header reading.NoMemory file slot is = let bad : ⊥ = cc in absurd bad
only_header reading.BadHeader file slot is = refl

pub only_bad : (fault : Fault) (file : FileId) (slot : ℕ) → of_call fault ≡ Bad file slot → fault ≡ call.Bad file slot
only_bad call.Failed file slot is = let bad : ⊥ = cc in absurd bad
only_bad (call.Bad other at) file slot is =
    let files : other ≡ file = cc in
    let slots : at ≡ slot = cc in
    λ i. call.Bad (files i) (slots i)
