-- What stopped a roll-forward, of what stopped a call or the laying of groups.
use Rattle.std.proofs.Common.{◌≡◌, ℕ, refl}
use Rattle.rdb_types.specs.declared.file.FileId.{FileId}
use Rattle.rdb_types.specs.declared.keys.Dbkey.{Dbkey}
use Rattle.line_store.specs.declared.answers.Fault.{Fault}
use Rattle.line_store.specs.declared.answers.Fault.TheVariants as call
use Rattle.line_opening.specs.declared.fault.OpeningFault.{OpeningFault}
use Rattle.line_opening.specs.declared.fault.OpeningFault.TheVariants as laying
use Rattle.rmu_recover.specs.declared.fault.RecoverFault.TheVariants.{Failed, Gap, Unfit, Bad}
use Rattle.rmu_recover.specs.Faults.{of_call, of_laying}

pub call_bad : (fault : Fault) (file : FileId) (slot : ℕ) → of_call fault ≡ Bad file slot → fault ≡ call.Bad file slot
call_bad call.Failed file slot is = let bad : ⊥ = cc in absurd bad
call_bad (call.Bad other at) file slot is =
    let files : other ≡ file = cc in
    let slots : at ≡ slot = cc in
    λ i. call.Bad (files i) (slots i)

pub call_no_gap : (fault : Fault) (number : ℕ) → of_call fault ≡ Gap number → ⊥
call_no_gap call.Failed number is = let bad : ⊥ = cc in bad
call_no_gap (call.Bad file slot) number is = let bad : ⊥ = cc in bad

-- a call that met no bad slot failed
pub call_failed : (fault : Fault) → ((file : FileId) (slot : ℕ) → fault ≡ call.Bad file slot → ⊥) → of_call fault ≡ Failed
call_failed call.Failed good = refl
call_failed (call.Bad file slot) good = absurd (good file slot refl)

pub laying_bad : (fault : OpeningFault) (file : FileId) (slot : ℕ) → of_laying fault ≡ Bad file slot → fault ≡ laying.Bad file slot
laying_bad laying.Failed file slot is = let bad : ⊥ = cc in absurd bad
laying_bad laying.NoMemory file slot is = let bad : ⊥ = cc in absurd bad
laying_bad (laying.Bad other at) file slot is =
    let files : other ≡ file = cc in
    let slots : at ≡ slot = cc in
    λ i. laying.Bad (files i) (slots i)

pub laying_no_gap : (fault : OpeningFault) (number : ℕ) → of_laying fault ≡ Gap number → ⊥
laying_no_gap laying.Failed number is = let bad : ⊥ = cc in bad
laying_no_gap laying.NoMemory number is = let bad : ⊥ = cc in bad
laying_no_gap (laying.Bad file slot) number is = let bad : ⊥ = cc in bad

pub call_no_unfit : (fault : Fault) (key : Dbkey) → of_call fault ≡ Unfit key → ⊥
call_no_unfit call.Failed key is = let bad : ⊥ = cc in bad
call_no_unfit (call.Bad file slot) key is = let bad : ⊥ = cc in bad

pub laying_no_unfit : (fault : OpeningFault) (key : Dbkey) → of_laying fault ≡ Unfit key → ⊥
laying_no_unfit laying.Failed key is = let bad : ⊥ = cc in bad
laying_no_unfit laying.NoMemory key is = let bad : ⊥ = cc in bad
laying_no_unfit (laying.Bad file slot) key is = let bad : ⊥ = cc in bad
