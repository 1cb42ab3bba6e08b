-- A command that gave up with 4 met a slot that isn't what it has to be.
use Rattle.std.proofs.Common.{◌≡◌, ℕ, refl, sym, ◌∙◌, arith}
use Rattle.rdb_types.specs.declared.file.FileId.{FileId}
use Rattle.line_opening.specs.declared.fault.OpeningFault.{OpeningFault}
use Rattle.line_opening.specs.declared.fault.OpeningFault.TheVariants.{Failed, NoMemory, Bad}
use Rattle.rmu_keeping.specs.Keeping.{status_at}

pub met_slot : (fault : OpeningFault) (status : ℕ) → status ≡ status_at fault → status ≡ 4 → (file : FileId) × (slot : ℕ) × (fault ≡ Bad file slot)
met_slot Failed status is four = absurd (let no : 3 ≡ 4 = sym is ∙ four in omega (arith, no))
met_slot NoMemory status is four = absurd (let no : 5 ≡ 4 = sym is ∙ four in omega (arith, no))
met_slot (Bad file slot) status is four = (file, slot, refl)
