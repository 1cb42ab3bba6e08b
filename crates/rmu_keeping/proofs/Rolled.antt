-- A roll-forward that gave up, by its status, and one that was carried out.
use Rattle.std.proofs.Common.{◌≡◌, ◌⊎◌, inl, inr, ℕ, true, List, Result, Ok, Err, is_err, refl, sym, ◌∙◌, ap, arith}
use Rattle.std.proofs.lemmas.Bool.{false≢true}
use Rattle.rdb_types.specs.declared.file.FileId.{FileId}
use Rattle.rdb_types.specs.declared.keys.Dbkey.{Dbkey}
use Rattle.journal_scan.specs.declared.group.Group.{Group}
use Rattle.rolled_lines.specs.Journals.{Found, laid, gap}
use Rattle.rmu_recover.specs.declared.fault.RecoverFault.{RecoverFault}
use Rattle.rmu_recover.specs.declared.fault.RecoverFault.TheVariants.{Failed, NoMemory, Gap, Unfit, Bad}
use Rattle.rmu_keeping.specs.Rolling.{rolling_status, HasRolled}

-- a status of one that gave up
abbrev pub GaveUp : ℕ → Type 0
GaveUp status = (status ≡ 3) ⊎ (status ≡ 4) ⊎ (status ≡ 5)

pub gave_up : (fault : RecoverFault) (status : ℕ) → status ≡ rolling_status fault → GaveUp status
gave_up Failed status is = inl is
gave_up NoMemory status is = inr (inr is)
gave_up (Gap number) status is = inr (inl is)
gave_up (Unfit key) status is = inr (inl is)
gave_up (Bad file slot) status is = inr (inl is)

pub not_rolled : (status : ℕ) → GaveUp status → HasRolled status → ⊥
not_rolled status gave has = omega (arith, gave, has)

-- one that was carried out ends so
abbrev pub Wrote : ℕ → Type 0
Wrote status = (status ≡ 0) ⊎ (status ≡ 6)

pub not_three : (status : ℕ) → Wrote status → status ≡ 3 → ⊥
not_three status wrote is = omega (arith, wrote, is)

pub not_four : (status : ℕ) → Wrote status → status ≡ 4 → ⊥
not_four status wrote is = omega (arith, wrote, is)

pub not_gave_up : (status : ℕ) → Wrote status → GaveUp status → ⊥
not_gave_up status wrote gave = omega (arith, wrote, gave)

-- ---- one answer

pub one_count : (a b : ℕ) (r : Result ℕ RecoverFault) → r ≡ Ok a → r ≡ Ok b → a ≡ b
one_count a b r h k = let same = sym h ∙ k in cc

pub one_fault : (a b : RecoverFault) (r : Result ℕ RecoverFault) → r ≡ Err a → r ≡ Err b → a ≡ b
one_fault a b r h k = let same = sym h ∙ k in cc

pub no_fault : (a : ℕ) (b : RecoverFault) (r : Result ℕ RecoverFault) → r ≡ Ok a → r ≡ Err b → ⊥
no_fault a b r h k = false≢true (ap is_err (sym h ∙ k))

pub none_given_up : (a : ℕ) (r : Result ℕ RecoverFault) → r ≡ Ok a → is_err r ≡ true → ⊥
none_given_up a r h k = false≢true (sym (ap is_err h) ∙ k)

-- what follows on has no gap
pub not_both : (groups : List Group) (number : ℕ) (found : Found) → found ≡ laid groups → found ≡ gap number → ⊥
not_both groups number found h k = let same = sym h ∙ k in (let bad : ⊥ = cc in bad)

-- ---- its causes

pub failed : (fault : RecoverFault) (status : ℕ) → status ≡ rolling_status fault → status ≡ 3 → fault ≡ Failed
failed Failed status is three = refl
failed NoMemory status is three = absurd (let no : 5 ≡ 3 = sym is ∙ three in omega (arith, no))
failed (Gap number) status is three = absurd (let no : 4 ≡ 3 = sym is ∙ three in omega (arith, no))
failed (Unfit key) status is three = absurd (let no : 4 ≡ 3 = sym is ∙ three in omega (arith, no))
failed (Bad file slot) status is three = absurd (let no : 4 ≡ 3 = sym is ∙ three in omega (arith, no))

-- a group that is missing, a line that doesn't fit, or a slot that isn't what it has to be
abbrev pub Refused : RecoverFault → Type 0
Refused fault = ((number : ℕ) × (fault ≡ Gap number)) ⊎ ((key : Dbkey) × (fault ≡ Unfit key)) ⊎ ((file : FileId) × (slot : ℕ) × (fault ≡ Bad file slot))

pub refused : (fault : RecoverFault) (status : ℕ) → status ≡ rolling_status fault → status ≡ 4 → Refused fault
refused Failed status is four = absurd (let no : 3 ≡ 4 = sym is ∙ four in omega (arith, no))
refused NoMemory status is four = absurd (let no : 5 ≡ 4 = sym is ∙ four in omega (arith, no))
refused (Gap number) status is four = inl (number, refl)
refused (Unfit key) status is four = inr (inl (key, refl))
refused (Bad file slot) status is four = inr (inr (file, slot, refl))
