-- The statuses of a command that gave up, and of a verification.
use Rattle.std.proofs.Common.{◌≡◌, ◌⊎◌, inl, inr, ℕ, List, [], ◌∷◌, refl, sym, ◌∙◌, arith}
use Rattle.line_opening.specs.declared.fault.OpeningFault.{OpeningFault}
use Rattle.line_opening.specs.declared.fault.OpeningFault.TheVariants.{Failed, NoMemory, Bad}
use Rattle.rmu_texts.specs.declared.faults.VerifyFault.{VerifyFault}
use Rattle.rmu_commands.specs.Usable.{status_at}
use Rattle.rmu_commands.specs.Written.{HasText, status_for}

abbrev pub GaveUp : ℕ → Type 0
GaveUp status = (status ≡ 3) ⊎ (status ≡ 4) ⊎ (status ≡ 5)

pub gave_up : (fault : OpeningFault) (status : ℕ) → status ≡ status_at fault → GaveUp status
gave_up Failed status is = inl is
gave_up NoMemory status is = inr (inr is)
gave_up (Bad file slot) status is = inr (inl is)

two : (status a b : ℕ) → status ≡ a → status ≡ b → a ≡ b
two status a b x y = sym x ∙ y

pub no_text : (status : ℕ) → GaveUp status → HasText status → ⊥
no_text status (inl a) (inl b) = let no_such = two status 3 0 a b in omega (arith, no_such)
no_text status (inl a) (inr (inl b)) = let no_such = two status 3 6 a b in omega (arith, no_such)
no_text status (inl a) (inr (inr b)) = let no_such = two status 3 7 a b in omega (arith, no_such)
no_text status (inr (inl a)) (inl b) = let no_such = two status 4 0 a b in omega (arith, no_such)
no_text status (inr (inl a)) (inr (inl b)) = let no_such = two status 4 6 a b in omega (arith, no_such)
no_text status (inr (inl a)) (inr (inr b)) = let no_such = two status 4 7 a b in omega (arith, no_such)
no_text status (inr (inr a)) (inl b) = let no_such = two status 5 0 a b in omega (arith, no_such)
no_text status (inr (inr a)) (inr (inl b)) = let no_such = two status 5 6 a b in omega (arith, no_such)
no_text status (inr (inr a)) (inr (inr b)) = let no_such = two status 5 7 a b in omega (arith, no_such)

nothing_for : (faults : List VerifyFault) → status_for faults ≡ 0 → faults ≡ []
nothing_for [] is = refl
nothing_for (fault ∷ faults) is = absurd (let no_such : 7 ≡ 0 = is in omega (arith, no_such))

pub no_fault : (status : ℕ) (faults : List VerifyFault) → (status ≡ 5) ⊎ (status ≡ 6) ⊎ (status ≡ status_for faults) → status ≡ 0 → faults ≡ []
no_fault status faults (inl five) is = absurd (let no_such = two status 5 0 five is in omega (arith, no_such))
no_fault status faults (inr (inl six)) is = absurd (let no_such = two status 6 0 six is in omega (arith, no_such))
no_fault status faults (inr (inr said)) is = nothing_for faults (sym said ∙ is)
