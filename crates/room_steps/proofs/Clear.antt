-- The sessions are gone through one after another.
use Rattle.std.proofs.Common.{◌≡◌, ◌≤◌, ◌<◌, ◌+◌, ◌==◌, ◌⊎◌, inl, inr, ℕ, Bool, true, false, refl, sym, ◌∙◌, ap, arith}
use Rattle.std.proofs.lemmas.Bool.{false≢true, eqb-true}
use Rattle.line_store.specs.Seats.{IsMember}

-- so it is of each below k but s
abbrev pub IsBelow : (ℕ → Bool) → ℕ → ℕ → Type 0
IsBelow C s k = (t : ℕ) → 1 ≤ t → t < k → (t == s) ≡ false → C t ≡ true

pub none-below : (C : ℕ → Bool) (s : ℕ) → IsBelow C s 1
none-below C s t first below apart = absurd (none t first below)
  where
    none : (t : ℕ) → 1 ≤ t → t < 1 → ⊥
    none t first below = omega arith

within-next : (t k : ℕ) → t < k + 1 → (t == k) ≡ false → t < k
within-next t k below apart = grind arith

pub one-more : (C : ℕ → Bool) (s k : ℕ) → IsBelow C s k → (((k == s) ≡ true) ⊎ (C k ≡ true)) → IsBelow C s (k + 1)
one-more C s k all is t first below apart = by (t == k) refl
  where
    at : (((k == s) ≡ true) ⊎ (C k ≡ true)) → t ≡ k → C t ≡ true
    at (inl own) e = absurd (false≢true (sym apart ∙ (ap (λ u. u == s) e ∙ own)))
    at (inr clear) e = ap C e ∙ clear

    by : (b : Bool) → (t == k) ≡ b → C t ≡ true
    by true equal = at is (eqb-true t k equal)
    by false other = all t first (within-next t k below other) apart

pub all-members : (C : ℕ → Bool) (s k : ℕ) → 17 ≤ k → IsBelow C s k → (t : ℕ) → IsMember t → (t == s) ≡ false → C t ≡ true
all-members C s k end all t member apart = all t member.first (below t k member.last end) apart
  where
    below : (t k : ℕ) → t ≤ 16 → 17 ≤ k → t < k
    below t k h e = omega arith
