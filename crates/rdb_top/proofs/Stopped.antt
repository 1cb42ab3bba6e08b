-- What status 4 says of scripts.
use Rattle.std.proofs.Common.{◌≡◌, ℕ, ◌⊎◌, arith}

pub whole-is-good : (status : ℕ) → (status ≡ 0) ⊎ (status ≡ 5) ⊎ (status ≡ 6) ⊎ (status ≡ 8) → status ≡ 4 → ⊥
whole-is-good status either is = grind (arith, either, is)
