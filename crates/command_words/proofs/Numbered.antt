-- A test of each item and of its number.
use Rattle.std.proofs.Common.{◌≡◌, ◌≤◌, ◌+◌, ◌&&◌, ℕ, suc, Bool, true, false, nat_le, nat_lt, List, [], ◌∷◌, length, arith, zero-add, refl}
use Rattle.std.proofs.lemmas.Bool.Decides.{nat_tests}
use Rattle.std.proofs.lemmas.Grind.{common_steps}
use Rattle.std.specs.List.{list_all, enumerate_from}

in_front : (a b c : Bool) → (a && (b && c)) ≡ (b && (a && c))
in_front true b c = refl
in_front false true c = refl
in_front false false c = refl

below_limit : (k limit : ℕ) → nat_lt k limit ≡ true → k + 1 ≤ limit
below_limit k limit h = grind (arith, nat_tests)

past_limit : (k n limit : ℕ) → nat_lt k limit ≡ false → nat_le (k + suc n) limit ≡ false
past_limit k n limit h = grind (arith, nat_tests)

-- where numbers from k on stay below a limit, the items are as many
numbered_from : {X : Type 0} (q : X → Bool) (limit k : ℕ) (xs : List X) → k ≤ limit →
    list_all (λ p. nat_lt p.0 limit && q p.1) (enumerate_from k xs) ≡ (nat_le (k + length xs) limit && list_all q xs)
numbered_from q limit k [] h = grind (arith, common_steps, nat_tests)
numbered_from q limit k (x ∷ xs) h =
    elim (nat_lt k limit) as (λ b. nat_lt k limit ≡ b → list_all (λ p. nat_lt p.0 limit && q p.1) (enumerate_from k (x ∷ xs)) ≡ (nat_le (k + length (x ∷ xs)) limit && list_all q (x ∷ xs))) [
      | true ↦ λ e.
          let same : k + 1 + length xs ≡ k + suc (length xs) = omega arith in
          rw (e, numbered_from q limit (k + 1) xs (below_limit k limit e), same) (in_front (q x) (nat_le (k + suc (length xs)) limit) (list_all q xs))
      | false ↦ λ e. rw (e, past_limit k (length xs) limit e)
    ] refl

pub all_numbered : {X : Type 0} (q : X → Bool) (limit : ℕ) (xs : List X) →
    list_all (λ p. nat_lt p.0 limit && q p.1) (enumerate_from 0 xs) ≡ (nat_le (length xs) limit && list_all q xs)
all_numbered q limit xs = let from = numbered_from q limit 0 xs (omega arith) in rw zero-add at from
