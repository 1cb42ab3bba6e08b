-- The bits of a number, as they are written one by one.
use Rattle.std.specs.Prelude.{ℕ, zero, suc, ◌+◌, ◌*◌, ◌/◌, ◌%◌, ◌^◌, ◌≡◌, ◌<◌, Bool, true, false, if◌then◌else◌, List, length, get_or, slice_set, nat_eq, ◌==◌}
use Rattle.std.proofs.Common.{sym, ◌∙◌, ap, subst, arith, ⊎_elim, shr-shr}
use Rattle.std.proofs.Math.Nat.{mod-eq_of_lt, mod-lt, div-one}
use Rattle.std.proofs.lemmas.Bool.{cases_eq}
use Rattle.std.proofs.lemmas.List.{get_or-set_same, get_or-set_other}
use Rattle.rdb_outside.specs.Picks.{bit_of, turned}

pub bits_step : (pick : ℕ) (bits : List Bool) (j : ℕ) → j < 32 → j < length bits → ((k : ℕ) → k < j → get_or bits k false ≡ bit_of pick k)
    → (k : ℕ) → k < j + 1 → get_or (slice_set bits j (nat_eq (pick / 2 ^ j % 2) 1)) k false ≡ bit_of pick k
bits_step pick bits j small less was k le = ⊎_elim here there (cases_eq k j)
  where
    here : k ≡ j → get_or (slice_set bits j (nat_eq (pick / 2 ^ j % 2) 1)) k false ≡ bit_of pick k
    here e = ap (λ n. get_or (slice_set bits j (nat_eq (pick / 2 ^ j % 2) 1)) n false) e ∙ get_or-set_same bits j _ false less
        ∙ ap (λ n. (pick / 2 ^ n) % 2 == 1) (sym (ap (λ n. n % 32) e ∙ mod-eq_of_lt {n = j} {m = 32} small))

    there : (k ≡ j → ⊥) → get_or (slice_set bits j (nat_eq (pick / 2 ^ j % 2) 1)) k false ≡ bit_of pick k
    there other = get_or-set_other bits j k _ false other ∙ was k (omega (arith, le, other))

pub bits_turned : (pick : ℕ) (bits : List Bool) → length bits ≡ 32 → ((j : ℕ) → j < 32 → get_or bits j false ≡ bit_of pick j) → (k : ℕ) → turned bits k ≡ bit_of pick k
bits_turned pick bits all each k =
    let small : k % 32 < 32 = mod-lt k {m = 32} (omega arith) in
    ap (λ n. get_or bits (k % n) false) all ∙ each (k % 32) small ∙ ap (λ n. (pick / 2 ^ n) % 2 == 1) (mod-eq_of_lt {n = k % 32} {m = 32} small)

-- the number whose lowest bits are these choices from the j-th on
abbrev pub number_of : (ℕ → Bool) → ℕ → ℕ → ℕ
number_of keep j zero = 0
number_of keep j (suc n) = (if keep j then 1 else 0) + 2 * number_of keep (j + 1) n

twice_below : (b : Bool) (m p : ℕ) → m < p → (if b then 1 else 0) + 2 * m < 2 * p
twice_below true m p less = omega (arith, less)
twice_below false m p less = omega (arith, less)

number_below : (keep : ℕ → Bool) (j n : ℕ) → number_of keep j n < 2 ^ n
number_below keep j zero = omega arith
number_below keep j (suc n) =
    let less = twice_below (keep j) (number_of keep (j + 1) n) (2 ^ n) (number_below keep (j + 1) n) in
    let power : 2 * 2 ^ n ≡ 2 ^ suc n = omega arith in
    subst (λ p. number_of keep j (suc n) < p) power less

pub number_small : (keep : ℕ → Bool) → number_of keep 0 32 < 2 ^ 32
number_small keep = number_below keep 0 32

lowest : (b : Bool) (m : ℕ) → (((if b then 1 else 0) + 2 * m) % 2 == 1) ≡ b
lowest true m = let odd : (1 + 2 * m) % 2 ≡ 1 = omega arith in ap (λ x. x == 1) odd
lowest false m = let even : (0 + 2 * m) % 2 ≡ 0 = omega arith in ap (λ x. x == 1) even

half : (b : Bool) (m : ℕ) → ((if b then 1 else 0) + 2 * m) / 2 ≡ m
half true m = omega arith
half false m = omega arith

bit_is : (keep : ℕ → Bool) (j n k : ℕ) → k < n → ((number_of keep j n / 2 ^ k) % 2 == 1) ≡ keep (j + k)
bit_is keep j zero k less = let bad : ⊥ = omega (arith, less) in absurd bad
bit_is keep j (suc n) zero less =
    ap (λ x. x % 2 == 1) (div-one (number_of keep j (suc n))) ∙ lowest (keep j) (number_of keep (j + 1) n) ∙ (let same : j ≡ j + 0 = omega arith in ap keep same)
bit_is keep j (suc n) (suc k) less =
    let more : suc k ≡ 1 + k = omega arith in
    ap (λ e. (number_of keep j (suc n) / 2 ^ e) % 2 == 1) more
    ∙ ap (λ x. x % 2 == 1) (sym (shr-shr (number_of keep j (suc n)) 1 k))
    ∙ ap (λ x. (x / 2 ^ k) % 2 == 1) (half (keep j) (number_of keep (j + 1) n))
    ∙ bit_is keep (j + 1) n k (omega (arith, less))
    ∙ (let same : j + 1 + k ≡ j + suc k = omega arith in ap keep same)

pub number_picks : (keep : ℕ → Bool) (k : ℕ) → k < 32 → bit_of (number_of keep 0 32) k ≡ keep k
number_picks keep k less = ap (λ n. (number_of keep 0 32 / 2 ^ n) % 2 == 1) (mod-eq_of_lt {n = k} {m = 32} less) ∙ bit_is keep 0 32 k less ∙ (let same : 0 + k ≡ k = omega arith in ap keep same)
