-- A list with no element twice, each among the elements of another list, is at most as long as that.
use Rattle.std.proofs.Common.{◌≡◌, ℕ, zero, suc, ◌+◌, ◌<◌, ◌≤◌, ◌∷◌, [], inl, inr, Bool, true, false, List, length, refl, ◌∙◌, sym, subst, arith}
use Rattle.std.specs.Prelude.{◌||◌, ◌&&◌, nat_eq, nat_le, if◌then◌else◌}
use Rattle.std.specs.List.{IsDistinct, AllByRecursion, list_all, list_any}
use Rattle.std.specs.Cmp.{IsEquivalence}
use Rattle.std.proofs.lemmas.Bool.{false≢true, and_parts, and_from, or_left, or_right, cases_eq, eq-eqb, leb-true}
use Rattle.std.proofs.lemmas.Cmp.{nat_eq_equiv}

-- the list without the first element that passes
abbrev pub without_first : {K : Type 0} → (K → Bool) → List K → List K
without_first p [] = []
without_first p (x ∷ xs) = if p x then xs else x ∷ without_first p xs

length-without_first : {K : Type 0} (p : K → Bool) (xs : List K) → list_any p xs ≡ true → length (without_first p xs) + 1 ≡ length xs
length-without_first p [] some = absurd (false≢true some)
length-without_first p (x ∷ xs) some =
    elim (p x) as (λ t. (t || list_any p xs) ≡ true → length (if t then xs else x ∷ without_first p xs) + 1 ≡ length (x ∷ xs)) [
      | true ↦ λ first. omega arith
      | false ↦ λ later. let rest = length-without_first p xs later in omega (arith, rest)
    ] some

right_of : (x z v : Bool) → (z ≡ true → v ≡ true) → (x || z) ≡ true → (x || v) ≡ true
right_of true z v f h = refl
right_of false z v f h = f h

-- what is another than each that passes stays
list_any-without_first : {K : Type 0} (p q : K → Bool) → ((x : K) → p x ≡ true → q x ≡ false) → (xs : List K) → list_any q xs ≡ true → list_any q (without_first p xs) ≡ true
list_any-without_first p q apart [] some = some
list_any-without_first p q apart (x ∷ xs) some =
    elim (p x) as (λ t. p x ≡ t → list_any q (if t then xs else x ∷ without_first p xs) ≡ true) [
      | true ↦ λ passes. subst (λ (t : Bool). (t || list_any q xs) ≡ true) (apart x passes) some
      | false ↦ λ stays. right_of (q x) (list_any q xs) (list_any q (without_first p xs)) (list_any-without_first p q apart xs) some
    ] refl

-- each element of the first list equals one of the second
abbrev pub are_among : {K : Type 0} → (K → K → Bool) → List K → List K → Bool
are_among eq xs ys = list_all (λ x. list_any (eq x) ys) xs

still_among : {K : Type 0} (eq : K → K → Bool) → IsEquivalence eq → (x : K) (zs ys : List K) → AllByRecursion (λ z. eq x z ≡ false) zs → are_among eq zs ys ≡ true → are_among eq zs (without_first (eq x) ys) ≡ true
still_among eq laws x [] ys other among = refl
still_among {K} eq laws x (z ∷ zs) ys other among =
    let p = and_parts (list_any (eq z) ys) (are_among eq zs ys) among in
    let apart : (y : K) → eq x y ≡ true → eq z y ≡ false = λ y e. laws.symm z y ∙ (sym (laws.congr x y z e) ∙ other.0) in
    and_from _ _ (list_any-without_first (eq x) (eq z) apart ys p.0) (still_among eq laws x zs ys other.1 p.1)

pub length-distinct : {K : Type 0} (eq : K → K → Bool) → IsEquivalence eq → (xs ys : List K) → IsDistinct eq xs → are_among eq xs ys ≡ true → length xs ≤ length ys
unfolding IsDistinct
length-distinct eq laws [] ys distinct among = omega arith
length-distinct eq laws (x ∷ xs) ys distinct among =
    let p = and_parts (list_any (eq x) ys) (are_among eq xs ys) among in
    let rest = length-distinct eq laws xs (without_first (eq x) ys) distinct.1 (still_among eq laws x xs ys distinct.0 p.1) in
    let one_less = length-without_first (eq x) ys p.0 in
    omega (arith, rest, one_less)

-- numbers

-- the numbers from n to 1
abbrev pub down_from : ℕ → List ℕ
down_from zero = []
down_from (suc n) = suc n ∷ down_from n

length-down_from : (n : ℕ) → length (down_from n) ≡ n
length-down_from zero = refl
length-down_from (suc n) = let rest = length-down_from n in omega (arith, rest)

among-down_from : (n k : ℕ) → 0 < k → k ≤ n → list_any (nat_eq k) (down_from n) ≡ true
among-down_from zero k positive within = absurd (omega (arith, positive, within))
among-down_from (suc n) k positive within =
    elim (cases_eq k (suc n)) [
      | inl same ↦ or_left (nat_eq k (suc n)) (list_any (nat_eq k) (down_from n)) (eq-eqb k (suc n) same)
      | inr other ↦ or_right (nat_eq k (suc n)) (list_any (nat_eq k) (down_from n)) (among-down_from n k positive (omega (arith, within, other)))
    ]

-- each number is from 1 to n
abbrev pub are_up_to : ℕ → List ℕ → Bool
are_up_to n ks = list_all (λ k. nat_le 1 k && nat_le k n) ks

are_among-up_to : (n : ℕ) (ks : List ℕ) → are_up_to n ks ≡ true → are_among nat_eq ks (down_from n) ≡ true
are_among-up_to n [] within = refl
are_among-up_to n (k ∷ ks) within =
    let p = and_parts (nat_le 1 k && nat_le k n) (are_up_to n ks) within in
    let bounds = and_parts (nat_le 1 k) (nat_le k n) p.0 in
    let positive = leb-true 1 k bounds.0 in
    and_from _ _ (among-down_from n k (omega (arith, positive)) (leb-true k n bounds.1)) (are_among-up_to n ks p.1)

-- there are at most n distinct numbers from 1 to n
pub length-up_to : (n : ℕ) (ks : List ℕ) → IsDistinct nat_eq ks → are_up_to n ks ≡ true → length ks ≤ n
length-up_to n ks distinct within =
    let shorter = length-distinct nat_eq nat_eq_equiv ks (down_from n) distinct (are_among-up_to n ks within) in
    let all = length-down_from n in
    omega (arith, shorter, all)
