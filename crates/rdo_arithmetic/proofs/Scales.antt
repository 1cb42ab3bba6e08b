-- A number of 64 bits keeps within 123 bits where it is brought to a scale up to 18, so 128 bits hold the sum of two such.
use Rattle.std.proofs.Common.{◌≡◌, ℕ, ◌*◌, ◌^◌, ◌≤◌, ◌<◌, ℤ, pos, ◌*ℤ◌, ◌+ℤ◌, ◌-ℤ◌, unsigned_abs, w64, FitsSigned, to_z, of_z, refl, subst, ◌∙◌, arith, Result}
use Rattle.std.specs.Int.{w128}
use Rattle.std.specs.Int.RustNames.{int_div}
use Rattle.rdb_types.specs.declared.values.Scaled.{Scaled}
use Rattle.rdo_arithmetic.specs.declared.stop.Stop.{Stop}
use Rattle.rdb_meaning.specs.Numbers.{result as result_of}
use Rattle.rdo_arithmetic.specs.Answers.{Gives}
use Rattle.std.proofs.lemmas.Int.{to_z-of_z, unsigned_abs-mul, fits_signed_from_abs, quot_fits, ints}
use Rattle.std.proofs.Math.Nat.{mul-le-mul, pow-le-pow_right, one-le-pow}
use Rattle.std.specs.Int.Signed.{nat_abs-le}
use Rattle.std.proofs.Math.Facts.{sfits_widen}
use Rattle.std.proofs.Common.{lit≤, lit<}

pub power_small : (k : ℕ) → k ≤ 18 → 10 ^ k ≤ 2 ^ 60
power_small k h =
    let a : 10 ^ k ≤ 10 ^ 18 = pow-le-pow_right (lit< tt) h in
    let b : 10 ^ 18 ≤ 2 ^ 60 = lit≤ tt in
    omega (arith, a, b)

pub product_small : (n : ℤ) (k : ℕ) → FitsSigned w64 n → k ≤ 18 → unsigned_abs (n *ℤ pos (10 ^ k)) ≤ 2 ^ 123
product_small n k f h =
    let a : unsigned_abs n ≤ 2 ^ 63 = nat_abs-le n f.sfits in
    let b : unsigned_abs n * 10 ^ k ≤ 2 ^ 63 * 2 ^ 60 = mul-le-mul a (power_small k h) in
    rw unsigned_abs-mul b

-- what the code's product is
pub code_product : (a p n : ℤ) (k : ℕ) → a ≡ n → p ≡ pos (10 ^ k) → FitsSigned w64 n → k ≤ 18 → to_z w128 (of_z w128 a) *ℤ to_z w128 (of_z w128 p) ≡ n *ℤ pos (10 ^ k)
code_product a p n k e d f h =
    let g : FitsSigned w128 n = sfits_widen tt f in
    let s : 10 ^ k ≤ 2 ^ 60 = power_small k h in
    let q : FitsSigned w128 (pos (10 ^ k)) = record { sfits = omega arith } in
    rw (e, d, to_z-of_z w128 n g, to_z-of_z w128 (pos (10 ^ k)) q) refl

pub product_fits : (n : ℤ) (k : ℕ) → FitsSigned w64 n → k ≤ 18 → FitsSigned w128 (n *ℤ pos (10 ^ k))
product_fits n k f h =
    let b : unsigned_abs (n *ℤ pos (10 ^ k)) ≤ 2 ^ 123 = product_small n k f h in
    fits_signed_from_abs w128 _ (omega arith)

pub fits_small : (a : ℤ) → unsigned_abs a ≤ 2 ^ 123 → FitsSigned w128 a
fits_small a h = fits_signed_from_abs w128 a (omega arith)

pub code_sum : (a b : ℤ) → unsigned_abs a ≤ 2 ^ 123 → unsigned_abs b ≤ 2 ^ 123 → to_z w128 (of_z w128 (to_z w128 (of_z w128 a) +ℤ to_z w128 (of_z w128 b))) ≡ a +ℤ b
code_sum a b h k =
    let f : FitsSigned w128 a = fits_small a h in
    let g : FitsSigned w128 b = fits_small b k in
    rw (to_z-of_z w128 a f, to_z-of_z w128 b g) (to_z-of_z w128 (a +ℤ b) (omega (arith, ints)))

pub code_difference : (a b : ℤ) → unsigned_abs a ≤ 2 ^ 123 → unsigned_abs b ≤ 2 ^ 123 → to_z w128 (of_z w128 (to_z w128 (of_z w128 a) -ℤ to_z w128 (of_z w128 b))) ≡ a -ℤ b
code_difference a b h k =
    let f : FitsSigned w128 a = fits_small a h in
    let g : FitsSigned w128 b = fits_small b k in
    rw (to_z-of_z w128 a f, to_z-of_z w128 b g) (to_z-of_z w128 (a -ℤ b) (omega (arith, ints)))

pub power_positive : (k : ℕ) → 0 < 10 ^ k
power_positive k = let p : 1 ≤ 10 ^ k = one-le-pow k 10 (lit< tt) in omega (arith, p)

pub gives_sum : (r : Result Scaled Stop) (a b a' b' : ℤ) (s s' : ℕ) → Gives r (result_of (to_z w128 (of_z w128 (to_z w128 (of_z w128 a) +ℤ to_z w128 (of_z w128 b)))) s) → a ≡ a' → b ≡ b' → s ≡ s' → unsigned_abs a ≤ 2 ^ 123 → unsigned_abs b ≤ 2 ^ 123 → Gives r (result_of (a' +ℤ b') s')
gives_sum r a b a' b' s s' g e f d h k =
    subst (λ (m : ℕ). Gives r (result_of (a' +ℤ b') m)) d (subst (λ (n : ℤ). Gives r (result_of n s)) (code_sum a b h k ∙ (λ i. e i +ℤ f i)) g)

pub gives_difference : (r : Result Scaled Stop) (a b a' b' : ℤ) (s s' : ℕ) → Gives r (result_of (to_z w128 (of_z w128 (to_z w128 (of_z w128 a) -ℤ to_z w128 (of_z w128 b)))) s) → a ≡ a' → b ≡ b' → s ≡ s' → unsigned_abs a ≤ 2 ^ 123 → unsigned_abs b ≤ 2 ^ 123 → Gives r (result_of (a' -ℤ b') s')
gives_difference r a b a' b' s s' g e f d h k =
    subst (λ (m : ℕ). Gives r (result_of (a' -ℤ b') m)) d (subst (λ (n : ℤ). Gives r (result_of n s)) (code_difference a b h k ∙ (λ i. e i -ℤ f i)) g)

-- what the code divides by, and that the quotient fits
pub may_divide : (a p n : ℤ) (k : ℕ) → a ≡ n → p ≡ pos (10 ^ k) → FitsSigned w64 n → k ≤ 18 → (0 < of_z w128 p) × FitsSigned w128 (int_div (to_z w128 (of_z w128 a)) (to_z w128 (of_z w128 p)))
may_divide a p n k e d f h =
    let g : FitsSigned w128 n = sfits_widen tt f in
    let s : 10 ^ k ≤ 2 ^ 60 = power_small k h in
    let z : 0 < 10 ^ k = power_positive k in
    let q : FitsSigned w128 (pos (10 ^ k)) = record { sfits = omega arith } in
    rw (e, d, to_z-of_z w128 n g, to_z-of_z w128 (pos (10 ^ k)) q) (z, quot_fits w128 n (pos (10 ^ k)) g (omega (arith, ints)))
