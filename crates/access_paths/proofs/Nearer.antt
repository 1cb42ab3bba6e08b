-- A field's value compares with a value as with the nearest one that a field may have, and where it is that, as that does.
use Rattle.std.proofs.Common.{◌≡◌, ℕ, suc, ◌-◌, ◌^◌, ◌<◌, ◌≤◌, Bool, true, false, if◌then◌else◌, max, refl, ap, sym, ◌∙◌, arith}
use Rattle.std.specs.Prelude.{ℤ, pos, negsuc, ◌*ℤ◌, neg_ℤ, nat_le}
use Rattle.std.specs.Int.RustNames.{int_div}
use Rattle.std.specs.declared.cmp.Ordering.{Ordering}
use Rattle.std.specs.declared.cmp.Ordering.TheVariants.{Less, Equal, Greater}
use Rattle.std.specs.Ordering.{int_cmp, ordering_then}
use Rattle.std.proofs.lemmas.Bool.Decides.{nat_tests}
use Rattle.std.proofs.lemmas.Cmp.{int_cmp_total, tied_itself}
use Rattle.std.proofs.Math.Nat.{mul-one, sub_self}
use Rattle.rdb_meaning.specs.Numbers.{brought, rescaled}
use Rattle.rdo_arithmetic.proofs.Scales.{power_positive}
use Rattle.access_paths.proofs.Truncated.{truncated}

-- the order of a number of scale s and one of scale t
abbrev pub order_at : ℤ → ℕ → ℤ → ℕ → Ordering
order_at n s m t = int_cmp (brought n s (max s t)) (brought m t (max s t))

times_one : (n : ℤ) → n *ℤ pos 1 ≡ n
times_one (pos n) = ap pos (mul-one n)
times_one (negsuc n) = ap (λ k. neg_ℤ (pos k)) (mul-one (suc n))

unbrought : (n : ℤ) (s : ℕ) → brought n s s ≡ n
unbrought n s = ap (λ k. n *ℤ pos (10 ^ k)) (sub_self s) ∙ times_one n

-- at the same or a greater scale nothing is dropped

whole : (n m : ℤ) (s t : ℕ) → t ≤ s → order_at n s m t ≡ int_cmp n (brought m t s)
whole n m s t h =
    let e : max s t ≡ s = omega arith in
    ap (λ k. int_cmp (brought n s k) (brought m t k)) e ∙ ap (λ n. int_cmp n (brought m t s)) (unbrought n s)

then_equal : (o : Ordering) → ordering_then o Equal ≡ o
then_equal Less = refl
then_equal Equal = refl
then_equal Greater = refl

rising : (n m : ℤ) (s t : ℕ) → t ≤ s → order_at n s m t ≡ ordering_then (int_cmp n (brought m t s)) (order_at (brought m t s) s m t)
rising n m s t h =
    let x = brought m t s in
    whole n m s t h ∙ sym (then_equal (int_cmp n x)) ∙ ap (λ o. ordering_then (int_cmp n x) o) (sym (whole x m s t h ∙ tied_itself int_cmp_total x))

falling : (n m : ℤ) (s t : ℕ) → s < t → order_at n s m t ≡ ordering_then (int_cmp n (int_div m (pos (10 ^ (t - s))))) (order_at (int_div m (pos (10 ^ (t - s)))) s m t)
falling n m s t h =
    let x = int_div m (pos (10 ^ (t - s))) in
    let e : max s t ≡ t = omega arith in
    let cut : (n : ℤ) → order_at n s m t ≡ int_cmp (n *ℤ pos (10 ^ (t - s))) m = λ n. ap (λ k. int_cmp (brought n s k) (brought m t k)) e ∙ ap (λ m. int_cmp (n *ℤ pos (10 ^ (t - s))) m) (unbrought m t) in
    cut n ∙ truncated n m (10 ^ (t - s)) (power_positive (t - s)) ∙ ap (λ o. ordering_then (int_cmp n x) o) (sym (cut x))

pub choose_test : {A : Type 0} (P : A → Type 0) (b : Bool) (x y : A) → (b ≡ true → P x) → (b ≡ false → P y) → P (if b then x else y)
choose_test P true x y h k = h refl
choose_test P false x y h k = k refl

below_true : (a b : ℕ) → nat_le a b ≡ true → a ≤ b
below_true a b h = grind (arith, nat_tests)

below_false : (a b : ℕ) → nat_le a b ≡ false → b < a
below_false a b h = grind (arith, nat_tests)

pub by_rescaled : (n m : ℤ) (s t : ℕ) → order_at n s m t ≡ ordering_then (int_cmp n (rescaled m t s)) (order_at (rescaled m t s) s m t)
by_rescaled n m s t =
    choose_test (λ x. order_at n s m t ≡ ordering_then (int_cmp n x) (order_at x s m t)) (nat_le t s) (brought m t s) (int_div m (pos (10 ^ (t - s))))
    (λ h. rising n m s t (below_true t s h)) (λ h. falling n m s t (below_false t s h))
