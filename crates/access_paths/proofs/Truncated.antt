-- A number is compared with another as with the whole part of a quotient, and where it is that, as that is.
use Rattle.std.proofs.Common.{◌≡◌, ℕ, zero, suc, ◌+◌, ◌-◌, ◌*◌, ◌/◌, ◌<◌, ◌≤◌, inl, inr, refl, ap, sym, ◌∙◌, subst, arith}
use Rattle.std.specs.Prelude.{ℤ, pos, negsuc, ◌*ℤ◌, neg_ℤ}
use Rattle.std.specs.Int.RustNames.{int_div}
use Rattle.std.specs.declared.cmp.Ordering.{Ordering}
use Rattle.std.specs.declared.cmp.Ordering.TheVariants.{Less, Greater}
use Rattle.std.specs.Ordering.{int_cmp, ordering_then}
use Rattle.std.specs.Cmp.{int_cmp_is}
use Rattle.std.proofs.lemmas.Bool.{cases_order}
use Rattle.std.proofs.lemmas.Cmp.{int_cmp_total, tied_itself}
use Rattle.std.proofs.lemmas.Int.{ints}
use Rattle.std.proofs.Math.Nat.{mul-le-mul_right, suc-mul, zero-mul, div-mul-le_self, lt-div-mul-add}

-- ---- orders of numbers

pub pos_less : (x y : ℕ) → x < y → int_cmp (pos x) (pos y) ≡ Less
pos_less x y h = sym (int_cmp_is (pos x) (pos y) Less (omega (arith, ints)))

pub pos_greater : (x y : ℕ) → y < x → int_cmp (pos x) (pos y) ≡ Greater
pos_greater x y h = sym (int_cmp_is (pos x) (pos y) Greater (omega (arith, ints)))

pub neg_less : (x y : ℕ) → y < x → int_cmp (negsuc x) (negsuc y) ≡ Less
neg_less x y h = sym (int_cmp_is (negsuc x) (negsuc y) Less (omega (arith, ints)))

pub neg_greater : (x y : ℕ) → x < y → int_cmp (negsuc x) (negsuc y) ≡ Greater
neg_greater x y h = sym (int_cmp_is (negsuc x) (negsuc y) Greater (omega (arith, ints)))

-- ---- products

times_below : (b q p : ℕ) → b < q → b * p + p ≤ q * p
times_below b q p h = subst (λ n. n ≤ q * p) (suc-mul b p) (mul-le-mul_right p (omega arith))

times_positive : (b p : ℕ) → 0 < p → p ≤ suc b * p
times_positive b p h = omega (arith, suc-mul b p)

negated : (k : ℕ) → 0 < k → neg_ℤ (pos k) ≡ negsuc (k - 1)
negated zero h = absurd (omega arith)
negated (suc k) h = ap negsuc (omega arith)

neg_times : (b p : ℕ) → 0 < p → negsuc b *ℤ pos p ≡ negsuc (suc b * p - 1)
neg_times b p h = negated (suc b * p) (omega (arith, times_positive b p h))

-- ---- the whole part of a quotient

abbrev Follows : ℤ → ℤ → ℕ → ℤ → Type 0
Follows n x p m = int_cmp (n *ℤ pos p) m ≡ ordering_then (int_cmp n x) (int_cmp (x *ℤ pos p) m)

at_same : (n x m : ℤ) (p : ℕ) → n ≡ x → Follows n x p m
at_same n x m p e =
    ap (λ n. int_cmp (n *ℤ pos p) m) e
    ∙ ap (λ o. ordering_then o (int_cmp (x *ℤ pos p) m)) (sym (tied_itself int_cmp_total x)) ∙ ap (λ n. ordering_then (int_cmp n x) (int_cmp (x *ℤ pos p) m)) (sym e)

at_less : (n x m : ℤ) (p : ℕ) → int_cmp n x ≡ Less → int_cmp (n *ℤ pos p) m ≡ Less → Follows n x p m
at_less n x m p h k = k ∙ ap (λ o. ordering_then o (int_cmp (x *ℤ pos p) m)) (sym h)

at_greater : (n x m : ℤ) (p : ℕ) → int_cmp n x ≡ Greater → int_cmp (n *ℤ pos p) m ≡ Greater → Follows n x p m
at_greater n x m p h k = k ∙ ap (λ o. ordering_then o (int_cmp (x *ℤ pos p) m)) (sym h)

both_positive : (b a p : ℕ) → 0 < p → Follows (pos b) (pos (a / p)) p (pos a)
both_positive b a p h =
    let q = a / p in
    let low : q * p ≤ a = div-mul-le_self a p in
    let high : a < q * p + p = lt-div-mul-add h in
    elim (cases_order b q) [
      | inl e ↦ at_same (pos b) (pos q) (pos a) p (ap pos e)
      | inr k ↦ elim k [
        | inl less ↦ at_less (pos b) (pos q) (pos a) p (pos_less b q less) (pos_less (b * p) a (omega (arith, times_below b q p less)))
        | inr more ↦ at_greater (pos b) (pos q) (pos a) p (pos_greater b q more) (pos_greater (b * p) a (omega (arith, times_below q b p more)))
      ]
    ]

neg_pos : (b a p : ℕ) → 0 < p → Follows (negsuc b) (pos (a / p)) p (pos a)
neg_pos b a p h = at_less (negsuc b) (pos (a / p)) (pos a) p refl (ap (λ n. int_cmp n (pos a)) (neg_times b p h))

-- a quotient of a negative number, by its absolute value q

zero_or_more : (b : ℕ) (o : Ordering) → o ≡ Greater → Greater ≡ ordering_then (int_cmp (pos b) (pos 0)) o
zero_or_more b o e = elim (cases_order b 0) [
  | inl z ↦ sym (ap (λ b. ordering_then (int_cmp (pos b) (pos 0)) o) z ∙ e)
  | inr k ↦ elim k [
    | inl less ↦ absurd (omega arith)
    | inr more ↦ sym (ap (λ c. ordering_then c o) (pos_greater b 0 more))
  ]
]

by_quotient : (n : ℤ) (a p q : ℕ) → 0 < p → q * p ≤ suc a → suc a < q * p + p → Follows n (neg_ℤ (pos q)) p (negsuc a)
by_quotient (pos b) a p zero h low high = zero_or_more b (int_cmp (pos (0 * p)) (negsuc a)) refl
by_quotient (pos b) a p (suc q) h low high = at_greater (pos b) (negsuc q) (negsuc a) p refl refl
by_quotient (negsuc b) a p zero h low high =
    at_less (negsuc b) (pos 0) (negsuc a) p refl
    (ap (λ n. int_cmp n (negsuc a)) (neg_times b p h) ∙ neg_less (suc b * p - 1) a (omega (arith, times_positive b p h, zero-mul p)))
by_quotient (negsuc b) a p (suc q) h low high = elim (cases_order b q) [
  | inl e ↦ at_same (negsuc b) (negsuc q) (negsuc a) p (ap negsuc e)
  | inr k ↦ elim k [
    | inl less ↦ at_greater (negsuc b) (negsuc q) (negsuc a) p (neg_greater b q less)
        (ap (λ n. int_cmp n (negsuc a)) (neg_times b p h) ∙ neg_greater (suc b * p - 1) a (omega (arith, times_below (suc b) (suc q) p (omega arith), times_positive b p h)))
    | inr more ↦ at_less (negsuc b) (negsuc q) (negsuc a) p (neg_less b q more)
        (ap (λ n. int_cmp n (negsuc a)) (neg_times b p h) ∙ neg_less (suc b * p - 1) a (omega (arith, times_below (suc q) (suc b) p (omega arith))))
  ]
]

pub truncated : (n m : ℤ) (p : ℕ) → 0 < p → Follows n (int_div m (pos p)) p m
truncated (pos b) (pos a) p h = both_positive b a p h
truncated (negsuc b) (pos a) p h = neg_pos b a p h
truncated (pos b) (negsuc a) p h = by_quotient (pos b) a p (suc a / p) h (div-mul-le_self (suc a) p) (lt-div-mul-add h)
truncated (negsuc b) (negsuc a) p h = by_quotient (negsuc b) a p (suc a / p) h (div-mul-le_self (suc a) p) (lt-div-mul-add h)
