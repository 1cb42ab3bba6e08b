-- A field's number compares with a number as with the nearest one of 64 bits, and where it is that, as that does.
use Rattle.std.proofs.Common.{◌≡◌, ℕ, zero, suc, ◌-◌, ◌*◌, ◌/◌, ◌^◌, ◌<◌, ◌≤◌, inl, inr, true, false, if◌then◌else◌, refl, ap, sym, ◌∙◌, arith}
use Rattle.std.specs.Prelude.{ℤ, pos, negsuc, neg_ℤ, nat_lt, nat_le}
use Rattle.std.specs.Int.RustNames.{int_div}
use Rattle.std.specs.declared.cmp.Ordering.TheVariants.{Less, Greater}
use Rattle.std.specs.Ordering.{int_cmp, ordering_then}
use Rattle.std.proofs.lemmas.Bool.{cases_order}
use Rattle.std.proofs.lemmas.Bool.Decides.{nat_tests}
use Rattle.rdb_types.specs.declared.values.Value.{Value}
use Rattle.rdb_types.specs.declared.values.Value.TheVariants.{Number}
use Rattle.rdb_meaning.specs.Numbers.{fits_bits, brought, rescaled, fitting, too_large}
use Rattle.access_paths.specs.Nearest.{nearest_number}
use Rattle.access_paths.proofs.Truncated.{pos_less, neg_greater}
use Rattle.access_paths.proofs.Nearer.{order_at, by_rescaled, choose_test}

-- ---- signs

some_pos : (a t s : ℕ) → (z : ℕ) × (rescaled (pos a) t s ≡ pos z)
some_pos a t s = choose_test (λ x. (z : ℕ) × (x ≡ pos z)) (nat_le t s) (brought (pos a) t s) (int_div (pos a) (pos (10 ^ (t - s)))) (λ h. (a * 10 ^ (s - t), refl)) (λ h. (a / 10 ^ (t - s), refl))

some_neg : (a t s : ℕ) → (z : ℕ) × (rescaled (negsuc a) t s ≡ neg_ℤ (pos z))
some_neg a t s = choose_test (λ x. (z : ℕ) × (x ≡ neg_ℤ (pos z))) (nat_le t s) (brought (negsuc a) t s) (int_div (negsuc a) (pos (10 ^ (t - s)))) (λ h. (suc a * 10 ^ (s - t), refl)) (λ h. (suc a / 10 ^ (t - s), refl))

fits_below : (n : ℕ) → nat_lt n (2 ^ 63) ≡ true → n < 9223372036854775808
fits_below n h = grind (arith, nat_tests)

past_above : (n : ℕ) → nat_lt n (2 ^ 63) ≡ false → 9223372036854775808 ≤ n
past_above n h = grind (arith, nat_tests)

-- ---- past the numbers of 64 bits

below_great : (n : ℤ) (z : ℕ) → fits_bits 63 n ≡ true → 9223372036854775808 ≤ z → int_cmp n (pos z) ≡ Less
below_great (pos b) z h k = let small : b < 9223372036854775808 = fits_below b h in pos_less b z (omega arith)
below_great (negsuc b) z h k = refl

above_small : (n : ℤ) (z : ℕ) → fits_bits 63 n ≡ true → 9223372036854775808 ≤ z → int_cmp n (negsuc z) ≡ Greater
above_small (pos b) z h k = refl
above_small (negsuc b) z h k = let small : b < 9223372036854775808 = fits_below b h in neg_greater b z (omega arith)

at_most_greatest : (n : ℤ) → fits_bits 63 n ≡ true → ordering_then (int_cmp n (pos 9223372036854775807)) Less ≡ Less
at_most_greatest (pos b) h =
    let small : b < 9223372036854775808 = fits_below b h in
    elim (cases_order b 9223372036854775807) [
      | inl e ↦ ap (λ b. ordering_then (int_cmp (pos b) (pos 9223372036854775807)) Less) e
      | inr k ↦ elim k [
        | inl less ↦ ap (λ o. ordering_then o Less) (pos_less b 9223372036854775807 less)
        | inr more ↦ absurd (omega arith)
      ]
    ]
at_most_greatest (negsuc b) h = refl

at_least_least : (n : ℤ) → fits_bits 63 n ≡ true → ordering_then (int_cmp n (negsuc 9223372036854775807)) Greater ≡ Greater
at_least_least (pos b) h = refl
at_least_least (negsuc b) h =
    let small : b < 9223372036854775808 = fits_below b h in
    elim (cases_order b 9223372036854775807) [
      | inl e ↦ ap (λ b. ordering_then (int_cmp (negsuc b) (negsuc 9223372036854775807)) Greater) e
      | inr k ↦ elim k [
        | inl less ↦ ap (λ o. ordering_then o Greater) (neg_greater b 9223372036854775807 less)
        | inr more ↦ absurd (omega arith)
      ]
    ]

-- ---- the nearest number

-- n is compared with m, which has t digits after the point, as with y
abbrev pub Compares : ℤ → ℕ → ℤ → ℕ → ℤ → Type 0
Compares n s m t y = order_at n s m t ≡ ordering_then (int_cmp n y) (order_at y s m t)

past_greatest : (n m : ℤ) (s t z : ℕ) → fits_bits 63 n ≡ true → rescaled m t s ≡ pos z → 9223372036854775808 ≤ z → Compares n s m t (pos 9223372036854775807)
past_greatest n m s t z h e k =
    let past : (n : ℤ) → fits_bits 63 n ≡ true → order_at n s m t ≡ Less = λ n h. by_rescaled n m s t ∙ ap (λ x. ordering_then (int_cmp n x) (order_at x s m t)) e ∙ ap (λ o. ordering_then o (order_at (pos z) s m t)) (below_great n z h k) in
    past n h ∙ sym (at_most_greatest n h) ∙ ap (λ o. ordering_then (int_cmp n (pos 9223372036854775807)) o) (sym (past (pos 9223372036854775807) refl))

past_least : (n m : ℤ) (s t z : ℕ) → fits_bits 63 n ≡ true → rescaled m t s ≡ negsuc z → 9223372036854775808 ≤ z → Compares n s m t (negsuc 9223372036854775807)
past_least n m s t z h e k =
    let past : (n : ℤ) → fits_bits 63 n ≡ true → order_at n s m t ≡ Greater = λ n h. by_rescaled n m s t ∙ ap (λ x. ordering_then (int_cmp n x) (order_at x s m t)) e ∙ ap (λ o. ordering_then o (order_at (negsuc z) s m t)) (above_small n z h k) in
    past n h ∙ sym (at_least_least n h) ∙ ap (λ o. ordering_then (int_cmp n (negsuc 9223372036854775807)) o) (sym (past (negsuc 9223372036854775807) refl))

abbrev Nearest : ℤ → ℕ → ℤ → ℕ → Value → Type 0
Nearest n s m t f = (y : ℤ) × ((f ≡ Number y) × Compares n s m t y)

too_great : (n : ℤ) (a s t z : ℕ) → fits_bits 63 n ≡ true → rescaled (pos a) t s ≡ pos z → fits_bits 63 (rescaled (pos a) t s) ≡ false → Nearest n s (pos a) t (Number (pos 9223372036854775807))
too_great n a s t z h e k =
    let past : nat_lt z (2 ^ 63) ≡ false = sym (ap (fits_bits 63) e) ∙ k in
    (pos 9223372036854775807, (refl, past_greatest n (pos a) s t z h e (past_above z past)))

too_small : (n : ℤ) (a s t z : ℕ) → fits_bits 63 n ≡ true → rescaled (negsuc a) t s ≡ neg_ℤ (pos z) → fits_bits 63 (rescaled (negsuc a) t s) ≡ false → Nearest n s (negsuc a) t (Number (negsuc 9223372036854775807))
too_small n a s t zero h e k = let fits : true ≡ false = sym (ap (fits_bits 63) e) ∙ k in absurd (cc)
too_small n a s t (suc z) h e k =
    let past : nat_lt z (2 ^ 63) ≡ false = sym (ap (fits_bits 63) e) ∙ k in
    (negsuc 9223372036854775807, (refl, past_least n (negsuc a) s t z h e (past_above z past)))

pub near_number : (n m : ℤ) (s t : ℕ) → fits_bits 63 n ≡ true → Nearest n s m t (nearest_number m (if fits_bits 63 (rescaled m t s) then fitting (Number (rescaled m t s)) else too_large))
near_number n (pos a) s t h =
    choose_test (λ f. Nearest n s (pos a) t (nearest_number (pos a) f)) (fits_bits 63 (rescaled (pos a) t s)) (fitting (Number (rescaled (pos a) t s))) too_large
    (λ k. (rescaled (pos a) t s, (refl, by_rescaled n (pos a) s t)))
    (λ k. let some = some_pos a t s in too_great n a s t some.0 h some.1 k)
near_number n (negsuc a) s t h =
    choose_test (λ f. Nearest n s (negsuc a) t (nearest_number (negsuc a) f)) (fits_bits 63 (rescaled (negsuc a) t s)) (fitting (Number (rescaled (negsuc a) t s))) too_large
    (λ k. (rescaled (negsuc a) t s, (refl, by_rescaled n (negsuc a) s t)))
    (λ k. let some = some_neg a t s in too_small n a s t some.0 h some.1 k)
