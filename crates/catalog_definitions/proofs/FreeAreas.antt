-- The logical area that a definition gives out isn't in use.
use Rattle.std.proofs.Common.{◌≡◌, ℕ, zero, suc, ◌+◌, ◌<◌, ◌≤◌, ◌%◌, true, false, List, [], ◌∷◌, map, length, Some, refl, sym, ap, ◌∙◌, arith, nat_eq, cond, if◌then◌else◌}
use Rattle.std.specs.Prelude.{◌||◌, nat_le}
use Rattle.std.specs.declared.cmp.Ordering.{Ordering}
use Rattle.std.specs.declared.cmp.Ordering.TheVariants.{Less, Equal, Greater}
use Rattle.std.specs.Ordering.{is_eq, nat_cmp}
use Rattle.std.specs.FinMap.Entries.{find}
use Rattle.std.proofs.lemmas.Bool.Decides.{nat_tests}
use Rattle.std.proofs.lemmas.Cmp.{ranked}
use Rattle.rdb_meaning.specs.Contents.{is_used, first_free}
use Rattle.catalog_definitions.proofs.Basics.{or_true}

pub numbers_differ : (a b : ℕ) → (a ≡ b → ⊥) → is_eq (nat_cmp a b) ≡ false
numbers_differ a b apart =
    elim (nat_cmp a b) as (λ r. nat_cmp a b ≡ r → is_eq r ≡ false) [
      | Less ↦ λ p. refl
      | Equal ↦ λ p. absurd (apart (ranked a b Equal (sym p)))
      | Greater ↦ λ p. refl
    ] refl

pub eq_is : (m n : ℕ) → nat_eq m n ≡ true → m ≡ n
eq_is m n is = grind (arith, nat_tests)

pub eq_itself : (n : ℕ) → nat_eq n n ≡ true
eq_itself n = grind (arith, nat_tests)

-- how many of the numbers are this one or above
above : ℕ → List ℕ → ℕ
above n [] = 0
above n (u ∷ us) = cond (nat_le n u) (suc (above n us)) (above n us)

not_more : (n : ℕ) (us : List ℕ) → above (n + 2) us ≤ above n us
unfolding above
not_more n [] = omega arith
not_more n (u ∷ us) = let rest = not_more n us in grind (arith, nat_tests)

fewer : (n : ℕ) (us : List ℕ) → is_used n us ≡ true → above (n + 2) us < above n us
unfolding above
fewer n [] used = absurd (cc)
fewer n (u ∷ us) used =
    let less = not_more n us in
    elim (nat_eq n u) as (λ b. nat_eq n u ≡ b → (b || is_used n us) ≡ true → above (n + 2) (u ∷ us) < above n (u ∷ us)) [
      | true ↦ λ e _. let same = eq_is n u e in grind (arith, nat_tests)
      | false ↦ λ e h. let rest = fewer n us h in grind (arith, nat_tests)
    ] refl used

none_above : (n : ℕ) (us : List ℕ) → above n us ≡ 0 → is_used n us ≡ false
unfolding above
none_above n [] none = refl
none_above n (u ∷ us) none =
    elim (nat_le n u) as (λ b. nat_le n u ≡ b → cond b (suc (above n us)) (above n us) ≡ 0 → (nat_eq n u || is_used n us) ≡ false) [
      | true ↦ λ e h. absurd (omega arith)
      | false ↦ λ e h.
          let apart : nat_eq n u ≡ false = grind (arith, nat_tests) in
          ap (λ b. b || is_used n us) apart ∙ none_above n us h
    ] refl none

unused_from : (more n : ℕ) (us : List ℕ) → above n us ≤ more → is_used (first_free more n us) us ≡ false
unused_from zero n us few = none_above n us (omega arith)
unused_from (suc more) n us few =
    elim (is_used n us) as (λ b. is_used n us ≡ b → is_used (if b then first_free more (n + 2) us else n) us ≡ false) [
      | true ↦ λ e. unused_from more (n + 2) us (omega (arith, fewer n us e, few))
      | false ↦ λ e. e
    ] refl

few_above : (n : ℕ) (us : List ℕ) → above n us ≤ length us
unfolding above
few_above n [] = omega arith
few_above n (u ∷ us) = let rest = few_above n us in elim (nat_le n u) as (λ b. cond b (suc (above n us)) (above n us) ≤ suc (length us)) [ true ↦ omega arith | false ↦ omega arith ]

pub unused : (more n : ℕ) (us : List ℕ) → more ≡ length us → is_used (first_free more n us) us ≡ false
unused more n us count = unused_from more n us (omega (arith, few_above n us, count))

pub free_bounds : (more n : ℕ) (us : List ℕ) → (n ≤ first_free more n us) × (first_free more n us % 2 ≡ n % 2)
free_bounds zero n us = (omega arith, refl)
free_bounds (suc more) n us =
    let rest = free_bounds more (n + 2) us in
    elim (is_used n us) as (λ b. (n ≤ (if b then first_free more (n + 2) us else n)) × ((if b then first_free more (n + 2) us else n) % 2 ≡ n % 2)) [
      | true ↦ (omega (arith, rest.0), rest.1 ∙ omega arith)
      | false ↦ (omega arith, refl)
    ]

-- what is found is in use
pub used_found : {K V : Type 0} (R : K → K → Ordering) (area : V → ℕ) (q : K) (v : V) (es : List (K × V)) → find R q es ≡ Some v → is_used (area v) (map (λ e. area e.1) es) ≡ true
used_found R area q v [] found = let bad : ⊥ = cc in absurd bad
used_found R area q v (e ∷ es) found =
    elim (is_eq (R q e.0)) as (λ b. cond b (Some e.1) (find R q es) ≡ Some v → (nat_eq (area v) (area e.1) || is_used (area v) (map (λ e. area e.1) es)) ≡ true) [
      | true ↦ λ h. let same : e.1 ≡ v = cc in ap (λ w. nat_eq (area v) (area w) || is_used (area v) (map (λ e. area e.1) es)) same ∙ ap (λ b. b || is_used (area v) (map (λ e. area e.1) es)) (eq_itself (area v))
      | false ↦ λ h. ap (λ b. nat_eq (area v) (area e.1) || b) (used_found R area q v es h) ∙ or_true (nat_eq (area v) (area e.1))
    ] found
