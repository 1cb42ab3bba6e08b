-- One member that is another, and the members beside it.
use Rattle.std.proofs.Common.{◌≡◌, ◌<◌, ◌==◌, ◌⊎◌, inl, inr, ℕ, zero, suc, false, List, [], ◌∷◌, length, Some, refl, sym, ap, ◌∙◌, arith}
use Rattle.std.specs.Prelude.{slice_get, slice_set, slice_index_or}
use Rattle.std.proofs.lemmas.Option.{same_Some, none-some, slice_get-get_or}
use Rattle.std.proofs.lemmas.Bool.{eqb-false}

pub set-here : {X : Type 0} (xs : List X) (i : ℕ) (y : X) → i < length xs → slice_get (slice_set xs i y) i ≡ Some y
set-here [] i y h = absurd (omega (arith, h))
set-here (z ∷ zs) zero y h = refl
set-here (z ∷ zs) (suc i) y h = set-here zs i y (omega (arith, h))

get-apart : {X : Type 0} (xs : List X) (i t : ℕ) (y : X) → (t ≡ i → ⊥) → slice_get (slice_set xs i y) t ≡ slice_get xs t
get-apart [] i t y h = refl
get-apart (z ∷ zs) zero zero y h = absurd (h refl)
get-apart (z ∷ zs) zero (suc t) y h = refl
get-apart (z ∷ zs) (suc i) zero y h = refl
get-apart (z ∷ zs) (suc i) (suc t) y h = get-apart zs i t y (λ e. h (ap suc e))

pub set-beside : {X : Type 0} (xs : List X) (i t : ℕ) (y : X) → (t == i) ≡ false → slice_get (slice_set xs i y) t ≡ slice_get xs t
set-beside xs i t y apart = get-apart xs i t y (eqb-false t i apart)

pub get-within : {X : Type 0} (xs : List X) (i : ℕ) (x : X) → slice_get xs i ≡ Some x → i < length xs
get-within [] i x is = absurd (none-some x is)
get-within (y ∷ ys) zero x is = omega arith
get-within (y ∷ ys) (suc i) x is = omega (arith, get-within ys i x is)

pub set-same : {X : Type 0} (xs : List X) (i : ℕ) (x : X) → slice_get xs i ≡ Some x → slice_set xs i x ≡ xs
set-same [] i x is = refl
set-same (y ∷ ys) zero x is = ap (λ z. z ∷ ys) (sym (same_Some _ _ is))
set-same (y ∷ ys) (suc i) x is = ap (λ zs. y ∷ zs) (set-same ys i x is)

-- what is got there is the new one, or was there before
pub set-either : {X : Type 0} (xs : List X) (i t : ℕ) (y x : X) → slice_get (slice_set xs i y) t ≡ Some x → ((t ≡ i) × (x ≡ y)) ⊎ (slice_get xs t ≡ Some x)
set-either [] i t y x is = inr is
set-either (z ∷ zs) zero zero y x is = inl (refl, sym (same_Some _ _ is))
set-either (z ∷ zs) zero (suc t) y x is = inr is
set-either (z ∷ zs) (suc i) zero y x is = inr is
set-either (z ∷ zs) (suc i) (suc t) y x is = elim (set-either zs i t y x is) [ inl here ↦ inl (ap suc here.0, here.1) | inr was ↦ inr was ]

pub set-long : {X : Type 0} (xs : List X) (i : ℕ) (y : X) → length (slice_set xs i y) ≡ length xs
set-long [] i y = refl
set-long (x ∷ xs) zero y = refl
set-long (x ∷ xs) (suc i) y = ap suc (set-long xs i y)

-- what is lent of a place is there
pub lent-there : {X : Type 0} (xs : List X) (i : ℕ) (x : X) → i < length xs → x ≡ slice_index_or xs i x → slice_get xs i ≡ Some x
lent-there xs i x within is = slice_get-get_or xs i x within ∙ ap Some (sym is)
