-- A place of a list that is written again.
use Rattle.std.proofs.Common.{◌≡◌, ℕ, zero, suc, ◌∷◌, [], List, refl, sym, ap, Some, slice_get, slice_set}
use Rattle.std.proofs.lemmas.Option.{same_Some}

pub set-set : {A : Type 0} (xs : List A) (i : ℕ) (x y : A) → slice_set (slice_set xs i x) i y ≡ slice_set xs i y
set-set [] i x y = refl
set-set (z ∷ zs) zero x y = refl
set-set (z ∷ zs) (suc i) x y = ap (λ ws. z ∷ ws) (set-set zs i x y)

pub set-same : {A : Type 0} (xs : List A) (i : ℕ) (x : A) → slice_get xs i ≡ Some x → slice_set xs i x ≡ xs
set-same [] i x h = refl
set-same (z ∷ zs) zero x h = ap (λ w. w ∷ zs) (sym (same_Some z x h))
set-same (z ∷ zs) (suc i) x h = ap (λ ws. z ∷ ws) (set-same zs i x h)
