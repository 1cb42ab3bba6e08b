-- A value that is another for one number.
use Rattle.std.proofs.Common.{◌≡◌, ◌≢◌, ℕ, ◌==◌, Bool, true, false, if◌then◌else◌, ap, refl}
use Rattle.std.proofs.lemmas.Bool.{eqb-true, eq-eqb}

pub chosen : {A : Type 0} (x y : A) (t n : ℕ) → t ≡ n → (if t == n then x else y) ≡ x
chosen x y t n same = ap (λ b. if b then x else y) (eq-eqb t n same)

pub passed_by : {A : Type 0} (x y : A) (t n : ℕ) → t ≢ n → (if t == n then x else y) ≡ y
passed_by x y t n apart = by (t == n) refl
  where
    by : (b : Bool) → (t == n) ≡ b → (if t == n then x else y) ≡ y
    by true is = absurd (apart (eqb-true t n is))
    by false is = ap (λ b. if b then x else y) is
