-- Small laws of numbers and of functions that are changed at one session.
use Rattle.std.proofs.Common.{◌≡◌, ℕ, ◌==◌, true, false, refl, arith}
use Rattle.rdb_account.specs.Places.{at}

pub same-number : (s : ℕ) → (s == s) ≡ true
same-number s = grind arith

pub number : (a b : ℕ) → (a == b) ≡ true → a ≡ b
number a b e = grind arith

pub turned : (s t : ℕ) → (t == s) ≡ false → (s == t) ≡ false
turned s t h = grind arith

pub at-same : {A : Type 0} (s : ℕ) (x : A) (f : ℕ → A) → at s x f s ≡ x
at-same s x f = rw (same-number s) refl

pub at-other : {A : Type 0} (s t : ℕ) (x : A) (f : ℕ → A) → (t == s) ≡ false → at s x f t ≡ f t
at-other s t x f h = rw h refl
