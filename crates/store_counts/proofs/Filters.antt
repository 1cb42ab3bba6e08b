-- How many elements a filter passes.
use Rattle.std.proofs.Common.{◌≡◌, ◌≤◌, ℕ, ◌+◌, [], ◌∷◌, Bool, true, false, List, length, cond, refl, sym, arith, inl, inr}
use Rattle.std.specs.List.{filter, list_any}
use Rattle.std.proofs.lemmas.Bool.{false≢true, or_cases}

one-less : {A : Type 0} (x : A) (ys zs : List A) → length ys ≤ length zs → (a b : Bool) → (b ≡ true → a ≡ true) → length (cond b (x ∷ ys) ys) ≤ length (cond a (x ∷ zs) zs)
one-less x ys zs h true true k = omega (arith, h)
one-less x ys zs h true false k = omega (arith, h)
one-less x ys zs h false true k = absurd (false≢true (k refl))
one-less x ys zs h false false k = h

-- what passes less passes no more
pub passes-less : {A : Type 0} (f g : A → Bool) → ((x : A) → g x ≡ true → f x ≡ true) → (xs : List A) → length (filter g xs) ≤ length (filter f xs)
passes-less f g h [] = omega arith
passes-less f g h (x ∷ xs) = one-less x (filter g xs) (filter f xs) (passes-less f g h xs) (f x) (g x) (h x)

one-fewer : {A : Type 0} (x : A) (ys zs : List A) → length ys ≤ length zs → (a b : Bool) → a ≡ true → b ≡ false → 1 + length (cond b (x ∷ ys) ys) ≤ length (cond a (x ∷ zs) zs)
one-fewer x ys zs h true true k e = absurd (false≢true (sym e))
one-fewer x ys zs h true false k e = omega (arith, h)
one-fewer x ys zs h false b k e = absurd (false≢true k)

still-fewer : {A : Type 0} (x : A) (ys zs : List A) → 1 + length ys ≤ length zs → (a b : Bool) → (b ≡ true → a ≡ true) → 1 + length (cond b (x ∷ ys) ys) ≤ length (cond a (x ∷ zs) zs)
still-fewer x ys zs h true true k = omega (arith, h)
still-fewer x ys zs h true false k = omega (arith, h)
still-fewer x ys zs h false true k = absurd (false≢true (k refl))
still-fewer x ys zs h false false k = h

-- and fewer where there is one that it doesn't pass
pub passes-fewer : {A : Type 0} (f g h : A → Bool) → ((x : A) → g x ≡ true → f x ≡ true) → ((x : A) → h x ≡ true → (f x ≡ true) × (g x ≡ false)) → (xs : List A) → list_any h xs ≡ true → 1 + length (filter g xs) ≤ length (filter f xs)
passes-fewer f g h less differ [] any = absurd (false≢true any)
passes-fewer f g h less differ (x ∷ xs) any = elim (or_cases (h x) (list_any h xs) any) [
  | inl e ↦ one-fewer x (filter g xs) (filter f xs) (passes-less f g less xs) (f x) (g x) (differ x e).0 (differ x e).1
  | inr e ↦ still-fewer x (filter g xs) (filter f xs) (passes-fewer f g h less differ xs e) (f x) (g x) (less x)
]

one-more : {A : Type 0} (x : A) (ys : List A) (n : ℕ) → length ys ≤ n → (b : Bool) → length (cond b (x ∷ ys) ys) ≤ 1 + n
one-more x ys n h true = omega (arith, h)
one-more x ys n h false = omega (arith, h)

pub passes-most : {A : Type 0} (f : A → Bool) (xs : List A) → length (filter f xs) ≤ length xs
passes-most f [] = omega arith
passes-most f (x ∷ xs) = let h = one-more x (filter f xs) (length xs) (passes-most f xs) (f x) in omega (arith, h)
