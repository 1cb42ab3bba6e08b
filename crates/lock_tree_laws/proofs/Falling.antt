-- Lists of numbers by where they first differ, and sums that fall.
use Rattle.std.proofs.Common.{◌≡◌, ℕ, ◌+◌, ◌<◌, ◌≤◌, Bool, true, false, refl, sym, ◌∙◌, subst, ◌⊎◌, inl, inr, List, [], ◌∷◌, arith}
use Rattle.std.specs.Prelude.{cond}
use Rattle.std.specs.List.{list_any, sum_by, count_by}
use Rattle.std.proofs.Math.Nat.{eq-or-lt_of_le}
use Rattle.std.proofs.lemmas.Bool.{false≢true, or_cases}
use Rattle.std.proofs.lemmas.List.Sums.{sum_by-cons, sum_by-le-sum_by}
use Rattle.rdb_types.specs.declared.node.Level.{Level}
use Rattle.rdb_types.specs.declared.node.Level.TheVariants.{Area, Range, Page, Line, Journal}
use Rattle.lock_tree_laws.specs.Room.{depth}
use Rattle.lock_tree_laws.specs.Progress.{IsLess, IsAtMost}

-- ---- the order

-- where the first numbers don't rise, and the rest is less
then-less : {A : Type 0} (x y : ℕ) → x ≤ y → A → (x < y) ⊎ ((x ≡ y) × A)
then-less x y h l = elim (eq-or-lt_of_le h) [ inl e ↦ inr (e, l) | inr f ↦ inl f ]

pub less-trans : (xs ys zs : List ℕ) → IsLess xs ys → IsLess ys zs → IsLess xs zs
less-trans (x ∷ xs) (y ∷ ys) (z ∷ zs) (inl f) (inl g) = inl (omega arith)
less-trans (x ∷ xs) (y ∷ ys) (z ∷ zs) (inl f) (inr g) = inl (subst (λ (n : ℕ). x < n) g.0 f)
less-trans (x ∷ xs) (y ∷ ys) (z ∷ zs) (inr f) (inl g) = inl (subst (λ (n : ℕ). n < z) (sym f.0) g)
less-trans (x ∷ xs) (y ∷ ys) (z ∷ zs) (inr f) (inr g) = inr (f.0 ∙ g.0, less-trans xs ys zs f.1 g.1)
less-trans [] ys zs f g = absurd f
less-trans (x ∷ xs) [] zs f g = absurd f
less-trans (x ∷ xs) (y ∷ ys) [] f g = absurd g

pub most-less : (xs ys zs : List ℕ) → IsAtMost xs ys → IsLess ys zs → IsLess xs zs
most-less xs ys zs (inl e) g = subst (λ (l : List ℕ). IsLess l zs) (sym e) g
most-less xs ys zs (inr f) g = less-trans xs ys zs f g

pub less-most : (xs ys zs : List ℕ) → IsLess xs ys → IsAtMost ys zs → IsLess xs zs
less-most xs ys zs f (inl e) = subst (IsLess xs) e f
less-most xs ys zs f (inr g) = less-trans xs ys zs f g

pub most-trans : (xs ys zs : List ℕ) → IsAtMost xs ys → IsAtMost ys zs → IsAtMost xs zs
most-trans xs ys zs (inl e) g = subst (λ (l : List ℕ). IsAtMost l zs) (sym e) g
most-trans xs ys zs (inr f) g = inr (less-most xs ys zs f g)

-- ---- sums

module _ {X : Type 0} (f g : X → ℕ) (most : (x : X) → f x ≤ g x) where
  -- a sum of terms that are no larger, and of which one that passes the test is less
  pub sum-less : (test : X → Bool) → ((x : X) → test x ≡ true → f x < g x) → (xs : List X) → list_any test xs ≡ true → sum_by f xs < sum_by g xs
  sum-less test less [] h = absurd (false≢true h)
  sum-less test less (x ∷ xs) h =
      subst (λ (n : ℕ). n < sum_by g (x ∷ xs)) (sym (sum_by-cons f x xs))
      (subst (λ (n : ℕ). f x + sum_by f xs < n) (sym (sum_by-cons g x xs))
      (elim (or_cases (test x) (list_any test xs) h) [
        | inl t ↦ first (f x) (g x) (sum_by f xs) (sum_by g xs) (less x t) (sum_by-le-sum_by f g xs most)
        | inr r ↦ later (f x) (g x) (sum_by f xs) (sum_by g xs) (most x) (sum-less test less xs r)
      ]))
    where
      first : (a b c d : ℕ) → a < b → c ≤ d → a + c < b + d
      first a b c d h k = omega arith

      later : (a b c d : ℕ) → a ≤ b → c < d → a + c < b + d
      later a b c d h k = omega arith

module _ {X : Type 0} (p q : X → Bool) (most : (x : X) → p x ≡ true → q x ≡ true) where
  one-most : (b c : Bool) → (b ≡ true → c ≡ true) → cond b 1 0 ≤ cond c 1 0
  one-most true true f = omega arith
  one-most true false f = absurd (false≢true (f refl))
  one-most false true f = omega arith
  one-most false false f = omega arith

  each-most : (x : X) → cond (p x) 1 0 ≤ cond (q x) 1 0
  each-most x = one-most (p x) (q x) (most x)

  pub count-most : (xs : List X) → count_by p xs ≤ count_by q xs
  count-most xs = sum_by-le-sum_by (λ x. cond (p x) 1 0) (λ x. cond (q x) 1 0) xs each-most

  pub count-less : (test : X → Bool) → ((x : X) → test x ≡ true → p x ≡ false) → ((x : X) → test x ≡ true → q x ≡ true) → (xs : List X) → list_any test xs ≡ true → count_by p xs < count_by q xs
  count-less test fails passes xs h =
      sum-less (λ x. cond (p x) 1 0) (λ x. cond (q x) 1 0) each-most test
      (λ x t. one-less (p x) (q x) (fails x t) (passes x t)) xs h
    where
      one-less : (b c : Bool) → b ≡ false → c ≡ true → cond b 1 0 < cond c 1 0
      one-less false true e f = omega arith
      one-less true c e f = absurd (false≢true (sym e))
      one-less false false e f = absurd (false≢true f)

-- ---- level by level

-- the level with which a level is counted
abbrev pub counted_at : Level → Level
counted_at Journal = Area
counted_at l = l

module _ (f g : Level → ℕ) where
  from_level : (l : Level) → ((k : Level) → depth k ≤ depth l → f k ≤ g k) → f (counted_at l) < g (counted_at l) → IsLess (f Area ∷ f Range ∷ f Page ∷ f Line ∷ []) (g Area ∷ g Range ∷ g Page ∷ g Line ∷ [])
  from_level Area m c = inl c
  from_level Range m c = then-less (f Area) (g Area) (m Area (omega arith)) (inl c)
  from_level Page m c = then-less (f Area) (g Area) (m Area (omega arith)) (then-less (f Range) (g Range) (m Range (omega arith)) (inl c))
  from_level Line m c =
      then-less (f Area) (g Area) (m Area (omega arith))
      (then-less (f Range) (g Range) (m Range (omega arith)) (then-less (f Page) (g Page) (m Page (omega arith)) (inl c)))
  from_level Journal m c = inl c

  -- What is no more at the levels down to one, and less there, is less level by level from the top.
  pub less-by_level : (l : Level) (a b : ℕ) → a ≤ b → ((k : Level) → depth k ≤ depth l → f k ≤ g k) → f (counted_at l) < g (counted_at l) → IsLess (a ∷ f Area ∷ f Range ∷ f Page ∷ f Line ∷ []) (b ∷ g Area ∷ g Range ∷ g Page ∷ g Line ∷ [])
  less-by_level l a b h m c = then-less a b h (from_level l m c)
