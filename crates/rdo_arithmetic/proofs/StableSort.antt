-- A list that is in order and keeps its ties as they stood is the one that the definition of a stable sort gives.
use Rattle.std.proofs.Common.{◌≡◌, ℕ, suc, ◌+◌, ◌<◌, Bool, true, false, cond, ◌&&◌, not, List, [], ◌∷◌, map, length, get_or, refl, ap, sym, subst, ◌∙◌, arith}
use Rattle.std.specs.List.{filter}
use Rattle.std.specs.List.Sorted.{IsSortedBy, IsStableBy, ties}
use Rattle.std.specs.Cmp.{IsTotalOrder, IsStrictWeakOrder}
use Rattle.std.specs.declared.cmp.Ordering.{Ordering}
use Rattle.std.specs.declared.cmp.Ordering.TheVariants.{Less, Equal, Greater}
use Rattle.std.specs.Ordering.{is_lt, is_gt, ordering_reverse}
use Rattle.std.proofs.lemmas.List.Sorted.{ranks_by, sorted_far}
use Rattle.std.proofs.lemmas.Cmp.{tied_itself}
use Rattle.std.proofs.lemmas.Bool.{true≢false}
use Rattle.rdb_meaning.specs.Selecting.{placed, stably_sorted}

-- ---- tests

both_true : (a b : Bool) → a ≡ false → b ≡ false → (not a && not b) ≡ true
both_true a b e f = (λ i. not (e i) && not (f i))

first_false : (a b : Bool) → (not a && not b) ≡ true → a ≡ false
first_false true b e = absurd (true≢false (sym e))
first_false false b e = refl

second_false : (a b : Bool) → (not a && not b) ≡ true → b ≡ false
second_false true b e = absurd (true≢false (sym e))
second_false false true e = absurd (true≢false (sym e))
second_false false false e = refl

reversed_gt : (r : Ordering) → is_gt (ordering_reverse r) ≡ is_lt r
reversed_gt Less = refl
reversed_gt Equal = refl
reversed_gt Greater = refl

-- two elements of which at most one passes may change places
swapped : {X : Type 0} (a b : Bool) (x y : X) (zs : List X) → (a ≡ true → b ≡ true → ⊥) → cond b (y ∷ cond a (x ∷ zs) zs) (cond a (x ∷ zs) zs) ≡ cond a (x ∷ cond b (y ∷ zs) zs) (cond b (y ∷ zs) zs)
swapped true true x y zs h = absurd (h refl refl)
swapped true false x y zs h = refl
swapped false true x y zs h = refl
swapped false false x y zs h = refl

same_tail : {X : Type 0} (b : Bool) (x : X) (ys zs : List X) → cond b (x ∷ ys) ys ≡ cond b (x ∷ zs) zs → ys ≡ zs
same_tail true x ys zs e = cc
same_tail false x ys zs e = e

module _ {X : Type 0} (lt : X → X → Bool) where
  -- none of the list is less than x
  abbrev pub Above : X → List X → Type 0
  Above x [] = Unit {0}
  Above x (y ∷ ys) = (lt y x ≡ false) × Above x ys

  abbrev pub InOrder : List X → Type 0
  InOrder [] = Unit {0}
  InOrder (x ∷ xs) = Above x xs × InOrder xs

  module _ (w : IsStrictWeakOrder lt) (self : (x : X) → lt x x ≡ false) where
    above_from : (x : X) (ys : List X) → ((j : ℕ) (d : X) → j < length ys → lt (get_or ys j d) x ≡ false) → Above x ys
    above_from x [] h = tt
    above_from x (y ∷ ys) h = (h 0 y (omega arith), above_from x ys (λ j d k. h (suc j) d (omega arith)))

    tail_sorted : (x : X) (ys : List X) → IsSortedBy lt (x ∷ ys) → IsSortedBy lt ys
    tail_sorted x ys up k d h n =
        let at : suc (k + 1) ≡ suc k + 1 = omega arith in
        subst (λ m. lt (get_or (x ∷ ys) m d) (get_or ys k d) ≡ false) (sym at) (up (suc k) d (omega arith) (omega arith))

    pub in_order : (xs : List X) → IsSortedBy lt xs → InOrder xs
    in_order [] up = tt
    in_order (x ∷ xs) up = (above_from x xs (λ j d h. sorted_far lt w (x ∷ xs) up 0 (suc j) d (omega arith) (omega arith)), in_order xs (tail_sorted x xs up))

    above_all : (x y : X) (zs : List X) → lt y x ≡ false → Above y zs → Above x zs
    above_all x y [] h a = tt
    above_all x y (z ∷ zs) h a = (w.chain z y x a.0 h, above_all x y zs h a.1)

    passes_case : (y z r v : X) (zs rest : List X) (b : Bool) → ties lt y v ≡ b → cond b (v ∷ filter (ties lt y) zs) (filter (ties lt y) zs) ≡ r ∷ rest → lt v z ≡ false → (filter (ties lt y) zs ≡ r ∷ rest → lt y z ≡ false) → lt y z ≡ false
    passes_case y z r v zs rest true t e a further = w.chain y v z (first_false (lt y v) (lt v y) t) a
    passes_case y z r v zs rest false t e a further = further e

    -- what passes of a list in order is not below its head
    passes_above : (y z r : X) (zs rest : List X) → filter (ties lt y) zs ≡ r ∷ rest → Above z zs → lt y z ≡ false
    passes_above y z r [] rest e a = cc
    passes_above y z r (v ∷ zs) rest e a = passes_case y z r v zs rest (ties lt y v) refl e a.0 (λ f. passes_above y z r zs rest f a.1)

    ties_self : (x : X) → ties lt x x ≡ true
    ties_self x = both_true (lt x x) (lt x x) (self x) (self x)

    own_first : (x : X) (xs : List X) → filter (ties lt x) (x ∷ xs) ≡ x ∷ filter (ties lt x) xs
    own_first x xs = ap (λ b. cond b (x ∷ filter (ties lt x) xs) (filter (ties lt x) xs)) (ties_self x)

    not_below : (y z : X) (ys zs : List X) → InOrder (z ∷ zs) → filter (ties lt y) (y ∷ ys) ≡ filter (ties lt y) (z ∷ zs) → lt y z ≡ false
    not_below y z ys zs o f = passes_above y z y (z ∷ zs) (filter (ties lt y) ys) (sym f ∙ own_first y ys) (self z, o.0)

    -- two lists in order whose ties stand alike are one list
    pub unique : (ys zs : List X) → InOrder ys → InOrder zs → ((x : X) → filter (ties lt x) ys ≡ filter (ties lt x) zs) → ys ≡ zs
    unique [] [] o p f = refl
    unique [] (z ∷ zs) o p f = absurd (nothing z zs (f z ∙ own_first z zs))
      where
        nothing : (z : X) (zs : List X) → [] ≡ z ∷ filter (ties lt z) zs → ⊥
        nothing z zs e = cc
    unique (y ∷ ys) [] o p f = absurd (nothing y ys (sym (f y) ∙ own_first y ys))
      where
        nothing : (y : X) (ys : List X) → [] ≡ y ∷ filter (ties lt y) ys → ⊥
        nothing y ys e = cc
    unique (y ∷ ys) (z ∷ zs) o p f =
        let below = not_below y z ys zs p (f y) in
        let above = not_below z y zs ys o (sym (f z)) in
        let tie : ties lt y z ≡ true = both_true (lt y z) (lt z y) below above in
        let firsts : y ∷ filter (ties lt y) ys ≡ z ∷ filter (ties lt y) zs = sym (own_first y ys) ∙ f y ∙ ap (λ b. cond b (z ∷ filter (ties lt y) zs) (filter (ties lt y) zs)) tie in
        let head : y ≡ z = cc in
        let rests = λ (x : X). same_tail (ties lt x y) y (filter (ties lt x) ys) (filter (ties lt x) zs) (f x ∙ ap (λ u. cond (ties lt x u) (u ∷ filter (ties lt x) zs) (filter (ties lt x) zs)) (sym head)) in
        (λ i. head i ∷ unique ys zs o.1 p.1 rests i)

-- ---- the definition's sort

module _ {X : Type 0} (R : X → X → Ordering) (o : IsTotalOrder R) where
  abbrev less : X → X → Bool
  less x y = is_lt (R x y)

  weak : IsStrictWeakOrder less
  weak = ranks_by o (λ x. x)

  less_self : (x : X) → less x x ≡ false
  less_self x = ap is_lt (tied_itself o x)

  greater_is : (x y : X) → is_gt (R x y) ≡ less y x
  greater_is x y = ap is_gt (o.antisymm x y) ∙ reversed_gt (R y x)

  above_case : (x y z : X) (zs : List X) (b : Bool) → less x y ≡ false → Above less y (z ∷ zs) → Above less y (placed R x zs) → Above less y (cond b (z ∷ placed R x zs) (x ∷ z ∷ zs))
  above_case x y z zs true h a further = (a.0, further)
  above_case x y z zs false h a further = (h, a)

  above_placed : (x y : X) (ys : List X) → less x y ≡ false → Above less y ys → Above less y (placed R x ys)
  above_placed x y [] h a = (h, tt)
  above_placed x y (z ∷ zs) h a = above_case x y z zs (is_gt (R x z)) h a (above_placed x y zs h a.1)

  placed_case : (x y : X) (ys : List X) (b : Bool) → is_gt (R x y) ≡ b → InOrder less (y ∷ ys) → InOrder less (placed R x ys) → InOrder less (cond b (y ∷ placed R x ys) (x ∷ y ∷ ys))
  placed_case x y ys true e h further = (above_placed x y ys (weak.one_way y x (sym (greater_is x y) ∙ e)) h.0, further)
  placed_case x y ys false e h further =
      let above : less y x ≡ false = sym (greater_is x y) ∙ e in
      ((above, above_all less weak less_self x y ys above h.0), h)

  placed_order : (x : X) (ys : List X) → InOrder less ys → InOrder less (placed R x ys)
  placed_order x [] h = (tt, tt)
  placed_order x (y ∷ ys) h = placed_case x y ys (is_gt (R x y)) refl h (placed_order x ys h.1)

  stably_order : (xs : List X) → InOrder less (stably_sorted R xs)
  stably_order [] = tt
  stably_order (x ∷ xs) = placed_order x (stably_sorted R xs) (stably_order xs)

  not_both : (z x y : X) → less y x ≡ true → ties less z x ≡ true → ties less z y ≡ true → ⊥
  not_both z x y h a b =
      let e : less y x ≡ false = weak.chain y z x (second_false (less z y) (less y z) b) (first_false (less z x) (less x z) a) in
      true≢false (sym h ∙ e)

  filter_case : (z x y : X) (ys : List X) (b : Bool) → is_gt (R x y) ≡ b → filter (ties less z) (placed R x ys) ≡ filter (ties less z) (x ∷ ys) → filter (ties less z) (cond b (y ∷ placed R x ys) (x ∷ y ∷ ys)) ≡ filter (ties less z) (x ∷ y ∷ ys)
  filter_case z x y ys true e further =
      ap (λ fs. cond (ties less z y) (y ∷ fs) fs) further
      ∙ swapped (ties less z x) (ties less z y) x y (filter (ties less z) ys) (not_both z x y (sym (greater_is x y) ∙ e))
  filter_case z x y ys false e further = refl

  placed_filter : (z x : X) (ys : List X) → filter (ties less z) (placed R x ys) ≡ filter (ties less z) (x ∷ ys)
  placed_filter z x [] = refl
  placed_filter z x (y ∷ ys) = filter_case z x y ys (is_gt (R x y)) refl (placed_filter z x ys)

  stably_filter : (z : X) (xs : List X) → filter (ties less z) (stably_sorted R xs) ≡ filter (ties less z) xs
  stably_filter z [] = refl
  stably_filter z (x ∷ xs) = placed_filter z x (stably_sorted R xs) ∙ ap (λ fs. cond (ties less z x) (x ∷ fs) fs) (stably_filter z xs)

  pub sort_is : (xs ys : List X) → IsSortedBy less ys → IsStableBy less xs ys → ys ≡ stably_sorted R xs
  sort_is xs ys up stable =
      unique less weak less_self ys (stably_sorted R xs) (in_order less weak less_self ys up) (stably_order xs) (λ z. stable z ∙ sym (stably_filter z xs))

-- ---- what is sorted may be seen through a function

placed_map : {A B : Type 0} (f : A → B) (S : A → A → Ordering) (R : B → B → Ordering) → ((a b : A) → R (f a) (f b) ≡ S a b) → (x : A) (xs : List A) → map f (placed S x xs) ≡ placed R (f x) (map f xs)
placed_map f S R same x [] = refl
placed_map {A} {B} f S R same x (y ∷ ys) =
    through_cond (is_gt (S x y)) (y ∷ placed S x ys) (x ∷ y ∷ ys)
    ∙ ap (λ zs. cond (is_gt (S x y)) (f y ∷ zs) (f x ∷ f y ∷ map f ys)) (placed_map f S R same x ys)
    ∙ ap (λ o. cond (is_gt o) (f y ∷ placed R (f x) (map f ys)) (f x ∷ f y ∷ map f ys)) (sym (same x y))
  where
    through_cond : (b : Bool) (xs ys : List A) → map f (cond b xs ys) ≡ cond b (map f xs) (map f ys)
    through_cond true xs ys = refl
    through_cond false xs ys = refl

pub sorted_map : {A B : Type 0} (f : A → B) (S : A → A → Ordering) (R : B → B → Ordering) → ((a b : A) → R (f a) (f b) ≡ S a b) → (xs : List A) → map f (stably_sorted S xs) ≡ stably_sorted R (map f xs)
sorted_map f S R same [] = refl
sorted_map f S R same (x ∷ xs) = placed_map f S R same x (stably_sorted S xs) ∙ ap (placed R (f x)) (sorted_map f S R same xs)

-- with no key all stays as it stands
pub sorted_by_none : {A : Type 0} (xs : List A) → stably_sorted (λ a b. Equal) xs ≡ xs
sorted_by_none [] = refl
sorted_by_none (x ∷ xs) = placed_first x (stably_sorted (λ a b. Equal) xs) ∙ ap (λ ys. x ∷ ys) (sorted_by_none xs)
  where
    placed_first : {A : Type 0} (x : A) (ys : List A) → placed (λ a b. Equal) x ys ≡ x ∷ ys
    placed_first x [] = refl
    placed_first x (y ∷ ys) = refl
