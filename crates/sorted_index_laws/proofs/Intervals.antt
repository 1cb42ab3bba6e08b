-- The keys of an interval follow one another.
use Rattle.std.proofs.Common.{◌≡◌, ℕ, zero, suc, Bool, true, false, not, List, [], ◌∷◌, length, take, Option, Some, None, refl, sym, ap, ◌∙◌}
use Rattle.std.specs.declared.cmp.Ordering.{Ordering}
use Rattle.std.specs.declared.cmp.Ordering.TheVariants.{Less, Equal, Greater}
use Rattle.std.specs.Ordering.{is_lt, is_le, is_gt, is_ge, ordering_then, ordering_reverse}
use Rattle.std.proofs.lemmas.Cmp.{upto}
use Rattle.rdb_types.specs.declared.values.Value.{Value}
use Rattle.rdb_types.specs.Order.{value_order, row_order}
use Rattle.rdb_types.specs.OrderLaws.{row_total}
use Rattle.sorted_index_laws.specs.declared.bounds.Bounds.{Bounds}
use Rattle.sorted_index_laws.specs.Keys.{Interval, only, is_below_low, is_above_high, between}

-- a key up to one that is below is below, and one from a key on that is above is above
pub record IsConvex (s : Interval) : Type 0 where
  pub lower : (p q : List Value) → is_gt (row_order p q) ≡ false → s.is_below q ≡ true → s.is_below p ≡ true
  pub higher : (p q : List Value) → is_gt (row_order p q) ≡ false → s.is_above p ≡ true → s.is_above q ≡ true

-- ---- keys up to one another, and a key beside both

le_is : (o : Ordering) → is_le o ≡ not (is_gt o)
le_is Less = refl
le_is Equal = refl
le_is Greater = refl

ge_is : (o : Ordering) → is_ge o ≡ not (is_lt o)
ge_is Less = refl
ge_is Equal = refl
ge_is Greater = refl

turned : (o : Ordering) → is_lt (ordering_reverse o) ≡ is_gt o
turned Less = refl
turned Equal = refl
turned Greater = refl

lt_is : (x y : List Value) → is_lt (row_order x y) ≡ is_gt (row_order y x)
lt_is x y = ap is_lt (row_total.antisymm x y) ∙ turned (row_order y x)

not_true : (b : Bool) → not b ≡ true → b ≡ false
not_true true h = absurd (cc)
not_true false h = refl

by_false : (b : Bool) → (b ≡ false → ⊥) → b ≡ true
by_false true h = refl
by_false false h = absurd (h refl)

clash : (b : Bool) → b ≡ true → b ≡ false → ⊥
clash true h k = absurd (cc)
clash false h k = absurd (cc)

gt_up : (p q k : List Value) → is_gt (row_order p q) ≡ false → is_gt (row_order p k) ≡ true → is_gt (row_order q k) ≡ true
gt_up p q k upto_q gt = by_false (is_gt (row_order q k)) (λ le. clash (is_gt (row_order p k)) gt (upto row_total p q k upto_q le))

lt_down : (p q k : List Value) → is_gt (row_order p q) ≡ false → is_lt (row_order q k) ≡ true → is_lt (row_order p k) ≡ true
lt_down p q k upto_q lt =
    lt_is p k ∙ by_false (is_gt (row_order k p)) (λ le. clash (is_gt (row_order k q)) (sym (lt_is q k) ∙ lt) (upto row_total k p q le upto_q))

le_down : (p q k : List Value) → is_gt (row_order p q) ≡ false → is_le (row_order q k) ≡ true → is_le (row_order p k) ≡ true
le_down p q k upto_q le =
    le_is (row_order p k) ∙ ap not (upto row_total p q k upto_q (not_true (is_gt (row_order q k)) (sym (le_is (row_order q k)) ∙ le)))

ge_up : (p q k : List Value) → is_gt (row_order p q) ≡ false → is_ge (row_order p k) ≡ true → is_ge (row_order q k) ≡ true
ge_up p q k upto_q ge =
    let not_lt : is_lt (row_order p k) ≡ false = not_true (is_lt (row_order p k)) (sym (ge_is (row_order p k)) ∙ ge) in
    ge_is (row_order q k) ∙ ap not (lt_is q k ∙ upto row_total k p q (sym (lt_is p k) ∙ not_lt) upto_q)

-- ---- first values

first_upto : (m : ℕ) (p q : List Value) → is_gt (row_order p q) ≡ false → is_gt (row_order (take m p) (take m q)) ≡ false
first_upto zero p q h = refl
first_upto (suc m) [] [] h = refl
first_upto (suc m) [] (y ∷ ys) h = refl
first_upto (suc m) (x ∷ xs) [] h = absurd (cc)
first_upto (suc m) (x ∷ xs) (y ∷ ys) h = elim (value_order x y) as (λ r. is_gt (ordering_then r (row_order xs ys)) ≡ false → is_gt (ordering_then r (row_order (take m xs) (take m ys))) ≡ false) [
  | Less ↦ λ g. refl
  | Equal ↦ λ g. first_upto m xs ys g
  | Greater ↦ λ g. absurd (cc)
] h

below_lower : (low : Option (List Value)) (low_in : Bool) (p q : List Value) → is_gt (row_order p q) ≡ false → is_below_low low low_in q ≡ true → is_below_low low low_in p ≡ true
below_lower None low_in p q h below = absurd (cc)
below_lower (Some low) true p q h below = lt_down (take (length low) p) (take (length low) q) low (first_upto (length low) p q h) below
below_lower (Some low) false p q h below = le_down (take (length low) p) (take (length low) q) low (first_upto (length low) p q h) below

above_higher : (high : Option (List Value)) (high_in : Bool) (p q : List Value) → is_gt (row_order p q) ≡ false → is_above_high high high_in p ≡ true → is_above_high high high_in q ≡ true
above_higher None high_in p q h above = absurd (cc)
above_higher (Some high) true p q h above = gt_up (take (length high) p) (take (length high) q) high (first_upto (length high) p q h) above
above_higher (Some high) false p q h above = ge_up (take (length high) p) (take (length high) q) high (first_upto (length high) p q h) above

pub one_convex : (key : List Value) → IsConvex (only key)
one_convex key = record { lower = λ p q. lt_down p q key; higher = λ p q. gt_up p q key }

pub bounds_convex : (bounds : Bounds) → IsConvex (between bounds)
bounds_convex bounds = record { lower = below_lower bounds.low bounds.low_in; higher = above_higher bounds.high bounds.high_in }
