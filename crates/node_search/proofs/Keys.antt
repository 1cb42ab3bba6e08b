-- Keys compared value by value.
use Rattle.std.proofs.Common.{ℕ, ◌<◌, ◌≤◌, ◌≡◌, true, false, List, [], ◌∷◌, length, take, arith, sym, ap, refl, ◌∙◌}
use Rattle.std.specs.declared.cmp.Ordering.{Ordering}
use Rattle.std.specs.declared.cmp.Ordering.TheVariants.{Less, Equal, Greater}
use Rattle.std.specs.Ordering.{ordering_then, is_ne}
use Rattle.rdb_types.specs.declared.values.Value.{Value}
use Rattle.rdb_types.specs.Order.{value_order, row_order}
use Rattle.record_format.specs.Lists.{StandsAt}
use Rattle.record_format.specs.Values.{value_fields, IsValue, AreValues}
use Rattle.record_format.proofs.Values.{values_code}
use Rattle.node_search.specs.Keys.{order_by}
use Rattle.node_search.proofs.Listed.{found_next, none_next, ended_next}

-- ---- the order as one of lists

pub order_whole : (values others : List Value) → order_by Greater values others ≡ row_order values others
order_whole [] [] = refl
order_whole [] (other ∷ others) = refl
order_whole (value ∷ values) [] = refl
order_whole (value ∷ values) (other ∷ others) = ap (ordering_then (value_order value other)) (order_whole values others)

pub order_first : (values bound : List Value) → order_by Equal values bound ≡ row_order (take (length bound) values) bound
order_first [] [] = refl
order_first [] (other ∷ bound) = refl
order_first (value ∷ values) [] = refl
order_first (value ∷ values) (other ∷ bound) = ap (ordering_then (value_order value other)) (order_first values bound)

then_equal : (o r : Ordering) → is_ne o ≡ false → ordering_then o r ≡ r
then_equal Less r same = cc
then_equal Equal r same = refl
then_equal Greater r same = cc

then_apart : (o r : Ordering) → is_ne o ≡ true → ordering_then o r ≡ o
then_apart Less r apart = refl
then_apart Equal r apart = cc
then_apart Greater r apart = refl

-- ---- a key and values

-- what is left of the key compares with the values that are left as the whole with all
pub record IsLeft (more : Ordering) (bytes : List ℕ) (at : ℕ) (values others left : List Value) : Type 0 where
  pub rest : List Value
  pub are : AreValues bytes at rest
  pub same : order_by more values others ≡ order_by more rest left

pub left_none : (more : Ordering) (bytes : List ℕ) (at : ℕ) (values others left behind : List Value) (other : Value) → left ≡ other ∷ behind → ((value : Value) (end : ℕ) → StandsAt value_fields IsValue bytes at value end → ⊥) → IsLeft more bytes at values others left → Less ≡ order_by more values others
left_none more bytes at values others left behind other is none was =
    let ended = none_next value_fields IsValue bytes at was.rest none was.are in
    sym (was.same ∙ ap (order_by more was.rest) is ∙ ap (λ rest. order_by more rest (other ∷ behind)) ended)

pub left_apart : (more : Ordering) (bytes : List ℕ) (at end : ℕ) (values others left behind : List Value) (value other : Value) (o : Ordering) → left ≡ other ∷ behind → StandsAt value_fields IsValue bytes at value end → o ≡ value_order value other → is_ne o ≡ true → IsLeft more bytes at values others left → o ≡ order_by more values others
left_apart more bytes at end values others left behind value other o is stands order apart was =
    let next = found_next value_fields IsValue bytes (values_code bytes) at end value was.rest stands was.are in
    sym (was.same ∙ ap (order_by more was.rest) is ∙ ap (λ rest. order_by more rest (other ∷ behind)) next.is
    ∙ ap (λ r. ordering_then r (order_by more next.rest behind)) (sym order) ∙ then_apart o (order_by more next.rest behind) apart)

pub left_same : (more : Ordering) (bytes : List ℕ) (at end : ℕ) (values others left behind : List Value) (value other : Value) (o : Ordering) → left ≡ other ∷ behind → StandsAt value_fields IsValue bytes at value end → o ≡ value_order value other → is_ne o ≡ false → IsLeft more bytes at values others left → IsLeft more bytes end values others behind
left_same more bytes at end values others left behind value other o is stands order same was =
    let next = found_next value_fields IsValue bytes (values_code bytes) at end value was.rest stands was.are in
    record {
      rest = next.rest;
      are = next.behind;
      same = was.same ∙ ap (order_by more was.rest) is ∙ ap (λ rest. order_by more rest (other ∷ behind)) next.is
          ∙ ap (λ r. ordering_then r (order_by more next.rest behind)) (sym order) ∙ then_equal o (order_by more next.rest behind) same;
    }

more_left : (more : Ordering) (bytes : List ℕ) (at : ℕ) (rest : List Value) → at < length bytes → AreValues bytes at rest → order_by more rest [] ≡ more
more_left more bytes at [] inside are = absurd (omega (arith, inside, are.fields))
more_left more bytes at (value ∷ rest) inside are = refl

pub left_more : (more : Ordering) (bytes : List ℕ) (at : ℕ) (values others left : List Value) → left ≡ [] → at < length bytes → IsLeft more bytes at values others left → more ≡ order_by more values others
left_more more bytes at values others left ended inside was = sym (was.same ∙ ap (order_by more was.rest) ended ∙ more_left more bytes at was.rest inside was.are)

pub left_ended : (more : Ordering) (bytes : List ℕ) (at : ℕ) (values others left : List Value) → left ≡ [] → length bytes ≤ at → IsLeft more bytes at values others left → Equal ≡ order_by more values others
left_ended more bytes at values others left ended past was =
    sym (was.same ∙ ap (order_by more was.rest) ended ∙ ap (λ rest. order_by more rest []) (ended_next value_fields IsValue bytes (values_code bytes) at was.rest past was.are))

-- ---- two keys

-- what is left of the keys compares as they do
pub record AreLeft (a b : List ℕ) (at other_at : ℕ) (values others : List Value) : Type 0 where
  pub rest : List Value
  pub other_rest : List Value
  pub are : AreValues a at rest
  pub other_are : AreValues b other_at other_rest
  pub same : row_order values others ≡ row_order rest other_rest

pub both_longer : (a b : List ℕ) (at other_at end : ℕ) (values others : List Value) (value : Value) → StandsAt value_fields IsValue a at value end → ((other : Value) (end : ℕ) → StandsAt value_fields IsValue b other_at other end → ⊥) → AreLeft a b at other_at values others → Greater ≡ row_order values others
both_longer a b at other_at end values others value stands none was =
    let next = found_next value_fields IsValue a (values_code a) at end value was.rest stands was.are in
    sym (was.same ∙ ap (λ rest. row_order rest was.other_rest) next.is ∙ ap (row_order (value ∷ next.rest)) (none_next value_fields IsValue b other_at was.other_rest none was.other_are))

pub both_apart : (a b : List ℕ) (at other_at end other_end : ℕ) (values others : List Value) (value other : Value) (o : Ordering) → StandsAt value_fields IsValue a at value end → StandsAt value_fields IsValue b other_at other other_end → o ≡ value_order value other → is_ne o ≡ true → AreLeft a b at other_at values others → o ≡ row_order values others
both_apart a b at other_at end other_end values others value other o stands also order apart was =
    let next = found_next value_fields IsValue a (values_code a) at end value was.rest stands was.are in
    let third = found_next value_fields IsValue b (values_code b) other_at other_end other was.other_rest also was.other_are in
    sym (was.same ∙ ap (λ rest. row_order rest was.other_rest) next.is ∙ ap (row_order (value ∷ next.rest)) third.is
    ∙ ap (λ r. ordering_then r (row_order next.rest third.rest)) (sym order) ∙ then_apart o (row_order next.rest third.rest) apart)

pub both_same : (a b : List ℕ) (at other_at end other_end : ℕ) (values others : List Value) (value other : Value) (o : Ordering) → StandsAt value_fields IsValue a at value end → StandsAt value_fields IsValue b other_at other other_end → o ≡ value_order value other → is_ne o ≡ false → AreLeft a b at other_at values others → AreLeft a b end other_end values others
both_same a b at other_at end other_end values others value other o stands also order same was =
    let next = found_next value_fields IsValue a (values_code a) at end value was.rest stands was.are in
    let third = found_next value_fields IsValue b (values_code b) other_at other_end other was.other_rest also was.other_are in
    record {
      rest = next.rest;
      other_rest = third.rest;
      are = next.behind;
      other_are = third.behind;
      same = was.same ∙ ap (λ rest. row_order rest was.other_rest) next.is ∙ ap (row_order (value ∷ next.rest)) third.is
          ∙ ap (λ r. ordering_then r (row_order next.rest third.rest)) (sym order) ∙ then_equal o (row_order next.rest third.rest) same;
    }

shorter : (b : List ℕ) (other_at : ℕ) (rest : List Value) → other_at < length b → AreValues b other_at rest → row_order [] rest ≡ Less
shorter b other_at [] inside are = absurd (omega (arith, inside, are.fields))
shorter b other_at (other ∷ rest) inside are = refl

pub both_shorter : (a b : List ℕ) (at other_at : ℕ) (values others : List Value) → ((value : Value) (end : ℕ) → StandsAt value_fields IsValue a at value end → ⊥) → other_at < length b → AreLeft a b at other_at values others → Less ≡ row_order values others
both_shorter a b at other_at values others none inside was =
    sym (was.same ∙ ap (λ rest. row_order rest was.other_rest) (none_next value_fields IsValue a at was.rest none was.are) ∙ shorter b other_at was.other_rest inside was.other_are)

pub both_ended : (a b : List ℕ) (at other_at : ℕ) (values others : List Value) → ((value : Value) (end : ℕ) → StandsAt value_fields IsValue a at value end → ⊥) → length b ≤ other_at → AreLeft a b at other_at values others → Equal ≡ row_order values others
both_ended a b at other_at values others none past was =
    sym (was.same ∙ ap (λ rest. row_order rest was.other_rest) (none_next value_fields IsValue a at was.rest none was.are)
    ∙ ap (row_order []) (ended_next value_fields IsValue b (values_code b) other_at was.other_rest past was.other_are))
