-- The order of lists of values with directions is a total order.
use Rattle.std.proofs.Common.{◌≡◌, ℕ, zero, suc, ◌+◌, ◌<◌, Bool, true, false, List, [], ◌∷◌, length, get_or, drop, refl, ap, sym, ◌∙◌, add-one}
use Rattle.std.proofs.lemmas.List.{at_drop_more}
use Rattle.std.specs.Cmp.{IsTotalOrder}
use Rattle.std.specs.declared.cmp.Ordering.{Ordering}
use Rattle.std.specs.declared.cmp.Ordering.TheVariants.{Equal}
use Rattle.std.specs.Ordering.{ordering_then, is_ne}
use Rattle.std.proofs.lemmas.Cmp.{on_total, then_total}
use Rattle.rdb_types.specs.declared.values.Value.{Value}
use Rattle.rdb_types.specs.declared.values.Value.TheVariants.{Missing}
use Rattle.rdo_ast.specs.declared.syntax.SortKey.{SortKey}
use Rattle.rdo_ast.specs.declared.syntax.Reference.{Reference}
use Rattle.rdb_types.specs.Order.{value_order}
use Rattle.rdb_meaning.specs.Selecting.{turned, sort_order}
use Rattle.rdb_evaluation.specs.declared.sorting.Ranked.{Ranked}
use Rattle.rdo_arithmetic.proofs.Directions.{turned_total, equal_total, then_ne, then_not_ne}
use Rattle.rdb_evaluation.specs.Sorting.{first_value, further_values, directed_order, ranked_order, key_values, directions}

-- ---- lists of values

directed_total : (ds : List Bool) → IsTotalOrder (directed_order ds)
directed_total [] = equal_total
directed_total (d ∷ ds) = then_total (on_total first_value (turned_total d)) (on_total further_values (directed_total ds))

pub ranked_total : (ds : List Bool) → IsTotalOrder (ranked_order ds)
ranked_total ds = on_total (λ (r : Ranked). r.values) (directed_total ds)

-- ---- the values that the keys read are in the order that the keys give

pub directed_is : (keys : List SortKey) (a b : Reference → Value) → directed_order (directions keys) (key_values keys a) (key_values keys b) ≡ sort_order keys a b
directed_is [] a b = refl
directed_is (k ∷ keys) a b = ap (ordering_then (turned k.descending (value_order (a k.reference) (b k.reference)))) (directed_is keys a b)

-- ---- one place further

first_is : (vs : List Value) (i : ℕ) → first_value (drop i vs) ≡ get_or vs i Missing
first_is [] zero = refl
first_is [] (suc i) = refl
first_is (v ∷ vs) zero = refl
first_is (v ∷ vs) (suc i) = first_is vs i

further_is : (vs : List Value) (i : ℕ) → further_values (drop i vs) ≡ drop (suc i) vs
further_is [] zero = refl
further_is [] (suc i) = refl
further_is (v ∷ vs) zero = refl
further_is (v ∷ vs) (suc i) = further_is vs i

directed_step : (ds : List Bool) (a b : List Value) (i : ℕ) (e : Bool) → i < length ds → directed_order (drop i ds) (drop i a) (drop i b) ≡ ordering_then (turned (get_or ds i e) (value_order (get_or a i Missing) (get_or b i Missing))) (directed_order (drop (i + 1) ds) (drop (i + 1) a) (drop (i + 1) b))
directed_step ds a b i e h =
    at_drop_more (λ es. directed_order es (drop i a) (drop i b)) ds i e h
    ∙ (λ j. ordering_then (turned (get_or ds i e) (value_order (first_is a i j) (first_is b i j))) (directed_order (drop (i + 1) ds) (further_is a i j) (further_is b i j)))
    ∙ ap (λ n. ordering_then (turned (get_or ds i e) (value_order (get_or a i Missing) (get_or b i Missing))) (directed_order (drop (i + 1) ds) (drop n a) (drop n b))) (sym (add-one i))

-- the order at a place, and that of the places behind it
one_place : (ds : List Bool) (a b : List Value) (i : ℕ) (e : Bool) (r o : Ordering) → i < length ds → directed_order ds a b ≡ directed_order (drop i ds) (drop i a) (drop i b) → r ≡ value_order (get_or a i Missing) (get_or b i Missing) → o ≡ turned (get_or ds i e) r → directed_order ds a b ≡ ordering_then o (directed_order (drop (i + 1) ds) (drop (i + 1) a) (drop (i + 1) b))
one_place ds a b i e r o h inv f g =
    inv ∙ directed_step ds a b i e h ∙ ap (λ p. ordering_then p (directed_order (drop (i + 1) ds) (drop (i + 1) a) (drop (i + 1) b))) (ap (turned (get_or ds i e)) (sym f) ∙ sym g)

pub directed_decides : (ds : List Bool) (a b : List Value) (i : ℕ) (e : Bool) (r o : Ordering) → i < length ds → directed_order ds a b ≡ directed_order (drop i ds) (drop i a) (drop i b) → r ≡ value_order (get_or a i Missing) (get_or b i Missing) → o ≡ turned (get_or ds i e) r → is_ne o ≡ true → o ≡ directed_order ds a b
directed_decides ds a b i e r o h inv f g n = sym (one_place ds a b i e r o h inv f g ∙ then_ne o (directed_order (drop (i + 1) ds) (drop (i + 1) a) (drop (i + 1) b)) n)

pub directed_more : (ds : List Bool) (a b : List Value) (i : ℕ) (e : Bool) (r o : Ordering) → i < length ds → directed_order ds a b ≡ directed_order (drop i ds) (drop i a) (drop i b) → r ≡ value_order (get_or a i Missing) (get_or b i Missing) → o ≡ turned (get_or ds i e) r → is_ne o ≡ false → directed_order ds a b ≡ directed_order (drop (i + 1) ds) (drop (i + 1) a) (drop (i + 1) b)
directed_more ds a b i e r o h inv f g n = one_place ds a b i e r o h inv f g ∙ then_not_ne o (directed_order (drop (i + 1) ds) (drop (i + 1) a) (drop (i + 1) b)) n
