-- The tuples that are sorted by their values are those of the definition.
use Rattle.std.proofs.Common.{◌≡◌, ℕ, ◌+◌, ◌<◌, Bool, true, false, cond, List, [], ◌∷◌, ◌++◌, map, length, get_or, take, refl, ap, sym, ◌∙◌}
use Rattle.std.proofs.lemmas.List.{take_more, map-append}
use Rattle.std.proofs.lemmas.List.Elements.{All-cons, All-head, All-tail}
use Rattle.std.specs.List.{All}
use Rattle.std.specs.Ordering.{is_gt}
use Rattle.std.specs.declared.cmp.Ordering.{Ordering}
use Rattle.rdb_types.specs.declared.keys.Dbkey.{Dbkey}
use Rattle.rdb_types.specs.declared.values.Value.{Value}
use Rattle.rdo_ast.specs.declared.syntax.Clause.{Clause}
use Rattle.rdo_ast.specs.declared.syntax.Range.{Range}
use Rattle.rdo_ast.specs.declared.syntax.Reference.{Reference}
use Rattle.rdo_ast.specs.declared.syntax.SortKey.{SortKey}
use Rattle.rdb_meaning.specs.declared.tables.Tables.{Tables}
use Rattle.rdb_meaning.specs.Evaluation.{Scope, Tuple}
use Rattle.rdb_meaning.specs.Selecting.{sort_keys, sort_order, reads_of, placed, stably_sorted, sorted_tuples}
use Rattle.rdb_evaluation.specs.declared.sorting.Ranked.{Ranked}
use Rattle.rdb_evaluation.specs.Sorting.{ranked_tuple, ranked_order, directions, key_values}
use Rattle.rdb_evaluation.proofs.Ranks.{directed_is}
use Rattle.rdo_arithmetic.proofs.StableSort.{sorted_map, sorted_by_none}

pub map_take_more : {A B : Type 0} (f : A → B) (xs : List A) (i : ℕ) (x : A) → i < length xs → x ≡ get_or xs i x → map f (take (i + 1) xs) ≡ map f (take i xs) ++ f x ∷ []
map_take_more f xs i x h e = ap (map f) (take_more xs i x h) ∙ map-append f (take i xs) (get_or xs i x ∷ []) ∙ ap (λ y. map f (take i xs) ++ f y ∷ []) (sym e)

without_values : (cs : List Clause) (ss : List Range) (t : Tables) (scope : Scope) (ks : List Tuple) → map (λ (r : Ranked). r.tuple) (map (ranked_tuple cs ss t scope) ks) ≡ ks
without_values cs ss t scope [] = refl
without_values cs ss t scope (k ∷ ks) = ap (λ ls. k ∷ ls) (without_values cs ss t scope ks)

pub sorted_is : (cs : List Clause) (ss : List Range) (t : Tables) (scope : Scope) (ks : List Tuple) → map (λ (r : Ranked). r.tuple) (stably_sorted (ranked_order (directions (sort_keys cs))) (map (ranked_tuple cs ss t scope) ks)) ≡ sorted_tuples cs ss t scope ks
sorted_is cs ss t scope ks =
    ap (map (λ (r : Ranked). r.tuple)) (sym (sorted_map (ranked_tuple cs ss t scope) (λ k l. sort_order (sort_keys cs) (reads_of ss t scope k) (reads_of ss t scope l)) (ranked_order (directions (sort_keys cs)))
    (λ k l. directed_is (sort_keys cs) (reads_of ss t scope k) (reads_of ss t scope l)) ks))
    ∙ without_values cs ss t scope (sorted_tuples cs ss t scope ks)

unsorted_by : (keys : List SortKey) (f : Tuple → Reference → Value) (ks : List Tuple) → directions keys ≡ [] → stably_sorted (λ k l. sort_order keys (f k) (f l)) ks ≡ ks
unsorted_by [] f ks e = sorted_by_none ks
unsorted_by (k ∷ keys) f ks e = cc

pub unsorted : (cs : List Clause) (ss : List Range) (t : Tables) (scope : Scope) (ks : List Tuple) → directions (sort_keys cs) ≡ [] → sorted_tuples cs ss t scope ks ≡ ks
unsorted cs ss t scope ks e = unsorted_by (sort_keys cs) (reads_of ss t scope) ks e

-- ---- what holds of each tuple still does

placed_case : {A : Type 0} (P : A → Type 0) (R : A → A → Ordering) (x y : A) (ys : List A) (b : Bool) → P x → All P (y ∷ ys) → All P (placed R x ys) → All P (cond b (y ∷ placed R x ys) (x ∷ y ∷ ys))
placed_case P R x y ys true p a further = All-cons P y (placed R x ys) (All-head P y ys a) further
placed_case P R x y ys false p a further = All-cons P x (y ∷ ys) p a

All-placed : {A : Type 0} (P : A → Type 0) (R : A → A → Ordering) (x : A) (ys : List A) → P x → All P ys → All P (placed R x ys)
All-placed P R x [] p a = All-cons P x [] p a
All-placed P R x (y ∷ ys) p a = placed_case P R x y ys (is_gt (R x y)) p a (All-placed P R x ys p (All-tail P y ys a))

pub All-stably_sorted : {A : Type 0} (P : A → Type 0) (R : A → A → Ordering) (xs : List A) → All P xs → All P (stably_sorted R xs)
All-stably_sorted P R [] a = a
All-stably_sorted P R (x ∷ xs) a = All-placed P R x (stably_sorted R xs) (All-head P x xs a) (All-stably_sorted P R xs (All-tail P x xs a))
