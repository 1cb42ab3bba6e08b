-- The Dbkeys that a search finds are those of the rows whose keys are in its interval.
use Rattle.std.proofs.Common.{◌≡◌, ℕ, Bool, true, false, cond, ◌&&◌, ◌||◌, List, [], ◌∷◌, map, refl, sym, ap, ◌∙◌}
use Rattle.std.specs.declared.cmp.Ordering.TheVariants.{Less}
use Rattle.std.specs.Ordering.{is_lt, eq_by_cmp}
use Rattle.std.specs.List.{AllByRecursion, filter, list_any}
use Rattle.std.specs.List.Sorted.{IsStrictlySortedBy}
use Rattle.std.specs.BTreeSet.{BTreeSet, IsFromIterResult}
use Rattle.std.proofs.lemmas.Map.Lookups.{btree_set_from_contains}
use Rattle.rdb_types.specs.declared.keys.Dbkey.{Dbkey}
use Rattle.rdb_types.specs.Order.{dbkey_order}
use Rattle.rdb_types.specs.OrderLaws.{dbkey_total, same_dbkey}
use Rattle.rdb_meaning.specs.Contents.{Row, key_of}
use Rattle.index_node.specs.declared.entry.NodeEntry.{NodeEntry}
use Rattle.index_node.specs.Order.{entry_order}
use Rattle.sorted_index_laws.specs.Keys.{Interval, is_within}
use Rattle.sorted_index_laws.specs.Search.{rows_within}
use Rattle.sorted_index_laws.specs.Changes.{pair_of, with_pair}
use Rattle.relation_rows.specs.Indexed.{pairs_of}
use Rattle.index_rows.specs.Given.{is_keyed}

swapped : (a b c : Bool) → (a || (b || c)) ≡ (b || (a || c))
swapped true true c = refl
swapped true false c = refl
swapped false true c = refl
swapped false false c = refl

-- ---- whether a Dbkey that passes a test is found

module _ (interval : Interval) (test : Dbkey → Bool) where
  abbrev pub finds : List NodeEntry → Bool
  finds pairs = list_any test (rows_within interval pairs)

  abbrev is_found : NodeEntry → Bool
  is_found pair = is_within interval pair.key && test pair.row

  found_first : (pair : NodeEntry) (pairs : List NodeEntry) → finds (pair ∷ pairs) ≡ (is_found pair || finds pairs)
  found_first pair pairs =
      elim (is_within interval pair.key) as (λ b. list_any test (map (λ p. p.row) (cond b (pair ∷ filter (λ p. is_within interval p.key) pairs) (filter (λ p. is_within interval p.key) pairs))) ≡ ((b && test pair.row) || finds pairs)) [
        | true ↦ refl
        | false ↦ refl
      ]

  found_with : (pair : NodeEntry) (pairs : List NodeEntry) → finds (with_pair pair pairs) ≡ (is_found pair || finds pairs)
  found_with pair [] = found_first pair []
  found_with pair (p ∷ ps) =
      elim (is_lt (entry_order p pair)) as (λ b. finds (cond b (p ∷ with_pair pair ps) (pair ∷ p ∷ ps)) ≡ (is_found pair || finds (p ∷ ps))) [
        | true ↦ found_first p (with_pair pair ps) ∙ ap (λ b. is_found p || b) (found_with pair ps) ∙ swapped (is_found p) (is_found pair) (finds ps) ∙ ap (λ b. is_found pair || b) (sym (found_first p ps))
        | false ↦ found_first pair (p ∷ ps)
      ]

  module _ (positions : List ℕ) where
    abbrev pub keyed : List (Dbkey × Row) → List Dbkey
    keyed rows = map (λ e. e.0) (filter (is_keyed positions interval) rows)

    pub keyed_first : (e : Dbkey × Row) (es : List (Dbkey × Row)) → list_any test (keyed (e ∷ es)) ≡ ((is_keyed positions interval e && test e.0) || list_any test (keyed es))
    keyed_first e es =
        elim (is_keyed positions interval e) as (λ b. list_any test (map (λ e. e.0) (cond b (e ∷ filter (is_keyed positions interval) es) (filter (is_keyed positions interval) es))) ≡ ((b && test e.0) || list_any test (keyed es))) [
          | true ↦ refl
          | false ↦ refl
        ]

    pub found_keyed : (rows : List (Dbkey × Row)) → finds (pairs_of positions rows) ≡ list_any test (keyed rows)
    found_keyed [] = refl
    found_keyed (e ∷ es) =
        found_with (pair_of (key_of positions e.1) e.0) (pairs_of positions es)
        ∙ ap (λ b. (is_keyed positions interval e && test e.0) || b) (found_keyed es) ∙ sym (keyed_first e es)

-- ---- rows that are left are in order

module _ (p : Dbkey × Row → Bool) where
  pub below_left : (key : Dbkey) (rows : List (Dbkey × Row)) → AllByRecursion (λ k. dbkey_order key k ≡ Less) (map (λ e. e.0) rows) → AllByRecursion (λ k. dbkey_order key k ≡ Less) (map (λ e. e.0) (filter p rows))
  below_left key [] below = tt
  below_left key (e ∷ es) below =
      elim (p e) as (λ b. AllByRecursion (λ k. dbkey_order key k ≡ Less) (map (λ e. e.0) (cond b (e ∷ filter p es) (filter p es)))) [
        | true ↦ (below.0, below_left key es below.1)
        | false ↦ below_left key es below.1
      ]

  sorted_left : (rows : List (Dbkey × Row)) → IsStrictlySortedBy dbkey_order (map (λ e. e.0) rows) → IsStrictlySortedBy dbkey_order (map (λ e. e.0) (filter p rows))
  unfolding IsStrictlySortedBy
  sorted_left [] sorted = tt
  sorted_left (e ∷ es) sorted =
      elim (p e) as (λ b. IsStrictlySortedBy dbkey_order (map (λ e. e.0) (cond b (e ∷ filter p es) (filter p es)))) [
        | true ↦ (below_left e.0 es sorted.0, sorted_left es sorted.1)
        | false ↦ sorted_left es sorted.1
      ]

pub keys_in_order : (interval : Interval) (positions : List ℕ) (rows : List (Dbkey × Row)) (found : List Dbkey) (set : BTreeSet Dbkey) → IsStrictlySortedBy dbkey_order (map (λ e. e.0) rows) →
    found ≡ rows_within interval (pairs_of positions rows) → IsFromIterResult dbkey_order found set → set.keys ≡ map (λ e. e.0) (filter (is_keyed positions interval) rows)
keys_in_order interval positions rows found set sorted is has =
    btree_set_from_contains dbkey_total set (record { keys = map (λ e. e.0) (filter (is_keyed positions interval) rows) }) has.1 (sorted_left (is_keyed positions interval) rows sorted)
    (λ q. has.0 q ∙ ap (list_any (eq_by_cmp dbkey_order q)) is ∙ found_keyed interval (eq_by_cmp dbkey_order q) positions rows) same_dbkey
