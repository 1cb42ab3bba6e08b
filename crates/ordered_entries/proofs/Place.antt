-- What `find`, `put` and the taking away of a key are at the place where a binary search ends.
use Rattle.std.proofs.Common.{◌≡◌, ℕ, zero, suc, ◌<◌, ◌≤◌, Bool, true, false, cond, not, ◌&&◌, List, [], ◌∷◌, length, get_or, set, Some, None, Result, Ok, Err, IfOk, IfErr, inl, inr, T, refl, sym, ap, ◌∙◌, subst, arith}
use Rattle.std.specs.declared.cmp.Ordering.{Ordering}
use Rattle.std.specs.declared.cmp.Ordering.TheVariants.{Less, Equal, Greater}
use Rattle.std.specs.Ordering.{is_lt, is_eq, ordering_reverse, ordering_index}
use Rattle.std.specs.Cmp.{IsTotalOrder, alike_right, tied_back}
use Rattle.std.specs.List.{filter, insert, remove}
use Rattle.std.proofs.lemmas.Bool.{cases_lt}
use Rattle.std.specs.List.Sorted.{IsNonDecreasingBy, IsSearchInRange, IsBinarySearchResult}
use Rattle.ordered_entries.specs.Place.{IsAt, IsGap}
use Rattle.std.specs.FinMap.Entries.{find, put, is_sorted, below_all, by_order, is_sorted-put, is_sorted-where_key}

true-from_T : (b : Bool) → T b → b ≡ true
true-from_T true h = refl
true-from_T false h = absurd h

T-from_true : (b : Bool) → b ≡ true → T b
T-from_true b e = subst T (sym e) tt

both_true : (a b : Bool) → (a && b) ≡ true → (a ≡ true) × (b ≡ true)
both_true true b e = (refl, e)
both_true false b e = absurd (cc)

less : (r : Ordering) → is_lt r ≡ true → r ≡ Less
less Less e = refl
less Equal e = absurd (cc)
less Greater e = absurd (cc)

-- an answer of the comparison with a key does not fall along a list in order
not_falling : {K : Type 0} (R : K → K → Ordering) → IsTotalOrder R → (x y k : K) → R x y ≡ Less → ordering_index (R x k) ≤ ordering_index (R y k)
not_falling R o x y k low =
    elim (R y k) as (λ r. R y k ≡ r → ordering_index (R x k) ≤ ordering_index r) [
      | Less ↦ λ p. rw (o.trans x y k low p) (omega arith)
      | Equal ↦ λ p. rw (sym (alike_right o y k x p) ∙ low) (omega arith)
      | Greater ↦ λ p. elim (R x k) as (λ r. ordering_index r ≤ 2) [ Less ↦ omega arith | Equal ↦ omega arith | Greater ↦ omega arith ]
    ] refl

module _ {K V : Type 0} (R : K → K → Ordering) (o : IsTotalOrder R) where
  -- the entries of other keys
  abbrev pub without : K → List (K × V) → List (K × V)
  without k es = filter (λ e. not (is_eq (R k e.0))) es

  pub below_at : (x : K) (es : List (K × V)) → below_all R x es ≡ true → (i : ℕ) (d : K × V) → i < length es → R x (get_or es i d).0 ≡ Less
  below_at x [] h i d within = absurd (omega arith)
  below_at x (e ∷ es) h zero d within = less _ (both_true _ _ h).0
  below_at x (e ∷ es) h (suc i) d within = below_at x es (both_true _ _ h).1 i d (omega arith)

  -- no later key ties with one below the first
  pub none_below : (x k : K) (es : List (K × V)) → R k x ≡ Less → below_all R x es ≡ true → find R k es ≡ None
  none_below x k [] low h = refl
  none_below x k (e ∷ es) low h =
      ap (λ r. cond (is_eq r) (Some e.1) (find R k es)) (o.trans k x e.0 low (less _ (both_true _ _ h).0)) ∙ none_below x k es low (both_true _ _ h).1

  -- no later key ties with the first
  none_above : (x k : K) (es : List (K × V)) → R x k ≡ Equal → below_all R x es ≡ true → find R k es ≡ None
  none_above x k [] tie h = refl
  none_above x k (e ∷ es) tie h =
      let apart : R k e.0 ≡ Less = sym (o.congr x k e.0 tie) ∙ less _ (both_true _ _ h).0 in
      ap (λ r. cond (is_eq r) (Some e.1) (find R k es)) apart ∙ none_above x k es tie (both_true _ _ h).1

  -- where no key ties, nothing is taken away
  pub without_none : (k : K) (es : List (K × V)) → find R k es ≡ None → without k es ≡ es
  without_none k [] h = refl
  without_none k (e ∷ es) h =
      elim (is_eq (R k e.0)) as (λ b. cond b (Some e.1) (find R k es) ≡ None → cond (not b) (e ∷ without k es) (without k es) ≡ e ∷ es) [
        | true ↦ λ h. absurd (cc)
        | false ↦ λ h. ap (λ l. e ∷ l) (without_none k es h)
      ] h

  tail_at : (k : K) (e : K × V) (es : List (K × V)) (i : ℕ) → IsAt R k (e ∷ es) (suc i) → IsAt R k es i
  tail_at k e es i at = record { within = omega (arith, at.within); tied = at.tied }

  -- an entry before it has a lower key
  before : (k : K) (e : K × V) (es : List (K × V)) (i : ℕ) → is_sorted R (e ∷ es) ≡ true → IsAt R k (e ∷ es) (suc i) → R k e.0 ≡ Greater
  before k e es i sorted at =
      let lower = below_at e.0 es (both_true _ _ sorted).0 i e (omega (arith, at.within)) in
      o.antisymm k e.0 ∙ ap ordering_reverse (sym (alike_right o _ k e.0 (at.tied e)) ∙ lower)

  pub find_at : (k : K) (es : List (K × V)) (i : ℕ) (d : K × V) → is_sorted R es ≡ true → IsAt R k es i → find R k es ≡ Some (get_or es i d).1
  find_at k [] i d sorted at = absurd (omega (arith, at.within))
  find_at k (e ∷ es) zero d sorted at = ap (λ r. cond (is_eq r) (Some e.1) (find R k es)) (tied_back o e.0 k (at.tied d))
  find_at k (e ∷ es) (suc i) d sorted at = ap (λ r. cond (is_eq r) (Some e.1) (find R k es)) (before k e es i sorted at) ∙ find_at k es i d (both_true _ _ sorted).1 (tail_at k e es i at)

  pub put_at : (k : K) (v : V) (es : List (K × V)) (i : ℕ) (d : K × V) → is_sorted R es ≡ true → IsAt R k es i → put R k v es ≡ set es i ((get_or es i d).0, v)
  put_at k v [] i d sorted at = absurd (omega (arith, at.within))
  put_at k v (e ∷ es) zero d sorted at = ap (λ r. by_order r ((k, v) ∷ e ∷ es) ((e.0, v) ∷ es) (e ∷ put R k v es)) (tied_back o e.0 k (at.tied d))
  put_at k v (e ∷ es) (suc i) d sorted at =
      ap (λ r. by_order r ((k, v) ∷ e ∷ es) ((e.0, v) ∷ es) (e ∷ put R k v es)) (before k e es i sorted at)
      ∙ ap (λ l. e ∷ l) (put_at k v es i d (both_true _ _ sorted).1 (tail_at k e es i at))

  pub without_at : (k : K) (es : List (K × V)) (i : ℕ) → is_sorted R es ≡ true → IsAt R k es i → without k es ≡ remove es i
  without_at k [] i sorted at = absurd (omega (arith, at.within))
  without_at k (e ∷ es) zero sorted at =
      let tie = at.tied e in
      ap (λ r. cond (not (is_eq r)) (e ∷ without k es) (without k es)) (tied_back o e.0 k tie) ∙ without_none k es (none_above e.0 k es tie (both_true _ _ sorted).0)
  without_at k (e ∷ es) (suc i) sorted at =
      ap (λ r. cond (not (is_eq r)) (e ∷ without k es) (without k es)) (before k e es i sorted at)
      ∙ ap (λ l. e ∷ l) (without_at k es i (both_true _ _ sorted).1 (tail_at k e es i at))

  gap_after : (k : K) (e : K × V) (es : List (K × V)) → IsGap R k (e ∷ es) zero → IsGap R k es zero
  gap_after k e es gap = record { within = omega arith; lower = λ j d p. absurd (omega arith); higher = λ j d p q. gap.higher (suc j) d (omega arith) (omega arith) }

  tail_gap : (k : K) (e : K × V) (es : List (K × V)) (i : ℕ) → IsGap R k (e ∷ es) (suc i) → IsGap R k es i
  tail_gap k e es i gap = record { within = omega (arith, gap.within); lower = λ j d p. gap.lower (suc j) d (omega arith); higher = λ j d p q. gap.higher (suc j) d (omega arith) (omega arith) }

  gap_head : (k : K) (e : K × V) (es : List (K × V)) → IsGap R k (e ∷ es) zero → R k e.0 ≡ Less
  gap_head k e es gap = o.antisymm k e.0 ∙ ap ordering_reverse (gap.higher zero e (omega arith) (omega arith))

  gap_before : (k : K) (e : K × V) (es : List (K × V)) (i : ℕ) → IsGap R k (e ∷ es) (suc i) → R k e.0 ≡ Greater
  gap_before k e es i gap = o.antisymm k e.0 ∙ ap ordering_reverse (gap.lower zero e (omega arith))

  pub find_gap : (k : K) (es : List (K × V)) (i : ℕ) → IsGap R k es i → find R k es ≡ None
  find_gap k [] i gap = refl
  find_gap k (e ∷ es) zero gap = ap (λ r. cond (is_eq r) (Some e.1) (find R k es)) (gap_head k e es gap) ∙ find_gap k es zero (gap_after k e es gap)
  find_gap k (e ∷ es) (suc i) gap = ap (λ r. cond (is_eq r) (Some e.1) (find R k es)) (gap_before k e es i gap) ∙ find_gap k es i (tail_gap k e es i gap)

  pub put_gap : (k : K) (v : V) (es : List (K × V)) (i : ℕ) → IsGap R k es i → put R k v es ≡ insert es i (k, v)
  put_gap k v [] zero gap = refl
  put_gap k v [] (suc i) gap = refl
  put_gap k v (e ∷ es) zero gap = ap (λ r. by_order r ((k, v) ∷ e ∷ es) ((e.0, v) ∷ es) (e ∷ put R k v es)) (gap_head k e es gap)
  put_gap k v (e ∷ es) (suc i) gap =
      ap (λ r. by_order r ((k, v) ∷ e ∷ es) ((e.0, v) ∷ es) (e ∷ put R k v es)) (gap_before k e es i gap)
      ∙ ap (λ l. e ∷ l) (put_gap k v es i (tail_gap k e es i gap))

  -- what is before a place in a list in order that has the key there
  below_tied : (k : K) (es : List (K × V)) (i : ℕ) (d : K × V) → is_sorted R es ≡ true → (j : ℕ) → j < i → i < length es → R (get_or es j d).0 (get_or es i d).0 ≡ Less
  below_tied k [] i d sorted j before within = absurd (omega arith)
  below_tied k (e ∷ es) zero d sorted j before within = absurd (omega arith)
  below_tied k (e ∷ es) (suc i) d sorted zero before within = below_at e.0 es (both_true _ _ sorted).0 i d (omega arith)
  below_tied k (e ∷ es) (suc i) d sorted (suc j) before within = below_tied k es i d (both_true _ _ sorted).1 j (omega arith) (omega arith)

  rising : (k : K) (es : List (K × V)) → is_sorted R es ≡ true → IsNonDecreasingBy (λ e. ordering_index (R e.0 k)) es
  rising k es sorted i j d before within =
      elim (cases_lt i j) [
        | inl lt ↦ not_falling R o _ _ k (below_tied k es j d sorted i lt within)
        | inr ge ↦ let same : i ≡ j = omega arith in rw same (omega arith)
      ]

  -- a binary search ends at the key, or at the gap for it
  pub searched : (k : K) (es : List (K × V)) → is_sorted R es ≡ true → (r : Result ℕ ℕ) → IsSearchInRange r (length es) → IsBinarySearchResult (λ e. R e.0 k) es r → IfOk r (IsAt R k es) × IfErr r (IsGap R k es)
  searched k es sorted (Ok i) within found = (record { within = within; tied = found }, tt)
  searched k es sorted (Err i) within parted =
      let (lower, higher) = parted (rising k es sorted) in
      (tt, record { within = within; lower = λ j d p. lower j d (omega arith) p; higher = higher })

  pub sorted_put : (k : K) (v : V) (es : List (K × V)) → is_sorted R es ≡ true → is_sorted R (put R k v es) ≡ true
  sorted_put k v es h = true-from_T _ (is_sorted-put R o k v es (T-from_true _ h))

  pub sorted_without : (k : K) (es : List (K × V)) → is_sorted R es ≡ true → is_sorted R (without k es) ≡ true
  sorted_without k es h = true-from_T _ (is_sorted-where_key R (λ x. not (is_eq (R k x))) es (T-from_true _ h))

  -- where the entry e was read at the place of the key
  module _ (k : K) (es : List (K × V)) (i : ℕ) (sorted : is_sorted R es ≡ true) (at : IsAt R k es i) (e : K × V) (read : e ≡ get_or es i e) where
    pub find_read : find R k es ≡ Some e.1
    find_read = find_at k es i e sorted at ∙ ap (λ (x : K × V). Some x.1) (sym read)

    pub put_read : (v : V) → put R k v es ≡ set es i (e.0, v)
    put_read v = put_at k v es i e sorted at ∙ ap (λ (x : K × V). set es i (x.0, v)) (sym read)
