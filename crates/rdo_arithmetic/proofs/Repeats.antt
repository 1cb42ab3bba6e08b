-- Repeats that are left out one after the other, by the values seen so far.
use Rattle.std.proofs.Common.{◌≡◌, ℕ, ◌+◌, ◌<◌, ◌≤◌, Bool, true, false, cond, ◌&&◌, ◌||◌, not, List, [], ◌∷◌, ◌++◌, map, length, get_or, drop, refl, ap, sym, ◌∙◌, append_assoc, append-nil}
use Rattle.std.proofs.lemmas.List.{at_drop_more, at_drop_all}
use Rattle.std.proofs.lemmas.List.Folds.{list_any-append}
use Rattle.std.proofs.lemmas.Cmp.{eq_by_cmp_equiv}
use Rattle.std.specs.List.{filter, list_any}
use Rattle.std.specs.Cmp.{IsEquivalence}
use Rattle.std.specs.declared.cmp.Ordering.{Ordering}
use Rattle.std.specs.declared.cmp.Ordering.TheVariants.{Less, Equal, Greater}
use Rattle.std.specs.Ordering.{is_eq, ordering_then}
use Rattle.rdb_types.specs.declared.values.Value.{Value}
use Rattle.rdo_ast.specs.declared.syntax.Clause.{Clause}
use Rattle.rdo_ast.specs.declared.syntax.Range.{Range}
use Rattle.rdo_ast.specs.declared.syntax.Reference.{Reference}
use Rattle.rdb_meaning.specs.declared.tables.Tables.{Tables}
use Rattle.rdb_types.specs.Order.{value_order, row_order}
use Rattle.rdb_meaning.specs.Evaluation.{Scope, Tuple}
use Rattle.rdb_meaning.specs.Selecting.{without_repeats, agree, reads_of, reduced_fields}
use Rattle.rdo_arithmetic.specs.Reducing.{kept_if, read_alike}
use Rattle.rdb_types.specs.OrderLaws.{row_total}

-- ---- two filters in one

module _ {X : Type 0} (p q r : X → Bool) (both : (y : X) → r y ≡ cond (q y) (p y) false) where
  both_case : (b c : Bool) (x : X) (as' rs : List X) → c ≡ cond b (p x) false → filter p as' ≡ rs → filter p (cond b (x ∷ as') as') ≡ cond c (x ∷ rs) rs
  both_case true c x as' rs e f = ap (λ ys. cond (p x) (x ∷ ys) ys) f ∙ ap (λ c. cond c (x ∷ rs) rs) (sym e)
  both_case false c x as' rs e f = f ∙ ap (λ c. cond c (x ∷ rs) rs) (sym e)

  filter_both : (xs : List X) → filter p (filter q xs) ≡ filter r xs
  filter_both [] = refl
  filter_both (x ∷ xs) = both_case (q x) (r x) x (filter q xs) (filter r xs) (both x) (filter_both xs)

-- ---- rows that are equal in the order

abbrev alike : List Value → List Value → Bool
alike a b = is_eq (row_order a b)

laws : IsEquivalence alike
laws = eq_by_cmp_equiv row_total

module _ {X : Type 0} (row : X → List Value) where
  -- whether one of the kept tuples has an equal row
  abbrev pub seen_in : List X → List Value → Bool
  seen_in kept v = list_any (λ k. alike v (row k)) kept

  abbrev pub same_row : X → X → Bool
  same_row k l = alike (row k) (row l)

  abbrev unseen : List X → X → Bool
  unseen kept k = not (seen_in kept (row k))

  -- those kept so far, and what is left of the rest
  abbrev pub kept_then : List X → List X → List X
  kept_then kept ks = kept ++ filter (unseen kept) (without_repeats same_row ks)

  seen_alike : (kept : List X) (v w : List Value) → alike v w ≡ true → seen_in kept v ≡ seen_in kept w
  seen_alike [] v w e = refl
  seen_alike (k ∷ kept) v w e = (λ i. laws.congr v w (row k) e i || seen_alike kept v w e i)

  seen_push : (kept : List X) (x : X) (v : List Value) → seen_in (kept ++ x ∷ []) v ≡ (seen_in kept v || (alike v (row x) || false))
  seen_push kept x v = list_any-append (λ k. alike v (row k)) kept (x ∷ [])

  -- ---- a tuple whose row was seen

  old_case : (kept : List X) (x y : X) (b : Bool) → alike (row x) (row y) ≡ b → seen_in kept (row x) ≡ true → unseen kept y ≡ cond (not b) (unseen kept y) false
  old_case kept x y true e s = ap not (sym (seen_alike kept (row x) (row y) e) ∙ s)
  old_case kept x y false e s = refl

  old_left : (kept : List X) (x : X) (ks : List X) → seen_in kept (row x) ≡ true → filter (unseen kept) (filter (λ y. not (same_row x y)) ks) ≡ filter (unseen kept) ks
  old_left kept x ks s = filter_both (unseen kept) (λ y. not (same_row x y)) (unseen kept) (λ y. old_case kept x y (same_row x y) refl s) ks

  -- ---- a tuple whose row was not seen

  new_case : (s e : Bool) → not (s || (e || false)) ≡ cond (not e) (not s) false
  new_case true true = refl
  new_case true false = refl
  new_case false true = refl
  new_case false false = refl

  new_left : (kept : List X) (x : X) (ks : List X) → filter (unseen kept) (filter (λ y. not (same_row x y)) ks) ≡ filter (unseen (kept ++ x ∷ [])) ks
  new_left kept x ks =
      filter_both (unseen kept) (λ y. not (same_row x y)) (unseen (kept ++ x ∷ []))
      (λ y. ap not (seen_push kept x (row y)) ∙ new_case (seen_in kept (row y)) (alike (row y) (row x)) ∙ ap (λ e. cond (not e) (unseen kept y) false) (laws.symm (row y) (row x))) ks

  -- ---- one tuple more

  kept_case : (kept later : List X) (x : X) (ks : List X) (b : Bool) → seen_in kept (row x) ≡ b → later ≡ kept_if (not b) kept x → kept ++ cond (not b) (x ∷ filter (unseen kept) (filter (λ y. not (same_row x y)) (without_repeats same_row ks))) (filter (unseen kept) (filter (λ y. not (same_row x y)) (without_repeats same_row ks))) ≡ kept_then later ks
  kept_case kept later x ks true s e = ap (λ ls. kept ++ ls) (old_left kept x (without_repeats same_row ks) s) ∙ ap (λ ls. kept_then ls ks) (sym e)
  kept_case kept later x ks false s e =
      ap (λ ls. kept ++ x ∷ ls) (new_left kept x (without_repeats same_row ks)) ∙ sym (append_assoc kept (x ∷ []) (filter (unseen (kept ++ x ∷ [])) (without_repeats same_row ks)))
      ∙ ap (λ ls. kept_then ls ks) (sym e)

  pub kept_more : (tuples : List X) (i : ℕ) (x : X) (total kept later : List X) (b : Bool) → i < length tuples → x ≡ get_or tuples i x → total ≡ kept_then kept (drop i tuples) → b ≡ not (seen_in kept (row x)) → later ≡ kept_if b kept x → total ≡ kept_then later (drop (i + 1) tuples)
  kept_more tuples i x total kept later b h e inv f g =
      inv ∙ at_drop_more (kept_then kept) tuples i x h ∙ ap (λ y. kept_then kept (y ∷ drop (i + 1) tuples)) (sym e)
      ∙ kept_case kept later x (drop (i + 1) tuples) (seen_in kept (row x)) refl (g ∙ ap (λ b. kept_if b kept x) f)

  pub kept_none : (total : List X) (kept tuples : List X) → kept ≡ [] → total ≡ without_repeats same_row tuples → total ≡ kept_then kept tuples
  kept_none total kept tuples e f = f ∙ sym (all_unseen (without_repeats same_row tuples)) ∙ ap (λ ls. kept_then ls tuples) (sym e)
    where
      all_unseen : (ks : List X) → filter (λ (k : X). true) ks ≡ ks
      all_unseen [] = refl
      all_unseen (k ∷ ks) = ap (λ ls. k ∷ ls) (all_unseen ks)

  pub kept_all : (tuples : List X) (i : ℕ) (total kept : List X) → length tuples ≤ i → total ≡ kept_then kept (drop i tuples) → kept ≡ total
  kept_all tuples i total kept h inv = sym (inv ∙ at_drop_all (kept_then kept) tuples i h ∙ append-nil kept)

  -- ---- the set of the rows seen

  set_case : (kept later : List X) (x : X) (v : List Value) (b c : Bool) → seen_in kept (row x) ≡ b → alike (row x) v ≡ c → later ≡ kept_if (not b) kept x → cond c true (seen_in kept v) ≡ seen_in later v
  set_case kept later x v true true s e f = sym (ap (λ ls. seen_in ls v) f ∙ sym (seen_alike kept (row x) v e) ∙ s)
  set_case kept later x v true false s e f = ap (λ ls. seen_in ls v) (sym f)
  set_case kept later x v false c s e f =
      new_seen (seen_in kept v) c ∙ ap (λ c. seen_in kept v || (c || false)) (sym e ∙ laws.symm (row x) v) ∙ sym (seen_push kept x v) ∙ ap (λ ls. seen_in ls v) (sym f)
    where
      new_seen : (s c : Bool) → cond c true s ≡ (s || (c || false))
      new_seen true true = refl
      new_seen true false = refl
      new_seen false true = refl
      new_seen false false = refl

  pub set_more : (kept later : List X) (x : X) (v : List Value) (b now : Bool) → b ≡ not (seen_in kept (row x)) → later ≡ kept_if b kept x → now ≡ cond (alike (row x) v) true (seen_in kept v) → now ≡ seen_in later v
  set_more kept later x v b now f g h = h ∙ set_case kept later x v (seen_in kept (row x)) (alike (row x) v) refl refl (g ∙ ap (λ b. kept_if b kept x) f)

-- ---- rows are equal where the fields agree

eq_then : (o p : Ordering) → is_eq (ordering_then o p) ≡ (is_eq o && is_eq p)
eq_then Less p = refl
eq_then Equal p = refl
eq_then Greater p = refl

agrees_is : (refs : List Reference) (a b : Reference → Value) → is_eq (row_order (map a refs) (map b refs)) ≡ agree refs a b
agrees_is [] a b = refl
agrees_is (r ∷ refs) a b = eq_then (value_order (a r) (b r)) (row_order (map a refs) (map b refs)) ∙ ap (λ t. is_eq (value_order (a r) (b r)) && t) (agrees_is refs a b)

pub read_alike_is : (cs : List Clause) (ss : List Range) (t : Tables) (scope : Scope) (ks : List Tuple) → without_repeats (read_alike cs ss t scope) ks ≡ without_repeats (λ k l. agree (reduced_fields cs) (reads_of ss t scope k) (reads_of ss t scope l)) ks
read_alike_is cs ss t scope ks = (λ i. without_repeats (λ k l. agrees_is (reduced_fields cs) (reads_of ss t scope k) (reads_of ss t scope l) i) ks)
