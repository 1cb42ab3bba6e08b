-- Each production is steady.
use Rattle.std.proofs.Common.{◌≡◌, ℕ, zero, suc, Bool, true, false, cond, List, [], ◌∷◌, ◌++◌, Option, Some, None, Ok, refl}
use Rattle.rdo_ast.specs.declared.syntax.Comparison.{Comparison}
use Rattle.rdo_ast.specs.declared.syntax.Arithmetic.{Arithmetic}
use Rattle.rdo_ast.specs.declared.syntax.Arithmetic.TheVariants as by
use Rattle.rdo_ast.specs.declared.syntax.Operation.{Operation}
use Rattle.rdo_ast.specs.declared.syntax.Statistic.{Statistic}
use Rattle.rdo_ast.specs.declared.syntax.Statistic.TheVariants as of
use Rattle.rdo_ast.specs.declared.syntax.Test.TheVariants as t
use Rattle.rdo_ast.specs.declared.syntax.Clause.TheVariants as clause
use Rattle.rdo_ast.specs.declared.syntax.Expression.{Expression}
use Rattle.rdo_ast.specs.declared.syntax.Expression.TheVariants as e
use Rattle.rdo_ast.specs.declared.syntax.Action.{Action}
use Rattle.rdo_ast.specs.declared.syntax.Action.TheVariants as a
use Rattle.rdo_ast.specs.declared.syntax.Assign.{Assign}
use Rattle.rdo_ast.specs.declared.syntax.PrintItem.TheVariants as p
use Rattle.rdo_tokens.specs.declared.token.Kind.{Kind}
use Rattle.rdo_tokens.specs.declared.token.Kind.TheVariants as k
use Rattle.rdo_tokens.specs.Lex.{Text, same_kind, max_number}
use Rattle.rdo_tokens.specs.Input.{Parser, ◌>>=◌, pure, eat, sees, after, kind}
use Rattle.rdo_grammar.specs.Grammar as g
use Rattle.rdo_grammar.specs.Grammar.{Level, level_at, operation, chained, crossed, ranges, range, first, open_level, with, inner, count, statistic, minus, parenthesized, statistic_of, statistic_by, prim_by, prim, products_from, products, term_after, term, signed_term, sums_from, sums, expr_after, expr, expr_with, compared, between, compare_by, compare_op, compare_after, compare, negated, grouped, any, test_by, one_test, tests, conj, conjunctions, cond_at, test_at, expr_at, operator, ref_from, reference, assign, assigns_from, assigns, printed_ref, printed_name, printed_by, printed, order_by, order, key, keys, references, sorted, reduced, sorted_only, reduced_only, shape_by, shape, selection, store, modify, print, printed_list, point, begins_action, body_from, body, for_action, action_by, action, action_at}
use Rattle.rdo_labels.proofs.Pairs.{Pair, Steady, Shrinks, pair_bind, pair_takes, pair_pure, pair_if, law_pure, law_refuse, law_bind, law_if, law_loop}
use Rattle.rdo_labels.proofs.Steps.{law_peek, law_take, law_expect, law_name, law_eat, law_text, law_number, law_whole, law_separated, and_apart, or_apart, comma_apart, cross_apart, takes_refuse, takes_first, takes_peek, takes_if, takes_bind, takes_name, pair_peek, pair_eat}

law_reference : Steady reference
unfolding reference ref_from
law_reference = law_bind _ _ law_name (λ v. law_bind _ _ (law_expect k.Dot) (λ _. law_bind _ _ law_name (λ f. law_pure _)))

law_range : Steady range
unfolding range
law_range = law_bind _ _ law_name (λ v. law_bind _ _ (law_expect k.In) (λ _. law_bind _ _ law_name (λ f. law_pure _)))

law_crossed : Steady crossed
unfolding crossed
law_crossed = law_separated k.Cross cross_apart range law_range

law_ranges : (is_single : Bool) → Steady (ranges is_single)
unfolding ranges
law_ranges is_single = law_if _ _ is_single (law_bind _ _ law_range (λ x. law_pure _)) law_crossed

law_first : Steady first
unfolding first
law_first = law_bind _ _ (law_eat k.First) (λ found. law_if _ _ found (law_bind _ _ (law_whole 0 max_number) (λ n. law_pure (Some n))) (law_pure None))

module _ (v : Level) (lc : Steady v.next_cond) (lt : Steady v.next_test) (le : (alone plain : Bool) → Steady (v.next_expr alone plain)) where
  law_open : Steady (open_level v)
  unfolding open_level
  law_open = law_if _ _ _ law_refuse (law_bind _ _ law_take (λ _. law_pure tt))

  law_with : Steady (with v)
  unfolding with
  law_with = law_bind _ _ (law_eat k.With) (λ found. law_if _ _ found (law_bind _ _ lc (λ x. law_pure (Some x))) (law_pure None))

  law_inner : (is_single : Bool) → Steady (inner v is_single)
  unfolding inner
  law_inner is_single = law_bind _ _ law_first (λ n. law_bind _ _ (law_ranges is_single) (λ over. law_bind _ _ law_with (λ condition. law_pure _)))

  law_count : Steady (count v)
  unfolding count
  law_count = law_bind _ _ (law_expect k.Of) (λ _. law_bind _ _ (law_inner true) (λ x. law_pure _))

  law_statistic : (which : Statistic) → Steady (statistic v which)
  unfolding statistic
  law_statistic which = law_bind _ _ (le false true) (λ v. law_bind _ _ (law_expect k.Of) (λ _. law_bind _ _ (law_inner true) (λ x. law_pure _)))

  law_minus : (plain : Bool) → Steady (minus v plain)
  unfolding minus
  law_minus plain = law_bind _ _ law_open (λ _. law_bind _ _ (le true plain) (λ x. law_pure _))

  law_parenthesized : (plain : Bool) → Steady (parenthesized v plain)
  unfolding parenthesized
  law_parenthesized plain = law_bind _ _ law_open (λ _. law_bind _ _ (le false plain) (λ x. law_bind _ _ (law_expect k.Close) (λ _. law_pure x)))

  law_statistic_of : (kind : Kind) → Steady (statistic_of v kind)
  law_statistic_of k.Count = law_count
  law_statistic_of k.Total = law_statistic of.Total
  law_statistic_of k.Min = law_statistic of.Minimum
  law_statistic_of _ = law_statistic of.Maximum

  law_statistic_by : (kind : Kind) → Steady (statistic_by v kind)
  unfolding statistic_by
  law_statistic_by kind = law_bind _ _ law_open (λ _. law_statistic_of kind)

  law_prim_by : (plain : Bool) (kind : Kind) → Steady (prim_by v plain kind)
  law_prim_by plain k.Number = law_bind _ _ law_number (λ x. law_pure _)
  law_prim_by plain k.Quoted = law_bind _ _ law_text (λ x. law_pure _)
  law_prim_by plain k.Name = law_bind _ _ law_reference (λ x. law_pure _)
  law_prim_by plain k.Minus = law_minus plain
  law_prim_by plain k.Open = law_parenthesized plain
  law_prim_by plain k.Count = law_if _ _ plain law_refuse (law_statistic_by k.Count)
  law_prim_by plain k.Total = law_if _ _ plain law_refuse (law_statistic_by k.Total)
  law_prim_by plain k.Min = law_if _ _ plain law_refuse (law_statistic_by k.Min)
  law_prim_by plain k.Max = law_if _ _ plain law_refuse (law_statistic_by k.Max)
  law_prim_by plain _ = law_refuse

  law_prim : (plain : Bool) → Steady (prim v plain)
  unfolding prim
  law_prim plain = law_bind _ _ law_peek (λ kind. law_prim_by plain kind)

  products_end : (plain : Bool) (n : ℕ) (found : List Operation) → products_from v plain n found [] ≡ Ok (found, [])
  unfolding products_from sees after kind same_kind
  products_end plain zero found = refl
  products_end plain (suc n) found = refl

  products_step : (plain : Bool) (n m : ℕ) → ((found : List Operation) → Pair n m (products_from v plain n found) (products_from v plain m found)) →
      (found : List Operation) → Pair (suc n) (suc m) (products_from v plain (suc n) found) (products_from v plain (suc m) found)
  unfolding products_from
  products_step plain n m more found =
      pair_eat n m k.Star
      (λ b. cond b (prim v plain >>= (λ x. products_from v plain n (found ++ operation by.Times x ∷ []))) (pure found))
      (λ b. cond b (prim v plain >>= (λ x. products_from v plain m (found ++ operation by.Times x ∷ []))) (pure found))
      (pair_bind n m (prim v plain) (prim v plain) (λ x. products_from v plain n (found ++ operation by.Times x ∷ [])) (λ x. products_from v plain m (found ++ operation by.Times x ∷ []))
      ((law_prim plain).pair n m) (λ x. more (found ++ operation by.Times x ∷ [])))
      (pair_pure (suc n) (suc m) found)

  law_term_after : (plain : Bool) (x : Expression) → Steady (term_after v plain x)
  unfolding term_after products
  law_term_after plain x = law_bind _ _ (law_loop (products_from v plain) (λ found. found) (products_end plain) (products_step plain) []) (λ all. law_pure _)

  law_term : (plain : Bool) → Steady (term v plain)
  unfolding term
  law_term plain = law_bind _ _ (law_prim plain) (λ l. law_term_after plain l)

  law_signed_term : (plain : Bool) (o : Arithmetic) → Steady (signed_term v plain o)
  unfolding signed_term
  law_signed_term plain o = law_bind _ _ (law_term plain) (λ x. law_pure _)

  sums_end : (plain : Bool) (n : ℕ) (found : List Operation) → sums_from v plain n found [] ≡ Ok (found, [])
  unfolding sums_from sees after kind same_kind
  sums_end plain zero found = refl
  sums_end plain (suc n) found = refl

  sums_step : (plain : Bool) (n m : ℕ) → ((found : List Operation) → Pair n m (sums_from v plain n found) (sums_from v plain m found)) →
      (found : List Operation) → Pair (suc n) (suc m) (sums_from v plain (suc n) found) (sums_from v plain (suc m) found)
  unfolding sums_from
  sums_step plain n m more found =
      pair_eat n m k.Plus
      (λ b. cond b (signed_term v plain by.Plus >>= (λ x. sums_from v plain n (found ++ x ∷ [])))
      (eat k.Minus >>= (λ c. cond c (signed_term v plain by.Minus >>= (λ x. sums_from v plain n (found ++ x ∷ []))) (pure found))))
      (λ b. cond b (signed_term v plain by.Plus >>= (λ x. sums_from v plain m (found ++ x ∷ [])))
      (eat k.Minus >>= (λ c. cond c (signed_term v plain by.Minus >>= (λ x. sums_from v plain m (found ++ x ∷ []))) (pure found))))
      (pair_bind n m (signed_term v plain by.Plus) (signed_term v plain by.Plus) (λ x. sums_from v plain n (found ++ x ∷ [])) (λ x. sums_from v plain m (found ++ x ∷ []))
      ((law_signed_term plain by.Plus).pair n m) (λ x. more (found ++ x ∷ [])))
      (pair_eat n m k.Minus
      (λ c. cond c (signed_term v plain by.Minus >>= (λ x. sums_from v plain n (found ++ x ∷ []))) (pure found))
      (λ c. cond c (signed_term v plain by.Minus >>= (λ x. sums_from v plain m (found ++ x ∷ []))) (pure found))
      (pair_bind n m (signed_term v plain by.Minus) (signed_term v plain by.Minus) (λ x. sums_from v plain n (found ++ x ∷ [])) (λ x. sums_from v plain m (found ++ x ∷ []))
      ((law_signed_term plain by.Minus).pair n m) (λ x. more (found ++ x ∷ [])))
      (pair_pure (suc n) (suc m) found))

  law_expr_after : (plain : Bool) (x : Expression) → Steady (expr_after v plain x)
  unfolding expr_after sums
  law_expr_after plain x = law_bind _ _ (law_loop (sums_from v plain) (λ found. found) (sums_end plain) (sums_step plain) []) (λ all. law_pure _)

  law_expr : (plain : Bool) → Steady (expr v plain)
  unfolding expr
  law_expr plain = law_bind _ _ (law_term plain) (λ l. law_expr_after plain l)

  law_expr_with : (x : Expression) → Steady (expr_with v x)
  unfolding expr_with
  law_expr_with x = law_bind _ _ (law_term_after false x) (λ l. law_expr_after false l)

  law_compared : (o : Comparison) (l : Expression) → Steady (compared v o l)
  unfolding compared
  law_compared o l = law_bind _ _ (law_expr false) (λ r. law_pure _)

  law_between : (l : Expression) → Steady (between v l)
  unfolding between
  law_between l = law_bind _ _ (law_expr false) (λ low. law_bind _ _ (law_expect k.And) (λ _. law_bind _ _ (law_expr false) (λ high. law_pure _)))

  law_compare_by : (l : Expression) (kind : Kind) → Steady (compare_by v l kind)
  law_compare_by l k.Between = law_bind _ _ law_take (λ _. law_between l)
  law_compare_by l k.Containing = law_bind _ _ law_take (λ _. law_bind _ _ (law_expr false) (λ r. law_pure (t.Containing l r)))
  law_compare_by l k.Starting = law_bind _ _ (law_bind _ _ law_take (λ _. law_expect k.With)) (λ _. law_bind _ _ (law_expr false) (λ r. law_pure (t.StartingWith l r)))
  law_compare_by l k.Missing = law_bind _ _ law_take (λ _. law_pure (t.Missing l))
  law_compare_by l _ = law_refuse

  law_compare_op : (l : Expression) (kind : Kind) (o : Option Comparison) → Steady (compare_op v l kind o)
  law_compare_op l kind (Some o) = law_bind _ _ law_take (λ _. law_compared o l)
  law_compare_op l kind None = law_compare_by l kind

  law_compare : Steady (compare v)
  unfolding compare compare_after
  law_compare = law_bind _ _ (law_expr false) (λ l. law_bind _ _ law_peek (λ kind. law_compare_op l kind (operator kind)))

  law_test_by : (kind : Kind) → Steady (test_by v kind)
  unfolding negated grouped any
  law_test_by k.Not = law_bind _ _ law_open (λ _. law_bind _ _ lt (λ x. law_pure (t.Not x)))
  law_test_by k.Open = law_bind _ _ law_open (λ _. law_bind _ _ lc (λ x. law_bind _ _ (law_expect k.Close) (λ _. law_pure (t.Group x))))
  law_test_by k.Any = law_bind _ _ law_open (λ _. law_bind _ _ (law_inner false) (λ x. law_pure (t.Any x)))
  law_test_by _ = law_compare

  law_test : Steady (one_test v)
  unfolding one_test
  law_test = law_bind _ _ law_peek law_test_by

  law_conj : Steady (conj v)
  unfolding conj tests
  law_conj = law_bind _ _ (law_separated k.And and_apart (one_test v) law_test) (λ all. law_pure _)

  law_cond : Steady (g.cond v)
  unfolding g.cond conjunctions
  law_cond = law_bind _ _ (law_separated k.Or or_apart (conj v) law_conj) (λ all. law_pure _)

mutual
  unfolding cond_at test_at expr_at

  pub law_cond_at : (d : ℕ) → Steady (cond_at d)
  law_cond_at zero = law_refuse
  law_cond_at (suc d) = law_cond (level_at d) (law_cond_at d) (law_test_at d) (law_expr_at d)

  pub law_test_at : (d : ℕ) → Steady (test_at d)
  law_test_at zero = law_refuse
  law_test_at (suc d) = law_test (level_at d) (law_cond_at d) (law_test_at d) (law_expr_at d)

  pub law_expr_at : (d : ℕ) (alone plain : Bool) → Steady (expr_at d alone plain)
  law_expr_at zero alone plain = law_refuse
  law_expr_at (suc d) true plain = law_prim (level_at d) (law_cond_at d) (law_test_at d) (law_expr_at d) plain
  law_expr_at (suc d) false plain = law_expr (level_at d) (law_cond_at d) (law_test_at d) (law_expr_at d) plain

-- ---- selections and actions

law_whole_expr : (d : ℕ) → Steady (expr (level_at d) false)
law_whole_expr d = law_expr (level_at d) (law_cond_at d) (law_test_at d) (law_expr_at d) false

law_assign : (d : ℕ) → Steady (assign d)
unfolding assign
law_assign d = law_bind _ _ law_reference (λ f. law_bind _ _ (law_expect k.Equal) (λ _. law_bind _ _ (law_whole_expr d) (λ v. law_bind _ _ (law_expect k.Semicolon) (λ _. law_pure _))))

takes_assign : (d : ℕ) → Shrinks (assign d)
unfolding assign reference ref_from
takes_assign d = takes_bind _ _ (takes_bind _ _ takes_name (λ v. law_bind _ _ (law_expect k.Dot) (λ _. law_bind _ _ law_name (λ f. law_pure _))))
    (λ f. law_bind _ _ (law_expect k.Equal) (λ _. law_bind _ _ (law_whole_expr d) (λ v. law_bind _ _ (law_expect k.Semicolon) (λ _. law_pure _))))

assigns_end : (d n : ℕ) (found : List Assign) → assigns_from d n found [] ≡ Ok (found, [])
unfolding assigns_from sees kind same_kind
assigns_end d zero found = refl
assigns_end d (suc n) found = refl

assigns_step : (d n m : ℕ) → ((found : List Assign) → Pair n m (assigns_from d n found) (assigns_from d m found)) → (found : List Assign) → Pair (suc n) (suc m) (assigns_from d (suc n) found) (assigns_from d (suc m) found)
unfolding assigns_from sees
assigns_step d n m more found =
    pair_peek (suc n) (suc m)
    (λ kd. cond (same_kind kd k.Name) (assign d >>= (λ x. assigns_from d n (found ++ x ∷ []))) (pure found))
    (λ kd. cond (same_kind kd k.Name) (assign d >>= (λ x. assigns_from d m (found ++ x ∷ []))) (pure found))
    (λ kd. pair_if (suc n) (suc m) (assign d >>= (λ x. assigns_from d n (found ++ x ∷ []))) (pure found) (assign d >>= (λ x. assigns_from d m (found ++ x ∷ []))) (pure found) (same_kind kd k.Name)
    (pair_takes n m (assign d) (assign d) (λ x. assigns_from d n (found ++ x ∷ [])) (λ x. assigns_from d m (found ++ x ∷ [])) (takes_assign d) (takes_assign d) ((law_assign d).pair (suc n) (suc m)) (λ x. more (found ++ x ∷ [])))
    (pair_pure (suc n) (suc m) found))

law_assigns : (d : ℕ) → Steady (assigns d)
unfolding assigns
law_assigns d = law_loop (assigns_from d) (λ found. found) (assigns_end d) (assigns_step d) []

law_printed_ref : (d : ℕ) (v : Text) → Steady (printed_ref d v)
unfolding printed_ref ref_from
law_printed_ref d v = law_bind _ _ (law_bind _ _ law_name (λ f. law_pure _)) (λ r. law_bind _ _ (law_expr_with (level_at d) (law_cond_at d) (law_test_at d) (law_expr_at d) (e.Field r)) (λ x. law_pure _))

law_printed_by : (d : ℕ) (kind : Kind) → Steady (printed_by d kind)
unfolding printed_name
law_printed_by d k.Name = law_bind _ _ law_name (λ v. law_bind _ _ (law_expect k.Dot) (λ _. law_bind _ _ (law_eat k.Star) (λ all. law_if _ _ all (law_pure (p.Fields v)) (law_printed_ref d v))))
law_printed_by d _ = law_bind _ _ (law_whole_expr d) (λ v. law_pure _)

law_printed : (d : ℕ) → Steady (printed d)
unfolding printed
law_printed d = law_bind _ _ law_peek (law_printed_by d)

law_order_by : (kind : Kind) → Steady (order_by kind)
law_order_by k.Ascending = law_bind _ _ law_take (λ _. law_pure false)
law_order_by k.Descending = law_bind _ _ law_take (λ _. law_pure true)
law_order_by _ = law_pure false

law_key : Steady key
unfolding key order
law_key = law_bind _ _ (law_bind _ _ law_peek law_order_by) (λ b. law_bind _ _ law_reference (λ f. law_pure _))

law_sorted : Steady sorted
unfolding sorted keys
law_sorted = law_bind _ _ (law_expect k.By) (λ _. law_separated k.Comma comma_apart key law_key)

law_reduced : Steady reduced
unfolding reduced references
law_reduced = law_bind _ _ (law_expect k.To) (λ _. law_separated k.Comma comma_apart reference law_reference)

law_sorted_only : Steady sorted_only
unfolding sorted_only
law_sorted_only = law_bind _ _ (law_eat k.Sorted) (λ b. law_if _ _ b (law_bind _ _ law_sorted (λ x. law_pure (clause.Sorted x ∷ []))) (law_pure []))

law_reduced_only : Steady reduced_only
unfolding reduced_only
law_reduced_only = law_bind _ _ (law_eat k.Reduced) (λ b. law_if _ _ b (law_bind _ _ law_reduced (λ x. law_pure (clause.Reduced x ∷ []))) (law_pure []))

law_shape_by : (kind : Kind) → Steady (shape_by kind)
law_shape_by k.Sorted = law_bind _ _ law_take (λ _. law_bind _ _ law_sorted (λ x. law_bind _ _ law_reduced_only (λ xs. law_pure (clause.Sorted x ∷ xs))))
law_shape_by k.Reduced = law_bind _ _ law_take (λ _. law_bind _ _ law_reduced (λ x. law_bind _ _ law_sorted_only (λ xs. law_pure (clause.Reduced x ∷ xs))))
law_shape_by _ = law_pure []

law_selection : (d : ℕ) → Steady (selection d)
unfolding selection shape
law_selection d = law_bind _ _ law_first (λ n. law_bind _ _ law_crossed (λ over. law_bind _ _ (law_with (level_at d) (law_cond_at d) (law_test_at d) (law_expr_at d))
    (λ w. law_bind _ _ (law_bind _ _ law_peek law_shape_by) (λ o. law_pure _))))

law_store : (d : ℕ) → Steady (store d)
unfolding store
law_store d = law_bind _ _ law_range (λ r. law_bind _ _ (law_expect k.Using) (λ _. law_bind _ _ (law_assigns d) (λ vs. law_bind _ _ (law_expect k.EndStore) (λ _. law_pure _))))

law_modify : (d : ℕ) → Steady (modify d)
unfolding modify
law_modify d = law_bind _ _ law_name (λ r. law_bind _ _ (law_expect k.Using) (λ _. law_bind _ _ (law_assigns d) (λ vs. law_bind _ _ (law_expect k.EndModify) (λ _. law_pure _))))

law_print : (d : ℕ) → Steady (print d)
unfolding print printed_list
law_print d = law_bind _ _ (law_separated k.Comma comma_apart (printed d) (law_printed d)) (λ ps. law_pure _)

module _ (d : ℕ) (na : Parser Action) (ta : Shrinks na) where
  body_end : (n : ℕ) (found : List Action) → body_from d na n found [] ≡ Ok (found, [])
  unfolding body_from kind
  body_end zero found = refl
  body_end (suc n) found = refl

  body_step : (n m : ℕ) → ((found : List Action) → Pair n m (body_from d na n found) (body_from d na m found)) → (found : List Action) → Pair (suc n) (suc m) (body_from d na (suc n) found) (body_from d na (suc m) found)
  unfolding body_from point
  body_step n m more found =
      pair_peek (suc n) (suc m)
      (λ kd. cond (begins_action kd) (na >>= (λ x. eat k.Dot >>= (λ _. body_from d na n (found ++ x ∷ [])))) (pure found))
      (λ kd. cond (begins_action kd) (na >>= (λ x. eat k.Dot >>= (λ _. body_from d na m (found ++ x ∷ [])))) (pure found))
      (λ kd. pair_if (suc n) (suc m) (na >>= (λ x. eat k.Dot >>= (λ _. body_from d na n (found ++ x ∷ [])))) (pure found) (na >>= (λ x. eat k.Dot >>= (λ _. body_from d na m (found ++ x ∷ [])))) (pure found) (begins_action kd)
      (pair_takes n m na na (λ x. eat k.Dot >>= (λ _. body_from d na n (found ++ x ∷ []))) (λ x. eat k.Dot >>= (λ _. body_from d na m (found ++ x ∷ []))) ta ta (ta.steady.pair (suc n) (suc m))
      (λ x. pair_bind n m (eat k.Dot) (eat k.Dot) (λ _. body_from d na n (found ++ x ∷ [])) (λ _. body_from d na m (found ++ x ∷ [])) ((law_eat k.Dot).pair n m) (λ _. more (found ++ x ∷ []))))
      (pair_pure (suc n) (suc m) found))

  takes_for : Shrinks (for_action d na)
  unfolding for_action body open_level
  takes_for = takes_bind _ _ (takes_if _ _ _ takes_refuse (takes_first _ (λ _. law_pure tt))) (λ _. law_bind _ _ (law_selection d)
      (λ o. law_bind _ _ (law_loop (body_from d na) (λ found. found) body_end body_step []) (λ xs. law_bind _ _ (law_expect k.EndFor) (λ _. law_pure _))))

  takes_action_by : (nested : Bool) (kind : Kind) → Shrinks (action_by d na nested kind)
  takes_action_by nested k.Store = takes_first _ (λ _. law_store d)
  takes_action_by nested k.For = takes_for
  takes_action_by nested k.Print = takes_first _ (λ _. law_print d)
  takes_action_by nested k.Modify = takes_if _ _ nested (takes_first _ (λ _. law_modify d)) takes_refuse
  takes_action_by nested k.Erase = takes_if _ _ nested (takes_first _ (λ _. law_bind _ _ law_name (λ v. law_pure (a.Erase v)))) takes_refuse
  takes_action_by nested _ = takes_refuse

  takes_action : (nested : Bool) → Shrinks (action d na nested)
  unfolding action
  takes_action nested = takes_peek _ (takes_action_by nested)

pub takes_action_at : (d : ℕ) (nested : Bool) → Shrinks (action_at d nested)
unfolding action_at
takes_action_at zero nested = takes_refuse
takes_action_at (suc d) nested = takes_action d (action_at d true) (takes_action_at d true) nested

pub law_action_at : (d : ℕ) (nested : Bool) → Steady (action_at d nested)
law_action_at d nested = (takes_action_at d nested).steady
