-- Each production looks at one token at most of what follows.
use Rattle.std.proofs.Common.{◌≡◌, ℕ, zero, suc, Bool, true, false, cond, List, [], ◌∷◌, ◌++◌, Option, Some, None}
use Rattle.rdo_ast.specs.declared.syntax.Comparison.{Comparison}
use Rattle.rdo_ast.specs.declared.syntax.Arithmetic.{Arithmetic}
use Rattle.rdo_ast.specs.declared.syntax.Arithmetic.TheVariants as by
use Rattle.rdo_ast.specs.declared.syntax.Operation.{Operation}
use Rattle.rdo_ast.specs.declared.syntax.Statistic.{Statistic}
use Rattle.rdo_ast.specs.declared.syntax.Statistic.TheVariants as of
use Rattle.rdo_ast.specs.declared.syntax.Test.TheVariants as t
use Rattle.rdo_ast.specs.declared.syntax.Clause.TheVariants as clause
use Rattle.rdo_ast.specs.declared.syntax.Expression.{Expression}
use Rattle.rdo_ast.specs.declared.syntax.Expression.TheVariants as e
use Rattle.rdo_ast.specs.declared.syntax.Action.{Action}
use Rattle.rdo_ast.specs.declared.syntax.Action.TheVariants as a
use Rattle.rdo_ast.specs.declared.syntax.Assign.{Assign}
use Rattle.rdo_ast.specs.declared.syntax.PrintItem.TheVariants as p
use Rattle.rdo_tokens.specs.declared.token.Kind.{Kind}
use Rattle.rdo_tokens.specs.declared.token.Kind.TheVariants as k
use Rattle.rdo_tokens.specs.Lex.{Text, same_kind, max_number}
use Rattle.rdo_tokens.specs.Input.{Parser, ◌>>=◌, pure, peek, sees}
use Rattle.rdo_grammar.specs.Ahead.{LooksAhead}
use Rattle.rdo_grammar.specs.Grammar as g
use Rattle.rdo_grammar.specs.Grammar.{Level, level_at, operation, chained, crossed, ranges, range, first, open_level, with, inner, count, statistic, minus, parenthesized, statistic_of, statistic_by, prim_by, prim, products_from, products, term_after, term, signed_term, sums_from, sums, expr_after, expr, expr_with, compared, between, compare_by, compare_op, compare_after, compare, negated, grouped, any, test_by, one_test, tests, conj, conjunctions, cond_at, test_at, expr_at, operator, ref_from, reference, assign, assigns_from, assigns, printed_ref, printed_name, printed_by, printed, order_by, order, key, keys, references, sorted, reduced, sorted_only, reduced_only, shape_by, shape, selection, store, modify, print, printed_list, point, begins_action, body_from, body, for_action, action_by, action, action_at}
use Rattle.rdo_grammar.proofs.TakesLaws.{TakesToken, takes_refuse, takes_first, takes_peek, takes_if, takes_bind}
use Rattle.rdo_grammar.proofs.AheadLaws.{law_pure, law_refuse, law_bind, law_peek, law_take, law_expect, law_name, law_eat, law_sized, law_if, law_text, law_number, law_whole, law_separated}

law_reference : LooksAhead reference
unfolding reference ref_from
law_reference = law_bind _ _ law_name (λ v. law_bind _ _ (law_expect k.Dot) (λ _. law_bind _ _ law_name (λ f. law_pure _)))

law_range : LooksAhead range
unfolding range
law_range = law_bind _ _ law_name (λ v. law_bind _ _ (law_expect k.In) (λ _. law_bind _ _ law_name (λ f. law_pure _)))

law_crossed : LooksAhead crossed
unfolding crossed
law_crossed = law_separated k.Cross range law_range

law_ranges : (is_single : Bool) → LooksAhead (ranges is_single)
unfolding ranges
law_ranges is_single = law_if _ _ is_single (law_bind _ _ law_range (λ x. law_pure _)) law_crossed

law_first : LooksAhead first
unfolding first
law_first = law_bind _ _ (law_eat k.First) (λ found. law_if _ _ found (law_bind _ _ (law_whole 0 max_number) (λ n. law_pure (Some n))) (law_pure None))

module _ (v : Level) (lc : LooksAhead v.next_cond) (lt : LooksAhead v.next_test) (le : (alone plain : Bool) → LooksAhead (v.next_expr alone plain)) where
  law_open : LooksAhead (open_level v)
  unfolding open_level
  law_open = law_if _ _ _ law_refuse (law_bind _ _ law_take (λ _. law_pure tt))

  law_with : LooksAhead (with v)
  unfolding with
  law_with = law_bind _ _ (law_eat k.With) (λ found. law_if _ _ found (law_bind _ _ lc (λ x. law_pure (Some x))) (law_pure None))

  law_inner : (is_single : Bool) → LooksAhead (inner v is_single)
  unfolding inner
  law_inner is_single = law_bind _ _ law_first (λ n. law_bind _ _ (law_ranges is_single) (λ over. law_bind _ _ law_with (λ condition. law_pure _)))

  law_count : LooksAhead (count v)
  unfolding count
  law_count = law_bind _ _ (law_expect k.Of) (λ _. law_bind _ _ (law_inner true) (λ x. law_pure _))

  law_statistic : (which : Statistic) → LooksAhead (statistic v which)
  unfolding statistic
  law_statistic which = law_bind _ _ (le false true) (λ v. law_bind _ _ (law_expect k.Of) (λ _. law_bind _ _ (law_inner true) (λ x. law_pure _)))

  law_minus : (plain : Bool) → LooksAhead (minus v plain)
  unfolding minus
  law_minus plain = law_bind _ _ law_open (λ _. law_bind _ _ (le true plain) (λ x. law_pure _))

  law_parenthesized : (plain : Bool) → LooksAhead (parenthesized v plain)
  unfolding parenthesized
  law_parenthesized plain = law_bind _ _ law_open (λ _. law_bind _ _ (le false plain) (λ x. law_bind _ _ (law_expect k.Close) (λ _. law_pure x)))

  law_statistic_of : (kind : Kind) → LooksAhead (statistic_of v kind)
  law_statistic_of k.Count = law_count
  law_statistic_of k.Total = law_statistic of.Total
  law_statistic_of k.Min = law_statistic of.Minimum
  law_statistic_of _ = law_statistic of.Maximum

  law_statistic_by : (kind : Kind) → LooksAhead (statistic_by v kind)
  unfolding statistic_by
  law_statistic_by kind = law_bind _ _ law_open (λ _. law_statistic_of kind)

  law_prim_by : (plain : Bool) (kind : Kind) → LooksAhead (prim_by v plain kind)
  law_prim_by plain k.Number = law_bind _ _ law_number (λ x. law_pure _)
  law_prim_by plain k.Quoted = law_bind _ _ law_text (λ x. law_pure _)
  law_prim_by plain k.Name = law_bind _ _ law_reference (λ x. law_pure _)
  law_prim_by plain k.Minus = law_minus plain
  law_prim_by plain k.Open = law_parenthesized plain
  law_prim_by plain k.Count = law_if _ _ plain law_refuse (law_statistic_by k.Count)
  law_prim_by plain k.Total = law_if _ _ plain law_refuse (law_statistic_by k.Total)
  law_prim_by plain k.Min = law_if _ _ plain law_refuse (law_statistic_by k.Min)
  law_prim_by plain k.Max = law_if _ _ plain law_refuse (law_statistic_by k.Max)
  law_prim_by plain _ = law_refuse

  law_prim : (plain : Bool) → LooksAhead (prim v plain)
  unfolding prim
  law_prim plain = law_bind _ _ law_peek (λ kind. law_prim_by plain kind)

  law_products_from : (plain : Bool) (n : ℕ) (found : List Operation) → LooksAhead (products_from v plain n found)
  unfolding products_from
  law_products_from plain zero found = law_pure found
  law_products_from plain (suc n) found =
      law_bind _ _ (law_eat k.Star) (λ more. law_if _ _ more (law_bind _ _ (law_prim plain) (λ x. law_products_from plain n (found ++ operation by.Times x ∷ []))) (law_pure found))

  law_term_after : (plain : Bool) (x : Expression) → LooksAhead (term_after v plain x)
  unfolding term_after products
  law_term_after plain x = law_bind _ _ (law_sized (λ n. products_from v plain n []) (λ n. law_products_from plain n [])) (λ all. law_pure _)

  law_term : (plain : Bool) → LooksAhead (term v plain)
  unfolding term
  law_term plain = law_bind _ _ (law_prim plain) (λ l. law_term_after plain l)

  law_signed_term : (plain : Bool) (o : Arithmetic) → LooksAhead (signed_term v plain o)
  unfolding signed_term
  law_signed_term plain o = law_bind _ _ (law_term plain) (λ x. law_pure _)

  law_sums_from : (plain : Bool) (n : ℕ) (found : List Operation) → LooksAhead (sums_from v plain n found)
  unfolding sums_from
  law_sums_from plain zero found = law_pure found
  law_sums_from plain (suc n) found = law_bind _ _ (law_eat k.Plus) (λ plus. law_if _ _ plus
      (law_bind _ _ (law_signed_term plain by.Plus) (λ x. law_sums_from plain n (found ++ x ∷ [])))
      (law_bind _ _ (law_eat k.Minus) (λ less. law_if _ _ less (law_bind _ _ (law_signed_term plain by.Minus) (λ x. law_sums_from plain n (found ++ x ∷ []))) (law_pure found))))

  law_expr_after : (plain : Bool) (x : Expression) → LooksAhead (expr_after v plain x)
  unfolding expr_after sums
  law_expr_after plain x = law_bind _ _ (law_sized (λ n. sums_from v plain n []) (λ n. law_sums_from plain n [])) (λ all. law_pure _)

  law_expr : (plain : Bool) → LooksAhead (expr v plain)
  unfolding expr
  law_expr plain = law_bind _ _ (law_term plain) (λ l. law_expr_after plain l)

  law_expr_with : (x : Expression) → LooksAhead (expr_with v x)
  unfolding expr_with
  law_expr_with x = law_bind _ _ (law_term_after false x) (λ l. law_expr_after false l)

  law_compared : (o : Comparison) (l : Expression) → LooksAhead (compared v o l)
  unfolding compared
  law_compared o l = law_bind _ _ (law_expr false) (λ r. law_pure _)

  law_between : (l : Expression) → LooksAhead (between v l)
  unfolding between
  law_between l = law_bind _ _ (law_expr false) (λ low. law_bind _ _ (law_expect k.And) (λ _. law_bind _ _ (law_expr false) (λ high. law_pure _)))

  law_compare_by : (l : Expression) (kind : Kind) → LooksAhead (compare_by v l kind)
  law_compare_by l k.Between = law_bind _ _ law_take (λ _. law_between l)
  law_compare_by l k.Containing = law_bind _ _ law_take (λ _. law_bind _ _ (law_expr false) (λ r. law_pure (t.Containing l r)))
  law_compare_by l k.Starting = law_bind _ _ (law_bind _ _ law_take (λ _. law_expect k.With)) (λ _. law_bind _ _ (law_expr false) (λ r. law_pure (t.StartingWith l r)))
  law_compare_by l k.Missing = law_bind _ _ law_take (λ _. law_pure (t.Missing l))
  law_compare_by l _ = law_refuse

  law_compare_op : (l : Expression) (kind : Kind) (o : Option Comparison) → LooksAhead (compare_op v l kind o)
  law_compare_op l kind (Some o) = law_bind _ _ law_take (λ _. law_compared o l)
  law_compare_op l kind None = law_compare_by l kind

  law_compare : LooksAhead (compare v)
  unfolding compare compare_after
  law_compare = law_bind _ _ (law_expr false) (λ l. law_bind _ _ law_peek (λ kind. law_compare_op l kind (operator kind)))

  law_test_by : (kind : Kind) → LooksAhead (test_by v kind)
  unfolding negated grouped any
  law_test_by k.Not = law_bind _ _ law_open (λ _. law_bind _ _ lt (λ x. law_pure (t.Not x)))
  law_test_by k.Open = law_bind _ _ law_open (λ _. law_bind _ _ lc (λ x. law_bind _ _ (law_expect k.Close) (λ _. law_pure (t.Group x))))
  law_test_by k.Any = law_bind _ _ law_open (λ _. law_bind _ _ (law_inner false) (λ x. law_pure (t.Any x)))
  law_test_by _ = law_compare

  law_test : LooksAhead (one_test v)
  unfolding one_test
  law_test = law_bind _ _ law_peek law_test_by

  law_conj : LooksAhead (conj v)
  unfolding conj tests
  law_conj = law_bind _ _ (law_separated k.And (one_test v) law_test) (λ all. law_pure _)

  law_cond : LooksAhead (g.cond v)
  unfolding g.cond conjunctions
  law_cond = law_bind _ _ (law_separated k.Or (conj v) law_conj) (λ all. law_pure _)

mutual
  unfolding cond_at test_at expr_at

  pub law_cond_at : (d : ℕ) → LooksAhead (cond_at d)
  law_cond_at zero = law_refuse
  law_cond_at (suc d) = law_cond (level_at d) (law_cond_at d) (law_test_at d) (law_expr_at d)

  pub law_test_at : (d : ℕ) → LooksAhead (test_at d)
  law_test_at zero = law_refuse
  law_test_at (suc d) = law_test (level_at d) (law_cond_at d) (law_test_at d) (law_expr_at d)

  pub law_expr_at : (d : ℕ) (alone plain : Bool) → LooksAhead (expr_at d alone plain)
  law_expr_at zero alone plain = law_refuse
  law_expr_at (suc d) true plain = law_prim (level_at d) (law_cond_at d) (law_test_at d) (law_expr_at d) plain
  law_expr_at (suc d) false plain = law_expr (level_at d) (law_cond_at d) (law_test_at d) (law_expr_at d) plain

-- ---- selections and actions

law_whole_expr : (d : ℕ) → LooksAhead (expr (level_at d) false)
law_whole_expr d = law_expr (level_at d) (law_cond_at d) (law_test_at d) (law_expr_at d) false

law_assign : (d : ℕ) → LooksAhead (assign d)
unfolding assign
law_assign d = law_bind _ _ law_reference (λ f. law_bind _ _ (law_expect k.Equal) (λ _. law_bind _ _ (law_whole_expr d) (λ v. law_bind _ _ (law_expect k.Semicolon) (λ _. law_pure _))))

law_assigns_from : (d n : ℕ) (found : List Assign) → LooksAhead (assigns_from d n found)
unfolding assigns_from sees
law_assigns_from d zero found = law_pure found
law_assigns_from d (suc n) found = law_bind peek (λ kd. cond (same_kind kd k.Name) (assign d >>= (λ x. assigns_from d n (found ++ x ∷ []))) (pure found)) law_peek
    (λ kd. law_if _ _ (same_kind kd k.Name) (law_bind _ _ (law_assign d) (λ x. law_assigns_from d n (found ++ x ∷ []))) (law_pure found))

law_assigns : (d : ℕ) → LooksAhead (assigns d)
unfolding assigns
law_assigns d = law_sized (λ n. assigns_from d n []) (λ n. law_assigns_from d n [])

law_printed_ref : (d : ℕ) (v : Text) → LooksAhead (printed_ref d v)
unfolding printed_ref ref_from
law_printed_ref d v = law_bind _ _ (law_bind _ _ law_name (λ f. law_pure _)) (λ r. law_bind _ _ (law_expr_with (level_at d) (law_cond_at d) (law_test_at d) (law_expr_at d) (e.Field r)) (λ x. law_pure _))

law_printed_by : (d : ℕ) (kind : Kind) → LooksAhead (printed_by d kind)
unfolding printed_name
law_printed_by d k.Name = law_bind _ _ law_name (λ v. law_bind _ _ (law_expect k.Dot) (λ _. law_bind _ _ (law_eat k.Star) (λ all. law_if _ _ all (law_pure (p.Fields v)) (law_printed_ref d v))))
law_printed_by d _ = law_bind _ _ (law_whole_expr d) (λ v. law_pure _)

law_printed : (d : ℕ) → LooksAhead (printed d)
unfolding printed
law_printed d = law_bind _ _ law_peek (law_printed_by d)

law_order_by : (kind : Kind) → LooksAhead (order_by kind)
law_order_by k.Ascending = law_bind _ _ law_take (λ _. law_pure false)
law_order_by k.Descending = law_bind _ _ law_take (λ _. law_pure true)
law_order_by _ = law_pure false

law_key : LooksAhead key
unfolding key order
law_key = law_bind _ _ (law_bind _ _ law_peek law_order_by) (λ b. law_bind _ _ law_reference (λ f. law_pure _))

law_sorted : LooksAhead sorted
unfolding sorted keys
law_sorted = law_bind _ _ (law_expect k.By) (λ _. law_separated k.Comma key law_key)

law_reduced : LooksAhead reduced
unfolding reduced references
law_reduced = law_bind _ _ (law_expect k.To) (λ _. law_separated k.Comma reference law_reference)

law_sorted_only : LooksAhead sorted_only
unfolding sorted_only
law_sorted_only = law_bind _ _ (law_eat k.Sorted) (λ b. law_if _ _ b (law_bind _ _ law_sorted (λ x. law_pure (clause.Sorted x ∷ []))) (law_pure []))

law_reduced_only : LooksAhead reduced_only
unfolding reduced_only
law_reduced_only = law_bind _ _ (law_eat k.Reduced) (λ b. law_if _ _ b (law_bind _ _ law_reduced (λ x. law_pure (clause.Reduced x ∷ []))) (law_pure []))

law_shape_by : (kind : Kind) → LooksAhead (shape_by kind)
law_shape_by k.Sorted = law_bind _ _ law_take (λ _. law_bind _ _ law_sorted (λ x. law_bind _ _ law_reduced_only (λ xs. law_pure (clause.Sorted x ∷ xs))))
law_shape_by k.Reduced = law_bind _ _ law_take (λ _. law_bind _ _ law_reduced (λ x. law_bind _ _ law_sorted_only (λ xs. law_pure (clause.Reduced x ∷ xs))))
law_shape_by _ = law_pure []

law_selection : (d : ℕ) → LooksAhead (selection d)
unfolding selection shape
law_selection d = law_bind _ _ law_first (λ n. law_bind _ _ law_crossed (λ over. law_bind _ _ (law_with (level_at d) (law_cond_at d) (law_test_at d) (law_expr_at d))
    (λ w. law_bind _ _ (law_bind _ _ law_peek law_shape_by) (λ o. law_pure _))))

law_store : (d : ℕ) → LooksAhead (store d)
unfolding store
law_store d = law_bind _ _ law_range (λ r. law_bind _ _ (law_expect k.Using) (λ _. law_bind _ _ (law_assigns d) (λ vs. law_bind _ _ (law_expect k.EndStore) (λ _. law_pure _))))

law_modify : (d : ℕ) → LooksAhead (modify d)
unfolding modify
law_modify d = law_bind _ _ law_name (λ r. law_bind _ _ (law_expect k.Using) (λ _. law_bind _ _ (law_assigns d) (λ vs. law_bind _ _ (law_expect k.EndModify) (λ _. law_pure _))))

law_print : (d : ℕ) → LooksAhead (print d)
unfolding print printed_list
law_print d = law_bind _ _ (law_separated k.Comma (printed d) (law_printed d)) (λ ps. law_pure _)

module _ (d : ℕ) (na : Parser Action) (la : LooksAhead na) where
  law_body_from : (n : ℕ) (found : List Action) → LooksAhead (body_from d na n found)
  unfolding body_from point
  law_body_from zero found = law_pure found
  law_body_from (suc n) found = law_bind _ _ law_peek (λ kd. law_if _ _ (begins_action kd)
      (law_bind _ _ la (λ x. law_bind _ _ (law_eat k.Dot) (λ _. law_body_from n (found ++ x ∷ [])))) (law_pure found))

  law_for : LooksAhead (for_action d na)
  unfolding for_action body
  law_for = law_bind _ _ (law_open (level_at d) (law_cond_at d) (law_test_at d) (law_expr_at d)) (λ _. law_bind _ _ (law_selection d)
      (λ o. law_bind _ _ (law_sized (λ n. body_from d na n []) (λ n. law_body_from n [])) (λ xs. law_bind _ _ (law_expect k.EndFor) (λ _. law_pure _))))

  law_action_by : (nested : Bool) (kind : Kind) → LooksAhead (action_by d na nested kind)
  law_action_by nested k.Store = law_bind _ _ law_take (λ _. law_store d)
  law_action_by nested k.For = law_for
  law_action_by nested k.Print = law_bind _ _ law_take (λ _. law_print d)
  law_action_by nested k.Modify = law_if _ _ nested (law_bind _ _ law_take (λ _. law_modify d)) law_refuse
  law_action_by nested k.Erase = law_if _ _ nested (law_bind _ _ law_take (λ _. law_bind _ _ law_name (λ v. law_pure (a.Erase v)))) law_refuse
  law_action_by nested _ = law_refuse

  law_action : (nested : Bool) → LooksAhead (action d na nested)
  unfolding action
  law_action nested = law_bind _ _ law_peek (law_action_by nested)

  takes_for : TakesToken (for_action d na)
  unfolding for_action body open_level
  takes_for = takes_bind _ _ (takes_if _ _ _ takes_refuse (takes_first _ (λ _. law_pure tt))) (λ _. law_bind _ _ (law_selection d)
      (λ o. law_bind _ _ (law_sized (λ n. body_from d na n []) (λ n. law_body_from n [])) (λ xs. law_bind _ _ (law_expect k.EndFor) (λ _. law_pure _))))

  takes_action_by : (nested : Bool) (kind : Kind) → TakesToken (action_by d na nested kind)
  takes_action_by nested k.Store = takes_first _ (λ _. law_store d)
  takes_action_by nested k.For = takes_for
  takes_action_by nested k.Print = takes_first _ (λ _. law_print d)
  takes_action_by nested k.Modify = takes_if _ _ nested (takes_first _ (λ _. law_modify d)) takes_refuse
  takes_action_by nested k.Erase = takes_if _ _ nested (takes_first _ (λ _. law_bind _ _ law_name (λ v. law_pure (a.Erase v)))) takes_refuse
  takes_action_by nested _ = takes_refuse

  takes_action : (nested : Bool) → TakesToken (action d na nested)
  unfolding action
  takes_action nested = takes_peek _ (takes_action_by nested)

pub law_action_at : (d : ℕ) (nested : Bool) → LooksAhead (action_at d nested)
unfolding action_at
law_action_at zero nested = law_refuse
law_action_at (suc d) nested = law_action d (action_at d true) (law_action_at d true) nested

pub takes_action_at : (d : ℕ) (nested : Bool) → TakesToken (action_at d nested)
unfolding action_at
takes_action_at zero nested = takes_refuse
takes_action_at (suc d) nested = takes_action d (action_at d true) (law_action_at d true) nested
