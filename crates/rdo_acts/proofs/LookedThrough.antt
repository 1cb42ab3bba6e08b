-- Selections, printed items and actions that are looked through.
use Rattle.std.proofs.Common.{◌≡◌, ◌<◌, ◌++◌, ℕ, zero, suc, List, [], ◌∷◌, map, length, get_or, Option, Result, Ok, Err, OnOk, sym, ap, subst, ◌∙◌, append-nil, rules, arith}
use Rattle.std.specs.Prelude.{IfOk}
use Rattle.std.specs.List.{All}
use Rattle.std.proofs.lemmas.List.Elements.{All-get_or}
use Rattle.rdb_types.specs.declared.keys.Dbkey.{Dbkey}
use Rattle.rdo_ast.specs.declared.syntax.Range.{Range}
use Rattle.rdb_meaning.specs.declared.tables.Tables.{Tables}
use Rattle.rdb_meaning.specs.Contents.{Row}
use Rattle.rdb_meaning.specs.Evaluation.{bind_tuple}
use Rattle.relation_rows.specs.declared.stored.StoredRow.{StoredRow}
use Rattle.sorted_index_laws.specs.Nodes.{AnyByRecursion}
use Rattle.rdo_values.specs.declared.bound.BoundRange.{BoundRange}
use Rattle.rdo_ast.specs.declared.syntax.Statistic.{Statistic}
use Rattle.rdo_values.specs.declared.bound.BoundExpression as tree
use Rattle.rdo_values.specs.declared.bound.BoundExpression.{BoundExpression}
use Rattle.rdo_values.specs.declared.bound.BoundInner.{BoundInner}
use Rattle.rdo_values.specs.Tree.{Expression, ranging, With, without_condition, with_condition, count, statistic}
use Rattle.rdo_values.specs.Views.{expression_of, ranging_of}
use Rattle.rdo_values.specs.Places.{IsBound, IsBoundRanging, ranges_in}
use Rattle.rdo_values.proofs.Tuples.{variables_of_tuple}
use Rattle.rdo_bind.specs.declared.action.BoundAction.{BoundAction}
use Rattle.rdo_bind.specs.declared.action.BoundPrintItem.{BoundPrintItem}
use Rattle.rdo_bind.specs.declared.action.BoundPrintItem.TheVariants.{Value, Fields}
use Rattle.rdo_bind.specs.Acting.{act_of, acts_of, IsBoundItem}
use Rattle.rdo_select.specs.declared.crossing.Found.{Found}
use Rattle.rdo_select.specs.Chosen.{sole_tests}
use Rattle.rdo_select.specs.Sources.{Listed}
use Rattle.rdo_select.specs.Stops.{HaveValues}
use Rattle.served_selections.specs.Ranges.{Chosen, chosen_from, chosen_in, chosen_in_condition, chosen_in_ranging}
use Rattle.served_selections.proofs.Lists.{any_left, any_right}
use Rattle.index_ahead.specs.Added.{AddsOnly}
use Rattle.rdo_acts.specs.Looking.{IsReadBy, AreValuesOf, StandBehind}
use Rattle.rdo_acts.specs.Selections.{chosen_in_items, chosen_in_act, chosen_in_acts}
use Rattle.index_ahead.proofs.Added.{added_as}

pub if_ok : {T E : Type 0} (r : Result T E) (P Q : Type 0) → (P → Q) → OnOk r P → OnOk r Q
if_ok (Ok x) P Q f h = f h
if_ok (Err e) P Q f h = tt

pub if_given : {T E : Type 0} (r : Result T E) (P Q : T → Type 0) → ((x : T) → P x → Q x) → IfOk r P → IfOk r Q
if_given (Ok x) P Q f h = f x h
if_given (Err e) P Q f h = tt

-- ---- rows and tuples

pub stand_at : (t : Tables) (vs : List Range) (before : Row) (rows : List StoredRow) (i : ℕ) (x : StoredRow) → StandBehind t vs before rows → i < length rows → x ≡ get_or rows i x → AreValuesOf t vs (before ++ x.row)
stand_at t vs before [] i x stand within is = absurd (omega (arith, within))
stand_at t vs before (y ∷ ys) zero x stand within is = subst (λ (z : StoredRow). AreValuesOf t vs (before ++ z.row)) (sym is) stand.0
stand_at t vs before (y ∷ ys) (suc i) x stand within is = stand_at t vs before ys i x stand.1 (omega (arith, within)) is

pub item_bound : (t : Tables) (vs : List Range) (items : List BoundPrintItem) (i : ℕ) (x : BoundPrintItem) → All (IsBoundItem t vs) items → i < length items → x ≡ get_or items i x → IsBoundItem t vs x
item_bound t vs items i x bound within is = subst (IsBoundItem t vs) (sym is) (All-get_or (IsBoundItem t vs) items i x within bound)

-- ---- which item it is

count_is : (i j : BoundInner) → j ≡ i → expression_of (tree.Count i) ≡ count (ranging_of j)
count_is i j same = search (rules, tree.the_lemmas)

statistic_is : (kind : Statistic) (e : BoundExpression) (i j : BoundInner) → j ≡ i → expression_of (tree.Statistic kind e i) ≡ statistic kind (expression_of e) (ranging_of j)
statistic_is kind e i j same = search (rules, tree.the_lemmas)

pub count_bound : (t : Tables) (vs : List Range) (item : BoundPrintItem) (i j : BoundInner) → item ≡ Value (tree.Count i) → j ≡ i → IsBoundItem t vs item → IsBoundRanging (ranging_of j) t vs
count_bound t vs item i j is same bound = subst (λ (x : Expression). IsBound x t vs) (count_is i j same) (subst (IsBoundItem t vs) is bound)

pub statistic_bound : (t : Tables) (vs : List Range) (item : BoundPrintItem) (kind : Statistic) (e : BoundExpression) (i j : BoundInner) → item ≡ Value (tree.Statistic kind e i) → j ≡ i → IsBoundItem t vs item → IsBoundRanging (ranging_of j) t vs
statistic_bound t vs item kind e i j is same bound =
    let both : IsBound (statistic kind (expression_of e) (ranging_of j)) t vs = subst (λ (x : Expression). IsBound x t vs) (statistic_is kind e i j same) (subst (IsBoundItem t vs) is bound) in
    both.1

-- ---- what is read for a part is read for the whole

module _ (t : Tables) (sources : Listed) where
  module _ (mine all : List Chosen) (within : (line : Dbkey) → IsReadBy t sources mine line → IsReadBy t sources all line) where
    pub read_as : (old new : List Dbkey) → AddsOnly (IsReadBy t sources mine) old new → AddsOnly (IsReadBy t sources all) old new
    read_as old new h = added_as (IsReadBy t sources mine) (IsReadBy t sources all) within old new h

  pub left_read : (cs ds : List Chosen) (old new : List Dbkey) → AddsOnly (IsReadBy t sources cs) old new → AddsOnly (IsReadBy t sources (cs ++ ds)) old new
  left_read cs ds old new h = read_as cs (cs ++ ds) (λ line read. any_left _ cs ds read) old new h

  pub right_read : (cs ds : List Chosen) (old new : List Dbkey) → AddsOnly (IsReadBy t sources ds) old new → AddsOnly (IsReadBy t sources (cs ++ ds)) old new
  right_read cs ds old new h = read_as ds (cs ++ ds) (λ line read. any_right _ cs ds read) old new h

  -- ---- a selection

  pub with_read : (first : Option ℕ) (ss : List BoundRange) (vs : List Range) (w : With) (old new : List Dbkey) → AddsOnly (IsReadBy t sources (chosen_from ss vs (sole_tests w))) old new → AddsOnly (IsReadBy t sources (chosen_in_ranging (ranging first ss w) vs)) old new
  with_read first ss vs without_condition old new h = h
  with_read first ss vs (with_condition c) old new h = left_read (chosen_from ss vs (sole_tests (with_condition c))) (chosen_in_condition c (vs ++ map (λ s. s.range) ss)) old new h

  -- ---- printed items

  module _ (vs : List Range) where
    pub count_read : (item : BoundPrintItem) (i j : BoundInner) (old new : List Dbkey) → item ≡ Value (tree.Count i) → j ≡ i → AddsOnly (IsReadBy t sources (chosen_in_ranging (ranging_of j) vs)) old new → AddsOnly (IsReadBy t sources (chosen_in_items (item ∷ []) vs)) old new
    count_read item i j old new is same h =
        subst (λ (x : BoundPrintItem). AddsOnly (IsReadBy t sources (chosen_in_items (x ∷ []) vs)) old new) (sym is)
        (left_read (chosen_in (expression_of (tree.Count i)) vs) [] old new
        (subst (λ (x : Expression). AddsOnly (IsReadBy t sources (chosen_in x vs)) old new) (sym (count_is i j same)) h))

    pub statistic_read : (item : BoundPrintItem) (kind : Statistic) (e : BoundExpression) (i j : BoundInner) (old new : List Dbkey) → item ≡ Value (tree.Statistic kind e i) → j ≡ i → AddsOnly (IsReadBy t sources (chosen_in_ranging (ranging_of j) vs)) old new → AddsOnly (IsReadBy t sources (chosen_in_items (item ∷ []) vs)) old new
    statistic_read item kind e i j old new is same h =
        subst (λ (x : BoundPrintItem). AddsOnly (IsReadBy t sources (chosen_in_items (x ∷ []) vs)) old new) (sym is)
        (left_read (chosen_in (expression_of (tree.Statistic kind e i)) vs) [] old new
        (subst (λ (x : Expression). AddsOnly (IsReadBy t sources (chosen_in x vs)) old new) (sym (statistic_is kind e i j same))
        (right_read (chosen_in (expression_of e) (vs ++ ranges_in (ranging_of j))) (chosen_in_ranging (ranging_of j) vs) old new h)))

    first_item : (P : Chosen → Type 0) (x : BoundPrintItem) (xs : List BoundPrintItem) → AnyByRecursion P (chosen_in_items (x ∷ []) vs) → AnyByRecursion P (chosen_in_items (x ∷ xs) vs)
    first_item P (Value e) xs h =
        let own = chosen_in (expression_of e) vs in
        any_left P own (chosen_in_items xs vs) (subst (AnyByRecursion P) (append-nil own) h)
    first_item P (Fields v) xs h = absurd h

    more_items : (P : Chosen → Type 0) (x : BoundPrintItem) (xs : List BoundPrintItem) → AnyByRecursion P (chosen_in_items xs vs) → AnyByRecursion P (chosen_in_items (x ∷ xs) vs)
    more_items P (Value e) xs h = any_right P (chosen_in (expression_of e) vs) (chosen_in_items xs vs) h
    more_items P (Fields v) xs h = h

    item_in : (P : Chosen → Type 0) (items : List BoundPrintItem) (i : ℕ) (x : BoundPrintItem) → i < length items → x ≡ get_or items i x → AnyByRecursion P (chosen_in_items (x ∷ []) vs) → AnyByRecursion P (chosen_in_items items vs)
    item_in P [] i x within is h = absurd (omega (arith, within))
    item_in P (y ∷ ys) zero x within is h = first_item P y ys (subst (λ (z : BoundPrintItem). AnyByRecursion P (chosen_in_items (z ∷ []) vs)) is h)
    item_in P (y ∷ ys) (suc i) x within is h = more_items P y ys (item_in P ys i x (omega (arith, within)) is h)

    pub item_read : (items : List BoundPrintItem) (i : ℕ) (x : BoundPrintItem) (old new : List Dbkey) → i < length items → x ≡ get_or items i x → AddsOnly (IsReadBy t sources (chosen_in_items (x ∷ []) vs)) old new → AddsOnly (IsReadBy t sources (chosen_in_items items vs)) old new
    item_read items i x old new within is h = read_as (chosen_in_items (x ∷ []) vs) (chosen_in_items items vs) (λ line read. item_in _ items i x within is read) old new h

    -- ---- actions

    act_in : (P : Chosen → Type 0) (body : List BoundAction) (i : ℕ) (x : BoundAction) → i < length body → x ≡ get_or body i x → AnyByRecursion P (chosen_in_act (act_of x) vs) → AnyByRecursion P (chosen_in_acts (acts_of (map act_of body)) vs)
    act_in P [] i x within is h = absurd (omega (arith, within))
    act_in P (y ∷ ys) zero x within is h = any_left P (chosen_in_act (act_of y) vs) (chosen_in_acts (acts_of (map act_of ys)) vs) (subst (λ (z : BoundAction). AnyByRecursion P (chosen_in_act (act_of z) vs)) is h)
    act_in P (y ∷ ys) (suc i) x within is h = any_right P (chosen_in_act (act_of y) vs) (chosen_in_acts (acts_of (map act_of ys)) vs) (act_in P ys i x (omega (arith, within)) is h)

    pub act_read : (body : List BoundAction) (i : ℕ) (x : BoundAction) (old new : List Dbkey) → i < length body → x ≡ get_or body i x → AddsOnly (IsReadBy t sources (chosen_in_act (act_of x) vs)) old new → AddsOnly (IsReadBy t sources (chosen_in_acts (acts_of (map act_of body)) vs)) old new
    act_read body i x old new within is h = read_as (chosen_in_act (act_of x) vs) (chosen_in_acts (acts_of (map act_of body)) vs) (λ line read. act_in _ body i x within is read) old new h

-- ---- tuples

pub tuple_at : (t : Tables) (vs ss : List Range) (own : Row) (values : AreValuesOf t vs own) (tuples : List Found) (i : ℕ) (x : Found) → HaveValues ss t values.scope tuples → i < length tuples → x ≡ get_or tuples i x → AreValuesOf t (vs ++ ss) x.row
tuple_at t vs ss own values [] i x have within is = absurd (omega (arith, within))
tuple_at t vs ss own values (y ∷ ys) zero x have within is = subst (λ (z : Found). AreValuesOf t (vs ++ ss) z.row) (sym is) (record {
  scope = bind_tuple ss y.tuple values.scope;
  variables = variables_of_tuple ss y.tuple values.scope have.0.0 ∙ ap (λ (l : List Range). l ++ ss) values.variables;
  row = sym have.0.1;
})
tuple_at t vs ss own values (y ∷ ys) (suc i) x have within is = tuple_at t vs ss own values ys i x have.1 (omega (arith, within)) is
