-- Uses whose areas are among those of others, and work that keeps to them.
use Rattle.std.proofs.Common.{◌≡◌, ℕ, ◌<◌, zero, suc, cond, List, [], ◌∷◌, ◌++◌, map, length, get_or, Result, Ok, Err, inl, inr, sym, subst, arith}
use Rattle.rdb_meaning.specs.declared.tables.Tables.{Tables}
use Rattle.rdb_meaning.specs.Contents.{relation_named}
use Rattle.rdb_meaning.specs.Checks.{Use, expression_uses, assignments_uses, shown_uses, act_uses, acts_uses}
use Rattle.rdb_meaning.specs.Evaluation.{Scope}
use Rattle.line_view.specs.declared.need.Need.{Need}
use Rattle.line_view.specs.declared.need.Need.TheVariants.{Line, Area, Room}
use Rattle.line_view.specs.declared.stop.Stop.{Stop}
use Rattle.statement_view.specs.Over.{Over}
use Rattle.statement_view.specs.Areas.{IsNeedOf}
use Rattle.row_writes.proofs.AreaLists.{Wider, writes_wider, StopsAt, stops_at}
use Rattle.used_areas.specs.Areas.{relation_areas, areas_read, areas_changed}
use Rattle.used_areas.proofs.More.{left_of, right_of, either, read_left, read_right, changed_left, changed_right}
use Rattle.rdo_values.specs.Views.{expression_of}
use Rattle.rdo_values.specs.Named.{named}
use Rattle.rdo_bind.specs.declared.assign.BoundAssign.{BoundAssign}
use Rattle.rdo_bind.specs.declared.action.BoundAction.{BoundAction}
use Rattle.rdo_bind.specs.declared.action.BoundPrintItem.{BoundPrintItem}
use Rattle.rdo_bind.specs.declared.action.BoundPrintItem.TheVariants.{Value, Fields}
use Rattle.rdo_bind.specs.Assigning.{written_assign}
use Rattle.rdo_bind.specs.Acting.{act_of, acts_of, named_act, named_acts, written_item}
use Rattle.rdo_acts.specs.declared.scope.BoundRow.{BoundRow}
use Rattle.rdo_acts.specs.Ends.{ActStop}
use Rattle.rdo_acts.specs.Scopes.{scope_of}
use Rattle.rdo_acts.specs.Areas.{scope_uses, action_uses, body_uses, KeepsFor}

-- what these uses read and change is among what those do
pub record Within (t : Tables) (us vs : List Use) : Type 0 where
  pub read : Wider (areas_read t us) (areas_read t vs)
  pub changed : Wider (areas_changed t us) (areas_changed t vs)

module _ (t : Tables) where
  pub self : (us : List Use) → Within t us us
  self us = record { read = λ a h. h; changed = λ a h. h }

  pub then : (us vs ws : List Use) → Within t us vs → Within t vs ws → Within t us ws
  then us vs ws one two = record { read = λ a h. two.read a (one.read a h); changed = λ a h. two.changed a (one.changed a h) }

  pub before : (us vs : List Use) → Within t us (us ++ vs)
  before us vs = record { read = λ a h. read_left t us vs a h; changed = λ a h. changed_left t us vs a h }

  pub behind : (us vs : List Use) → Within t vs (us ++ vs)
  behind us vs = record { read = λ a h. read_right t us vs a h; changed = λ a h. changed_right t us vs a h }

  none : (vs : List Use) → Within t [] vs
  none vs = record { read = λ a h. (let bad : ⊥ = cc in absurd bad); changed = λ a h. (let bad : ⊥ = cc in absurd bad) }

  read_joined : (us vs : List Use) (big : List ℕ) → Wider (areas_read t us) big → Wider (areas_read t vs) big → Wider (areas_read t (us ++ vs)) big
  read_joined [] vs big one two a h = two a h
  read_joined (u ∷ us) vs big one two a h =
      let own = relation_areas t (relation_named u.relation t) in
      elim (either own (areas_read t (us ++ vs)) a h) [
        | inl here ↦ one a (left_of own (areas_read t us) a here)
        | inr rest ↦ read_joined us vs big (λ b k. one b (right_of own (areas_read t us) b k)) two a rest
      ]

  changed_joined : (us vs : List Use) (big : List ℕ) → Wider (areas_changed t us) big → Wider (areas_changed t vs) big → Wider (areas_changed t (us ++ vs)) big
  changed_joined [] vs big one two a h = two a h
  changed_joined (u ∷ us) vs big one two a h =
      let own = cond u.changes (relation_areas t (relation_named u.relation t)) [] in
      elim (either own (areas_changed t (us ++ vs)) a h) [
        | inl here ↦ one a (left_of own (areas_changed t us) a here)
        | inr rest ↦ changed_joined us vs big (λ b k. one b (right_of own (areas_changed t us) b k)) two a rest
      ]

  pub both : (us vs ws : List Use) → Within t us ws → Within t vs ws → Within t (us ++ vs) ws
  both us vs ws one two = record {
    read = read_joined us vs (areas_read t ws) one.read two.read;
    changed = changed_joined us vs (areas_changed t ws) one.changed two.changed;
  }

  -- the uses of one item of a list are among those of all
  module _ {X : Type 0} (uses : List X → List Use) (first : (x : X) (xs : List X) → Within t (uses (x ∷ [])) (uses (x ∷ xs))) (rest : (x : X) (xs : List X) → Within t (uses xs) (uses (x ∷ xs))) where
    item_within : (xs : List X) (i : ℕ) (x : X) → i < length xs → x ≡ get_or xs i x → Within t (uses (x ∷ [])) (uses xs)
    item_within [] i x within is = absurd (omega (arith, within))
    item_within (y ∷ ys) zero x within is = subst (λ (z : X). Within t (uses (z ∷ [])) (uses (y ∷ ys))) (sym is) (first y ys)
    item_within (y ∷ ys) (suc i) x within is = then (uses (x ∷ [])) (uses ys) (uses (y ∷ ys)) (item_within ys i x (omega (arith, within)) is) (rest y ys)

  pub assign_within : (as' : List BoundAssign) (i : ℕ) (a : BoundAssign) → i < length as' → a ≡ get_or as' i a → Within t (assignments_uses (written_assign a ∷ [])) (assignments_uses (map written_assign as'))
  assign_within =
      item_within (λ (l : List BoundAssign). assignments_uses (map written_assign l))
      (λ a as'.
      both (expression_uses (written_assign a).right) [] (assignments_uses (map written_assign (a ∷ as'))) (before (expression_uses (written_assign a).right) (assignments_uses (map written_assign as')))
      (none (assignments_uses (map written_assign (a ∷ as')))))
      (λ a as'. behind (expression_uses (written_assign a).right) (assignments_uses (map written_assign as')))

  first_item : (x : BoundPrintItem) (xs : List BoundPrintItem) → Within t (shown_uses (map written_item (x ∷ []))) (shown_uses (map written_item (x ∷ xs)))
  first_item (Value e) xs =
      let own = expression_uses (named (expression_of e)) in
      both own [] (own ++ shown_uses (map written_item xs)) (before own (shown_uses (map written_item xs))) (none (own ++ shown_uses (map written_item xs)))
  first_item (Fields v) xs = none (shown_uses (map written_item xs))

  more_items : (x : BoundPrintItem) (xs : List BoundPrintItem) → Within t (shown_uses (map written_item xs)) (shown_uses (map written_item (x ∷ xs)))
  more_items (Value e) xs = behind (expression_uses (named (expression_of e))) (shown_uses (map written_item xs))
  more_items (Fields v) xs = self (shown_uses (map written_item xs))

  pub print_within : (items : List BoundPrintItem) (i : ℕ) (x : BoundPrintItem) → i < length items → x ≡ get_or items i x → Within t (shown_uses (written_item x ∷ [])) (shown_uses (map written_item items))
  print_within = item_within (λ (l : List BoundPrintItem). shown_uses (map written_item l)) first_item more_items

  pub variable_within : (vs : List BoundRow) (i : ℕ) (v : BoundRow) → i < length vs → v ≡ get_or vs i v → Within t (scope_uses (scope_of (v ∷ []))) (scope_uses (scope_of vs))
  variable_within =
      item_within (λ (l : List BoundRow). scope_uses (scope_of l))
      (λ v vs. before (scope_uses (scope_of (v ∷ []))) (scope_uses (scope_of vs)))
      (λ v vs. behind (scope_uses (scope_of (v ∷ []))) (scope_uses (scope_of vs)))

  pub act_within : (scope : Scope) (body : List BoundAction) (i : ℕ) (x : BoundAction) → i < length body → x ≡ get_or body i x → Within t (action_uses (act_of x) scope) (body_uses (acts_of (map act_of body)) scope)
  act_within scope body i x within is =
      let all = acts_uses (named_acts (acts_of (map act_of body))) scope in
      let own = act_uses (named_act (act_of x)) scope in
      both (scope_uses scope) own (scope_uses scope ++ all) (before (scope_uses scope) all)
      (then own all (scope_uses scope ++ all)
      (then own (own ++ []) all (before own [])
      (item_within (λ (l : List BoundAction). acts_uses (named_acts (acts_of (map act_of l))) scope)
      (λ y ys.
      both (act_uses (named_act (act_of y)) scope) [] (acts_uses (named_acts (acts_of (map act_of (y ∷ ys)))) scope) (before (act_uses (named_act (act_of y)) scope) (acts_uses (named_acts (acts_of (map act_of ys))) scope))
      (none (acts_uses (named_acts (acts_of (map act_of (y ∷ ys)))) scope)))
      (λ y ys. behind (act_uses (named_act (act_of y)) scope) (acts_uses (named_acts (acts_of (map act_of ys))) scope))
      body i x within is))
      (behind (scope_uses scope) all))

-- ---- what keeps to the first keeps to the others

module _ (t : Tables) (us vs : List Use) (is : Within t us vs) where
  pub need_within : (need : Need) → IsNeedOf (areas_read t us) (areas_changed t us) need → IsNeedOf (areas_read t vs) (areas_changed t vs) need
  need_within (Line key) h = is.read key.area h
  need_within (Area area) h = is.read area h
  need_within (Room room) h = is.changed room.area h

  read_within : (need : Need) → IsNeedOf (areas_read t us) [] need → IsNeedOf (areas_read t vs) [] need
  read_within (Line key) h = is.read key.area h
  read_within (Area area) h = is.read area h
  read_within (Room room) h = h

  pub keeps_within : (old new : Over) (result : Result (Unit {0}) ActStop) → KeepsFor t us old new result → KeepsFor t vs old new result
  keeps_within old new (Ok x) h = writes_wider (areas_changed t us) (areas_changed t vs) old new is.changed h
  keeps_within old new (Err stop) h = stops_at (IsNeedOf (areas_read t us) (areas_changed t us)) (IsNeedOf (areas_read t vs) (areas_changed t vs)) need_within stop h

  pub reads_within : {E : Type 0} (stop : Stop E) → StopsAt (IsNeedOf (areas_read t us) []) stop → StopsAt (IsNeedOf (areas_read t vs) []) stop
  reads_within stop h = stops_at (IsNeedOf (areas_read t us) []) (IsNeedOf (areas_read t vs) []) read_within stop h
