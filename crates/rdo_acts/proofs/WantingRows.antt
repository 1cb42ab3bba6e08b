-- What STORE, MODIFY and ERASE lack.
use Rattle.std.proofs.Common.{◌≡◌, ◌⊎◌, List, [], ◌∷◌, ◌++◌, Option, Some, Result, Ok, Err, inl, inr}
use Rattle.std.specs.Prelude.{slice_get}
use Rattle.std.specs.List.{All}
use Rattle.std.specs.FinMap.Entries.{find}
use Rattle.rdb_types.specs.declared.keys.Dbkey.{Dbkey}
use Rattle.rdb_types.specs.Order.{dbkey_order}
use Rattle.rdo_ast.specs.Tree.{Name}
use Rattle.rdb_meaning.specs.declared.tables.Relation.{Relation as Rows}
use Rattle.rdb_meaning.specs.declared.tables.Tables.{Tables}
use Rattle.rdb_meaning.specs.Contents.{Row, relation_named}
use Rattle.rdb_meaning.specs.Evaluation.{Scope}
use Rattle.line_view.specs.declared.need.Need.{Need}
use Rattle.line_view.specs.declared.stop.Never.{Never}
use Rattle.line_view.specs.declared.stop.Stop.{Stop}
use Rattle.line_view.specs.Knowledge.{Lines}
use Rattle.line_view.specs.Stops.{of_view}
use Rattle.sound_changes.specs.Standing.{IsSoundAs}
use Rattle.row_writes.specs.declared.target.TargetRelation.{TargetRelation}
use Rattle.row_writes.specs.Stop.{RowStop}
use Rattle.row_writes.specs.Rows.{IsSoundView}
use Rattle.row_writes.specs.Areas.{areas_of, areas_with, IsNodeOf, StoreNodes, ChangeNodes, EraseNodes}
use Rattle.row_writes.proofs.AreaLists.{StopsAt, stops_at}
use Rattle.selection_areas.specs.stored_schema.Targets.{IsTargetIn}
use Rattle.rdo_values.specs.declared.bound.BoundRange.{BoundRange}
use Rattle.rdo_values.specs.Rows.{variables_of}
use Rattle.rdo_bind.specs.declared.assign.BoundAssign.{BoundAssign}
use Rattle.rdo_bind.specs.declared.variable.BoundVariable.{BoundVariable}
use Rattle.rdo_bind.specs.Acting.{Act, store, modify, erase, IsBoundAct}
use Rattle.rdo_bind.specs.Assigning.{IsBoundAssign}
use Rattle.rdo_bind.specs.Variables.{IsVariable}
use Rattle.bound_actions.proofs.Same.{act_same}
use Rattle.rdo_acts.specs.declared.scope.BoundRow.{BoundRow}
use Rattle.rdo_acts.specs.declared.stop.Refusal.{Refusal}
use Rattle.rdo_acts.specs.declared.work.Given.{Given}
use Rattle.rdo_acts.specs.declared.work.Work.{Work}
use Rattle.rdo_acts.specs.Ends.{ActStop, HoldsIn}
use Rattle.rdo_acts.specs.Scopes.{scope_of, AreRowsOf}
use Rattle.rdo_acts.specs.Stops.{IsStopOfRow}
use Rattle.rdo_acts.specs.Selections.{chosen_in_assigns, IsReadAmong}
use Rattle.rdo_acts.specs.Wanted.{IsNodeIn, ActWants, Then, IsRowOf, RunsWanting}
use Rattle.rdo_acts.proofs.Viewing.{one_schema}
use Rattle.rdo_acts.proofs.AreasRead.{view_at, row_at}
use Rattle.rdo_acts.proofs.Wanting.{LacksRow, LacksNewRow, node_in, row_placed_at, wants_now, wants_row}
use Rattle.rdo_acts.proofs.RowStored as stored
use Rattle.rdo_acts.proofs.RowUpdated as updated
use Rattle.rdo_acts.proofs.RowUpdated.{Found}

-- ---- a row that can't be written yet

module _ (given : Given) (old : Work) (all : Lines) (start t : Tables) (holds : HoldsIn given old all start t) (scope : Scope) (a : Act) (n : Name) (rel : Rows) (target : TargetRelation) (named : relation_named n t ≡ Some rel) (is : IsTargetIn given.schema.now t n rel target) where
  -- the nodes that it lacks, where this action lacks nodes
  nodes_wanted : ((need : Need) → IsNodeIn t need → ActWants t given.sources.now.entries a (variables_of scope) need) → (why : ActStop) (stop : RowStop) → IsStopOfRow stop target.indexes.now why → StopsAt (IsNodeOf (areas_of target.indexes.now) (areas_with rel target.indexes.now)) stop → StopsAt (λ need. IsRowOf scope need ⊎ Then given all start (λ u. ActWants u given.sources.now.entries a (variables_of scope) need)) why
  nodes_wanted because why stop so h =
      wants_now given old all start t holds scope a (IsNodeIn t) because why
      (row_at (IsNodeIn t) stop target.indexes.now why so
      (stops_at (IsNodeOf (areas_of target.indexes.now) (areas_with rel target.indexes.now)) (IsNodeIn t) (node_in given.schema.now t n rel target named is (areas_with rel target.indexes.now)) stop h))

-- ---- STORE

module _ (given : Given) (range : BoundRange) (assigns : List BoundAssign) (values : Row) (target : TargetRelation)
    (is_target : (all : Lines) (t : Tables) (rel : Rows) → IsSoundAs all given.schema.now t → relation_named range.range.relation t ≡ Some rel → IsTargetIn given.schema.now t range.range.relation rel target) (old new : Work) where
  abbrev Stores : Result (Unit {0}) ActStop → Type 0
  Stores result = (scope : Scope) → IsBoundAct (store range assigns) given.schema.now.tables (variables_of scope) → RunsWanting result given scope values (store range assigns) old

  pub store_unmade_wanting : (why : ActStop) → LacksNewRow given.schema.now old.view given.sources.now.entries target.stored.fields.now assigns {T = Row} values (Err why) → Stores (Err why)
  store_unmade_wanting why lacks = λ scope is_bound all start t holds own.
      let named = stored.relation_now given range assigns values target is_target scope old new all start t is_bound holds own in
      let is = stored.target_now given range assigns values target is_target scope old new all start t is_bound holds own in
      let bound = stored.bound_now given range assigns values target is_target scope old new all start t is_bound holds own in
      let view = stored.view_is given range assigns values target is_target scope old new all start t is_bound holds own in
      wants_now given old all start t holds scope (store range assigns) (IsReadAmong t given.sources.now.entries (chosen_in_assigns assigns (variables_of scope ++ range.range ∷ []))) (λ need read. inl read) why
      (lacks all t scope range.range named.0 view named.1 is.is.fields bound.1 own)

  pub unstored_wanting : (stop : RowStop) (why : ActStop) → IsStopOfRow stop target.indexes.now why → StoreNodes old.view new.view target (Err stop) → Stores (Err why)
  unstored_wanting stop why so keeps = λ scope is_bound all start t holds own.
      let named = stored.relation_now given range assigns values target is_target scope old new all start t is_bound holds own in
      let is = stored.target_now given range assigns values target is_target scope old new all start t is_bound holds own in
      let view = stored.view_is given range assigns values target is_target scope old new all start t is_bound holds own in
      nodes_wanted given old all start t holds scope (store range assigns) range.range.relation named.0 target named.1 is (λ need node. inr node) why stop so (keeps given.schema.now range.range.relation named.0 t all view named.1 is.is)

-- ---- MODIFY and ERASE

module _ (given : Given) (scope : List BoundRow) (v : BoundVariable) (bound : BoundRow) (at : slice_get scope v.number ≡ Some bound) (rows : AreRowsOf given.schema.now.tables scope)
    (is_variable : IsVariable given.schema.now.tables (variables_of (scope_of scope)) v) (old new : Work) where
  abbrev n : Name
  n = bound.range.now.range.relation

  -- what `row_now` says
  abbrev pub LacksFound : Stop Never → Type 0
  LacksFound why = StopsAt (IsRowOf (scope_of (bound ∷ []))) why

  module _ (a : Act) (all : Lines) (start t : Tables) (holds : HoldsIn given old all start t) where
    abbrev relation : (rel : Rows) × (relation_named n t ≡ Some rel)
    relation = updated.relation_now given scope v bound at rows is_variable old new all start t holds

    view : IsSoundView old.view given.schema.now t all
    view = updated.view_is given scope v bound at rows is_variable old new all start t holds

    unread_wanting : (why : Stop Never) → LacksFound why → StopsAt {E = Refusal} (λ need. IsRowOf (scope_of scope) need ⊎ Then given all start (λ u. ActWants u given.sources.now.entries a (variables_of (scope_of scope)) need)) (of_view why)
    unread_wanting why lacks =
        wants_row given old all start t holds (scope_of scope) a (of_view why)
        (view_at (IsRowOf (scope_of scope)) Refusal why (stops_at (IsRowOf (scope_of (bound ∷ []))) (IsRowOf (scope_of scope)) (λ need row. row_placed_at need scope v.number bound at row) why lacks))

    module _ (target : TargetRelation) (was : Option Row) (found : Found given old.view bound (Ok (target, was))) where
      target_is : IsTargetIn given.schema.now t n relation.0 target
      target_is = updated.target_is given scope v bound at rows is_variable old new all start t holds target was found

      module _ (k : Dbkey) (row : Row) (key : bound.key ≡ Some k) (some : was ≡ Some row) where
        stands : find dbkey_order k (relation.0).rows ≡ Some row
        stands = updated.stands given scope v bound at rows is_variable old new all start t holds target was found k row key some

        area : k.area ≡ (relation.0).area
        area = updated.area given scope v bound at rows is_variable old new all start t holds target was found k row key some

  module _ (assigns : List BoundAssign) (are : All (IsBoundAssign given.schema.now.tables (variables_of (scope_of scope))) assigns) (values : Row) where
    abbrev Modifies : Result (Unit {0}) ActStop → Type 0
    Modifies result = RunsWanting result given (scope_of scope) values (modify v assigns) old

    pub modify_unread_wanting : (why : Stop Never) → LacksFound why → Modifies (Err (of_view why))
    modify_unread_wanting why lacks = λ all start t holds own. unread_wanting (modify v assigns) all start t holds why lacks

    pub modify_unmade_wanting : (why : ActStop) → LacksRow given.schema.now old.view given.sources.now.entries [] assigns {T = Unit {0}} values (Err why) → Modifies (Err why)
    modify_unmade_wanting why lacks = λ all start t holds own.
        let are_now = (act_same given.schema.now.tables t (one_schema given old all start t holds) (modify v assigns) (variables_of (scope_of scope)) (is_variable, are)).1 in
        wants_now given old all start t holds (scope_of scope) (modify v assigns) (IsReadAmong t given.sources.now.entries (chosen_in_assigns assigns (variables_of (scope_of scope)))) (λ need read. inl read) why
        (lacks all t (scope_of scope) (view (modify v assigns) all start t holds) are_now own)

    pub unmodified_wanting : (target : TargetRelation) (was : Option Row) (k : Dbkey) (row : Row) → (found : Found given old.view bound (Ok (target, was))) → (key : bound.key ≡ Some k) → (some : was ≡ Some row) → (stop : RowStop) (why : ActStop) → IsStopOfRow stop target.indexes.now why
        → ChangeNodes old.view new.view target k row (Err stop) → Modifies (Err why)
    unmodified_wanting target was k row found key some stop why so keeps = λ all start t holds own.
        let a = modify v assigns in
        let rel = relation a all start t holds in
        let is = target_is a all start t holds target was found in
        nodes_wanted given old all start t holds (scope_of scope) a n rel.0 target rel.1 is (λ need node. inr node) why stop so
        (keeps given.schema.now n rel.0 t all (view a all start t holds) rel.1 is.is (stands a all start t holds target was found k row key some) (area a all start t holds target was found k row key some))

  abbrev Erases : Result (Unit {0}) ActStop → Type 0
  Erases result = (values : Row) → RunsWanting result given (scope_of scope) values (erase v) old

  pub erase_unread_wanting : (why : Stop Never) → LacksFound why → Erases (Err (of_view why))
  erase_unread_wanting why lacks = λ values all start t holds own. unread_wanting (erase v) all start t holds why lacks

  pub unerased_wanting : (target : TargetRelation) (was : Option Row) (k : Dbkey) (row : Row) → (found : Found given old.view bound (Ok (target, was))) → (key : bound.key ≡ Some k) → (some : was ≡ Some row) → (stop : RowStop) (why : ActStop) → IsStopOfRow stop target.indexes.now why
      → EraseNodes old.view new.view target.indexes.now k row (Err stop) → Erases (Err why)
  unerased_wanting target was k row found key some stop why so keeps = λ values all start t holds own.
      let a = erase v in
      let rel = relation a all start t holds in
      let is = target_is a all start t holds target was found in
      nodes_wanted given old all start t holds (scope_of scope) a n rel.0 target rel.1 is (λ need node. node) why stop so
      (keeps given.schema.now n rel.0 t all (view a all start t holds) rel.1 is.is.indexes (stands a all start t holds target was found k row key some) (area a all start t holds target was found k row key some))
