-- In which areas the row of a STORE, a MODIFY or an ERASE is written.
use Rattle.std.proofs.Common.{◌≡◌, ℕ, true, List, [], ◌∷◌, ◌++◌, map, Option, Some, Result, Ok, Err, refl, sym, ap, subst, ◌∙◌}
use Rattle.std.specs.Prelude.{slice_get}
use Rattle.std.specs.List.{All}
use Rattle.std.specs.FinMap.Entries.{find}
use Rattle.rdb_types.specs.declared.keys.Dbkey.{Dbkey}
use Rattle.rdb_types.specs.declared.values.Field.{Field}
use Rattle.rdb_types.specs.Order.{dbkey_order}
use Rattle.rdo_ast.specs.Tree.{Name}
use Rattle.rdb_meaning.specs.declared.scope.Binding.{Binding}
use Rattle.rdb_meaning.specs.declared.tables.Relation.{Relation as Rows}
use Rattle.rdb_meaning.specs.declared.tables.Tables.{Tables}
use Rattle.rdb_meaning.specs.Contents.{Row, relation_named}
use Rattle.rdb_meaning.specs.Checks.{Use, use_of, assignments_uses, change_of, act_uses}
use Rattle.rdb_meaning.specs.Evaluation.{Scope}
use Rattle.line_view.specs.declared.need.Need.{Need}
use Rattle.line_view.specs.declared.need.Need.TheVariants.{Line, Area, Room}
use Rattle.line_view.specs.declared.stop.Never.{Never}
use Rattle.line_view.specs.declared.stop.Stop.{Stop}
use Rattle.line_view.specs.Knowledge.{Lines}
use Rattle.line_view.specs.Stops.{of_view}
use Rattle.catalog.specs.declared.reading.Catalog.{Catalog}
use Rattle.sound_changes.specs.Standing.{IsSoundAs}
use Rattle.statement_view.specs.Over.{Over}
use Rattle.statement_view.specs.Areas.{is_among, IsNeedOf, WritesOf, KeepsTo}
use Rattle.row_writes.specs.declared.target.TargetRelation.{TargetRelation}
use Rattle.row_writes.specs.Stop.{RowStop}
use Rattle.row_writes.specs.Rows.{IsSoundView}
use Rattle.row_writes.specs.Areas.{areas_with, StoreKeeps, ChangeKeeps, EraseKeeps}
use Rattle.row_writes.proofs.AreaLists.{Wider, writes_wider, StopsAt, stops_at}
use Rattle.selection_areas.specs.stored_schema.Targets.{IsTargetIn}
use Rattle.used_areas.specs.Areas.{relation_areas, areas_read, areas_changed}
use Rattle.used_areas.proofs.More.{left_of}
use Rattle.selection_areas.proofs.Placed.{target_placed}
use Rattle.rdo_values.specs.declared.bound.BoundRange.{BoundRange}
use Rattle.rdo_values.specs.Rows.{row_of, variables_of}
use Rattle.rdo_bind.specs.declared.assign.BoundAssign.{BoundAssign}
use Rattle.rdo_bind.specs.declared.variable.BoundVariable.{BoundVariable}
use Rattle.rdo_bind.specs.Acting.{store, modify, erase, named_act, IsBoundAct}
use Rattle.rdo_bind.specs.Assigning.{written_assign, IsBoundAssign}
use Rattle.rdo_bind.specs.Variables.{IsVariable}
use Rattle.bound_actions.proofs.Same.{act_same}
use Rattle.rdo_acts.specs.declared.scope.BoundRow.{BoundRow}
use Rattle.rdo_acts.specs.declared.stop.Refusal.{Refusal}
use Rattle.rdo_acts.specs.declared.work.Given.{Given}
use Rattle.rdo_acts.specs.declared.work.Work.{Work}
use Rattle.rdo_acts.specs.Ends.{ActStop, HoldsIn}
use Rattle.rdo_acts.specs.Areas.{KeepsFor, RunsFor}
use Rattle.rdo_acts.specs.Scopes.{scope_of, AreRowsOf}
use Rattle.rdo_acts.specs.Stops.{IsStopOfRow}
use Rattle.rdo_acts.proofs.Viewing.{one_schema}
use Rattle.rdo_acts.proofs.AreasRead.{view_at, row_at, reading_keeps, variable_reads, at_start}
use Rattle.rdo_acts.proofs.UsesWithin.{before, behind, keeps_within}
use Rattle.rdo_acts.proofs.RowMade.{ReadsRow, ReadsNewRow}
use Rattle.rdo_acts.proofs.RowStored as stored
use Rattle.rdo_acts.proofs.RowUpdated as updated
use Rattle.rdo_acts.proofs.RowUpdated.{Found}

-- ---- what is written into a relation that is changed

module _ (c : Catalog) (t : Tables) (n : Name) (rel : Rows) (r : TargetRelation) (named : relation_named n t ≡ Some rel) (is : IsTargetIn c t n rel r) (vs : List Use) where
  abbrev own : List ℕ
  own = areas_with rel r.indexes.now

  abbrev us : List Use
  us = use_of true n ∷ vs

  placed : own ≡ relation_areas t (relation_named n t)
  placed = target_placed c t n rel r is ∙ ap (relation_areas t) (sym named)

  read_wider : Wider own (areas_read t us)
  read_wider a h = left_of (relation_areas t (relation_named n t)) (areas_read t vs) a (subst (λ (l : List ℕ). is_among l a ≡ true) placed h)

  changed_wider : Wider own (areas_changed t us)
  changed_wider a h = left_of (relation_areas t (relation_named n t)) (areas_changed t vs) a (subst (λ (l : List ℕ). is_among l a ≡ true) placed h)

  need_wider : (need : Need) → IsNeedOf own own need → IsNeedOf (areas_read t us) (areas_changed t us) need
  need_wider (Line key) h = read_wider key.area h
  need_wider (Area area) h = read_wider area h
  need_wider (Room room) h = changed_wider room.area h

  pub target_writes : (old new : Over) → WritesOf own old new → WritesOf (areas_changed t us) old new
  target_writes old new h = writes_wider own (areas_changed t us) old new changed_wider h

  pub target_stops : (stop : RowStop) (why : ActStop) → IsStopOfRow stop r.indexes.now why → StopsAt (IsNeedOf own own) stop → StopsAt (IsNeedOf (areas_read t us) (areas_changed t us)) why
  target_stops stop why so h =
      let next = IsNeedOf (areas_read t us) (areas_changed t us) in
      row_at next stop r.indexes.now why so (stops_at (IsNeedOf own own) next need_wider stop h)

-- ---- STORE

module _ (given : Given) (range : BoundRange) (assigns : List BoundAssign) (values : Row) (target : TargetRelation)
    (is_target : (all : Lines) (t : Tables) (rel : Rows) → IsSoundAs all given.schema.now t → relation_named range.range.relation t ≡ Some rel → IsTargetIn given.schema.now t range.range.relation rel target) (old new : Work) where
  abbrev used : Use
  used = use_of true range.range.relation

  abbrev made : List Use
  made = assignments_uses (map written_assign assigns)

  abbrev StoresFor : Result (Unit {0}) ActStop → Type 0
  StoresFor result = (scope : Scope) → IsBoundAct (store range assigns) given.schema.now.tables (variables_of scope) → RunsFor result given scope values (act_uses (named_act (store range assigns)) scope) old new

  pub store_unmade_for : (stop : ActStop) → ReadsNewRow given.schema.now old.view target.stored.fields.now assigns {T = Row} values (Err stop) → StoresFor (Err stop)
  store_unmade_for stop reads = λ scope is_bound all start t holds own.
      let named = stored.relation_now given range assigns values target is_target scope old new all start t is_bound holds own in
      let is = stored.target_now given range assigns values target is_target scope old new all start t is_bound holds own in
      let bound = stored.bound_now given range assigns values target is_target scope old new all start t is_bound holds own in
      let view = stored.view_is given range assigns values target is_target scope old new all start t is_bound holds own in
      at_start given old all start t holds (used ∷ made) old.view new.view (Err stop)
      (keeps_within t made (used ∷ made) (behind t (used ∷ []) made) old.view new.view (Err stop) (reading_keeps t made stop (reads all t scope range.range named.0 view named.1 is.is.fields bound.1 own)))

  pub stored_for : (key : Dbkey) → StoreKeeps old.view new.view target (Ok key) → StoresFor (Ok tt)
  stored_for key keeps = λ scope is_bound all start t holds own.
      let named = stored.relation_now given range assigns values target is_target scope old new all start t is_bound holds own in
      let is = stored.target_now given range assigns values target is_target scope old new all start t is_bound holds own in
      let view = stored.view_is given range assigns values target is_target scope old new all start t is_bound holds own in
      at_start given old all start t holds (used ∷ made) old.view new.view (Ok tt)
      (target_writes given.schema.now t range.range.relation named.0 target named.1 is made old.view new.view (keeps given.schema.now range.range.relation named.0 t all view named.1 is.is))

  pub unstored_for : (stop : RowStop) (why : ActStop) → IsStopOfRow stop target.indexes.now why → StoreKeeps old.view new.view target (Err stop) → StoresFor (Err why)
  unstored_for stop why so keeps = λ scope is_bound all start t holds own.
      let named = stored.relation_now given range assigns values target is_target scope old new all start t is_bound holds own in
      let is = stored.target_now given range assigns values target is_target scope old new all start t is_bound holds own in
      let view = stored.view_is given range assigns values target is_target scope old new all start t is_bound holds own in
      at_start given old all start t holds (used ∷ made) old.view new.view (Err why)
      (target_stops given.schema.now t range.range.relation named.0 target named.1 is made stop why so (keeps given.schema.now range.range.relation named.0 t all view named.1 is.is))

-- ---- MODIFY and ERASE

module _ (given : Given) (scope : List BoundRow) (v : BoundVariable) (bound : BoundRow) (at : slice_get scope v.number ≡ Some bound) (rows : AreRowsOf given.schema.now.tables scope)
    (is_variable : IsVariable given.schema.now.tables (variables_of (scope_of scope)) v) (old new : Work) where
  abbrev n : Name
  n = bound.range.now.range.relation

  abbrev change : Use
  change = use_of true n

  -- what `row_now` says
  abbrev pub ReadsFound : Stop Never → Type 0
  ReadsFound stop = (first : Lines) (t : Tables) (table : Rows) → IsSoundView old.view given.schema.now t first → relation_named n t ≡ Some table → StopsAt (IsNeedOf (table.area ∷ []) []) stop

  -- the relation of the variable is changed, and others are used behind it
  module _ (vs : List Use) (all : Lines) (start t : Tables) (holds : HoldsIn given old all start t) where
    abbrev relation : (rel : Rows) × (relation_named n t ≡ Some rel)
    relation = updated.relation_now given scope v bound at rows is_variable old new all start t holds

    view : IsSoundView old.view given.schema.now t all
    view = updated.view_is given scope v bound at rows is_variable old new all start t holds

    unread : (stop : Stop Never) → ReadsFound stop → KeepsFor {T = Unit {0}} {E = Refusal} start (change ∷ vs) old.view new.view (Err (of_view stop))
    unread stop reads =
        at_start given old all start t holds (change ∷ vs) old.view new.view (Err (of_view stop))
        (keeps_within t (change ∷ []) (change ∷ vs) (before t (change ∷ []) vs) old.view new.view (Err (of_view stop))
        (view_at (IsNeedOf (areas_read t (change ∷ [])) (areas_changed t (change ∷ []))) Refusal stop
        (reading_keeps t (change ∷ []) stop (variable_reads t true n relation.0 (relation.0).area relation.1 refl stop (reads all t relation.0 view relation.1)))))

    module _ (target : TargetRelation) (was : Option Row) (found : Found given old.view bound (Ok (target, was))) where
      target_is : IsTargetIn given.schema.now t n relation.0 target
      target_is = updated.target_is given scope v bound at rows is_variable old new all start t holds target was found

      written : WritesOf (areas_with relation.0 target.indexes.now) old.view new.view → WritesOf (areas_changed start (change ∷ vs)) old.view new.view
      written h =
          at_start given old all start t holds (change ∷ vs) old.view new.view (Ok tt)
          (target_writes given.schema.now t n relation.0 target relation.1 target_is vs old.view new.view h)

      unwritten : (stop : RowStop) (why : ActStop) → IsStopOfRow stop target.indexes.now why → StopsAt (IsNeedOf (areas_with relation.0 target.indexes.now) (areas_with relation.0 target.indexes.now)) stop
          → KeepsFor {T = Unit {0}} {E = Refusal} start (change ∷ vs) old.view new.view (Err why)
      unwritten stop why so h =
          at_start given old all start t holds (change ∷ vs) old.view new.view (Err why)
          (target_stops given.schema.now t n relation.0 target relation.1 target_is vs stop why so h)

      module _ (k : Dbkey) (row : Row) (key : bound.key ≡ Some k) (some : was ≡ Some row) where
        stands : find dbkey_order k (relation.0).rows ≡ Some row
        stands = updated.stands given scope v bound at rows is_variable old new all start t holds target was found k row key some

        area : k.area ≡ (relation.0).area
        area = updated.area given scope v bound at rows is_variable old new all start t holds target was found k row key some

        changing : (result : Result (Unit {0}) RowStop) → ChangeKeeps old.view new.view target k row result → KeepsTo (areas_with relation.0 target.indexes.now) (areas_with relation.0 target.indexes.now) old.view new.view result
        changing result keeps = keeps given.schema.now n relation.0 t all view relation.1 target_is.is stands area

        erasing : (result : Result (Unit {0}) RowStop) → EraseKeeps old.view new.view target.indexes.now k row result → KeepsTo (areas_with relation.0 target.indexes.now) (areas_with relation.0 target.indexes.now) old.view new.view result
        erasing result keeps = keeps given.schema.now n relation.0 t all view relation.1 target_is.is.indexes stands area

  module _ (assigns : List BoundAssign) (are : All (IsBoundAssign given.schema.now.tables (variables_of (scope_of scope))) assigns) (values : Row) where
    abbrev made_of : List Use
    made_of = assignments_uses (map written_assign assigns)

    abbrev ModifiesFor : Result (Unit {0}) ActStop → Type 0
    ModifiesFor result = RunsFor result given (scope_of scope) values (act_uses (named_act (modify v assigns)) (scope_of scope)) old new

    modify_so : (result : Result (Unit {0}) ActStop) → ((all : Lines) (start t : Tables) → HoldsIn given old all start t → row_of t (scope_of scope) ≡ values → KeepsFor start (change ∷ made_of) old.view new.view result) → ModifiesFor result
    modify_so result h = λ all start t holds own.
        subst (λ (us : List Use). KeepsFor start us old.view new.view result) (sym (ap (λ (o : Option Binding). change_of o ++ made_of) (updated.bound_is given scope v bound at rows is_variable old new))) (h all start t holds own)

    pub modify_unread_for : (stop : Stop Never) → ReadsFound stop → ModifiesFor (Err (of_view stop))
    modify_unread_for stop reads = modify_so (Err (of_view stop)) (λ all start t holds own. unread made_of all start t holds stop reads)

    pub modify_unmade_for : (fields : List Field) (stop : ActStop) → ReadsRow given.schema.now old.view fields assigns {T = Unit {0}} values (Err stop) → ModifiesFor (Err stop)
    modify_unmade_for fields stop reads =
        modify_so (Err stop) (λ all start t holds own.
        let are_now = (act_same given.schema.now.tables t (one_schema given old all start t holds) (modify v assigns) (variables_of (scope_of scope)) (is_variable, are)).1 in
        at_start given old all start t holds (change ∷ made_of) old.view new.view (Err stop)
        (keeps_within t made_of (change ∷ made_of) (behind t (change ∷ []) made_of) old.view new.view (Err stop)
        (reading_keeps t made_of stop (reads all t (scope_of scope) (view made_of all start t holds) are_now own))))

    module _ (target : TargetRelation) (was : Option Row) (k : Dbkey) (row : Row) (found : Found given old.view bound (Ok (target, was))) (key : bound.key ≡ Some k) (some : was ≡ Some row) where
      pub modified_for : ChangeKeeps old.view new.view target k row (Ok tt) → ModifiesFor (Ok tt)
      modified_for keeps = modify_so (Ok tt) (λ all start t holds own. written made_of all start t holds target was found (changing made_of all start t holds target was found k row key some (Ok tt) keeps))

      pub unmodified_for : (stop : RowStop) (why : ActStop) → IsStopOfRow stop target.indexes.now why → ChangeKeeps old.view new.view target k row (Err stop) → ModifiesFor (Err why)
      unmodified_for stop why so keeps =
          modify_so (Err why) (λ all start t holds own. unwritten made_of all start t holds target was found stop why so (changing made_of all start t holds target was found k row key some (Err stop) keeps))

  abbrev ErasesFor : Result (Unit {0}) ActStop → Type 0
  ErasesFor result = (values : Row) → RunsFor result given (scope_of scope) values (act_uses (named_act (erase v)) (scope_of scope)) old new

  erase_so : (result : Result (Unit {0}) ActStop) → ((all : Lines) (start t : Tables) → HoldsIn given old all start t → KeepsFor start (change ∷ []) old.view new.view result) → ErasesFor result
  erase_so result h = λ values all start t holds own.
      subst (λ (us : List Use). KeepsFor start us old.view new.view result) (sym (ap change_of (updated.bound_is given scope v bound at rows is_variable old new))) (h all start t holds)

  pub erase_unread_for : (stop : Stop Never) → ReadsFound stop → ErasesFor (Err (of_view stop))
  erase_unread_for stop reads = erase_so (Err (of_view stop)) (λ all start t holds. unread [] all start t holds stop reads)

  module _ (target : TargetRelation) (was : Option Row) (k : Dbkey) (row : Row) (found : Found given old.view bound (Ok (target, was))) (key : bound.key ≡ Some k) (some : was ≡ Some row) where
    pub erased_for : EraseKeeps old.view new.view target.indexes.now k row (Ok tt) → ErasesFor (Ok tt)
    erased_for keeps = erase_so (Ok tt) (λ all start t holds. written [] all start t holds target was found (erasing [] all start t holds target was found k row key some (Ok tt) keeps))

    pub unerased_for : (stop : RowStop) (why : ActStop) → IsStopOfRow stop target.indexes.now why → EraseKeeps old.view new.view target.indexes.now k row (Err stop) → ErasesFor (Err why)
    unerased_for stop why so keeps =
        erase_so (Err why) (λ all start t holds. unwritten [] all start t holds target was found stop why so (erasing [] all start t holds target was found k row key some (Err stop) keeps))
