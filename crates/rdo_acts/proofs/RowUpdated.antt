-- A row changed or erased, in the words of the meaning.
use Rattle.std.proofs.Common.{◌≡◌, ℕ, zero, suc, ◌+◌, true, false, cond, List, [], ◌∷◌, map, length, ◌⊎◌, inl, inr, Option, Some, None, option_map, Result, Ok, Err, refl, sym, ap, subst, ◌∙◌, arith, append-nil, Bor}
use Rattle.std.specs.Prelude.{option_and_then, slice_get}
use Rattle.std.specs.List.{All, AllByRecursion}
use Rattle.std.specs.Slice.{IsItemAt}
use Rattle.std.specs.FinMap.Entries.{find}
use Rattle.std.proofs.lemmas.Option.{none-some, same_Some, slice_get-map, slice_get_past, slice_get_read}
use Rattle.rdb_types.specs.declared.keys.Dbkey.{Dbkey}
use Rattle.rdb_types.specs.declared.values.Field.{Field}
use Rattle.rdb_types.specs.Order.{dbkey_order}
use Rattle.rdo_ast.specs.declared.reply.Reply.{Reply}
use Rattle.rdo_ast.specs.declared.reply.Reply.TheVariants as r
use Rattle.rdo_ast.specs.Tree.{Name, Assignment}
use Rattle.rdb_meaning.specs.declared.scope.Binding.{Binding}
use Rattle.rdb_meaning.specs.declared.tables.Relation.{Relation as Rows}
use Rattle.rdb_meaning.specs.declared.tables.Tables.{Tables}
use Rattle.rdb_meaning.specs.Contents.{Row, same_name, relation_named, rows_of, fields_of, row_at, with_row, without_row, is_taken, first_taken, indexes_on, is_too_long}
use Rattle.rdb_meaning.specs.Evaluation.{Scope, bound_as, row_now}
use Rattle.rdb_meaning.specs.Execution.{World, world, Ran, ran, refused, Assigned, assigned, assign, area_of, taken_by, unless_taken, key_of_binding, modify_assigned, modify_at, modified, erase_at, erased}
use Rattle.line_view.specs.declared.stop.Never.{Never}
use Rattle.line_view.specs.declared.stop.Stop.{Stop}
use Rattle.line_view.specs.declared.stop.Stop.TheVariants.{Missing, Bad, NoMemory, Own}
use Rattle.line_view.specs.Knowledge.{Knowledge, Lines, IsInOrder, Agrees}
use Rattle.line_view.specs.Held.{knows}
use Rattle.line_view.specs.Stops.{Answers, Stops, Lacks, of_view}
use Rattle.catalog.specs.declared.reading.Catalog.{Catalog}
use Rattle.sound_changes.specs.Standing.{IsSoundAs}
use Rattle.relation_rows.specs.Relations.{HasRows}
use Rattle.statement_view.specs.Over.{Over, knows_over, laid_over}
use Rattle.view_stages.specs.Stages.{Goes}
use Rattle.stored_rows.specs.declared.images.Unstored.TheVariants as unstored
use Rattle.row_writes.specs.declared.target.TargetRelation.{TargetRelation}
use Rattle.row_writes.specs.declared.stop.PairRefusal.TheVariants as pair
use Rattle.row_writes.specs.declared.stop.RowRefusal.{RowRefusal}
use Rattle.row_writes.specs.declared.stop.RowRefusal.TheVariants.{NoImage, NoRoom, Pair}
use Rattle.row_writes.specs.Stop.{RowStop}
use Rattle.row_writes.specs.Rows.{IsSoundView, IsChanged, IsNotChanged, taken_by_another, ChangesRow, ErasesRow}
use Rattle.rdo_values.specs.Places.{IsRangeOf}
use Rattle.rdo_values.specs.Rows.{row_of, variables_of}
use Rattle.rdo_bind.specs.declared.assign.BoundAssign.{BoundAssign}
use Rattle.rdo_bind.specs.declared.variable.BoundVariable.{BoundVariable}
use Rattle.rdo_bind.specs.Acting.{modify}
use Rattle.rdo_bind.specs.Assigning.{written_assign, IsBoundAssign}
use Rattle.rdo_bind.specs.Variables.{VariablePlace, first_of, behind, located_variable, IsVariable}
use Rattle.bound_alone.proofs.Same.{range}
use Rattle.bound_actions.proofs.Same.{act_same}
use Rattle.selection_areas.specs.stored_schema.Targets.{IsTargetIn}
use Rattle.rdo_acts.specs.declared.scope.BoundRow.{BoundRow}
use Rattle.rdo_acts.specs.declared.stop.Refusal.{Refusal}
use Rattle.rdo_acts.specs.declared.work.Given.{Given}
use Rattle.rdo_acts.specs.declared.work.Work.{Work}
use Rattle.rdo_acts.specs.Ends.{ActStop, reply_of, IsUnassigned, Computes, stage, HoldsIn, IsRefusedAt, Refuses, Ends, Runs}
use Rattle.rdo_acts.specs.Scopes.{binding_of, scope_of, AreRowsOf}
use Rattle.rdo_acts.specs.Stops.{IsRefusalOf, IsStopOfRow}
use Rattle.schema_alone.specs.Schema.{bare}
use Rattle.rdo_acts.specs.Unwritten.{IsInTheWay, IsUnwrittenAt}
use Rattle.rdo_acts.proofs.Viewing.{sound_view, holds_sound, one_schema, range_there}
use Rattle.rdo_acts.proofs.RowMade.{MakesRow}
use Rattle.rdo_acts.proofs.RowsInArea.{has_rows, row_in_area, nothing_goes}

-- ---- the variable

one_more : (m : ℕ) → 1 + m ≡ suc m
one_more m = omega arith

bound_at : (n : Name) (t : Tables) (scope : Scope) (p : VariablePlace) → located_variable n t (variables_of scope) ≡ Some p → (b : Binding) × (bound_as n scope ≡ Some b) × (slice_get scope p.number ≡ Some b)
bound_at n t [] p is = absurd (none-some p is)
bound_at n t (b ∷ scope) p is =
    let here = first_of (fields_of (relation_named b.relation t)) in
    let width = length (fields_of (relation_named b.relation t)) in
    elim (same_name n b.variable) as (λ x. cond x (Some here) (option_map (behind 1 width) (located_variable n t (variables_of scope))) ≡ Some p → (d : Binding) × (cond x (Some b) (bound_as n scope) ≡ Some d) × (slice_get (b ∷ scope) p.number ≡ Some d)) [
      | true ↦ λ h. (b, refl, ap (λ (m : ℕ). slice_get (b ∷ scope) m) (sym (ap (λ (q : VariablePlace). q.number) (same_Some here p h))))
      | false ↦ λ h.
          elim (located_variable n t (variables_of scope)) as (λ o. located_variable n t (variables_of scope) ≡ o → option_map (behind 1 width) o ≡ Some p → (d : Binding) × (bound_as n scope ≡ Some d) × (slice_get (b ∷ scope) p.number ≡ Some d)) [
            | None ↦ λ e h. absurd (none-some p h)
            | Some q ↦ λ e h.
                let more = bound_at n t scope q e in
                let number : p.number ≡ suc q.number = sym (ap (λ (x : VariablePlace). x.number) (same_Some (behind 1 width q) p h)) ∙ one_more q.number in
                (more.0, more.1, ap (λ (m : ℕ). slice_get (b ∷ scope) m) number ∙ more.2)
          ] refl h
    ] is

-- ---- the meaning of a MODIFY

module _ (given : Given) (v : Name) (as' : List Assignment) (scope : Scope) (old new : Work) (all : Lines) (start t : Tables) (b : Binding) (holds : HoldsIn given old all start t) (bound : bound_as v scope ≡ Some b) where
  abbrev c : Catalog
  c = given.schema.now

  abbrev known : Knowledge
  known = knows old.view.base

  abbrev job : World → Ran
  job = modified v as' scope

  abbrev erasing : World → Ran
  erasing = erased v scope

  at_binding : (left : List Dbkey) → job (world t left old.lines) ≡ modify_at (Some b) b.key (row_now t b) as' scope (world t left old.lines)
  at_binding left = ap (λ (o : Option Binding). modify_at o (key_of_binding o) (option_and_then (row_now t) o) as' scope (world t left old.lines)) bound

  erase_binding : (left : List Dbkey) → erasing (world t left old.lines) ≡ erase_at (Some b) b.key (world t left old.lines)
  erase_binding left = ap (λ (o : Option Binding). erase_at o (key_of_binding o) (world t left old.lines)) bound

  stays : (any : World → Ran) → ((left : List Dbkey) → any (world t left old.lines) ≡ ran (world t left old.lines)) → new ≡ old → Goes known c all start any ran (stage old) (stage new) t
  stays any comes same =
      subst (λ (w : Work). Goes known c all start any ran (stage old) (stage w) t) (sym same)
      (record { tables = t; holds = holds; fresh = []; gives = sym (append-nil old.given); comes = comes })

  no_row : (key : Option Dbkey) (left : List Dbkey) → modify_at (Some b) key None as' scope (world t left old.lines) ≡ ran (world t left old.lines)
  no_row None left = refl
  no_row (Some k) left = refl

  -- there is no row any more
  modifies_none : row_now t b ≡ None → new ≡ old → Goes known c all start job ran (stage old) (stage new) t
  modifies_none none same = stays job (λ left. at_binding left ∙ ap (λ o. modify_at (Some b) b.key o as' scope (world t left old.lines)) none ∙ no_row b.key left) same

  module _ (rel : Rows) (target : TargetRelation) (k : Dbkey) (was : Row) (named : relation_named b.relation t ≡ Some rel) (is : IsTargetIn c t b.relation rel target) (key : b.key ≡ Some k) (found : row_now t b ≡ Some was) where
    abbrev row_made : Assigned
    row_made = assign as' rel.fields t scope was

    made_is : (left : List Dbkey) → job (world t left old.lines) ≡ modify_assigned b.relation k (world t left old.lines) row_made
    made_is left =
        at_binding left
        ∙ (λ i. modify_at (Some b) (key i) (found i) as' scope (world t left old.lines))
        ∙ ap (λ (o : Option Rows). modify_assigned b.relation k (world t left old.lines) (assign as' (fields_of o) t scope was)) named

    refuses_at : (reply : Reply) → ((left : List Dbkey) → job (world t left old.lines) ≡ refused reply left) → new.given ≡ old.given → IsRefusedAt known c all start job reply (stage old) new.given t
    refuses_at reply comes same = record {
      at = stage old;
      given_there = sym same;
      goes = record { tables = t; holds = holds; fresh = []; gives = sym (append-nil old.given); comes = comes };
    }

    unmodified : (refusal : Refusal) → IsUnassigned (reply_of refusal) row_made → new.given ≡ old.given → Refuses (reply_of refusal) known c all start job (stage old) new.given t
    unmodified refusal h same =
        elim (reply_of refusal) as (λ o. IsUnassigned o row_made → Refuses o known c all start job (stage old) new.given t) [
          | None ↦ λ h. absurd h
          | Some reply ↦ λ h. refuses_at reply (λ left. made_is left ∙ ap (modify_assigned b.relation k (world t left old.lines)) h) same
        ] h

    module _ (row : Row) (assigns : row_made ≡ assigned row) where
      abbrev taken : Option Name
      taken = taken_by_another rel target.indexes.now k row

      taken_is : taken_by b.relation row k t ≡ taken
      taken_is =
          ap (λ (o : Option Rows). first_taken (λ positions. is_taken positions row k (rows_of o)) (indexes_on (area_of o) t)) named
          ∙ ap (λ xs. first_taken (λ positions. is_taken positions row k rel.rows) xs) (sym is.ordered)

      changed : (left : List Dbkey) → job (world t left old.lines) ≡ cond (is_too_long rel.fields row) (refused r.TooLong left) (unless_taken taken (world t left old.lines) (ran (world (with_row b.relation k row t) left old.lines)))
      changed left =
          made_is left
          ∙ ap (modify_assigned b.relation k (world t left old.lines)) assigns
          ∙ ap (λ (o : Option Rows). cond (is_too_long (fields_of o) row) (refused r.TooLong left) (unless_taken (taken_by b.relation row k t) (world t left old.lines) (ran (world (with_row b.relation k row t) left old.lines)))) named
          ∙ ap (λ o. cond (is_too_long rel.fields row) (refused r.TooLong left) (unless_taken o (world t left old.lines) (ran (world (with_row b.relation k row t) left old.lines)))) taken_is

      too_long : is_too_long rel.fields row ≡ true → new.given ≡ old.given → IsRefusedAt known c all start job r.TooLong (stage old) new.given t
      too_long long = refuses_at r.TooLong (λ left. changed left ∙ ap (λ b'. cond b' (refused r.TooLong left) (unless_taken taken (world t left old.lines) (ran (world (with_row b.relation k row t) left old.lines)))) long)

      duplicate : (index : Name) → is_too_long rel.fields row ≡ false → taken ≡ Some index → new.given ≡ old.given → IsRefusedAt known c all start job (r.Duplicate index) (stage old) new.given t
      duplicate index short same = refuses_at (r.Duplicate index) (λ left. changed left ∙ (λ i. cond (short i) (refused r.TooLong left) (unless_taken (same i) (world t left old.lines) (ran (world (with_row b.relation k row t) left old.lines)))))

      modifies : IsChanged new.view c b.relation rel t all target k row → new.given ≡ old.given → new.lines ≡ old.lines → Goes known c all start job ran (stage old) (stage new) t
      modifies done given_same lines =
          let behind = holds_sound given new all start (with_row b.relation k row t) holds.began done.behind in
          record {
            tables = with_row b.relation k row t;
            holds = record { first = holds.first; began = holds.began; agrees = behind.agrees; sound = behind.sound };
            fresh = [];
            gives = given_same ∙ sym (append-nil old.given);
            comes = λ left.
                changed left
                ∙ (λ i. cond (done.short i) (refused r.TooLong left) (unless_taken (done.untaken i) (world t left old.lines) (ran (world (with_row b.relation k row t) left old.lines))))
                ∙ ap (λ ls. ran (world (with_row b.relation k row t) left ls)) (sym lines);
          }

      refused_so : (o o' : Option Reply) → o' ≡ o → Refuses o known c all start job (stage old) new.given t → Refuses o' known c all start job (stage old) new.given t
      refused_so o o' same h = subst (λ (x : Option Reply). Refuses x known c all start job (stage old) new.given t) (sym same) h

      -- a row that can't be changed so
      unchanged : (why : RowRefusal) → IsInTheWay old.view.base all target row why → IsUnwrittenAt known c all start job (stage old) t
      unchanged why way = record {
        at = stage old;
        name = b.relation;
        own = k;
        row = row;
        rest = λ w. ran (record w { tables = with_row b.relation k row w.tables });
        goes = record { tables = t; holds = holds; fresh = []; gives = sym (append-nil old.given); comes = λ left. made_is left ∙ ap (modify_assigned b.relation k (world t left old.lines)) assigns };
        unwritable = record {
          relation = rel;
          there = one_schema given old all start t holds b.relation ∙ ap (option_map bare) named;
          target = target;
          is = is.is;
          base = old.view.base;
          same = refl;
          why = why;
          in_the_way = way;
        };
      }

      not_changed : (refusal : RowRefusal) (own : Refusal) → IsRefusalOf refusal target.indexes.now own → IsNotChanged old.view.base all rel target k row refusal → new.given ≡ old.given → Refuses (reply_of own) known c all start job (stage old) new.given t
      not_changed (NoImage unstored.TooLong) own so why same = refused_so (Some r.TooLong) (reply_of own) (ap reply_of so) (too_long why same)
      not_changed (NoImage unstored.Misfit) own so why same = refused_so None (reply_of own) (ap reply_of so) (unchanged (NoImage unstored.Misfit) why)
      not_changed NoRoom own so why same = absurd why
      not_changed (Pair at pair.Duplicate) own so why same = refused_so (Some (r.Duplicate (why.index).name)) (reply_of own) (so why.index why.stands) (duplicate (why.index).name why.short why.refused same)
      not_changed (Pair at pair.LongKey) own so why same = refused_so None (reply_of own) (ap reply_of so) (unchanged (Pair at pair.LongKey) (why.index, why.stands, why.refused))
      not_changed (Pair at pair.Full) own so why same = refused_so None (reply_of own) (ap reply_of so) (unchanged (Pair at pair.Full) (why.index, why.stands, why.refused))

      stops_changing : (stop : RowStop) (own : ActStop) → IsStopOfRow stop target.indexes.now own → Stops (Lacks known) (λ at. ⊥) (IsNotChanged old.view.base all rel target k row) stop → new.given ≡ old.given → Ends (Err own) given all start job old new t
      stops_changing (Missing need) own so stopped same = subst (λ (x : ActStop). Ends (Err x) given all start job old new t) (sym so) stopped
      stops_changing (Bad key) own so stopped same = absurd stopped
      stops_changing NoMemory own so stopped same = subst (λ (x : ActStop). Ends (Err x) given all start job old new t) (sym so) tt
      stops_changing (Own refusal) own so stopped same = subst (λ (x : ActStop). Ends (Err x) given all start job old new t) (sym so.1) (not_changed refusal so.0 so.2 stopped same)

    -- the row can't be made
    stops_making : (stop : ActStop) → Stops (Lacks known) (λ key. ⊥) (λ refusal. IsUnassigned (reply_of refusal) row_made) stop → new.given ≡ old.given → Ends (Err stop) given all start job old new t
    stops_making (Missing need) lacks same = lacks
    stops_making (Bad key) bad same = bad
    stops_making NoMemory none same = tt
    stops_making (Own refusal) unmade same = unmodified refusal unmade same

  -- ---- the meaning of an ERASE

  module _ (rel : Rows) (named : relation_named b.relation t ≡ Some rel) where
    nothing_erased : (key : Option Dbkey) → option_and_then (λ k. find dbkey_order k rel.rows) key ≡ None → (left : List Dbkey) → erase_at (Some b) key (world t left old.lines) ≡ ran (world t left old.lines)
    nothing_erased None none left = refl
    nothing_erased (Some k) none left =
        let sound = (sound_view given old all start t holds).sound in
        ap (λ (u : Tables). ran (world u left old.lines)) (nothing_goes (laid_over old.view.lines all) c t b.relation rel k sound named none)

    erases_none : option_and_then (λ k. find dbkey_order k rel.rows) b.key ≡ None → new ≡ old → Goes known c all start erasing ran (stage old) (stage new) t
    erases_none none same = stays erasing (λ left. erase_binding left ∙ nothing_erased b.key none left) same

    erases : (k : Dbkey) → b.key ≡ Some k → IsSoundView new.view c (without_row b.relation k t) all → new.given ≡ old.given → new.lines ≡ old.lines → Goes known c all start erasing ran (stage old) (stage new) t
    erases k key done given_same lines =
        let behind = holds_sound given new all start (without_row b.relation k t) holds.began done in
        record {
          tables = without_row b.relation k t;
          holds = record { first = holds.first; began = holds.began; agrees = behind.agrees; sound = behind.sound };
          fresh = [];
          gives = given_same ∙ sym (append-nil old.given);
          comes = λ left.
              erase_binding left
              ∙ ap (λ (o : Option Dbkey). erase_at (Some b) o (world t left old.lines)) key
              ∙ ap (λ ls. ran (world (without_row b.relation k t) left ls)) (sym lines);
        }

-- ---- over all maps

pub row_placed : (P : BoundRow → Type 0) (vs : List BoundRow) (i : ℕ) (v : BoundRow) → AllByRecursion P vs → slice_get vs i ≡ Some v → P v
row_placed P [] i v each is = absurd (none-some v is)
row_placed P (w ∷ ws) zero v each is = subst P (same_Some w v is) each.0
row_placed P (w ∷ ws) (suc i) v each is = row_placed P ws i v each.1 is

-- what a look-up of a variable by its number gives
pub variable_at : (scope : List BoundRow) (n : ℕ) (x : Bor BoundRow) → IsItemAt scope n (Some x) → slice_get scope n ≡ Some x.now
variable_at scope n x is = slice_get_read scope (length scope) n x.now refl is.3.0 is.1

-- there is a variable of the number
pub variable_there : (t : Tables) (scope : List BoundRow) (v : BoundVariable) → IsVariable t (variables_of (scope_of scope)) v → IsItemAt scope v.number None → ⊥
variable_there t scope v is item =
    let none : slice_get scope v.number ≡ None = slice_get_past scope v.number item.3 in
    let p : VariablePlace = record { number = v.number; place = v.place; kinds = v.kinds } in
    let found = bound_at v.variable t (scope_of scope) p is in
    none-some found.0 (sym (ap (option_map binding_of) none) ∙ sym (slice_get-map binding_of scope v.number) ∙ found.2)

-- what `change_row` says of one map
abbrev Changes : Catalog → Name → Rows → Tables → Lines → Over → Over → TargetRelation → Dbkey → Row → Result (Unit {0}) RowStop → Type 0
Changes c n rel t first old new r key row = Answers (λ u. IsChanged new c n rel t first r key row) (Lacks (knows old.base)) (λ at. ⊥) (IsNotChanged old.base first rel r key row)

-- what `row_now` says
abbrev pub Found : Given → Over → BoundRow → Result (TargetRelation × Option Row) (Stop Never) → Type 0
Found given view bound result = (first : Lines) (t : Tables) (table : Rows) → IsSoundView view given.schema.now t first → relation_named bound.range.now.range.relation t ≡ Some table
    → Computes result view (λ found. IsTargetIn given.schema.now t bound.range.now.range.relation table found.0 × (found.1 ≡ option_and_then (λ k. find dbkey_order k table.rows) bound.key)) (λ never. ⊥)

module _ (given : Given) (view : Over) (bound : BoundRow) (target : TargetRelation)
    (is_target : (all : Lines) (t : Tables) (rel : Rows) → IsSoundAs all given.schema.now t → relation_named bound.range.now.range.relation t ≡ Some rel → IsTargetIn given.schema.now t bound.range.now.range.relation rel target) where
  -- what `row_at` says
  abbrev IsRowAt : Result (Option Row) (Stop Never) → Type 0
  IsRowAt result = (all : Lines) (table : Rows) → IsInOrder all → Agrees (knows_over view) all → HasRows all target.stored table → Computes result view (λ found. found ≡ option_and_then (λ k. find dbkey_order k table.rows) bound.key) (λ never. ⊥)

  reads : (result : Result (Option Row) (Stop Never)) → IsRowAt result → (first : Lines) (t : Tables) (table : Rows) → IsSoundView view given.schema.now t first → relation_named bound.range.now.range.relation t ≡ Some table
      → Computes result view (λ found. found ≡ option_and_then (λ k. find dbkey_order k table.rows) bound.key) (λ never. ⊥)
  reads result row first t table is named =
      let all : Lines = laid_over view.lines first in
      row all table is.sound.sorted is.stands.agrees (has_rows all given.schema.now t bound.range.now.range.relation table target is.sound named (is_target all t table is.sound named).is)

  pub row_found : (row : Option Row) → IsRowAt (Ok row) → Found given view bound (Ok (target, row))
  row_found row at = λ first t table is named. (is_target (laid_over view.lines first) t table is.sound named, reads (Ok row) at first t table is named)

  pub row_unread : (stop : Stop Never) → IsRowAt (Err stop) → Found given view bound (Err stop)
  row_unread stop at = λ first t table is named. reads (Err stop) at first t table is named

module _ (given : Given) (scope : List BoundRow) (v : BoundVariable) (bound : BoundRow) (at : slice_get scope v.number ≡ Some bound) (rows : AreRowsOf given.schema.now.tables scope)
    (is_variable : IsVariable given.schema.now.tables (variables_of (scope_of scope)) v) (old new : Work) where
  abbrev b : Binding
  b = binding_of bound

  pub bound_is : bound_as v.variable (scope_of scope) ≡ Some b
  bound_is =
      let p : VariablePlace = record { number = v.number; place = v.place; kinds = v.kinds } in
      let there = bound_at v.variable given.schema.now.tables (scope_of scope) p is_variable in
      there.1 ∙ sym there.2 ∙ slice_get-map binding_of scope v.number ∙ ap (option_map binding_of) at

  module _ (all : Lines) (start t : Tables) (holds : HoldsIn given old all start t) where
    pub relation_now : (rel : Rows) × (relation_named b.relation t ≡ Some rel)
    relation_now =
        let is = row_placed (λ (w : BoundRow). IsRangeOf w.range.now (relation_named w.range.now.range.relation given.schema.now.tables)) scope v.number bound rows at in
        range_there bound.range.now (relation_named b.relation t) (range given.schema.now.tables t (one_schema given old all start t holds) bound.range.now b.relation is)

    abbrev rel : Rows
    rel = relation_now.0

    named : relation_named b.relation t ≡ Some rel
    named = relation_now.1

    pub view_is : IsSoundView old.view given.schema.now t all
    view_is = sound_view given old all start t holds

    -- the row of the variable
    row_is : row_now t b ≡ option_and_then (λ k. find dbkey_order k rel.rows) b.key
    row_is = ap (λ (o : Option Rows). option_and_then (λ k. row_at k o) b.key) named

    unread : (any : World → Ran) (stop : Stop Never) → Found given old.view bound (Err stop) → Ends (Err (of_view stop)) given all start any old new t
    unread any (Missing need) found = found all t rel view_is named
    unread any (Bad key) found = found all t rel view_is named
    unread any NoMemory found = tt
    unread any (Own never) found = elim never [ ]

    module _ (target : TargetRelation) (was : Option Row) (found : Found given old.view bound (Ok (target, was))) where
      pub target_is : IsTargetIn given.schema.now t b.relation rel target
      target_is = (found all t rel view_is named).0

      was_is : was ≡ option_and_then (λ k. find dbkey_order k rel.rows) b.key
      was_is = (found all t rel view_is named).1

      no_row_found : (bound.key ≡ None) ⊎ (was ≡ None) → option_and_then (λ k. find dbkey_order k rel.rows) b.key ≡ None
      no_row_found (inl key) = ap (option_and_then (λ k. find dbkey_order k rel.rows)) key
      no_row_found (inr none) = sym was_is ∙ none

      -- the row that the Dbkey has
      module _ (k : Dbkey) (row : Row) (key : bound.key ≡ Some k) (some : was ≡ Some row) where
        pub stands : find dbkey_order k rel.rows ≡ Some row
        stands = sym (ap (option_and_then (λ q. find dbkey_order q rel.rows)) key) ∙ sym was_is ∙ some

        pub area : k.area ≡ rel.area
        area =
            let has = has_rows (laid_over old.view.lines all) given.schema.now t b.relation rel target view_is.sound named target_is.is in
            row_in_area (laid_over old.view.lines all) target.stored rel has k row stands ∙ has.area

  -- ---- what MODIFY comes to

  module _ (assigns : List BoundAssign) (are : All (IsBoundAssign given.schema.now.tables (variables_of (scope_of scope))) assigns) (values : Row) where
    abbrev modifying : World → Ran
    modifying = modified v.variable (map written_assign assigns) (scope_of scope)

    abbrev Modifies : Result (Unit {0}) ActStop → Type 0
    Modifies result = Runs result given (scope_of scope) values (λ start. modifying) old new

    pub modify_unread : (stop : Stop Never) → Found given old.view bound (Err stop) → Modifies (Err (of_view stop))
    modify_unread stop found = λ all start t holds own. unread all start t holds modifying stop found

    pub modify_nothing : (target : TargetRelation) (was : Option Row) → Found given old.view bound (Ok (target, was)) → (bound.key ≡ None) ⊎ (was ≡ None) → new ≡ old → Modifies (Ok tt)
    modify_nothing target was found none same = λ all start t holds own.
        let gone = row_is all start t holds ∙ no_row_found all start t holds target was found none in
        modifies_none given v.variable (map written_assign assigns) (scope_of scope) old new all start t b holds bound_is gone same

    module _ (target : TargetRelation) (was : Option Row) (k : Dbkey) (row : Row) (found : Found given old.view bound (Ok (target, was))) (key : bound.key ≡ Some k) (some : was ≡ Some row) where
      -- what `assign_all` says
      abbrev Made : Row → Result (Unit {0}) ActStop → Type 0
      Made made result = MakesRow given.schema.now old.view target.stored.fields.now assigns {T = Unit {0}} values (λ done. made) row result

      module _ (all : Lines) (start t : Tables) (holds : HoldsIn given old all start t) (own : row_of t (scope_of scope) ≡ values) where
        abbrev rel_now : Rows
        rel_now = rel all start t holds

        target_now : IsTargetIn given.schema.now t b.relation rel_now target
        target_now = target_is all start t holds target was found

        row_there : row_now t b ≡ Some row
        row_there = row_is all start t holds ∙ sym (was_is all start t holds target was found) ∙ some

        are_now : All (IsBoundAssign t (variables_of (scope_of scope))) assigns
        are_now = (act_same given.schema.now.tables t (one_schema given old all start t holds) (modify v assigns) (variables_of (scope_of scope)) (is_variable, are)).1

        abbrev MadeOf : Row → Result (Unit {0}) ActStop → List Field → Type 0
        MadeOf made result fs =
            let is = assign (map written_assign assigns) fs t (scope_of scope) row in
            Computes result old.view (λ done. is ≡ assigned made) (λ refusal. IsUnassigned (reply_of refusal) is)

        made_so : (made : Row) (result : Result (Unit {0}) ActStop) → Made made result → MadeOf made result rel_now.fields
        made_so made result makes = subst (MadeOf made result) (sym target_now.is.fields) (makes all t (scope_of scope) (view_is all start t holds) are_now own)

        unmade_ends : (made : Row) (stop : ActStop) → Made made (Err stop) → new.given ≡ old.given → Ends (Err stop) given all start modifying old new t
        unmade_ends made stop makes same =
            stops_making given v.variable (map written_assign assigns) (scope_of scope) old new all start t b holds bound_is rel_now target k row (named all start t holds) target_now key row_there stop (made_so made (Err stop) makes) same

        changes_so : (made : Row) (result : Result (Unit {0}) RowStop) → ChangesRow old.view new.view target k row made result → Changes given.schema.now b.relation rel_now t all old.view new.view target k made result
        changes_so made result changes =
            changes given.schema.now b.relation rel_now t all (view_is all start t holds) (named all start t holds) target_now.is (stands all start t holds target was found k row key some) (area all start t holds target was found k row key some)

        changed_ends : (made : Row) → Made made (Ok tt) → ChangesRow old.view new.view target k row made (Ok tt) → new.given ≡ old.given → new.lines ≡ old.lines → Ends (Ok tt) given all start modifying old new t
        changed_ends made makes changes same lines =
            modifies given v.variable (map written_assign assigns) (scope_of scope) old new all start t b holds bound_is rel_now target k row (named all start t holds) target_now key row_there made (made_so made (Ok tt) makes) (changes_so made (Ok tt) changes) same lines

        stopped_ends : (made : Row) (stop : RowStop) (own' : ActStop) → Made made (Ok tt) → ChangesRow old.view new.view target k row made (Err stop) → IsStopOfRow stop target.indexes.now own' → new.given ≡ old.given → Ends (Err own') given all start modifying old new t
        stopped_ends made stop own' makes changes so same =
            stops_changing given v.variable (map written_assign assigns) (scope_of scope) old new all start t b holds bound_is rel_now target k row (named all start t holds) target_now key row_there made (made_so made (Ok tt) makes) stop own' so (changes_so made (Err stop) changes) same

      pub modify_unmade : (made : Row) (stop : ActStop) → Made made (Err stop) → new.given ≡ old.given → Modifies (Err stop)
      modify_unmade made stop makes same = λ all start t holds own. unmade_ends all start t holds own made stop makes same

      pub modify_done : (made : Row) → Made made (Ok tt) → ChangesRow old.view new.view target k row made (Ok tt) → new.given ≡ old.given → new.lines ≡ old.lines → Modifies (Ok tt)
      modify_done made makes changes same lines = λ all start t holds own. changed_ends all start t holds own made makes changes same lines

      pub modify_stopped : (made : Row) (stop : RowStop) (own : ActStop) → Made made (Ok tt) → ChangesRow old.view new.view target k row made (Err stop) → IsStopOfRow stop target.indexes.now own → new.given ≡ old.given → Modifies (Err own)
      modify_stopped made stop own makes changes so same = λ all start t holds own'. stopped_ends all start t holds own' made stop own makes changes so same

  -- ---- what ERASE comes to

  abbrev erasing_row : World → Ran
  erasing_row = erased v.variable (scope_of scope)

  abbrev Erases : Result (Unit {0}) ActStop → Type 0
  Erases result = (values : Row) → Runs result given (scope_of scope) values (λ start. erasing_row) old new

  pub erase_unread : (stop : Stop Never) → Found given old.view bound (Err stop) → Erases (Err (of_view stop))
  erase_unread stop found = λ values all start t holds own. unread all start t holds erasing_row stop found

  pub erase_nothing : (target : TargetRelation) (was : Option Row) → Found given old.view bound (Ok (target, was)) → (bound.key ≡ None) ⊎ (was ≡ None) → new ≡ old → Erases (Ok tt)
  erase_nothing target was found none same = λ values all start t holds own.
      erases_none given v.variable [] (scope_of scope) old new all start t b holds bound_is (rel all start t holds) (named all start t holds) (no_row_found all start t holds target was found none) same

  module _ (target : TargetRelation) (was : Option Row) (k : Dbkey) (row : Row) (found : Found given old.view bound (Ok (target, was))) (key : bound.key ≡ Some k) (some : was ≡ Some row) where
    erases_so : (result : Result (Unit {0}) RowStop) → ErasesRow old.view new.view target.indexes.now k row result → (all : Lines) (start t : Tables) → HoldsIn given old all start t
        → Answers (λ u. IsSoundView new.view given.schema.now (without_row b.relation k t) all) (Lacks (knows old.view.base)) (λ at. ⊥) (λ refusal. ⊥) result
    erases_so result erases all start t holds =
        erases given.schema.now b.relation (rel all start t holds) t all (view_is all start t holds) (named all start t holds) (target_is all start t holds target was found).is.indexes
        (stands all start t holds target was found k row key some) (area all start t holds target was found k row key some)

    pub erase_done : ErasesRow old.view new.view target.indexes.now k row (Ok tt) → new.given ≡ old.given → new.lines ≡ old.lines → Erases (Ok tt)
    erase_done done same lines = λ values all start t holds own.
        erases given v.variable [] (scope_of scope) old new all start t b holds bound_is (rel all start t holds) (named all start t holds) k key (erases_so (Ok tt) done all start t holds) same lines

    stop_erasing : (all : Lines) (start t : Tables) (stop : RowStop) (own : ActStop) → IsStopOfRow stop target.indexes.now own → Stops (Lacks (knows old.view.base)) (λ at. ⊥) (λ refusal. ⊥) stop → Ends (Err own) given all start erasing_row old new t
    stop_erasing all start t (Missing need) own so stopped = subst (λ (x : ActStop). Ends (Err x) given all start erasing_row old new t) (sym so) stopped
    stop_erasing all start t (Bad at) own so stopped = absurd stopped
    stop_erasing all start t NoMemory own so stopped = subst (λ (x : ActStop). Ends (Err x) given all start erasing_row old new t) (sym so) tt
    stop_erasing all start t (Own refusal) own so stopped = absurd stopped

    pub erase_stopped : (stop : RowStop) (own : ActStop) → IsStopOfRow stop target.indexes.now own → ErasesRow old.view new.view target.indexes.now k row (Err stop) → Erases (Err own)
    erase_stopped stop own so stopped = λ values all start t holds own'. stop_erasing all start t stop own so (erases_so (Err stop) stopped all start t holds)
