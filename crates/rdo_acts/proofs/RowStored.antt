-- A row stored, in the words of the meaning.
use Rattle.std.proofs.Common.{◌≡◌, ℕ, refl, true, false, cond, List, [], ◌∷◌, ◌++◌, map, length, replicate, Option, Some, None, option_map, Result, Ok, Err, sym, ap, subst, ◌∙◌, append-nil}
use Rattle.rdb_types.specs.declared.values.Field.{Field}
use Rattle.rdb_types.specs.declared.keys.Dbkey.{Dbkey}
use Rattle.rdb_types.specs.declared.values.Value.TheVariants.{Missing as MissingValue}
use Rattle.rdo_ast.specs.declared.reply.Reply.{Reply}
use Rattle.rdo_ast.specs.declared.reply.Reply.TheVariants as r
use Rattle.rdo_ast.specs.declared.syntax.Range.{Range}
use Rattle.rdo_ast.specs.Tree.{Name, Assignment}
use Rattle.rdb_meaning.specs.declared.tables.Relation.{Relation as Rows}
use Rattle.rdb_meaning.specs.declared.tables.Tables.{Tables}
use Rattle.rdb_meaning.specs.Contents.{Row, relation_named, rows_of, fields_of, is_taken, first_taken, indexes_on, with_row, is_too_long}
use Rattle.rdb_meaning.specs.Evaluation.{Scope, bind_source}
use Rattle.rdb_meaning.specs.Execution.{World, world, Ran, ran, refused, astray, Assigned, assigned, assign, area_of, taken_by, unless_taken, may_be_given, place_row, nowhere, store_assigned, stored}
use Rattle.line_view.specs.declared.stop.Stop.TheVariants.{Missing, Bad, NoMemory, Own}
use Rattle.line_view.specs.Knowledge.{Knowledge, Lines}
use Rattle.line_view.specs.Held.{knows}
use Rattle.line_view.specs.Stops.{Stops, Lacks}
use Rattle.catalog.specs.declared.reading.Catalog.{Catalog}
use Rattle.sound_changes.specs.Standing.{IsSoundAs}
use Rattle.sound_changes.proofs.Given.{may_be}
use Rattle.statement_view.specs.Over.{Over, laid_over, all_rooms, AreRoomsKnown}
use Rattle.schema_alone.specs.Schema.{bare}
use Rattle.view_stages.specs.Stages.{Goes}
use Rattle.stored_rows.specs.declared.images.Unstored.TheVariants as unstored
use Rattle.row_writes.specs.declared.target.TargetRelation.{TargetRelation}
use Rattle.row_writes.specs.declared.stop.PairRefusal.TheVariants as pair
use Rattle.row_writes.specs.declared.stop.RowRefusal.{RowRefusal}
use Rattle.row_writes.specs.declared.stop.RowRefusal.TheVariants.{NoImage, NoRoom, Pair}
use Rattle.row_writes.specs.Stop.{RowStop}
use Rattle.row_writes.specs.Rows.{IsSoundView, IsStored, IsNotStored, taken_by_another, StoresRow}
use Rattle.rdo_values.specs.declared.bound.BoundRange.{BoundRange}
use Rattle.rdo_values.specs.Rows.{row_of, variables_of}
use Rattle.rdo_bind.specs.declared.assign.BoundAssign.{BoundAssign}
use Rattle.rdo_bind.specs.Acting.{store, IsBoundAct}
use Rattle.rdo_bind.specs.Assigning.{written_assign}
use Rattle.bound_actions.proofs.Same.{act_same}
use Rattle.selection_areas.specs.stored_schema.Targets.{IsTargetIn}
use Rattle.rdo_acts.specs.declared.stop.Refusal.{Refusal}
use Rattle.rdo_acts.specs.declared.work.Given.{Given}
use Rattle.rdo_acts.specs.declared.work.Work.{Work}
use Rattle.rdo_acts.specs.Ends.{ActStop, reply_of, IsUnassigned, Computes, stage, HoldsIn, IsRefusedAt, Refuses, Ends, Runs}
use Rattle.rdo_acts.specs.Stops.{IsRefusalOf, IsStopOfRow}
use Rattle.rdo_acts.specs.Unwritten.{IsInTheWay, IsUnwrittenAt}
use Rattle.rdo_acts.proofs.Viewing.{sound_view, holds_sound, one_schema, range_there}
use Rattle.rdo_acts.proofs.RowMade.{MakesNewRow}

-- ---- the meaning of a STORE

module _ (given : Given) (s : Range) (as' : List Assignment) (scope : Scope) (old new : Work) (all : Lines) (start t : Tables) (rel : Rows) (target : TargetRelation)
    (holds : HoldsIn given old all start t) (named : relation_named s.relation t ≡ Some rel) (is : IsTargetIn given.schema.now t s.relation rel target) where
  abbrev n : Name
  n = s.relation

  abbrev c : Catalog
  c = given.schema.now

  abbrev known : Knowledge
  known = knows old.view.base

  abbrev job : World → Ran
  job = stored s as' start scope

  abbrev made : Assigned
  made = assign as' rel.fields t (scope ++ bind_source s None ∷ []) (replicate (length rel.fields) MissingValue)

  made_is : (left : List Dbkey) → job (world t left old.lines) ≡ store_assigned n start (world t left old.lines) made
  made_is left = ap (λ (o : Option Rows). store_assigned n start (world t left old.lines) (assign as' (fields_of o) t (scope ++ bind_source s None ∷ []) (replicate (length (fields_of o)) MissingValue))) named

  -- a refusal before anything is written
  refuses_at : (reply : Reply) → ((left : List Dbkey) → job (world t left old.lines) ≡ refused reply left) → new.given ≡ old.given → IsRefusedAt known c all start job reply (stage old) new.given t
  refuses_at reply comes same = record {
    at = stage old;
    given_there = sym same;
    goes = record { tables = t; holds = holds; fresh = []; gives = sym (append-nil old.given); comes = comes };
  }

  unassigns : (refusal : Refusal) → IsUnassigned (reply_of refusal) made → new.given ≡ old.given → Refuses (reply_of refusal) known c all start job (stage old) new.given t
  unassigns refusal h same =
      elim (reply_of refusal) as (λ o. IsUnassigned o made → Refuses o known c all start job (stage old) new.given t) [
        | None ↦ λ h. absurd h
        | Some reply ↦ λ h. refuses_at reply (λ left. made_is left ∙ ap (store_assigned n start (world t left old.lines)) h) same
      ] h

  -- the row can't be made
  pub stops_making : (stop : ActStop) → Stops (Lacks known) (λ key. ⊥) (λ refusal. IsUnassigned (reply_of refusal) made) stop → new.given ≡ old.given → Ends (Err stop) given all start job old new t
  stops_making (Missing need) lacks same = lacks
  stops_making (Bad key) bad same = bad
  stops_making NoMemory none same = tt
  stops_making (Own refusal) unmade same = unassigns refusal unmade same

  module _ (row : Row) (assigns : made ≡ assigned row) where
    abbrev taken : Option Name
    taken = taken_by_another rel target.indexes.now nowhere row

    taken_is : taken_by n row nowhere t ≡ taken
    taken_is =
        ap (λ (o : Option Rows). first_taken (λ positions. is_taken positions row nowhere (rows_of o)) (indexes_on (area_of o) t)) named
        ∙ ap (λ xs. first_taken (λ positions. is_taken positions row nowhere rel.rows) xs) (sym is.ordered)

    written : (left : List Dbkey) → job (world t left old.lines) ≡ cond (is_too_long rel.fields row) (refused r.TooLong left) (unless_taken taken (world t left old.lines) (place_row n row start (world t left old.lines) left))
    written left =
        made_is left
        ∙ ap (store_assigned n start (world t left old.lines)) assigns
        ∙ ap (λ (o : Option Rows). cond (is_too_long (fields_of o) row) (refused r.TooLong left) (unless_taken (taken_by n row nowhere t) (world t left old.lines) (place_row n row start (world t left old.lines) left))) named
        ∙ ap (λ o. cond (is_too_long rel.fields row) (refused r.TooLong left) (unless_taken o (world t left old.lines) (place_row n row start (world t left old.lines) left))) taken_is

    too_long : is_too_long rel.fields row ≡ true → new.given ≡ old.given → IsRefusedAt known c all start job r.TooLong (stage old) new.given t
    too_long long = refuses_at r.TooLong (λ left. written left ∙ ap (λ b. cond b (refused r.TooLong left) (unless_taken taken (world t left old.lines) (place_row n row start (world t left old.lines) left))) long)

    duplicate : (index : Name) → is_too_long rel.fields row ≡ false → taken ≡ Some index → new.given ≡ old.given → IsRefusedAt known c all start job (r.Duplicate index) (stage old) new.given t
    duplicate index short found =
        refuses_at (r.Duplicate index) (λ left.
        written left
        ∙ (λ i. cond (short i) (refused r.TooLong left) (unless_taken (found i) (world t left old.lines) (place_row n row start (world t left old.lines) left))))

    pub stores : (key : Dbkey) → IsStored old.view new.view c n rel t all target row key → new.given ≡ old.given ++ key ∷ [] → new.lines ≡ old.lines → Goes known c all start job ran (stage old) (stage new) t
    stores key stored gives lines =
        let sound = sound_view given old all start t holds in
        let may : may_be_given n key start t ≡ true = may_be all (laid_over old.view.lines all) c start t n rel (λ line. start) (λ line. t) key holds.began sound.sound named stored.area stored.unused stored.free in
        let behind = holds_sound given new all start (with_row n key row t) holds.began stored.behind in
        record {
          tables = with_row n key row t;
          holds = record { first = holds.first; began = holds.began; agrees = behind.agrees; sound = behind.sound };
          fresh = key ∷ [];
          gives = gives;
          comes = λ left.
              written (key ∷ left)
              ∙ (λ i. cond (stored.short i) (refused r.TooLong (key ∷ left)) (unless_taken (stored.untaken i) (world t (key ∷ left) old.lines) (place_row n row start (world t (key ∷ left) old.lines) (key ∷ left))))
              ∙ ap (λ b. cond b (ran (world (with_row n key row t) left old.lines)) astray) may
              ∙ ap (λ ls. ran (world (with_row n key row t) left ls)) (sym lines);
        }

    -- a row that isn't stored
    refused_so : (o o' : Option Reply) → o' ≡ o → Refuses o known c all start job (stage old) new.given t → Refuses o' known c all start job (stage old) new.given t
    refused_so o o' same h = subst (λ (x : Option Reply). Refuses x known c all start job (stage old) new.given t) (sym same) h

    -- a row that can't be stored
    unwritten : (why : RowRefusal) → IsInTheWay old.view.base all target row why → IsUnwrittenAt known c all start job (stage old) t
    unwritten why way = record {
      at = stage old;
      name = n;
      own = nowhere;
      row = row;
      rest = λ w. place_row n row start w w.choices;
      goes = record { tables = t; holds = holds; fresh = []; gives = sym (append-nil old.given); comes = λ left. made_is left ∙ ap (store_assigned n start (world t left old.lines)) assigns };
      unwritable = record {
        relation = rel;
        there = one_schema given old all start t holds n ∙ ap (option_map bare) named;
        target = target;
        is = is.is;
        base = old.view.base;
        same = refl;
        why = why;
        in_the_way = way;
      };
    }

    not_stored : (refusal : RowRefusal) (own : Refusal) → IsRefusalOf refusal target.indexes.now own → IsNotStored old.view.base all rel target row refusal → new.given ≡ old.given → Refuses (reply_of own) known c all start job (stage old) new.given t
    not_stored (NoImage unstored.TooLong) own so why same = refused_so (Some r.TooLong) (reply_of own) (ap reply_of so) (too_long why same)
    not_stored (NoImage unstored.Misfit) own so why same = refused_so None (reply_of own) (ap reply_of so) (unwritten (NoImage unstored.Misfit) why)
    not_stored NoRoom own so why same = refused_so None (reply_of own) (ap reply_of so) (unwritten NoRoom (subst (λ (area : ℕ). AreRoomsKnown known area target.class all_rooms) is.is.area why))
    not_stored (Pair at pair.Duplicate) own so why same = refused_so (Some (r.Duplicate (why.index).name)) (reply_of own) (so why.index why.stands) (duplicate (why.index).name why.short why.refused same)
    not_stored (Pair at pair.LongKey) own so why same = refused_so None (reply_of own) (ap reply_of so) (unwritten (Pair at pair.LongKey) (why.index, why.stands, why.refused))
    not_stored (Pair at pair.Full) own so why same = refused_so None (reply_of own) (ap reply_of so) (unwritten (Pair at pair.Full) (why.index, why.stands, why.refused))

    pub stops_storing : (stop : RowStop) (own : ActStop) → IsStopOfRow stop target.indexes.now own → StoresRow old.view new.view target row (Err stop) → new.given ≡ old.given → Ends (Err own) given all start job old new t
    stops_storing (Missing need) own so row_stored same = subst (λ (x : ActStop). Ends (Err x) given all start job old new t) (sym so) (row_stored c n rel t all (sound_view given old all start t holds) named is.is)
    stops_storing (Bad key) own so row_stored same = absurd (row_stored c n rel t all (sound_view given old all start t holds) named is.is)
    stops_storing NoMemory own so row_stored same = subst (λ (x : ActStop). Ends (Err x) given all start job old new t) (sym so) tt
    stops_storing (Own refusal) own so row_stored same =
        subst (λ (x : ActStop). Ends (Err x) given all start job old new t) (sym so.1)
        (not_stored refusal so.0 so.2 (row_stored c n rel t all (sound_view given old all start t holds) named is.is) same)

-- ---- over all maps

module _ (given : Given) (range : BoundRange) (assigns : List BoundAssign) (values : Row) (target : TargetRelation)
    (is_target : (all : Lines) (t : Tables) (rel : Rows) → IsSoundAs all given.schema.now t → relation_named range.range.relation t ≡ Some rel → IsTargetIn given.schema.now t range.range.relation rel target) where
  abbrev s : Range
  s = range.range

  abbrev as' : List Assignment
  as' = map written_assign assigns

  abbrev IsBoundIn : Tables → Scope → Type 0
  IsBoundIn t scope = IsBoundAct (store range assigns) t (variables_of scope)

  -- what `new_row` says of the row
  abbrev MakesRow : Over → Result Row ActStop → Type 0
  MakesRow view result = MakesNewRow given.schema.now view target.stored.fields.now assigns {T = Row} values (λ (row : Row). row) result

  module _ (scope : Scope) (old new : Work) (all : Lines) (start t : Tables) (is_bound : IsBoundIn given.schema.now.tables scope) (holds : HoldsIn given old all start t) (own : row_of t scope ≡ values) where
    pub bound_now : IsBoundIn t scope
    bound_now = act_same given.schema.now.tables t (one_schema given old all start t holds) (store range assigns) (variables_of scope) is_bound

    pub relation_now : (rel : Rows) × (relation_named s.relation t ≡ Some rel)
    relation_now = range_there range (relation_named s.relation t) bound_now.0

    abbrev rel : Rows
    rel = relation_now.0

    named : relation_named s.relation t ≡ Some rel
    named = relation_now.1

    pub view_is : IsSoundView old.view given.schema.now t all
    view_is = sound_view given old all start t holds

    pub target_now : IsTargetIn given.schema.now t s.relation rel target
    target_now = is_target (laid_over old.view.lines all) t rel view_is.sound named

    abbrev MadeOf : Result Row ActStop → List Field → Type 0
    MadeOf result fs =
        let row = assign as' fs t (scope ++ bind_source s None ∷ []) (replicate (length fs) MissingValue) in
        Computes result old.view (λ x. row ≡ assigned x) (λ refusal. IsUnassigned (reply_of refusal) row)

    made_so : (result : Result Row ActStop) → MakesRow old.view result → MadeOf result rel.fields
    made_so result makes = subst (MadeOf result) (sym target_now.is.fields) (makes all t scope s rel view_is named target_now.is.fields bound_now.1 own)

    unmade_ends : (stop : ActStop) → MakesRow old.view (Err stop) → new.given ≡ old.given → Ends (Err stop) given all start (stored s as' start scope) old new t
    unmade_ends stop makes same = stops_making given s as' scope old new all start t rel target holds named target_now stop (made_so (Err stop) makes) same

    stopped_ends : (row : Row) (stop : RowStop) (own' : ActStop) → MakesRow old.view (Ok row) → StoresRow old.view new.view target row (Err stop) → IsStopOfRow stop target.indexes.now own' → new.given ≡ old.given
        → Ends (Err own') given all start (stored s as' start scope) old new t
    stopped_ends row stop own' makes row_stored so same = stops_storing given s as' scope old new all start t rel target holds named target_now row (made_so (Ok row) makes) stop own' so row_stored same

    stored_ends : (row : Row) (key : Dbkey) → MakesRow old.view (Ok row) → StoresRow old.view new.view target row (Ok key) → new.given ≡ old.given ++ key ∷ [] → new.lines ≡ old.lines
        → Ends (Ok tt) given all start (stored s as' start scope) old new t
    stored_ends row key makes row_stored gives lines =
        stores given s as' scope old new all start t rel target holds named target_now row (made_so (Ok row) makes) key (row_stored given.schema.now s.relation rel t all view_is named target_now.is) gives lines

  -- ---- what STORE comes to

  abbrev Stores : Result (Unit {0}) ActStop → Work → Work → Type 0
  Stores result old new = (scope : Scope) → IsBoundIn given.schema.now.tables scope → Runs result given scope values (λ start. stored s as' start scope) old new

  pub store_unmade : (old new : Work) (stop : ActStop) → MakesRow old.view (Err stop) → new.given ≡ old.given → Stores (Err stop) old new
  store_unmade old new stop makes same = λ scope is_bound all start t holds own. unmade_ends scope old new all start t is_bound holds own stop makes same

  pub store_stopped : (old new : Work) (row : Row) (stop : RowStop) (own : ActStop) → MakesRow old.view (Ok row) → StoresRow old.view new.view target row (Err stop) → IsStopOfRow stop target.indexes.now own → new.given ≡ old.given → Stores (Err own) old new
  store_stopped old new row stop own makes row_stored so same = λ scope is_bound all start t holds own'. stopped_ends scope old new all start t is_bound holds own' row stop own makes row_stored so same

  pub store_done : (old new : Work) (row : Row) (key : Dbkey) → MakesRow old.view (Ok row) → StoresRow old.view new.view target row (Ok key) → new.given ≡ old.given ++ key ∷ [] → new.lines ≡ old.lines → Stores (Ok tt) old new
  store_done old new row key makes row_stored gives lines = λ scope is_bound all start t holds own. stored_ends scope old new all start t is_bound holds own row key makes row_stored gives lines
