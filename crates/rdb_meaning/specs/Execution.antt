-- What STORE, FOR, PRINT, MODIFY and ERASE do, in the order of the work.
use Rattle.std.specs.Prelude.{ℕ, ◌+◌, Bool, not, ◌&&◌, if◌then◌else◌, ◌==◌, List, [], ◌∷◌, ◌++◌, replicate, length, Option, Some, None, option_and_then, is_some, slice_set, slice_get}
use Rattle.ordered_entries.specs.rdb_types.declared.values.Value.TheVariants.{Missing}
use Rattle.ordered_entries.specs.rdb_types.declared.values.Scaled.{Scaled}
use Rattle.ordered_entries.specs.rdb_types.declared.keys.Dbkey.{Dbkey}
use Rattle.ordered_entries.specs.rdb_types.declared.values.Field.{Field}
use Rattle.rdo_ast.specs.declared.syntax.Range.{Range}
use Rattle.rdo_ast.specs.declared.reply.Reply.{Reply}
use Rattle.rdo_ast.specs.declared.reply.Reply.TheVariants.{Overflow, TooLong, Duplicate}
use Rattle.rdo_ast.specs.Tree.{Name, Assignment, Shown, value, all_fields, Act, store, for_each, print, modify, erase, Acts, no_act, act}
use Rattle.rdb_meaning.specs.declared.tables.Relation.{Relation}
use Rattle.rdb_meaning.specs.declared.tables.Tables.{Tables}
use Rattle.rdb_meaning.specs.declared.scope.Binding.{Binding}
use Rattle.rdb_meaning.specs.Numbers.{Computed, is, overflow, Fitted, fitting, too_large, too_long, fitted}
use Rattle.rdb_meaning.specs.Contents.{Row, relation_named, fields_of, rows_of, row_at, place_of, with_row, without_row, is_too_long, indexes_on, first_taken, is_taken}
use Rattle.rdb_meaning.specs.Evaluation.{Scope, bound_as, row_now, scaled_if, Tuple, bind_source, bind_tuple, sources_of, Selected, these, not_computed, computed}
use Rattle.rdb_meaning.specs.Selecting.{selection}

-- the tables, the Dbkeys still to be given to stored rows, and the lines printed so far
pub record World : Type 0 where
  pub tables : Tables
  pub choices : List Dbkey
  pub lines : List (List Scaled)

abbrev pub world : Tables → List Dbkey → List (List Scaled) → World
world t ks lines = record { tables = t; choices = ks; lines = lines }

-- What doing an action gives. A refusal has the Dbkeys that no row was given before it; `astray` is where a Dbkey that is to be given may not be.
pub data Ran : Type 0 where
  ran : World → Ran
  refused : Reply → List Dbkey → Ran
  astray : Ran

abbrev pub and_then : Ran → (World → Ran) → Ran
and_then (ran w) next = next w
and_then (refused r ks) next = refused r ks
and_then astray next = astray

-- the body for each tuple in turn
abbrev pub over : List Tuple → (Tuple → World → Ran) → World → Ran
over [] body w = ran w
over (k ∷ ks) body w = and_then (body k w) (over ks body)

abbrev pub over_selected : Selected → (Tuple → World → Ran) → World → Ran
over_selected (these ks) body w = over ks body w
over_selected not_computed body w = refused Overflow w.choices

-- ---- PRINT

-- the row's values in the order of definition
abbrev pub row_line_from : ℕ → List Field → Row → List Scaled
row_line_from n [] row = []
row_line_from n (f ∷ fs) row = scaled_if f.kind (slice_get row n) ∷ row_line_from (n + 1) fs row

abbrev pub row_line : List Field → Row → List Scaled
row_line = row_line_from 0

-- where there is no row any more, each field is missing
abbrev pub fields_line : List Field → Option Row → List Scaled
fields_line fields (Some row) = row_line fields row
fields_line fields None = row_line fields []

abbrev pub binding_line : Tables → Option Binding → List Scaled
binding_line t (Some b) = fields_line (fields_of (relation_named b.relation t)) (row_now t b)
binding_line t None = []

pub data Line : Type 0 where
  line : List Scaled → Line
  no_line : Line

abbrev pub joined : Line → Line → Line
joined (line vs) (line ws) = line (vs ++ ws)
joined (line vs) no_line = no_line
joined no_line l = no_line

abbrev pub value_line : Computed → Line
value_line (is v) = line (v ∷ [])
value_line overflow = no_line

abbrev pub item_line : Shown → Tables → Scope → Line
item_line (value e) t scope = value_line (computed e t scope)
item_line (all_fields n) t scope = line (binding_line t (bound_as n scope))

abbrev pub printed : List Shown → Tables → Scope → Line
printed [] t scope = line []
printed (i ∷ items) t scope = joined (item_line i t scope) (printed items t scope)

abbrev pub printed_in : World → Line → Ran
printed_in w (line vs) = ran (record w { lines = w.lines ++ vs ∷ [] })
printed_in w no_line = refused Overflow w.choices

-- ---- assignments

pub data Assigned : Type 0 where
  assigned : Row → Assigned
  unassigned : Reply → Assigned

abbrev pub put_fitted : ℕ → Fitted → Row → Assigned
put_fitted at (fitting v) row = assigned (slice_set row at v)
put_fitted at too_large row = unassigned Overflow
put_fitted at too_long row = unassigned TooLong

abbrev pub put_computed : Option (ℕ × Field) → Computed → Row → Assigned
put_computed (Some p) (is v) row = put_fitted p.0 (fitted p.1.kind v) row
put_computed (Some p) overflow row = unassigned Overflow
put_computed None _ row = assigned row

abbrev pub assigning_then : Assigned → (Row → Assigned) → Assigned
assigning_then (assigned row) next = next row
assigning_then (unassigned r) next = unassigned r

-- Each value is computed and made to fit in the order of the text, on the tables as they are before the row is written; the later of two counts.
abbrev pub assign : List Assignment → List Field → Tables → Scope → Row → Assigned
assign [] fields t scope row = assigned row
assign (a ∷ as') fields t scope row =
    assigning_then (put_computed (place_of a.left.field fields) (computed a.right t scope) row) (assign as' fields t scope)

-- ---- writing a row: its image fits its class, then no unique index of the relation has its key in another row

abbrev pub area_of : Option Relation → ℕ
area_of (Some r) = r.area
area_of None = 0

abbrev pub taken_by : Name → Row → Dbkey → Tables → Option Name
taken_by n row own t =
    first_taken (λ positions. is_taken positions row own (rows_of (relation_named n t))) (indexes_on (area_of (relation_named n t)) t)

abbrev pub unless_taken : Option Name → World → Ran → Ran
unless_taken (Some index) w next = refused (Duplicate index) w.choices
unless_taken None w next = next

abbrev pub writing : Name → Row → Dbkey → World → Ran → Ran
writing n row own w next =
    if is_too_long (fields_of (relation_named n w.tables)) row then refused TooLong w.choices else unless_taken (taken_by n row own w.tables) w next

-- A Dbkey may be given where it has the relation's area, and neither now nor at the start of the statement the relation has a row there.
abbrev pub may_be_given : Name → Dbkey → Tables → Tables → Bool
may_be_given n k start now =
    (k.area == area_of (relation_named n now)) && not (is_some (row_at k (relation_named n now))) && not (is_some (row_at k (relation_named n start)))

abbrev pub place_row : Name → Row → Tables → World → List Dbkey → Ran
place_row n row start w [] = astray
place_row n row start w (k ∷ ks) =
    if may_be_given n k start w.tables then ran (record w { tables = with_row n k row w.tables; choices = ks }) else astray

-- the Dbkey of no row
abbrev pub nowhere : Dbkey
nowhere = record { area = 0; page = 0; line = 0 }

abbrev pub store_assigned : Name → Tables → World → Assigned → Ran
store_assigned n start w (assigned row) = writing n row nowhere w (place_row n row start w w.choices)
store_assigned n start w (unassigned r) = refused r w.choices

-- a field that is not assigned is missing
abbrev pub stored : Range → List Assignment → Tables → Scope → World → Ran
stored s as' start scope w =
    store_assigned s.relation start w
    (assign as' (fields_of (relation_named s.relation w.tables)) w.tables (scope ++ bind_source s None ∷ [])
    (replicate (length (fields_of (relation_named s.relation w.tables))) Missing))

abbrev pub modify_assigned : Name → Dbkey → World → Assigned → Ran
modify_assigned n k w (assigned row) = writing n row k w (ran (record w { tables = with_row n k row w.tables }))
modify_assigned n k w (unassigned r) = refused r w.choices

-- where the Dbkey has no row any more, nothing is done
abbrev pub modify_at : Option Binding → Option Dbkey → Option Row → List Assignment → Scope → World → Ran
modify_at (Some b) (Some k) (Some row) as' scope w =
    modify_assigned b.relation k w (assign as' (fields_of (relation_named b.relation w.tables)) w.tables scope row)
modify_at _ _ _ as' scope w = ran w

abbrev pub key_of_binding : Option Binding → Option Dbkey
key_of_binding b = option_and_then (λ x. x.key) b

abbrev pub modified : Name → List Assignment → Scope → World → Ran
modified n as' scope w =
    modify_at (bound_as n scope) (key_of_binding (bound_as n scope)) (option_and_then (row_now w.tables) (bound_as n scope)) as' scope w

abbrev pub erase_at : Option Binding → Option Dbkey → World → Ran
erase_at (Some b) (Some k) w = ran (record w { tables = without_row b.relation k w.tables })
erase_at _ _ w = ran w

abbrev pub erased : Name → Scope → World → Ran
erased n scope w = erase_at (bound_as n scope) (key_of_binding (bound_as n scope)) w

-- ---- actions; start is the tables at the start of the statement

abbrev mutual
  pub done : Act → Tables → Scope → World → Ran
  done (store s as') start scope w = stored s as' start scope w
  -- the selection is made first
  done (for_each r cs body) start scope w =
      over_selected (selection r cs w.tables scope) (λ ks. done_all body start (bind_tuple (sources_of r) ks scope)) w
  done (print items) start scope w = printed_in w (printed items w.tables scope)
  done (modify n as') start scope w = modified n as' scope w
  done (erase n) start scope w = erased n scope w

  pub done_all : Acts → Tables → Scope → World → Ran
  done_all no_act start scope w = ran w
  done_all (act a rest) start scope w = and_then (done a start scope w) (done_all rest start scope)
