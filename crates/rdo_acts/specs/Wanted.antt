-- What an action lacks, whether it writes or not.
use Rattle.std.specs.Prelude.{◌≡◌, ◌⊎◌, ℕ, true, List, [], ◌∷◌, ◌++◌, map, Some, Result}
use Rattle.rdb_types.specs.declared.keys.Dbkey.{Dbkey}
use Rattle.rdo_ast.specs.declared.syntax.Range.{Range}
use Rattle.rdo_ast.specs.Tree.{Name}
use Rattle.rdb_meaning.specs.declared.scope.Binding.{Binding}
use Rattle.rdb_meaning.specs.declared.tables.Relation.{Relation}
use Rattle.rdb_meaning.specs.declared.tables.Tables.{Tables}
use Rattle.rdb_meaning.specs.Contents.{Row, relation_named, indexes_on}
use Rattle.rdb_meaning.specs.Evaluation.{Scope, Tuple, these}
use Rattle.rdb_meaning.specs.Selecting.{selection}
use Rattle.line_view.specs.declared.need.Need.{Need}
use Rattle.line_view.specs.declared.need.Need.TheVariants.{Line, Area, Room}
use Rattle.line_view.specs.declared.stop.Stop.{Stop}
use Rattle.line_view.specs.Knowledge.{Knowledge, Lines, Agrees}
use Rattle.line_view.specs.Stops.{Answers}
use Rattle.sorted_index_laws.specs.Nodes.{AnyByRecursion}
use Rattle.sound_changes.specs.Standing.{IsSoundAs}
use Rattle.statement_view.specs.Areas.{is_among}
use Rattle.rdo_values.specs.declared.bound.BoundSelection.{BoundSelection}
use Rattle.rdo_values.specs.Views.{ranging_of}
use Rattle.rdo_values.specs.Named.{named_ranging}
use Rattle.rdo_values.specs.Places.{ranges_in}
use Rattle.rdo_values.specs.Rows.{row_of, variables_of}
use Rattle.rdo_values.specs.Selections.{written_clause}
use Rattle.rdo_bind.specs.Acting.{Act, store, for_each, print, modify, erase, Acts, no_act, act}
use Rattle.rdo_select.specs.declared.crossing.Found.{Found}
use Rattle.rdo_select.specs.Sources.{Listed}
use Rattle.rdo_select.specs.Stops.{HaveValues}
use Rattle.served_selections.specs.Ranges.{Chosen, chosen_in_ranging}
use Rattle.rdo_acts.specs.declared.work.Given.{Given}
use Rattle.rdo_acts.specs.declared.work.Work.{Work}
use Rattle.rdo_acts.specs.declared.acting.Outcome.{Outcome}
use Rattle.rdo_acts.specs.declared.acting.Outcome.TheVariants.{Missing}
use Rattle.rdo_acts.specs.Ends.{ActStop, HoldsIn}
use Rattle.rdo_acts.specs.Selections.{chosen_in_items, chosen_in_assigns, IsReadAmong, FirstIs}

-- ---- in tables

-- the logical areas of a relation's indexes
abbrev pub index_areas : Tables → Relation → List ℕ
index_areas t rel = map (λ e. e.1.area) (indexes_on rel.area t)

-- a line of an index of one of the relations, or a room, as rows are written; no area
abbrev pub IsNodeIn : Tables → Need → Type 0
IsNodeIn t (Line line) = (n : Name) × (rel : Relation) × (relation_named n t ≡ Some rel) × (is_among (index_areas t rel) line.area ≡ true)
IsNodeIn t (Area area) = ⊥
IsNodeIn t (Room room) = Unit {0}

-- the line of one of these rows
abbrev pub IsOneOf : Tuple → Need → Type 0
IsOneOf ks need = AnyByRecursion (λ k. need ≡ Line k) ks

-- It is the line of a row that a selection chooses in these tables, behind rows of the variables around it.
pub record IsChosenRow (t : Tables) (s : BoundSelection) (vs : List Range) (need : Need) : Type 0 where
  pub scope : Scope
  pub variables : variables_of scope ≡ vs
  pub tuples : List Tuple
  pub chosen : selection (named_ranging (ranging_of s.inner)) (map written_clause s.clauses) t scope ≡ these tuples
  pub row : AnyByRecursion (λ ks. IsOneOf ks need) tuples

-- What the parts of an action lack in these tables, where the variables around it are vs, and this is what is read of relations of selections: that of one of their selections; the row of a tuple that a FOR has chosen; and where a row is written, a line of an index or a room.
abbrev mutual
  pub ActLacks : Tables → (List Chosen → Need → Type 0) → Act → List Range → Need → Type 0
  ActLacks t Reads (store s as') vs need = Reads (chosen_in_assigns as' (vs ++ s.range ∷ [])) need ⊎ IsNodeIn t need
  ActLacks t Reads (for_each s body) vs need = Reads (chosen_in_ranging (ranging_of s.inner) vs) need ⊎ (IsChosenRow t s vs need ⊎ ActsLack t Reads body (vs ++ ranges_in (ranging_of s.inner)) need)
  ActLacks t Reads (print items) vs need = Reads (chosen_in_items items vs) need
  ActLacks t Reads (modify v as') vs need = Reads (chosen_in_assigns as' vs) need ⊎ IsNodeIn t need
  ActLacks t Reads (erase v) vs need = IsNodeIn t need

  pub ActsLack : Tables → (List Chosen → Need → Type 0) → Acts → List Range → Need → Type 0
  ActsLack t Reads no_act vs need = ⊥
  ActsLack t Reads (act a rest) vs need = ActLacks t Reads a vs need ⊎ ActsLack t Reads rest vs need

-- the same, by a scan or by an index
abbrev pub ActWants : Tables → Listed → Act → List Range → Need → Type 0
ActWants t sources = ActLacks t (IsReadAmong t sources)

abbrev pub ActsWant : Tables → Listed → Acts → List Range → Need → Type 0
ActsWant t sources = ActsLack t (IsReadAmong t sources)

-- ---- at a moment of the work

-- This is so in the tables that the work has come to, behind some writes over this map of the start with its tables.
pub record Then (given : Given) (all : Lines) (start : Tables) (Is : Tables → Type 0) : Type 0 where
  pub work : Work
  pub tables : Tables
  pub holds : HoldsIn given work all start tables
  pub is : Is tables

-- the line of the row that a variable around the work is bound to
abbrev pub IsRowOf : Scope → Need → Type 0
IsRowOf scope need = AnyByRecursion (λ (b : Binding). (k : Dbkey) × (b.key ≡ Some k) × (need ≡ Line k)) scope

abbrev pub Lacking : {T E : Type 0} → (Need → Type 0) → Result T (Stop E) → Type 0
Lacking Is result = Answers (λ given. Unit {0}) Is (λ key. Unit {0}) (λ own. Unit {0}) result

-- what is missing is the row of a variable around the action, or what its parts lack
abbrev pub RunsWanting : Result (Unit {0}) ActStop → Given → Scope → Row → Act → Work → Type 0
RunsWanting result given scope values a old = (all : Lines) (start t : Tables) → HoldsIn given old all start t → row_of t scope ≡ values →
    Lacking (λ need. IsRowOf scope need ⊎ Then given all start (λ u. ActWants u given.sources.now.entries a (variables_of scope) need)) result

abbrev pub BodyWanting : Result (Unit {0}) ActStop → Given → Scope → Row → Acts → Work → Type 0
BodyWanting result given scope values body old = (all : Lines) (start t : Tables) → HoldsIn given old all start t → row_of t scope ≡ values →
    Lacking (λ need. IsRowOf scope need ⊎ Then given all start (λ u. ActsWant u given.sources.now.entries body (variables_of scope) need)) result

-- the same for tuples that were selected with the values of all variables, whose rows may be what is missing
abbrev pub TuplesWanting : Result (Unit {0}) ActStop → Given → Scope → List Range → List Found → Acts → Work → Type 0
TuplesWanting result given scope ss tuples body old = (all : Lines) (start t : Tables) → HoldsIn given old all start t → HaveValues ss t scope tuples →
    Lacking (λ need. IsRowOf scope need ⊎ (AnyByRecursion (λ (f : Found). IsOneOf f.tuple need) tuples ⊎ Then given all start (λ u. ActsWant u given.sources.now.entries body (variables_of scope ++ ss) need))) result

-- ---- what comes of an action

abbrev pub IsWanted : Outcome → Given → Lines → Tables → Act → Type 0
IsWanted (Missing needs) given all start a = FirstIs (λ need. Then given all start (λ u. ActWants u given.sources.now.entries a [] need)) needs
IsWanted _ given all start a = Unit {0}

-- What an action lacks first is what one of its parts lacks at a moment of the work, over each map that is sound with the catalog and with which what is known agrees.
abbrev pub WantsSo : Outcome → Act → Knowledge → Given → Type 0
WantsSo outcome a known given = (all : Lines) (t : Tables) → Agrees known all → IsSoundAs all given.schema.now t → IsWanted outcome given all t a
