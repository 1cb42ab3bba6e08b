-- What is found where an action is looked through.
use Rattle.std.specs.Prelude.{◌≡◌, ◌≢◌, ◌<◌, ◌+◌, ◌⊎◌, ◌++◌, ℕ, List, [], Result, Ok, Err, length, map}
use Rattle.std.specs.List.{AllByRecursion}
use Rattle.rdb_types.specs.declared.keys.Dbkey.{Dbkey}
use Rattle.rdo_ast.specs.declared.syntax.Range.{Range}
use Rattle.rdb_meaning.specs.declared.tables.Relation.{Relation}
use Rattle.rdb_meaning.specs.declared.tables.Tables.{Tables}
use Rattle.rdb_meaning.specs.Contents.{Row}
use Rattle.rdb_meaning.specs.Evaluation.{Scope, Tuple, these}
use Rattle.rdb_meaning.specs.Selecting.{selection}
use Rattle.line_view.specs.declared.need.Need.{Need}
use Rattle.line_view.specs.declared.need.Need.TheVariants as kinds
use Rattle.line_view.specs.declared.need.Room.{Room}
use Rattle.line_view.specs.Knowledge.{Knowledge}
use Rattle.line_view.specs.declared.stop.Stop.TheVariants.{Missing}
use Rattle.relation_rows.specs.declared.stored.StoredRow.{StoredRow}
use Rattle.sorted_index_laws.specs.Nodes.{AnyByRecursion}
use Rattle.index_ahead.specs.Added.{IsIn}
use Rattle.sorted_index_laws.specs.Stop.{IndexStop}
use Rattle.access_paths.specs.declared.choice.Access.{Access}
use Rattle.access_paths.specs.declared.choice.Access.TheVariants.{Scan}
use Rattle.rdo_values.specs.declared.bound.BoundSelection.{BoundSelection}
use Rattle.rdo_values.specs.Views.{ranging_of}
use Rattle.rdo_values.specs.Named.{named_ranging}
use Rattle.rdo_values.specs.Rows.{row_of, variables_of}
use Rattle.rdo_values.specs.Selections.{written_clause}
use Rattle.rdo_select.specs.declared.source.Source.{Source}
use Rattle.rdo_select.specs.Sources.{Listed, IsShown}
use Rattle.served_selections.specs.Ranges.{Chosen}
use Rattle.served_selections.specs.Served.{ReadsBy, IsReadByIndex}
use Rattle.rdo_bind.specs.Acting.{Act, IsBoundAct}
use Rattle.rdo_acts.specs.Ahead.{IsWantedBehind}

-- ---- lines

-- a row that an index was found to have, or where a node isn't known a line of the index's area
abbrev pub IsFoundIn : ℕ → Result (List Dbkey) IndexStop → Dbkey → Type 0
IsFoundIn area (Ok found) key = IsIn found key
IsFoundIn area (Err (Missing _)) key = key.area ≡ area
IsFoundIn area (Err _) key = ⊥

-- a line that is read of a relation by an index
abbrev pub IsAccessed : Access → Source → Relation → Dbkey → Type 0
IsAccessed a source rel key = (a ≢ Scan) × ReadsBy a source.indexes.now rel (kinds.Line key)

abbrev pub IsReadBy : Tables → Listed → List Chosen → Dbkey → Type 0
IsReadBy t sources cs key = AnyByRecursion (IsReadByIndex t sources (kinds.Line key)) cs

-- These are the values of rows that variables of these ranges are bound to.
pub record AreValuesOf (t : Tables) (vs : List Range) (values : Row) : Type 0 where
  pub scope : Scope
  pub variables : variables_of scope ≡ vs
  pub row : row_of t scope ≡ values

abbrev pub StandBehind : Tables → List Range → Row → List StoredRow → Type 0
StandBehind t vs before rows = AllByRecursion (λ (x : StoredRow). AreValuesOf t vs (before ++ x.row)) rows

-- the need is one of these lines
abbrev pub IsLineOf : List Dbkey → Need → Type 0
IsLineOf keys need = AnyByRecursion (λ key. need ≡ kinds.Line key) keys

-- ---- rooms

-- the need is a room with a number less than so many behind this one's
abbrev pub IsRoomWithin : Room → ℕ → Need → Type 0
IsRoomWithin room more need = (n : ℕ) × (n < more) × (need ≡ kinds.Room (record { area = room.area; class = room.class; nth = room.nth + n }))

-- none are counted, or the tuples that a selection chooses
abbrev pub CountsTuples : Tables → BoundSelection → ℕ → Type 0
CountsTuples t s n = (n ≡ 0) ⊎ ((tuples : List Tuple) × (selection (named_ranging (ranging_of s.inner)) (map written_clause s.clauses) t [] ≡ these tuples) × (n ≡ length tuples))

-- ---- what comes behind a need

-- these are wanted behind it, in the tables that are shown
abbrev pub WantedSo : Knowledge → Listed → Act → Need → List Need → Type 0
WantedSo known sources a first needs = (t : Tables) → IsShown known sources t → IsBoundAct a t [] → AllByRecursion (IsWantedBehind t sources a first) needs
