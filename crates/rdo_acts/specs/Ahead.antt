-- Needs that come behind the first one of an action.
use Rattle.std.specs.Prelude.{◌≡◌, ◌<◌, ◌+◌, ◌*◌, ◌==◌, if◌then◌else◌, ℕ, List, [], ◌∷◌, map, length}
use Rattle.std.specs.List.{AllByRecursion}
use Rattle.rdb_types.specs.declared.keys.Dbkey.{Dbkey}
use Rattle.rdb_meaning.specs.declared.tables.Tables.{Tables}
use Rattle.rdb_meaning.specs.Evaluation.{Tuple, these}
use Rattle.rdb_meaning.specs.Selecting.{selection}
use Rattle.line_view.specs.declared.need.Need.{Need}
use Rattle.line_view.specs.declared.need.Need.TheVariants.{Line, Room}
use Rattle.line_view.specs.Knowledge.{Knowledge, Lines, Agrees}
use Rattle.line_view.specs.Stops.{Lacks}
use Rattle.sorted_index_laws.specs.Nodes.{AnyByRecursion}
use Rattle.sound_changes.specs.Standing.{IsSoundAs}
use Rattle.rdo_values.specs.Views.{ranging_of}
use Rattle.rdo_values.specs.Named.{named_ranging}
use Rattle.rdo_values.specs.Selections.{written_clause}
use Rattle.rdo_bind.specs.Acting.{Act, store, for_each, Acts, no_act, act}
use Rattle.rdo_select.specs.Sources.{Listed}
use Rattle.served_selections.specs.Served.{IsReadByIndex}
use Rattle.rdo_acts.specs.declared.work.Given.{Given}
use Rattle.rdo_acts.specs.declared.acting.Outcome.{Outcome}
use Rattle.rdo_acts.specs.declared.acting.Outcome.TheVariants.{Missing}
use Rattle.rdo_acts.specs.Selections.{chosen_in_act}

-- ---- in which order

-- the place of a line among those of its area
abbrev pub place_of : Dbkey → ℕ
place_of key = key.page * 65536 + key.line

-- The other is a line of the same area at a higher place, or a room of the same area and class with a higher number.
abbrev pub IsBehind : Need → Need → Type 0
IsBehind (Line key) (Line other) = (key.area ≡ other.area) × (place_of key < place_of other)
IsBehind (Room room) (Room other) = (room.area ≡ other.area) × (room.class ≡ other.class) × (room.nth < other.nth)
IsBehind _ _ = ⊥

-- Each of these comes behind the one before it, the first of them behind this need, and none is known.
abbrev pub AreAhead : Knowledge → Need → List Need → Type 0
AreAhead known need [] = Unit {0}
AreAhead known need (next ∷ needs) = IsBehind need next × Lacks known next × AreAhead known next needs

abbrev pub last_of : Need → List Need → Need
last_of need [] = need
last_of need (next ∷ needs) = last_of next needs

-- the same, where this is the last of them
pub record AreAheadTo (known : Knowledge) (need : Need) (needs : List Need) (last : Need) : Type 0 where
  pub ahead : AreAhead known need needs
  pub ends : last_of need needs ≡ last

-- ---- what is wanted, if nothing refuses the action

abbrev pub stored_by : Act → ℕ → ℕ
stored_by (store s as') area = if s.area == area then 1 else 0
stored_by _ area = 0

-- how many STOREs of a body store into this logical area
abbrev pub stores_into : Acts → ℕ → ℕ
stores_into no_act area = 0
stores_into (act a rest) area = stored_by a area + stores_into rest area

-- A FOR stores more rows than so many into this area: one by each such STORE of its body for each tuple that its selection chooses in these tables.
abbrev pub StoresMore : Tables → Act → (area n : ℕ) → Type 0
StoresMore t (for_each s body) area n = (tuples : List Tuple) × (selection (named_ranging (ranging_of s.inner)) (map written_clause s.clauses) t [] ≡ these tuples) × (n < length tuples * stores_into body area)
StoresMore t _ area n = ⊥

-- A line is one of an index by which a relation of one of the action's selections is read, or that of a row which such an index has under its part of the tests. A room is for one of the rows that a FOR stores: its number is less behind the first's than these are.
abbrev pub IsWantedBehind : Tables → Listed → Act → (first next : Need) → Type 0
IsWantedBehind t sources a first (Line key) = AnyByRecursion (IsReadByIndex t sources (Line key)) (chosen_in_act a [])
IsWantedBehind t sources a (Room first) (Room room) = (n : ℕ) × (room.nth ≡ first.nth + n) × StoresMore t a first.area n
IsWantedBehind t sources a _ _ = ⊥

-- the same in the tables of each map that is sound with the catalog and with which what is known agrees
abbrev pub AreWantedBehind : Act → Knowledge → Given → Need → List Need → Type 0
AreWantedBehind a known given first needs = (all : Lines) (t : Tables) → Agrees known all → IsSoundAs all given.schema.now t → AllByRecursion (IsWantedBehind t given.sources.now.entries a first) needs

-- Behind the first need of an action come such as it wants if nothing refuses it.
abbrev pub WantsBehind : Outcome → Act → Knowledge → Given → Type 0
WantsBehind (Missing []) a known given = Unit {0}
WantsBehind (Missing (first ∷ needs)) a known given = AreWantedBehind a known given first needs
WantsBehind _ a known given = Unit {0}
