-- What a search of an index finds, and what it reads for that.
use Rattle.std.specs.Prelude.{◌≡◌, ℕ, zero, suc, Bool, true, false, not, ◌&&◌, ◌||◌, List, [], ◌∷◌, map, Option, Some, None, is_none, option_map, Result, Ok, Err, if◌then◌else◌}
use Rattle.std.specs.List.{filter, find, flat_map}
use Rattle.rdb_types.specs.declared.keys.Dbkey.{Dbkey}
use Rattle.index_node.specs.declared.entry.NodeEntry.{NodeEntry}
use Rattle.line_view.specs.declared.need.Need.TheVariants.{Line}
use Rattle.line_view.specs.Knowledge.{Knowledge}
use Rattle.sorted_index_laws.specs.Stop.{IndexStop}
use Rattle.line_view.specs.declared.stop.Stop.TheVariants.{Missing, Own, Bad, NoMemory}
use Rattle.sorted_index_laws.specs.Keys.{Interval, is_within}
use Rattle.sorted_index_laws.specs.Tree.{Tree, place}

-- ---- what is found

-- the rows of the pairs whose keys are in the interval
abbrev pub rows_within : Interval → List NodeEntry → List Dbkey
rows_within interval pairs = map (λ pair. pair.row) (filter (λ pair. is_within interval pair.key) pairs)

-- ---- what is read

-- a pair before this entry, that of the next child, may be in the interval
abbrev pub reaches : Interval → List NodeEntry → Bool
reaches interval [] = true
reaches interval (next ∷ entries) = not (interval.is_below next.key)

-- Of the children from one on: a pair in the interval may stand below this one. Its own entry isn't above the interval, unless it is its node's first, and the next child's entry isn't below.
abbrev pub may_hold : Interval → Bool → List NodeEntry → Bool
may_hold interval first [] = false
may_hold interval first (entry ∷ entries) = (first || not (interval.is_above entry.key)) && reaches interval entries

-- what is below the children where a pair in the interval may stand
abbrev pub searched : {X : Type 0} → Interval → Bool → List (NodeEntry × X) → List X
searched interval first [] = []
searched interval first (child ∷ children) =
    if may_hold interval first (child.0 ∷ map (λ c. c.0) children) then child.1 ∷ searched interval false children else searched interval false children

-- the nodes below this one that a search reads, in its order
abbrev pub reads_below : Interval → (level : ℕ) → Tree level → List Dbkey
reads_below interval zero tree = []
reads_below interval (suc level) tree = flat_map (λ child. place level child ∷ reads_below interval level child) (searched interval true tree.entries)

abbrev pub reads : Interval → (level : ℕ) → Tree level → List Dbkey
reads interval level tree = place level tree ∷ reads_below interval level tree

-- the first line that isn't known
abbrev pub first_unknown : Knowledge → List Dbkey → Option Dbkey
first_unknown known = find (λ key. is_none (known.line key))

-- ---- what is answered

-- A search that reads these lines, and is to find these rows: it finds them where it knows all that it reads, and else names the first that it lacks.
abbrev pub Answers : Knowledge → List Dbkey → List Dbkey → Result (List Dbkey) IndexStop → Type 0
Answers known lines rows (Ok found) = (found ≡ rows) × (first_unknown known lines ≡ None)
Answers known lines rows (Err (Missing need)) = option_map Line (first_unknown known lines) ≡ Some need
Answers known lines rows (Err (Own duplicate)) = ⊥
Answers known lines rows (Err (Bad key)) = ⊥
Answers known lines rows (Err NoMemory) = Unit {0}
