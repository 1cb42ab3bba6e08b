-- Whether the nodes that a search reads are there, whatever else the map has.
use Rattle.std.specs.Prelude.{◌≡◌, ℕ, zero, suc, Bool, true, false, ◌⊎◌, List, [], ◌∷◌, Result, Ok, Err, if◌then◌else◌}
use Rattle.std.specs.List.{AllByRecursion, cons_option}
use Rattle.rdb_types.specs.declared.keys.Dbkey.{Dbkey}
use Rattle.index_node.specs.declared.entry.NodeEntry.{NodeEntry}
use Rattle.index_node.specs.declared.node.IndexNode.{IndexNode}
use Rattle.line_view.specs.Knowledge.{Lines, line_in}
use Rattle.sorted_index_laws.specs.Stop.{IndexStop}
use Rattle.line_view.specs.declared.stop.Stop.TheVariants.{Missing, Own, Bad, NoMemory}
use Rattle.sorted_index_laws.specs.Keys.{Interval}
use Rattle.sorted_index_laws.specs.Tree.{Bears}
use Rattle.sorted_index_laws.specs.Search.{may_hold}

-- the children of these entries that a search reads
abbrev pub children_read : Interval → Bool → List NodeEntry → List Dbkey
children_read interval first [] = []
children_read interval first (entry ∷ entries) =
    if may_hold interval first (entry ∷ entries) then cons_option entry.child (children_read interval false entries) else children_read interval false entries

-- each node that a search reads below the entries of a node of this level is there, at one level less than the node above it
abbrev pub AreThere : Lines → Interval → ℕ → List NodeEntry → Type 0
AreThere lines interval zero entries = Unit {0}
AreThere lines interval (suc level) entries =
    AllByRecursion (λ child. (node : IndexNode) × (Bears (line_in child lines) node × (node.level ≡ level) × AreThere lines interval level node.entries)) (children_read interval true entries)

abbrev pub AnyByRecursion : {X : Type 0} → (X → Type 0) → List X → Type 0
AnyByRecursion P [] = ⊥
AnyByRecursion P (x ∷ xs) = P x ⊎ AnyByRecursion P xs

-- a search below these entries reads this line, and it isn't a node of the level that is wanted there
abbrev pub Lacks : Lines → Interval → ℕ → List NodeEntry → Dbkey → Type 0
Lacks lines interval zero entries bad = ⊥
Lacks lines interval (suc level) entries bad =
    AnyByRecursion (λ child. ((bad ≡ child) × ((node : IndexNode) → Bears (line_in child lines) node → node.level ≡ level → ⊥))
    ⊎ ((node : IndexNode) × (Bears (line_in child lines) node × (node.level ≡ level) × Lacks lines interval level node.entries bad))) (children_read interval true entries)

-- A search below these entries ends only where the nodes that it reads are there, and finds fault only with a line where one isn't.
abbrev pub Judges : {T : Type 0} → Lines → Interval → ℕ → List NodeEntry → Result T IndexStop → Type 0
Judges lines interval level entries (Ok done) = AreThere lines interval level entries
Judges lines interval level entries (Err (Missing need)) = Unit {0}
Judges lines interval level entries (Err (Own duplicate)) = ⊥
Judges lines interval level entries (Err (Bad key)) = Lacks lines interval level entries key
Judges lines interval level entries (Err NoMemory) = Unit {0}

-- the same, from the root on
abbrev pub JudgesIndex : {T : Type 0} → Lines → Interval → Dbkey → Result T IndexStop → Type 0
JudgesIndex lines interval root (Ok done) = (node : IndexNode) × (Bears (line_in root lines) node × AreThere lines interval node.level node.entries)
JudgesIndex lines interval root (Err (Missing need)) = Unit {0}
JudgesIndex lines interval root (Err (Own duplicate)) = ⊥
JudgesIndex lines interval root (Err (Bad key)) = ((key ≡ root) × ((node : IndexNode) → Bears (line_in root lines) node → ⊥))
    ⊎ ((node : IndexNode) × (Bears (line_in root lines) node × Lacks lines interval node.level node.entries key))
JudgesIndex lines interval root (Err NoMemory) = Unit {0}
