-- A tree without a pair, and the lines that are written for it.
use Rattle.std.specs.Prelude.{◌≡◌, ℕ, zero, suc, Bool, true, false, cond, List, [], ◌∷◌, ◌++◌, map, Option, Some, None, option_map, Result, Ok, Err}
use Rattle.index_node.specs.declared.entry.NodeEntry.{NodeEntry}
use Rattle.index_node.specs.declared.node.IndexNode.{IndexNode}
use Rattle.line_view.specs.declared.need.Need.TheVariants.{Line}
use Rattle.line_view.specs.Knowledge.{Knowledge}
use Rattle.line_view.specs.declared.writes.Write.{Write}
use Rattle.sorted_index_laws.specs.Stop.{IndexStop}
use Rattle.line_view.specs.declared.stop.Stop.TheVariants.{Missing, Own, Bad, NoMemory}
use Rattle.sorted_index_laws.specs.Tree.{Tree, place, node_of, Bears, has_nothing}
use Rattle.sorted_index_laws.specs.Search.{first_unknown}
use Rattle.sorted_index_laws.specs.Changes.{goes_on, without_pair, path_below}

-- what is left below an entry, before the children behind it: a node without entries is left out
abbrev pub keep : (level : ℕ) → NodeEntry → Tree level → List (NodeEntry × Tree level) → List (NodeEntry × Tree level)
keep level entry left children = cond (has_nothing level left) children ((entry, left) ∷ children)

-- the children, where the one that the pair belongs below is changed
abbrev pub replaced : (level : ℕ) → NodeEntry → (Tree level → Tree level) → List (NodeEntry × Tree level) → List (NodeEntry × Tree level)
replaced level pair change [] = []
replaced level pair change (child ∷ children) = cond (goes_on pair (map (λ c. c.0) children)) (child ∷ replaced level pair change children) (keep level child.0 (change child.1) children)

abbrev pub without : NodeEntry → (level : ℕ) → Tree level → Tree level
without pair zero tree = record { at = tree.at; entries = without_pair pair tree.entries }
without pair (suc level) tree = record { at = tree.at; entries = replaced level pair (without pair level) tree.entries }

abbrev pub Choose : Bool → Type 0 → Type 0 → Type 0
Choose true A B = A
Choose false A B = B

-- the image of a node that is left, or none where nothing is left of it
abbrev pub IsLeft : (level : ℕ) → Tree level → Option (List ℕ) → Type 0
IsLeft level left image = Choose (has_nothing level left) (image ≡ None) (Bears image (node_of level left))

-- the lines of the child that the pair belongs below
abbrev pub WroteIn : NodeEntry → (level : ℕ) → (Tree level → List Write → Type 0) → List (NodeEntry × Tree level) → List Write → Type 0
WroteIn pair level Inner [] writes = writes ≡ []
WroteIn pair level Inner (child ∷ children) writes = Choose (goes_on pair (map (λ c. c.0) children)) (WroteIn pair level Inner children writes)
    ((before : List Write) × ((image : Option (List ℕ)) × ((writes ≡ before ++ record { key = place level child.1; image = image } ∷ []) × Inner child.1 before × IsLeft level (without pair level child.1) image)))

-- the lines below a node
abbrev pub Wrote : NodeEntry → (level : ℕ) → Tree level → List Write → Type 0
Wrote pair zero tree writes = writes ≡ []
Wrote pair (suc level) tree writes = WroteIn pair level (Wrote pair level) tree.entries writes

-- Taking a pair out below a node gives the node without it, with the lines that are written behind those that were.
abbrev pub TakesOut : Knowledge → NodeEntry → (level : ℕ) → Tree level → List Write → List Write → Result IndexNode IndexStop → Type 0
TakesOut known pair level tree old new (Ok left) = (node_of level (without pair level tree) ≡ left) × (first_unknown known (path_below pair level tree) ≡ None)
    × ((writes : List Write) × ((new ≡ old ++ writes) × Wrote pair level tree writes))
TakesOut known pair level tree old new (Err (Missing need)) = option_map Line (first_unknown known (path_below pair level tree)) ≡ Some need
TakesOut known pair level tree old new (Err (Own duplicate)) = ⊥
TakesOut known pair level tree old new (Err (Bad key)) = ⊥
TakesOut known pair level tree old new (Err NoMemory) = Unit {0}
