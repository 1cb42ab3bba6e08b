-- A search from the root on.
use Rattle.std.proofs.Common.{◌≡◌, ℕ, false, List, [], ◌∷◌, ◌++◌, sym, ap, subst, ◌∙◌, inl, inr}
use Rattle.std.specs.Prelude.{is_none, Ok, Err, ⊤}
use Rattle.rdb_types.specs.declared.keys.Dbkey.{Dbkey}
use Rattle.index_node.specs.declared.node.IndexNode.{IndexNode}
use Rattle.line_view.specs.Knowledge.{Lines, Knowledge, Agrees, line_in}
use Rattle.sorted_index_laws.specs.Stop.{IndexStop}
use Rattle.line_view.specs.declared.stop.Stop.TheVariants.{Missing, Own, Bad, NoMemory}
use Rattle.sorted_index_laws.specs.Keys.{Interval}
use Rattle.sorted_index_laws.specs.Tree.{Tree, place, node_of, pairs, Bears, IsIndex}
use Rattle.sorted_index_laws.specs.Search.{rows_within, reads_below, reads, Answers}
use Rattle.sorted_index_laws.specs.Nodes.{AreThere, Judges, JudgesIndex}
use Rattle.sorted_index_laws.specs.Inner.Steps.{IsKnownAs, ReadsNode, Adds}
use Rattle.sorted_index_laws.proofs.Walk.{known_in, known_as, one_bears, is_known, bears}
use Rattle.sorted_index_laws.proofs.Below.{HasAdded, stops, past_known, unknown_first, misses}

answered : (known : Knowledge) (lines rows old new : List Dbkey) (e : IndexStop) → Adds known lines rows old new (Err e) → Answers known lines rows (Err e)
answered known lines rows old new (Missing need) h = h
answered known lines rows old new (Own duplicate) h = h
answered known lines rows old new (Bad key) h = h
answered known lines rows old new NoMemory h = tt

pub root_misses : (known : Knowledge) (s : Interval) (root : Dbkey) (e : IndexStop) → ReadsNode known root (λ node. ⊤) (Err e)
    → (all : Lines) (level : ℕ) (tree : Tree level) → Agrees known all → IsIndex all root level tree → Answers known (reads s level tree) (rows_within s (pairs level tree)) (Err e)
root_misses known s root e reading all level tree agrees is =
    answered known (reads s level tree) (rows_within s (pairs level tree)) [] [] e
    (stops known (reads s level tree) (place level tree ∷ []) (rows_within s (pairs level tree)) [] [] [] [] e (λ key. unknown_first known (place level tree) (reads_below s level tree) key)
    (misses known all root.area level tree (λ node. ⊤) [] [] [] e agrees is.stands tt (subst (λ (k : Dbkey). ReadsNode known k (λ node. ⊤) (Err e)) (sym is.rooted) reading)))

-- the node that was read is the root of the tree
root_is : (known : Knowledge) (all : Lines) (root : Dbkey) (level : ℕ) (tree : Tree level) (node : IndexNode) → Agrees known all → IsIndex all root level tree → IsKnownAs (known.line root) node → (node_of level tree ≡ node) × (is_none (known.line (place level tree)) ≡ false)
root_is known all root level tree node agrees is known_as_node =
    let here : IsKnownAs (known.line (place level tree)) node = subst (λ (k : Dbkey). IsKnownAs (known.line k) node) (sym is.rooted) known_as_node in
    (one_bears (line_in (place level tree) all) (node_of level tree) node (bears all root.area level tree is.stands) (known_in known all (place level tree) node agrees here), is_known (known.line (place level tree)) node here)

pub root_stopped : (known : Knowledge) (s : Interval) (root : Dbkey) (node : IndexNode) (old new : List Dbkey) (e : IndexStop) → IsKnownAs (known.line root) node → HasAdded known s node old new (Err e)
    → (all : Lines) (level : ℕ) (tree : Tree level) → Agrees known all → IsIndex all root level tree → Answers known (reads s level tree) (rows_within s (pairs level tree)) (Err e)
root_stopped known s root node old new e known_as_node adds all level tree agrees is =
    let at = root_is known all root level tree node agrees is known_as_node in
    answered known (reads s level tree) (rows_within s (pairs level tree)) old new e
    (stops known (reads s level tree) (reads_below s level tree) (rows_within s (pairs level tree)) (rows_within s (pairs level tree)) old old new e
    (λ key lack. past_known known (place level tree) (reads_below s level tree) at.1 ∙ lack) (adds all root.area level tree agrees is.stands at.0))

pub root_found : (known : Knowledge) (s : Interval) (root : Dbkey) (node : IndexNode) (old new : List Dbkey) (done : Unit) → old ≡ [] → IsKnownAs (known.line root) node → HasAdded known s node old new (Ok done)
    → (all : Lines) (level : ℕ) (tree : Tree level) → Agrees known all → IsIndex all root level tree → Answers known (reads s level tree) (rows_within s (pairs level tree)) (Ok new)
root_found known s root node old new done none known_as_node adds all level tree agrees is =
    let at = root_is known all root level tree node agrees is known_as_node in
    let added = adds all root.area level tree agrees is.stands at.0 in
    (added.0 ∙ ap (λ rows. rows ++ rows_within s (pairs level tree)) none, past_known known (place level tree) (reads_below s level tree) at.1 ∙ added.1)

pub judged_root : (known : Knowledge) (s : Interval) (root : Dbkey) (e : IndexStop) → ReadsNode known root (λ node. ⊤) (Err e) → (all : Lines) → Agrees known all → JudgesIndex {T = List Dbkey} all s root (Err e)
judged_root known s root (Missing need) reading all agrees = tt
judged_root known s root (Own duplicate) reading all agrees = reading
judged_root known s root (Bad key) reading all agrees = inl (reading.0, λ node is. reading.2 node (known_as known all root node agrees reading.1 is) tt)
judged_root known s root NoMemory reading all agrees = tt

pub judged_below : (known : Knowledge) (s : Interval) (root : Dbkey) (node : IndexNode) (e : IndexStop) → IsKnownAs (known.line root) node → ((all : Lines) → Agrees known all → Judges {T = Unit} all s node.level node.entries (Err e)) → (all : Lines) → Agrees known all → JudgesIndex {T = List Dbkey} all s root (Err e)
judged_below known s root node (Missing need) known_as_node judges all agrees = tt
judged_below known s root node (Own duplicate) known_as_node judges all agrees = judges all agrees
judged_below known s root node (Bad key) known_as_node judges all agrees = inr (node, (known_in known all root node agrees known_as_node, judges all agrees))
judged_below known s root node NoMemory known_as_node judges all agrees = tt

pub judged_found : (known : Knowledge) (s : Interval) (root : Dbkey) (node : IndexNode) (done : Unit) → IsKnownAs (known.line root) node → ((all : Lines) → Agrees known all → Judges {T = Unit} all s node.level node.entries (Ok done))
    → (all : Lines) → Agrees known all → (node : IndexNode) × (Bears (line_in root all) node × AreThere all s node.level node.entries)
judged_found known s root node done known_as_node judges all agrees = (node, (known_in known all root node agrees known_as_node, judges all agrees))
