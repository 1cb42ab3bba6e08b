-- The steps of taking a pair out, each as the code takes it.
use Rattle.std.proofs.Common.{◌≡◌, ◌≢◌, ℕ, zero, suc, ◌-◌, ◌<◌, Bool, true, false, List, [], ◌∷◌, ◌++◌, length, get_or, Option, Some, None, refl, sym, ap, subst, ◌∙◌, arith, append_assoc, rules}
use Rattle.std.specs.Prelude.{is_none, option_map, Result, Ok, Err, IsTrue, ◌↔◌, ⊤}
use Rattle.std.specs.List.{AllByRecursion, flat_map, remove}
use Rattle.std.proofs.lemmas.List.{append-nil}
use Rattle.rdb_types.specs.declared.keys.Dbkey.{Dbkey}
use Rattle.index_node.specs.declared.entry.NodeEntry.{NodeEntry}
use Rattle.index_node.specs.declared.node.IndexNode.{IndexNode}
use Rattle.index_node.specs.Node.{IsNode}
use Rattle.line_view.specs.declared.need.Need.TheVariants.{Line}
use Rattle.line_view.specs.Knowledge.{Lines, Knowledge, Agrees, line_in}
use Rattle.line_view.specs.declared.writes.Write.{Write}
use Rattle.sorted_index_laws.specs.Stop.{IndexStop}
use Rattle.line_view.specs.declared.stop.Stop.TheVariants.{Missing, Own, Bad, NoMemory}
use Rattle.sorted_index_laws.specs.Tree.{Tree, place, node_of, pairs, Bears, Stands, IsIndex, is_empty, has_nothing}
use Rattle.sorted_index_laws.specs.Search.{first_unknown}
use Rattle.sorted_index_laws.specs.Changes.{without_pair, chosen, path_below, path, Changes}
use Rattle.sorted_index_laws.specs.Inner.Removal.{replaced, without, Choose, IsLeft, Wrote, TakesOut}
use Rattle.sorted_index_laws.specs.Inner.Steps.{IsKnownAs, ReadsNode, child_place, Adds}
use Rattle.sorted_index_laws.proofs.Walk.{known_in, one_bears, is_known, level_of, bears}
use Rattle.sorted_index_laws.proofs.Below.{past_known, unknown_first, misses, stops}
use Rattle.sorted_index_laws.proofs.After.{index_left, lines_on_way}
use Rattle.sorted_index_laws.proofs.Ordered.{StandsBelow}
use Rattle.sorted_index_laws.proofs.Filled.{nothing_is}
use Rattle.sorted_index_laws.proofs.Without.{Entries}
use Rattle.sorted_index_laws.proofs.Chosen.{IsChosen, chosen_child}

abbrev pub HasTakenOut : Knowledge → NodeEntry → IndexNode → List Write → List Write → Result IndexNode IndexStop → Type 0
HasTakenOut known pair node old new result = (all : Lines) (area level : ℕ) (tree : Tree level) → Agrees known all → Stands all area level tree → node_of level tree ≡ node → TakesOut known pair level tree old new result

pub level_is : (node : IndexNode) (level : ℕ) (tree : Tree level) → node_of level tree ≡ node → level ≡ node.level
level_is node level tree is = sym (level_of level tree) ∙ ap (λ (n : IndexNode). n.level) is

-- ---- a leaf

pub leaf_taken : (known : Knowledge) (pair : NodeEntry) (node : IndexNode) (entries : List NodeEntry) (old : List Write) → node.level ≡ 0 → entries ≡ without_pair pair node.entries → HasTakenOut known pair node old old (Ok (record { level = node.level; entries = entries }))
leaf_taken known pair node entries old leaf same all area zero tree agrees stands is =
    ((λ i. record { level = level_is node zero tree is i; entries = (ap (λ (n : IndexNode). without_pair pair n.entries) is ∙ sym same) i }), refl, ([], (sym (append-nil old), refl)))
leaf_taken known pair node entries old leaf same all area (suc level) tree agrees stands is = let up = level_is node (suc level) tree is in absurd (omega (arith, up, leaf))

-- ---- a node without children

childless : (all : Lines) (area : ℕ) (pair : NodeEntry) (level : ℕ) (children : List (NodeEntry × Tree level)) → AllByRecursion (StandsBelow all area level) children → (child_place pair (Entries level children) < length (Entries level children) → (d : NodeEntry) → (get_or (Entries level children) (child_place pair (Entries level children)) d).child ≡ None) → children ≡ []
childless all area pair level [] is none = refl
childless all area pair level (child ∷ children) is none =
    let found = chosen_child all area pair level child children is in
    let bad : None ≡ Some (place level found.0.1) = sym (none found.1.within child.0) ∙ (ap (λ (e : NodeEntry). e.child) (found.1.entry child.0) ∙ found.1.stands.0) in
    absurd (cc)

pub nothing_taken : (known : Knowledge) (pair : NodeEntry) (node : IndexNode) (at : ℕ) (old : List Write) → node.level ≢ 0 → at ≡ child_place pair node.entries → (at < length node.entries → (d : NodeEntry) → (get_or node.entries at d).child ≡ None) → HasTakenOut known pair node old old (Ok (record { level = node.level; entries = node.entries }))
nothing_taken known pair node at old inner at_is none all area zero tree agrees stands is = absurd (inner (sym (level_is node zero tree is)))
nothing_taken known pair node at old inner at_is none all area (suc level) tree agrees stands is =
    let entries : node.entries ≡ Entries level tree.entries = ap (λ (n : IndexNode). n.entries) (sym is) in
    let here = subst (λ (es : List NodeEntry). child_place pair es < length es → (d : NodeEntry) → (get_or es (child_place pair es) d).child ≡ None) entries
    (subst (λ (k : ℕ). k < length node.entries → (d : NodeEntry) → (get_or node.entries k d).child ≡ None) at_is none) in
    let empty = childless all area pair level tree.entries stands.2 here in (
      (λ i. record { level = level_is node (suc level) tree is i; entries = (ap (λ cs. Entries level (replaced level pair (without pair level) cs)) empty ∙ (ap (Entries level) (sym empty) ∙ sym entries)) i }),
      ap (λ cs. first_unknown known (flat_map (λ child. place level child ∷ path_below pair level child) (chosen pair cs))) empty,
      ([], (sym (append-nil old), subst (λ cs. Wrote pair (suc level) (record { at = tree.at; entries = cs }) []) (sym empty) refl)),
    )

-- ---- the child that is taken

record IsTaken (all : Lines) (area : ℕ) (pair : NodeEntry) (node : IndexNode) (level : ℕ) (tree : Tree (suc level)) (at : ℕ) (key : Dbkey) (child : NodeEntry × Tree level) : Type 0 where
  pub is : IsChosen all area pair level tree.entries at child
  pub named : key ≡ place level child.1
  pub path : path_below pair (suc level) tree ≡ place level child.1 ∷ path_below pair level child.1

abbrev pick : Dbkey → Option Dbkey → Dbkey
pick d None = d
pick d (Some k) = k

some_first : (all : Lines) (area : ℕ) (pair : NodeEntry) (level : ℕ) (children : List (NodeEntry × Tree level)) → AllByRecursion (StandsBelow all area level) children → 0 < length (Entries level children) → (found : NodeEntry × Tree level) × IsChosen all area pair level children (child_place pair (Entries level children)) found
some_first all area pair level [] is some = absurd (omega (arith, some))
some_first all area pair level (child ∷ children) is some = chosen_child all area pair level child children is

taken : (pair : NodeEntry) (node : IndexNode) (at : ℕ) (key : Dbkey) → at ≡ child_place pair node.entries → at < length node.entries → ((d : NodeEntry) → (get_or node.entries at d).child ≡ Some key) → (all : Lines) (area level : ℕ) (tree : Tree (suc level)) → Stands all area (suc level) tree → node_of (suc level) tree ≡ node
    → (child : NodeEntry × Tree level) × IsTaken all area pair node level tree at key child
taken pair node at key at_is within some all area level tree stands is =
    let entries : Entries level tree.entries ≡ node.entries = ap (λ (n : IndexNode). n.entries) is in
    let long : length (Entries level tree.entries) ≡ length node.entries = ap length entries in
    let found = some_first all area pair level tree.entries stands.2 (omega (arith, within, long)) in
    let here : child_place pair (Entries level tree.entries) ≡ at = ap (child_place pair) entries ∙ sym at_is in
    let it = subst (λ (k : ℕ). IsChosen all area pair level tree.entries k found.0) here found.1 in (
      found.0,
      record {
        is = it;
        named = ap (pick key) (sym (some found.0.0) ∙ (ap (λ (es : List NodeEntry). (get_or es at found.0.0).child) (sym entries) ∙ (ap (λ (e : NodeEntry). e.child) (it.entry found.0.0) ∙ it.stands.0)));
        path = ap (flat_map (λ child. place level child ∷ path_below pair level child)) it.one ∙ append-nil (place level found.0.1 ∷ path_below pair level found.0.1);
      },
    )

-- ---- where it stops

takes_stop : (known : Knowledge) (pair : NodeEntry) (level : ℕ) (tree : Tree level) (old new : List Write) (lines : List Dbkey) (e : IndexStop) → ((key : Dbkey) → first_unknown known lines ≡ Some key → first_unknown known (path_below pair level tree) ≡ Some key) → Adds known lines [] [] [] (Err e) → TakesOut known pair level tree old new (Err e)
takes_stop known pair level tree old new lines (Missing need) passes h = elim (first_unknown known lines) as (λ o. first_unknown known lines ≡ o → option_map Line o ≡ Some need → option_map Line (first_unknown known (path_below pair level tree)) ≡ Some need) [
  | None ↦ λ is h. absurd (cc)
  | Some key ↦ λ is h. ap (option_map Line) (passes key is) ∙ h
] refl h
takes_stop known pair level tree old new lines (Own duplicate) passes h = h
takes_stop known pair level tree old new lines (Bad key) passes h = h
takes_stop known pair level tree old new lines NoMemory passes h = tt

as_added : (known : Knowledge) (pair : NodeEntry) (level : ℕ) (tree : Tree level) (old new : List Write) (e : IndexStop) → TakesOut known pair level tree old new (Err e) → Adds known (path_below pair level tree) [] [] [] (Err e)
as_added known pair level tree old new (Missing need) h = h
as_added known pair level tree old new (Own duplicate) h = h
as_added known pair level tree old new (Bad key) h = h
as_added known pair level tree old new NoMemory h = tt

pub child_misses : (known : Knowledge) (pair : NodeEntry) (node : IndexNode) (at below_level : ℕ) (key : Dbkey) (old : List Write) (e : IndexStop) → node.level ≢ 0 → below_level ≡ node.level - 1 → at ≡ child_place pair node.entries → at < length node.entries → ((d : NodeEntry) → (get_or node.entries at d).child ≡ Some key)
    → ReadsNode known key (λ below. below.level ≡ below_level) (Err e) → HasTakenOut known pair node old old (Err e)
child_misses known pair node at below_level key old e inner down at_is within some reading all area zero tree agrees stands is = absurd (inner (sym (level_is node zero tree is)))
child_misses known pair node at below_level key old e inner down at_is within some reading all area (suc level) tree agrees stands is =
    let t = taken pair node at key at_is within some all area level tree stands is in
    let child = t.0 in
    let up = level_is node (suc level) tree is in
    let one_less : level ≡ below_level = omega (arith, up, down) in
    takes_stop known pair (suc level) tree old old (place level child.1 ∷ []) e
    (λ k lack. ap (first_unknown known) t.1.path ∙ unknown_first known (place level child.1) (path_below pair level child.1) k lack)
    (misses known all area level child.1 (λ below. below.level ≡ below_level) [] [] [] e agrees t.1.is.stands.1 (level_of level child.1 ∙ one_less)
    (subst (λ (k : Dbkey). ReadsNode known k (λ below. below.level ≡ below_level) (Err e)) t.1.named reading))

-- the child is known, and this is its node
pub read_as : (known : Knowledge) (all : Lines) (area level : ℕ) (child : Tree level) (key : Dbkey) (below : IndexNode) → Agrees known all → Stands all area level child → key ≡ place level child → IsKnownAs (known.line key) below → (node_of level child ≡ below) × (is_none (known.line (place level child)) ≡ false)
read_as known all area level child key below agrees stands same known_as_below =
    let here : IsKnownAs (known.line (place level child)) below = subst (λ (k : Dbkey). IsKnownAs (known.line k) below) same known_as_below in
    (one_bears (line_in (place level child) all) (node_of level child) below (bears all area level child stands) (known_in known all (place level child) below agrees here), is_known (known.line (place level child)) below here)

pub child_stops : (known : Knowledge) (pair : NodeEntry) (node : IndexNode) (at : ℕ) (key : Dbkey) (below : IndexNode) (old new : List Write) (e : IndexStop) → node.level ≢ 0 → at ≡ child_place pair node.entries → at < length node.entries → ((d : NodeEntry) → (get_or node.entries at d).child ≡ Some key)
    → IsKnownAs (known.line key) below → HasTakenOut known pair below old new (Err e) → HasTakenOut known pair node old new (Err e)
child_stops known pair node at key below old new e inner at_is within some known_as_below takes all area zero tree agrees stands is = absurd (inner (sym (level_is node zero tree is)))
child_stops known pair node at key below old new e inner at_is within some known_as_below takes all area (suc level) tree agrees stands is =
    let t = taken pair node at key at_is within some all area level tree stands is in
    let child = t.0 in
    let r = read_as known all area level child.1 key below agrees t.1.is.stands.1 t.1.named known_as_below in
    takes_stop known pair (suc level) tree old new (path_below pair level child.1) e
    (λ k lack. ap (first_unknown known) t.1.path ∙ (past_known known (place level child.1) (path_below pair level child.1) r.1 ∙ lack))
    (as_added known pair level child.1 old new e (takes all area level child.1 agrees t.1.is.stands.1 r.0))

-- ---- the node behind it

-- what the child leaves: no line where it has no entries, or that of its node, and the entries of the node above it
abbrev pub LeavesEntries : IndexNode → List NodeEntry → ℕ → Option (List ℕ) → List NodeEntry → Bool → Type 0
LeavesEntries left entries at image after true = (image ≡ None) × (after ≡ remove entries at)
LeavesEntries left entries at image after false = Bears image left × (after ≡ entries)

left_by : (level : ℕ) (tree : Tree level) (image : Option (List ℕ)) (b : Bool) → has_nothing level tree ≡ b → Choose b (image ≡ None) (Bears image (node_of level tree)) → IsLeft level tree image
left_by level tree image b is h = subst (λ b. Choose b (image ≡ None) (Bears image (node_of level tree))) (sym is) h

-- the writes and the entries that a child leaves
record HasLeft (all : Lines) (area : ℕ) (pair : NodeEntry) (level : ℕ) (tree : Tree (suc level)) (node : IndexNode) (child : NodeEntry × Tree level) (image : Option (List ℕ)) (after : List NodeEntry) : Type 0 where
  pub left : IsLeft level (without pair level child.1) image
  pub entries : Entries level (replaced level pair (without pair level) tree.entries) ≡ after

has_left : (all : Lines) (area : ℕ) (pair : NodeEntry) (node left : IndexNode) (level : ℕ) (tree : Tree (suc level)) (at : ℕ) (key : Dbkey) (child : NodeEntry × Tree level) (image : Option (List ℕ)) (after : List NodeEntry) (b : Bool) → node_of (suc level) tree ≡ node → IsTaken all area pair node level tree at key child → node_of level (without pair level child.1) ≡ left
    → is_empty left.entries ≡ b → LeavesEntries left node.entries at image after b → HasLeft all area pair level tree node child image after
has_left all area pair node left level tree at key child image after true is t same empty h =
    let entries : Entries level tree.entries ≡ node.entries = ap (λ (n : IndexNode). n.entries) is in
    let none = nothing_is level (without pair level child.1) left same ∙ empty in
    record { left = left_by level (without pair level child.1) image true none h.0; entries = t.is.dropped none ∙ (ap (λ es. remove es at) entries ∙ sym h.1) }
has_left all area pair node left level tree at key child image after false is t same empty h =
    let entries : Entries level tree.entries ≡ node.entries = ap (λ (n : IndexNode). n.entries) is in
    let some = nothing_is level (without pair level child.1) left same ∙ empty in
    record { left = left_by level (without pair level child.1) image false some (subst (Bears image) (sym same) h.0); entries = t.is.kept some ∙ (entries ∙ sym h.1) }

pub child_taken : (known : Knowledge) (pair : NodeEntry) (node : IndexNode) (at : ℕ) (key : Dbkey) (below left : IndexNode) (old between new : List Write) (image : Option (List ℕ)) (after : List NodeEntry) (b : Bool) → node.level ≢ 0 → at ≡ child_place pair node.entries → at < length node.entries → ((d : NodeEntry) → (get_or node.entries at d).child ≡ Some key)
    → IsKnownAs (known.line key) below → HasTakenOut known pair below old between (Ok left) → new ≡ between ++ record { key = key; image = image } ∷ [] → is_empty left.entries ≡ b → LeavesEntries left node.entries at image after b
    → HasTakenOut known pair node old new (Ok (record { level = node.level; entries = after }))
child_taken known pair node at key below left old between new image after b inner at_is within some known_as_below takes new_is empty leaves all area zero tree agrees stands is = absurd (inner (sym (level_is node zero tree is)))
child_taken known pair node at key below left old between new image after b inner at_is within some known_as_below takes new_is empty leaves all area (suc level) tree agrees stands is =
    let t = taken pair node at key at_is within some all area level tree stands is in
    let child = t.0 in
    let r = read_as known all area level child.1 key below agrees t.1.is.stands.1 t.1.named known_as_below in
    let took = takes all area level child.1 agrees t.1.is.stands.1 r.0 in
    let h = has_left all area pair node left level tree at key child image after b is t.1 took.0 empty leaves in
    let writes = took.2.0 in
    let last : Write = record { key = place level child.1; image = image } in (
      (λ i. record { level = level_is node (suc level) tree is i; entries = h.entries i }),
      ap (first_unknown known) t.1.path ∙ (past_known known (place level child.1) (path_below pair level child.1) r.1 ∙ took.1),
      (writes ++ last ∷ [], (new_is ∙ ((λ i. took.2.1.0 i ++ record { key = t.1.named i; image = image } ∷ []) ∙ append_assoc old writes (last ∷ [])), t.1.is.wrote writes image took.2.1.1 h.left)),
    )

pub empty_true : (xs : List NodeEntry) (r : Bool) → (IsTrue r ↔ (xs ≡ [])) → r ≡ true → is_empty xs ≡ true
empty_true [] r iff is = refl
empty_true (x ∷ xs) r iff is = let bad : x ∷ xs ≡ [] = iff.0 (subst IsTrue (sym is) (search rules)) in absurd (cc)

pub empty_false : (xs : List NodeEntry) (r : Bool) → (IsTrue r ↔ (xs ≡ [])) → r ≡ false → is_empty xs ≡ false
empty_false [] r iff is = let bad : IsTrue false = subst IsTrue is (iff.1 refl) in grind arith
empty_false (x ∷ xs) r iff is = refl

-- ---- from the root on

as_changed : (known : Knowledge) (all : Lines) (root : Dbkey) (level : ℕ) (tree : Tree level) (read : List Dbkey) (left : List NodeEntry) (e : IndexStop) → Adds known read [] [] [] (Err e) → Changes known all root level tree read left (Err e)
as_changed known all root level tree read left (Missing need) h = h
as_changed known all root level tree read left (Own duplicate) h = h
as_changed known all root level tree read left (Bad key) h = h
as_changed known all root level tree read left NoMemory h = tt

abbrev pub HasChanged : Knowledge → NodeEntry → Dbkey → Result (List Write) IndexStop → Type 0
HasChanged known pair root result = (all : Lines) (level : ℕ) (tree : Tree level) → Agrees known all → IsIndex all root level tree → Changes known all root level tree (path pair level tree) (without_pair pair (pairs level tree)) result

pub root_misses : (known : Knowledge) (pair : NodeEntry) (root : Dbkey) (e : IndexStop) → ReadsNode known root (λ node. ⊤) (Err e) → HasChanged known pair root (Err e)
root_misses known pair root e reading all level tree agrees is =
    as_changed known all root level tree (path pair level tree) (without_pair pair (pairs level tree)) e
    (stops known (path pair level tree) (place level tree ∷ []) [] [] [] [] [] e (λ key. unknown_first known (place level tree) (path_below pair level tree) key)
    (misses known all root.area level tree (λ node. ⊤) [] [] [] e agrees is.stands tt (subst (λ (k : Dbkey). ReadsNode known k (λ node. ⊤) (Err e)) (sym is.rooted) reading)))

pub root_stops : (known : Knowledge) (pair : NodeEntry) (root : Dbkey) (node : IndexNode) (old new : List Write) (e : IndexStop) → IsKnownAs (known.line root) node → HasTakenOut known pair node old new (Err e) → HasChanged known pair root (Err e)
root_stops known pair root node old new e known_as_node takes all level tree agrees is =
    let r = read_as known all root.area level tree root node agrees is.stands (sym is.rooted) known_as_node in
    as_changed known all root level tree (path pair level tree) (without_pair pair (pairs level tree)) e
    (stops known (path pair level tree) (path_below pair level tree) [] [] [] [] [] e (λ key lack. past_known known (place level tree) (path_below pair level tree) r.1 ∙ lack)
    (as_added known pair level tree old new e (takes all root.area level tree agrees is.stands r.0)))

pub root_changed : (known : Knowledge) (pair : NodeEntry) (root : Dbkey) (node left : IndexNode) (old between writes : List Write) (image : List ℕ) → old ≡ [] → IsKnownAs (known.line root) node → HasTakenOut known pair node old between (Ok left) → IsNode image left → writes ≡ between ++ record { key = root; image = Some image } ∷ [] → HasChanged known pair root (Ok writes)
root_changed known pair root node left old between writes image none known_as_node takes is_node written all level tree agrees is =
    let r = read_as known all root.area level tree root node agrees is.stands (sym is.rooted) known_as_node in
    let took = takes all root.area level tree agrees is.stands r.0 in
    let before = took.2.0 in
    let same : between ≡ before = took.2.1.0 ∙ ap (λ (ws : List Write). ws ++ before) none in
    let last : writes ≡ before ++ record { key = root; image = Some image } ∷ [] = written ∙ ap (λ (ws : List Write). ws ++ record { key = root; image = Some image } ∷ []) same in (
      index_left all root pair level tree writes before (Some image) is took.2.1.1 (subst (IsNode image) (sym took.0) is_node) last,
      past_known known (place level tree) (path_below pair level tree) r.1 ∙ took.1,
      lines_on_way root pair level tree writes before (Some image) is.rooted took.2.1.1 last,
    )
