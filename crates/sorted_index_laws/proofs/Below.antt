-- The steps of a search below a node, each as the code takes it.
use Rattle.std.proofs.Common.{◌≡◌, ◌≢◌, ℕ, zero, suc, ◌+◌, ◌-◌, ◌<◌, ◌≤◌, true, false, cond, List, [], ◌∷◌, ◌++◌, length, map, drop, get_or, Option, Some, None, refl, sym, ap, subst, ◌∙◌, arith, add-one, inl, inr}
use Rattle.std.specs.Prelude.{nat_eq, is_none, option_map, Result, Ok, Err, OnOk, IfErr}
use Rattle.std.proofs.lemmas.List.{drop_more, length-map}
use Rattle.rdb_types.specs.declared.keys.Dbkey.{Dbkey}
use Rattle.index_node.specs.declared.entry.NodeEntry.{NodeEntry}
use Rattle.index_node.specs.declared.node.IndexNode.{IndexNode}
use Rattle.line_view.specs.declared.need.Need.TheVariants.{Line}
use Rattle.line_view.specs.Knowledge.{Lines, Knowledge, Agrees, line_in}
use Rattle.sorted_index_laws.specs.Stop.{IndexStop}
use Rattle.line_view.specs.declared.stop.Stop.TheVariants.{Missing, Own, Bad, NoMemory}
use Rattle.sorted_index_laws.specs.Keys.{Interval}
use Rattle.sorted_index_laws.specs.Tree.{Tree, place, node_of, pairs, Stands}
use Rattle.sorted_index_laws.specs.Search.{rows_within, may_hold, reads_below, first_unknown}
use Rattle.sorted_index_laws.specs.Nodes.{AreThere, Lacks, Judges}
use Rattle.sorted_index_laws.specs.Inner.Steps.{IsKnownAs, ReadsNode, Adds}
use Rattle.sorted_index_laws.proofs.Intervals.{IsConvex}
use Rattle.sorted_index_laws.proofs.Children.{is_first}
use Rattle.sorted_index_laws.proofs.Walk.{known_in, known_as, one_bears, is_known, level_of, bears, IsChild, child_there, Walked, passed, visited, stopped, ended}
use Rattle.sorted_index_laws.proofs.Judged.{IsThere, Judged, passed_over, childless, found_there, found_lacked, all_judged}

-- the search has come to this entry, whatever the map
abbrev pub HasWalked : Knowledge → Interval → IndexNode → ℕ → List Dbkey → List Dbkey → Type 0
HasWalked known s node i old found = (all : Lines) (area level : ℕ) (tree : Tree (suc level)) → Agrees known all → Stands all area (suc level) tree → node_of (suc level) tree ≡ node → Walked known s level tree.entries i old found

abbrev pub HasAdded : Knowledge → Interval → IndexNode → List Dbkey → List Dbkey → Result Unit IndexStop → Type 0
HasAdded known s node old new result = (all : Lines) (area level : ℕ) (tree : Tree level) → Agrees known all → Stands all area level tree → node_of level tree ≡ node → Adds known (reads_below s level tree) (rows_within s (pairs level tree)) old new result

pub first_is : (i : ℕ) → nat_eq i 0 ≡ is_first i
first_is zero = refl
first_is (suc i) = grind arith

-- ---- a leaf

adds_leaf : (known : Knowledge) (s : Interval) (entries pairs : List NodeEntry) (old new : List Dbkey) (r : Result Unit IndexStop) → entries ≡ pairs → OnOk r (new ≡ old ++ rows_within s entries) → IfErr r (λ e. e ≡ NoMemory) → Adds known [] (rows_within s pairs) old new r
adds_leaf known s entries pairs old new (Ok u) same ok err = (ok ∙ ap (λ es. old ++ rows_within s es) same, refl)
adds_leaf known s entries pairs old new (Err e) same ok err = subst (λ e. Adds known [] (rows_within s pairs) old new (Err e)) (sym err) tt

pub leaf_adds : (known : Knowledge) (s : Interval) (node : IndexNode) (entries : List NodeEntry) (old new : List Dbkey) (r : Result Unit IndexStop) → node.level ≡ 0 → entries ≡ node.entries → OnOk r (new ≡ old ++ rows_within s entries) → IfErr r (λ e. e ≡ NoMemory) → HasAdded known s node old new r
leaf_adds known s node entries old new r leaf same ok err all area zero tree agrees stands is = adds_leaf known s entries tree.entries old new r (same ∙ ap (λ (n : IndexNode). n.entries) (sym is)) ok err
leaf_adds known s node entries old new r leaf same ok err all area (suc level) tree agrees stands is =
    let up : suc level ≡ node.level = ap (λ (n : IndexNode). n.level) is in absurd (omega (arith, up, leaf))

judges_leaf : (all : Lines) (s : Interval) (entries : List NodeEntry) (r : Result Unit IndexStop) → IfErr r (λ e. e ≡ NoMemory) → Judges all s zero entries r
judges_leaf all s entries (Ok u) err = tt
judges_leaf all s entries (Err e) err = subst (λ e. Judges {T = Unit} all s zero entries (Err e)) (sym err) tt

pub leaf_judges : (all : Lines) (s : Interval) (level : ℕ) (entries : List NodeEntry) (r : Result Unit IndexStop) → level ≡ 0 → IfErr r (λ e. e ≡ NoMemory) → Judges all s level entries r
leaf_judges all s level entries r leaf err = subst (λ (n : ℕ). Judges all s n entries r) (sym leaf) (judges_leaf all s entries r err)

-- ---- the entry at a place

pub entry_there : (entries : List NodeEntry) (i : ℕ) (entry : NodeEntry) → i < length entries → entry ≡ get_or entries i entry → drop i entries ≡ entry ∷ drop (suc i) entries
entry_there entries i entry inside is = drop_more entries i entry inside ∙ (λ j. sym is j ∷ drop (add-one i j) entries)

own_entry : (all : Lines) (area level : ℕ) (children : List (NodeEntry × Tree level)) (entries : List NodeEntry) (i : ℕ) (entry : NodeEntry) (child : NodeEntry × Tree level) → IsChild all area level children entries i child → drop i entries ≡ entry ∷ drop (suc i) entries → entry ≡ child.0
own_entry all area level children entries i entry child is behind = ap (λ xs. get_or xs 0 entry) (sym behind ∙ is.shown)

abbrev pick : Dbkey → Option Dbkey → Dbkey
pick d None = d
pick d (Some k) = k

own_place : (all : Lines) (area level : ℕ) (children : List (NodeEntry × Tree level)) (entries : List NodeEntry) (i : ℕ) (entry : NodeEntry) (at : Dbkey) (child : NodeEntry × Tree level) → IsChild all area level children entries i child → drop i entries ≡ entry ∷ drop (suc i) entries → entry.child ≡ Some at → at ≡ place level child.1
own_place all area level children entries i entry at child is behind some = ap (pick at) (sym some ∙ (ap (λ (e : NodeEntry). e.child) (own_entry all area level children entries i entry child is behind) ∙ is.stands.0))

-- ---- children that aren't searched

pub walk_passed : (known : Knowledge) (s : Interval) (node : IndexNode) (i : ℕ) (old found : List Dbkey) → IsConvex s → HasWalked known s node i old found → i < length node.entries → may_hold s (is_first i) (drop i node.entries) ≡ false → HasWalked known s node (i + 1) old found
walk_passed known s node i old found convex was inside fails all area level tree agrees stands is =
    let at = child_there all area level tree node i stands is inside in
    rw (add-one i) (passed known s level tree.entries i old found at.0 convex (was all area level tree agrees stands is) at.1.behind at.1.bounds (ap (may_hold s (is_first i)) (sym at.1.shown) ∙ fails))

pub walk_childless : (known : Knowledge) (s : Interval) (node : IndexNode) (i : ℕ) (old found : List Dbkey) (entry : NodeEntry) → i < length node.entries → drop i node.entries ≡ entry ∷ drop (suc i) node.entries → entry.child ≡ None → HasWalked known s node (i + 1) old found
walk_childless known s node i old found entry inside behind none all area level tree agrees stands is =
    let at = child_there all area level tree node i stands is inside in
    let bad : None ≡ Some (place level at.0.1) = sym none ∙ (ap (λ (e : NodeEntry). e.child) (own_entry all area level tree.entries node.entries i entry at.0 at.1 behind) ∙ at.1.stands.0) in
    absurd (cc)

-- ---- a child that is searched

pub past_known : (known : Knowledge) (key : Dbkey) (keys : List Dbkey) → is_none (known.line key) ≡ false → first_unknown known (key ∷ keys) ≡ first_unknown known keys
past_known known key keys some = ap (λ b. cond b (Some key) (first_unknown known keys)) some

-- the child of this entry is the root of this tree, and is known
record IsVisited (known : Knowledge) (s : Interval) (all : Lines) (area level : ℕ) (children : List (NodeEntry × Tree level)) (entries : List NodeEntry) (i : ℕ) (below : IndexNode) (child : NodeEntry × Tree level) : Type 0 where
  pub is : IsChild all area level children entries i child
  pub node : node_of level child.1 ≡ below
  pub some : is_none (known.line (place level child.1)) ≡ false

visit : (known : Knowledge) (s : Interval) (node : IndexNode) (i : ℕ) (entry : NodeEntry) (at : Dbkey) (below : IndexNode) → i < length node.entries → drop i node.entries ≡ entry ∷ drop (suc i) node.entries → entry.child ≡ Some at → IsKnownAs (known.line at) below
    → (all : Lines) (area level : ℕ) (tree : Tree (suc level)) → Agrees known all → Stands all area (suc level) tree → node_of (suc level) tree ≡ node → (child : NodeEntry × Tree level) × IsVisited known s all area level tree.entries node.entries i below child
visit known s node i entry at below inside behind some_child is_known_as all area level tree agrees stands is =
    let there = child_there all area level tree node i stands is inside in
    let here : at ≡ place level there.0.1 = own_place all area level tree.entries node.entries i entry at there.0 there.1 behind some_child in
    let known_here : IsKnownAs (known.line (place level there.0.1)) below = subst (λ (k : Dbkey). IsKnownAs (known.line k) below) here is_known_as in (
      there.0,
      record {
        is = there.1;
        node = one_bears (line_in (place level there.0.1) all) (node_of level there.0.1) below (bears all area level there.0.1 there.1.stands.1) (known_in known all (place level there.0.1) below agrees known_here);
        some = is_known (known.line (place level there.0.1)) below known_here;
      },
    )

pub walk_visited : (known : Knowledge) (s : Interval) (node : IndexNode) (i : ℕ) (old found new : List Dbkey) (entry : NodeEntry) (at : Dbkey) (below : IndexNode) (done : Unit) → HasWalked known s node i old found → i < length node.entries → drop i node.entries ≡ entry ∷ drop (suc i) node.entries → may_hold s (is_first i) (drop i node.entries) ≡ true
    → entry.child ≡ Some at → IsKnownAs (known.line at) below → HasAdded known s below found new (Ok done) → HasWalked known s node (i + 1) old new
walk_visited known s node i old found new entry at below done was inside behind holds some known_as_below adds all area level tree agrees stands is =
    let v = visit known s node i entry at below inside behind some known_as_below all area level tree agrees stands is in
    let child = v.0 in
    let added = adds all area level child.1 agrees v.1.is.stands.1 v.1.node in
    rw (add-one i) (visited known s level tree.entries i old found new child (was all area level tree agrees stands is) v.1.is.behind (ap (may_hold s (is_first i)) (sym v.1.is.shown) ∙ holds) added.0
    (past_known known (place level child.1) (reads_below s level child.1) v.1.some ∙ added.1))

-- ---- where it stops

pub stops : (known : Knowledge) (own below : List Dbkey) (rows inner old found new : List Dbkey) (e : IndexStop) → ((key : Dbkey) → first_unknown known below ≡ Some key → first_unknown known own ≡ Some key) → Adds known below inner found new (Err e) → Adds known own rows old new (Err e)
stops known own below rows inner old found new (Missing need) passes adds = elim (first_unknown known below) as (λ o. first_unknown known below ≡ o → option_map Line o ≡ Some need → option_map Line (first_unknown known own) ≡ Some need) [
  | None ↦ λ is h. absurd (cc)
  | Some key ↦ λ is h. ap (option_map Line) (passes key is) ∙ h
] refl adds
stops known own below rows inner old found new (Own duplicate) passes adds = adds
stops known own below rows inner old found new (Bad key) passes adds = adds
stops known own below rows inner old found new NoMemory passes adds = tt

inner_level : (node : IndexNode) (level : ℕ) (tree : Tree level) → node_of level tree ≡ node → level ≡ node.level
inner_level node level tree is = sym (level_of level tree) ∙ ap (λ (n : IndexNode). n.level) is

pub walk_stopped : (known : Knowledge) (s : Interval) (node : IndexNode) (i : ℕ) (old found new : List Dbkey) (entry : NodeEntry) (at : Dbkey) (below : IndexNode) (e : IndexStop) → node.level ≢ 0 → HasWalked known s node i old found → i < length node.entries → drop i node.entries ≡ entry ∷ drop (suc i) node.entries → may_hold s (is_first i) (drop i node.entries) ≡ true
    → entry.child ≡ Some at → IsKnownAs (known.line at) below → HasAdded known s below found new (Err e) → HasAdded known s node old new (Err e)
walk_stopped known s node i old found new entry at below e inner was inside behind holds some known_as_below adds all area zero tree agrees stands is = absurd (inner (sym (inner_level node zero tree is)))
walk_stopped known s node i old found new entry at below e inner was inside behind holds some known_as_below adds all area (suc level) tree agrees stands is =
    let v = visit known s node i entry at below inside behind some known_as_below all area level tree agrees stands is in
    let child = v.0 in
    stops known (reads_below s (suc level) tree) (reads_below s level child.1) (rows_within s (pairs (suc level) tree)) (rows_within s (pairs level child.1)) old found new e
    (λ key lack. stopped known s level tree.entries i old found child key (was all area level tree agrees stands is) v.1.is.behind (ap (may_hold s (is_first i)) (sym v.1.is.shown) ∙ holds)
    (past_known known (place level child.1) (reads_below s level child.1) v.1.some ∙ lack))
    (adds all area level child.1 agrees v.1.is.stands.1 v.1.node)

-- a node that stands in the map is missed only where it isn't known
pub misses : (known : Knowledge) (all : Lines) (area level : ℕ) (tree : Tree level) (Allowed : IndexNode → Type 0) (rows old new : List Dbkey) (e : IndexStop) → Agrees known all → Stands all area level tree → Allowed (node_of level tree) → ReadsNode known (place level tree) Allowed (Err e) → Adds known (place level tree ∷ []) rows old new (Err e)
misses known all area level tree Allowed rows old new (Missing need) agrees stands allowed is = ap (λ o. option_map Line (cond (is_none o) (Some (place level tree)) None)) is.1 ∙ ap Some (sym is.0)
misses known all area level tree Allowed rows old new (Own duplicate) agrees stands allowed is = is
misses known all area level tree Allowed rows old new (Bad key) agrees stands allowed is = is.2 (node_of level tree) (known_as known all (place level tree) (node_of level tree) agrees is.1 (bears all area level tree stands)) allowed
misses known all area level tree Allowed rows old new NoMemory agrees stands allowed is = tt

pub unknown_first : (known : Knowledge) (key : Dbkey) (keys : List Dbkey) (found : Dbkey) → first_unknown known (key ∷ []) ≡ Some found → first_unknown known (key ∷ keys) ≡ Some found
unknown_first known key keys found = elim (is_none (known.line key)) as (λ b. cond b (Some key) None ≡ Some found → cond b (Some key) (first_unknown known keys) ≡ Some found) [
  | true ↦ λ h. h
  | false ↦ λ h. absurd (cc)
]

pub walk_misses : (known : Knowledge) (s : Interval) (node : IndexNode) (i below_level : ℕ) (old found : List Dbkey) (entry : NodeEntry) (at : Dbkey) (e : IndexStop) → node.level ≢ 0 → below_level ≡ node.level - 1 → HasWalked known s node i old found → i < length node.entries → drop i node.entries ≡ entry ∷ drop (suc i) node.entries → may_hold s (is_first i) (drop i node.entries) ≡ true
    → entry.child ≡ Some at → ReadsNode known at (λ below. below.level ≡ below_level) (Err e) → HasAdded known s node old found (Err e)
walk_misses known s node i below_level old found entry at e inner down was inside behind holds some reading all area zero tree agrees stands is = absurd (inner (sym (inner_level node zero tree is)))
walk_misses known s node i below_level old found entry at e inner down was inside behind holds some reading all area (suc level) tree agrees stands is =
    let there = child_there all area level tree node i stands is inside in
    let child = there.0 in
    let here : at ≡ place level child.1 = own_place all area level tree.entries node.entries i entry at child there.1 behind some in
    let up : suc level ≡ node.level = inner_level node (suc level) tree is in
    let one_less : level ≡ below_level = omega (arith, up, down) in
    stops known (reads_below s (suc level) tree) (place level child.1 ∷ []) (rows_within s (pairs (suc level) tree)) [] old found found e
    (λ key lack. stopped known s level tree.entries i old found child key (was all area level tree agrees stands is) there.1.behind (ap (may_hold s (is_first i)) (sym there.1.shown) ∙ holds)
    (unknown_first known (place level child.1) (reads_below s level child.1) key lack))
    (misses known all area level child.1 (λ below. below.level ≡ below_level) [] found found e agrees there.1.stands.1 (level_of level child.1 ∙ one_less)
    (subst (λ (k : Dbkey). ReadsNode known k (λ below. below.level ≡ below_level) (Err e)) here reading))

-- ---- where it ends

pub walk_ended : (known : Knowledge) (s : Interval) (node : IndexNode) (i : ℕ) (old found : List Dbkey) (done : Unit) → node.level ≢ 0 → HasWalked known s node i old found → length node.entries ≤ i → HasAdded known s node old found (Ok done)
walk_ended known s node i old found done inner was past all area zero tree agrees stands is = absurd (inner (sym (inner_level node zero tree is)))
walk_ended known s node i old found done inner was past all area (suc level) tree agrees stands is =
    let long : length (map (λ (c : NodeEntry × Tree level). c.0) tree.entries) ≡ length node.entries = ap (λ (n : IndexNode). length n.entries) is in
    ended known s level tree.entries i old found (omega (arith, past, long, length-map tree.entries (λ (c : NodeEntry × Tree level). c.0))) (was all area level tree agrees stands is)

-- ---- which nodes are there

up_from : (level below : ℕ) → level ≢ 0 → below ≡ level - 1 → level ≡ suc below
up_from zero below inner down = absurd (inner refl)
up_from (suc level) below inner down = omega (arith, down)

there_below : (known : Knowledge) (s : Interval) (all : Lines) (level : ℕ) (at : Dbkey) (below : IndexNode) → Agrees known all → IsKnownAs (known.line at) below → below.level ≡ level → AreThere all s below.level below.entries → IsThere all s level at
there_below known s all level at below agrees known_as_below same there = (below, (known_in known all at below agrees known_as_below, same, subst (λ (n : ℕ). AreThere all s n below.entries) same there))

pub judged_visited : (known : Knowledge) (s : Interval) (node : IndexNode) (i below_level : ℕ) (entry : NodeEntry) (at : Dbkey) (below : IndexNode) (done : Unit) → drop i node.entries ≡ entry ∷ drop (suc i) node.entries → may_hold s (is_first i) (drop i node.entries) ≡ true → entry.child ≡ Some at
    → ReadsNode known at (λ below. below.level ≡ below_level) (Ok below) → (all : Lines) → Agrees known all → Judges {T = Unit} all s below.level below.entries (Ok done) → Judged all s below_level node.entries i → Judged all s below_level node.entries (i + 1)
judged_visited known s node i below_level entry at below done behind holds some reading all agrees judges was =
    rw (add-one i) (found_there all s below_level node.entries i entry at was behind holds some (there_below known s all below_level at below agrees reading.0 reading.1 judges))

pub judged_over : (s : Interval) (node : IndexNode) (i below_level : ℕ) (entry : NodeEntry) (all : Lines) → drop i node.entries ≡ entry ∷ drop (suc i) node.entries → may_hold s (is_first i) (drop i node.entries) ≡ false → Judged all s below_level node.entries i → Judged all s below_level node.entries (i + 1)
judged_over s node i below_level entry all behind fails was = rw (add-one i) (passed_over all s below_level node.entries i entry was behind fails)

pub judged_childless : (s : Interval) (node : IndexNode) (i below_level : ℕ) (entry : NodeEntry) (all : Lines) → drop i node.entries ≡ entry ∷ drop (suc i) node.entries → entry.child ≡ None → Judged all s below_level node.entries i → Judged all s below_level node.entries (i + 1)
judged_childless s node i below_level entry all behind none was = rw (add-one i) (childless all s below_level node.entries i entry was behind none)

pub judged_misses : (known : Knowledge) (s : Interval) (node : IndexNode) (i below_level : ℕ) (entry : NodeEntry) (at : Dbkey) (e : IndexStop) → node.level ≢ 0 → below_level ≡ node.level - 1 → drop i node.entries ≡ entry ∷ drop (suc i) node.entries → may_hold s (is_first i) (drop i node.entries) ≡ true → entry.child ≡ Some at
    → ReadsNode known at (λ below. below.level ≡ below_level) (Err e) → (all : Lines) → Agrees known all → Judged all s below_level node.entries i → Judges {T = Unit} all s node.level node.entries (Err e)
judged_misses known s node i below_level entry at (Missing need) inner down behind holds some reading all agrees was = tt
judged_misses known s node i below_level entry at (Own duplicate) inner down behind holds some reading all agrees was = reading
judged_misses known s node i below_level entry at (Bad key) inner down behind holds some reading all agrees was =
    subst (λ (n : ℕ). Lacks all s n node.entries key) (sym (up_from node.level below_level inner down))
    (found_lacked all s below_level node.entries i entry at key was behind holds some (inl (reading.0, λ n is level. reading.2 n (known_as known all at n agrees reading.1 is) level)))
judged_misses known s node i below_level entry at NoMemory inner down behind holds some reading all agrees was = tt

pub judged_stopped : (known : Knowledge) (s : Interval) (node : IndexNode) (i below_level : ℕ) (entry : NodeEntry) (at : Dbkey) (below : IndexNode) (e : IndexStop) → node.level ≢ 0 → below_level ≡ node.level - 1 → drop i node.entries ≡ entry ∷ drop (suc i) node.entries → may_hold s (is_first i) (drop i node.entries) ≡ true → entry.child ≡ Some at
    → ReadsNode known at (λ below. below.level ≡ below_level) (Ok below) → (all : Lines) → Agrees known all → Judges {T = Unit} all s below.level below.entries (Err e) → Judged all s below_level node.entries i → Judges {T = Unit} all s node.level node.entries (Err e)
judged_stopped known s node i below_level entry at below (Missing need) inner down behind holds some reading all agrees judges was = tt
judged_stopped known s node i below_level entry at below (Own duplicate) inner down behind holds some reading all agrees judges was = judges
judged_stopped known s node i below_level entry at below (Bad key) inner down behind holds some reading all agrees judges was =
    subst (λ (n : ℕ). Lacks all s n node.entries key) (sym (up_from node.level below_level inner down))
    (found_lacked all s below_level node.entries i entry at key was behind holds some
    (inr (below, (known_in known all at below agrees reading.0, reading.1, subst (λ (n : ℕ). Lacks all s n below.entries key) reading.1 judges))))
judged_stopped known s node i below_level entry at below NoMemory inner down behind holds some reading all agrees judges was = tt

pub judged_ended : (s : Interval) (node : IndexNode) (i below_level : ℕ) → node.level ≢ 0 → below_level ≡ node.level - 1 → length node.entries ≤ i → (all : Lines) → Judged all s below_level node.entries i → AreThere all s node.level node.entries
judged_ended s node i below_level inner down past all was =
    subst (λ (n : ℕ). AreThere all s n node.entries) (sym (up_from node.level below_level inner down)) (all_judged all s below_level node.entries i past was)
