-- A search of a node's children, from the first to the last.
use Rattle.std.proofs.Common.{◌≡◌, ◌≢◌, ℕ, zero, suc, ◌<◌, ◌≤◌, Bool, true, false, cond, List, [], ◌∷◌, ◌++◌, length, map, drop, Option, Some, None, refl, sym, ap, subst, ◌∙◌, arith, append_assoc}
use Rattle.std.specs.Prelude.{is_none}
use Rattle.std.specs.Option.{option_or}
use Rattle.std.specs.List.{AllByRecursion, flat_map}
use Rattle.std.proofs.lemmas.List.{drop_all, drop-map, append-nil, length-map}
use Rattle.std.proofs.lemmas.List.Folds.{find-append}
use Rattle.rdb_types.specs.declared.keys.Dbkey.{Dbkey}
use Rattle.index_node.specs.declared.entry.NodeEntry.{NodeEntry}
use Rattle.index_node.specs.declared.node.IndexNode.{IndexNode}
use Rattle.index_node.proofs.Nodes.{one_node}
use Rattle.line_view.specs.Knowledge.{Lines, Knowledge, Agrees, line_in}
use Rattle.sorted_index_laws.specs.Keys.{Interval}
use Rattle.sorted_index_laws.specs.Tree.{Tree, place, node_of, pairs, Bears, Stands}
use Rattle.sorted_index_laws.specs.Search.{rows_within, may_hold, searched, reads_below, reads, first_unknown}
use Rattle.sorted_index_laws.specs.Inner.Steps.{IsKnownAs}
use Rattle.sorted_index_laws.proofs.Intervals.{IsConvex}
use Rattle.sorted_index_laws.proofs.Children.{rows_append, AreBound, bound, bound_at, is_first, nothing_there}

-- ---- what is known of a node

pub known_in : (known : Knowledge) (all : Lines) (at : Dbkey) (node : IndexNode) → Agrees known all → IsKnownAs (known.line at) node → Bears (line_in at all) node
known_in known all at node agrees is = elim (known.line at) as (λ what. known.line at ≡ what → IsKnownAs what node → Bears (line_in at all) node) [
  | None ↦ λ e h. absurd h
  | Some what ↦ λ e h. subst (λ w. Bears w node) (agrees.line at what e) (inner what h)
] refl is
  where
    inner : (what : Option (List ℕ)) → IsKnownAs (Some what) node → Bears what node
    inner None h = absurd h
    inner (Some bytes) h = h

pub known_as : (known : Knowledge) (all : Lines) (at : Dbkey) (node : IndexNode) → Agrees known all → known.line at ≢ None → Bears (line_in at all) node → IsKnownAs (known.line at) node
known_as known all at node agrees some is = elim (known.line at) as (λ what. known.line at ≡ what → IsKnownAs what node) [
  | None ↦ λ e. absurd (some e)
  | Some what ↦ λ e. inner what (subst (λ w. Bears w node) (sym (agrees.line at what e)) is)
] refl
  where
    inner : (what : Option (List ℕ)) → Bears what node → IsKnownAs (Some what) node
    inner None h = absurd h
    inner (Some bytes) h = h

pub one_bears : (image : Option (List ℕ)) (a b : IndexNode) → Bears image a → Bears image b → a ≡ b
one_bears None a b x y = absurd x
one_bears (Some bytes) a b x y = one_node bytes a b x y

pub is_known : (what : Option (Option (List ℕ))) (node : IndexNode) → IsKnownAs what node → is_none what ≡ false
is_known None node h = absurd h
is_known (Some w) node h = refl

pub level_of : (level : ℕ) (tree : Tree level) → (node_of level tree).level ≡ level
level_of zero tree = refl
level_of (suc level) tree = refl

pub bears : (all : Lines) (area level : ℕ) (tree : Tree level) → Stands all area level tree → Bears (line_in (place level tree) all) (node_of level tree)
bears all area zero tree is = is.1
bears all area (suc level) tree is = is.1

-- ---- the child at a place

split : {X : Type 0} (xs : List X) (i : ℕ) → i < length xs → (x : X) × (drop i xs ≡ x ∷ drop (suc i) xs)
split [] i inside = absurd (omega (arith, inside))
split (x ∷ xs) zero inside = (x, refl)
split (x ∷ xs) (suc i) inside = split xs i (omega (arith, inside))

all_behind : {X : Type 0} (P : X → Type 0) (i : ℕ) (xs : List X) → AllByRecursion P xs → AllByRecursion P (drop i xs)
all_behind P zero xs h = h
all_behind P (suc i) [] h = tt
all_behind P (suc i) (x ∷ xs) h = all_behind P i xs h.1

abbrev pub StandsBelow : Lines → ℕ → (level : ℕ) → NodeEntry × Tree level → Type 0
StandsBelow all area level child = ((child.0).child ≡ Some (place level child.1)) × Stands all area level child.1

pub record IsChild (all : Lines) (area level : ℕ) (children : List (NodeEntry × Tree level)) (entries : List NodeEntry) (i : ℕ) (child : NodeEntry × Tree level) : Type 0 where
  pub behind : drop i children ≡ child ∷ drop (suc i) children
  pub shown : drop i entries ≡ child.0 ∷ map (λ c. c.0) (drop (suc i) children)
  pub stands : StandsBelow all area level child
  pub bounds : AreBound level (is_first i) (child ∷ drop (suc i) children)

pub child_there : (all : Lines) (area level : ℕ) (tree : Tree (suc level)) (node : IndexNode) (i : ℕ) → Stands all area (suc level) tree → node_of (suc level) tree ≡ node → i < length node.entries → (child : NodeEntry × Tree level) × IsChild all area level tree.entries node.entries i child
child_there all area level tree node i stands is inside =
    let entries : map (λ c. c.0) tree.entries ≡ node.entries = ap (λ (n : IndexNode). n.entries) is in
    let long : length (map (λ (c : NodeEntry × Tree level). c.0) tree.entries) ≡ length node.entries = ap length entries in
    let same = length-map tree.entries (λ (c : NodeEntry × Tree level). c.0) in
    let at = split tree.entries i (omega (arith, inside, long, same)) in (
      at.0,
      record {
        behind = at.1;
        shown = ap (drop i) (sym entries) ∙ drop-map (λ (c : NodeEntry × Tree level). c.0) i tree.entries ∙ ap (map (λ (c : NodeEntry × Tree level). c.0)) at.1;
        stands = (subst (AllByRecursion (StandsBelow all area level)) at.1 (all_behind (StandsBelow all area level) i tree.entries stands.2)).0;
        bounds = subst (AreBound level (is_first i)) at.1 (bound_at level i tree.entries (bound level tree.entries stands.3));
      },
    )

-- ---- one step

abbrev pub rows_of : Interval → (level : ℕ) → List (NodeEntry × Tree level) → List Dbkey
rows_of s level children = rows_within s (flat_map (λ child. pairs level child.1) children)

abbrev pub lacks : Knowledge → Interval → (level : ℕ) → Bool → List (NodeEntry × Tree level) → Option Dbkey
lacks known s level first children = first_unknown known (flat_map (λ child. place level child ∷ reads_below s level child) (searched s first children))

pub record Walked (known : Knowledge) (s : Interval) (level : ℕ) (children : List (NodeEntry × Tree level)) (i : ℕ) (old found : List Dbkey) : Type 0 where
  pub rows : found ++ rows_of s level (drop i children) ≡ old ++ rows_of s level children
  pub reads : lacks known s level (is_first i) (drop i children) ≡ lacks known s level true children

rows_more : (s : Interval) (level : ℕ) (child : NodeEntry × Tree level) (children : List (NodeEntry × Tree level)) → rows_of s level (child ∷ children) ≡ rows_within s (pairs level child.1) ++ rows_of s level children
rows_more s level child children = rows_append s (pairs level child.1) (flat_map (λ c. pairs level c.1) children)

abbrev pub Holds : Interval → (level : ℕ) → ℕ → NodeEntry × Tree level → List (NodeEntry × Tree level) → Bool
Holds s level i child rest = may_hold s (is_first i) (child.0 ∷ map (λ c. c.0) rest)

pub passed : (known : Knowledge) (s : Interval) (level : ℕ) (children : List (NodeEntry × Tree level)) (i : ℕ) (old found : List Dbkey) (child : NodeEntry × Tree level) → IsConvex s → Walked known s level children i old found → drop i children ≡ child ∷ drop (suc i) children → AreBound level (is_first i) (child ∷ drop (suc i) children) → Holds s level i child (drop (suc i) children) ≡ false → Walked known s level children (suc i) old found
passed known s level children i old found child is was behind bounds fails =
    let rest = drop (suc i) children in
    let none = nothing_there s is level (is_first i) child rest bounds fails in
    record {
      rows = ap (λ rows. found ++ rows) (sym (rows_more s level child rest ∙ ap (λ rows. rows ++ rows_of s level rest) none)) ∙ (ap (λ cs. found ++ rows_of s level cs) (sym behind) ∙ was.rows);
      reads = ap (λ b. first_unknown known (flat_map (λ c. place level c ∷ reads_below s level c) (cond b (child.1 ∷ searched s false rest) (searched s false rest)))) (sym fails) ∙ (ap (lacks known s level (is_first i)) (sym behind) ∙ was.reads);
    }

lacks_more : (known : Knowledge) (s : Interval) (level : ℕ) (i : ℕ) (child : NodeEntry × Tree level) (rest : List (NodeEntry × Tree level)) → Holds s level i child rest ≡ true → lacks known s level (is_first i) (child ∷ rest) ≡ option_or (first_unknown known (reads s level child.1)) (lacks known s level false rest)
lacks_more known s level i child rest holds =
    ap (λ b. first_unknown known (flat_map (λ c. place level c ∷ reads_below s level c) (cond b (child.1 ∷ searched s false rest) (searched s false rest)))) holds
    ∙ find-append (λ key. is_none (known.line key)) (reads s level child.1) (flat_map (λ c. place level c ∷ reads_below s level c) (searched s false rest))

pub visited : (known : Knowledge) (s : Interval) (level : ℕ) (children : List (NodeEntry × Tree level)) (i : ℕ) (old found new : List Dbkey) (child : NodeEntry × Tree level) → Walked known s level children i old found → drop i children ≡ child ∷ drop (suc i) children → Holds s level i child (drop (suc i) children) ≡ true → new ≡ found ++ rows_within s (pairs level child.1) → first_unknown known (reads s level child.1) ≡ None → Walked known s level children (suc i) old new
visited known s level children i old found new child was behind holds adds known_all =
    let rest = drop (suc i) children in
    record {
      rows = ap (λ rows. rows ++ rows_of s level rest) adds ∙ (append_assoc found (rows_within s (pairs level child.1)) (rows_of s level rest)
          ∙ (ap (λ rows. found ++ rows) (sym (rows_more s level child rest)) ∙ (ap (λ cs. found ++ rows_of s level cs) (sym behind) ∙ was.rows)));
      reads = ap (λ o. option_or o (lacks known s level false rest)) (sym known_all) ∙ (sym (lacks_more known s level i child rest holds) ∙ (ap (lacks known s level (is_first i)) (sym behind) ∙ was.reads));
    }

pub stopped : (known : Knowledge) (s : Interval) (level : ℕ) (children : List (NodeEntry × Tree level)) (i : ℕ) (old found : List Dbkey) (child : NodeEntry × Tree level) (key : Dbkey) → Walked known s level children i old found → drop i children ≡ child ∷ drop (suc i) children → Holds s level i child (drop (suc i) children) ≡ true → first_unknown known (reads s level child.1) ≡ Some key → lacks known s level true children ≡ Some key
stopped known s level children i old found child key was behind holds lack =
    let rest = drop (suc i) children in
    sym was.reads ∙ (ap (lacks known s level (is_first i)) behind ∙ (lacks_more known s level i child rest holds ∙ ap (λ o. option_or o (lacks known s level false rest)) lack))

pub ended : (known : Knowledge) (s : Interval) (level : ℕ) (children : List (NodeEntry × Tree level)) (i : ℕ) (old found : List Dbkey) → length children ≤ i → Walked known s level children i old found → (found ≡ old ++ rows_of s level children) × (lacks known s level true children ≡ None)
ended known s level children i old found past was =
    let none = drop_all i children past in
    (sym (append-nil found) ∙ (ap (λ cs. found ++ rows_of s level cs) (sym none) ∙ was.rows), sym was.reads ∙ ap (lacks known s level (is_first i)) none)
