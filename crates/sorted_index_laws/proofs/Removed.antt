-- How a tree without a pair stands, once its lines are written.
use Rattle.std.proofs.Common.{◌≡◌, ◌≢◌, ℕ, zero, suc, true, false, cond, List, [], ◌∷◌, refl, sym, subst}
use Rattle.std.specs.Ordering.{is_eq}
use Rattle.std.specs.declared.cmp.Ordering.TheVariants.{Greater}
use Rattle.std.specs.List.{AllByRecursion, flat_map}
use Rattle.rdb_types.specs.declared.keys.Dbkey.{Dbkey}
use Rattle.rdb_types.specs.Order.{dbkey_order}
use Rattle.index_node.specs.declared.entry.NodeEntry.{NodeEntry}
use Rattle.index_node.specs.Order.{entry_order}
use Rattle.line_view.specs.Knowledge.{Lines, line_in}
use Rattle.sorted_index_laws.specs.Tree.{Tree, node_of, pairs, places, IsPartedFrom, AreParted, Stands, has_nothing}
use Rattle.sorted_index_laws.specs.Changes.{goes_on, without_pair}
use Rattle.sorted_index_laws.proofs.Frame.{IsApart}
use Rattle.sorted_index_laws.proofs.Lines.{Distinct, map_all, all_front, all_rest, parts, joined, head_apart, tail_distinct, distinct_more}
use Rattle.sorted_index_laws.proofs.Ordered.{Lt, Ascend, lt_upto, less_upto, all_append, node_ascends, StandsBelow}
use Rattle.sorted_index_laws.specs.Inner.Removal.{keep, replaced, without}
use Rattle.sorted_index_laws.proofs.Without.{all_of_kept, replaced_pairs, Entries, Drops}

-- ---- its children are parted

-- the pairs of the changed child are some of its pairs
some_pairs : (P : NodeEntry → Type 0) (pair : NodeEntry) (level : ℕ) (change : Tree level → Tree level) (child : NodeEntry × Tree level) → Drops pair level change child → AllByRecursion P (pairs level child.1) → AllByRecursion P (pairs level (change child.1))
some_pairs P pair level change child drops h = subst (AllByRecursion P) (sym drops) (all_of_kept P pair (pairs level child.1) h)

all_lt_bound : (a b : NodeEntry) (ps : List NodeEntry) → Lt a b → AllByRecursion (λ p. Lt p a) ps → AllByRecursion (λ p. Lt p b) ps
all_lt_bound a b [] lt h = tt
all_lt_bound a b (p ∷ ps) lt h = (lt_upto p a b h.0 (less_upto (entry_order a b) lt), all_lt_bound a b ps lt h.1)

-- a child is parted from those behind it also where the next one is left out
parted_past : (level : ℕ) (child next : NodeEntry × Tree level) (children : List (NodeEntry × Tree level)) → IsPartedFrom level child (next ∷ children) → IsPartedFrom level next children → Ascend (next.0 ∷ Entries level children) → IsPartedFrom level child children
parted_past level child next [] first second ascend = tt
parted_past level child next (third ∷ children) first second ascend = (all_lt_bound next.0 third.0 (pairs level child.1) ascend.0.0 first.0, second.1)

parted_from_kept : (pair : NodeEntry) (level : ℕ) (change : Tree level → Tree level) (child next : NodeEntry × Tree level) (children : List (NodeEntry × Tree level)) → Drops pair level change next → IsPartedFrom level child (next ∷ children) → IsPartedFrom level next children → Ascend (next.0 ∷ Entries level children)
    → IsPartedFrom level child (keep level next.0 (change next.1) children)
parted_from_kept pair level change child next children drops first second ascend = elim (has_nothing level (change next.1)) as (λ b. IsPartedFrom level child (cond b children ((next.0, change next.1) ∷ children))) [
  | true ↦ parted_past level child next children first second ascend
  | false ↦ (first.0, some_pairs (λ p. entry_order next.0 p ≢ Greater) pair level change next drops first.1)
]

parted_from_replaced : (pair : NodeEntry) (level : ℕ) (change : Tree level → Tree level) (child : NodeEntry × Tree level) (children : List (NodeEntry × Tree level)) → AllByRecursion (Drops pair level change) children → IsPartedFrom level child children → AreParted level children → Ascend (Entries level children)
    → IsPartedFrom level child (replaced level pair change children)
parted_from_replaced pair level change child [] drops first parted ascend = tt
parted_from_replaced pair level change child (next ∷ children) drops first parted ascend = elim (goes_on pair (Entries level children)) as (λ b. IsPartedFrom level child (cond b (next ∷ replaced level pair change children) (keep level next.0 (change next.1) children))) [
  | true ↦ first
  | false ↦ parted_from_kept pair level change child next children drops.0 first parted.0 ascend
]

from_some : (pair : NodeEntry) (level : ℕ) (change : Tree level → Tree level) (child : NodeEntry × Tree level) (children : List (NodeEntry × Tree level)) → Drops pair level change child → IsPartedFrom level child children → IsPartedFrom level (child.0, change child.1) children
from_some pair level change child [] drops parted = tt
from_some pair level change child (next ∷ children) drops parted = (some_pairs (λ p. Lt p next.0) pair level change child drops parted.0, parted.1)

pub replaced_parted : (pair : NodeEntry) (level : ℕ) (change : Tree level → Tree level) (children : List (NodeEntry × Tree level)) → AllByRecursion (Drops pair level change) children → AreParted level children → Ascend (Entries level children) → AreParted level (replaced level pair change children)
replaced_parted pair level change [] drops parted ascend = tt
replaced_parted pair level change (child ∷ children) drops parted ascend = elim (goes_on pair (Entries level children)) as (λ b. AreParted level (cond b (child ∷ replaced level pair change children) (keep level child.0 (change child.1) children))) [
  | true ↦ (parted_from_replaced pair level change child children drops.1 parted.0 parted.1 ascend.1, replaced_parted pair level change children drops.1 parted.1 ascend.1)
  | false ↦ elim (has_nothing level (change child.1)) as (λ b. AreParted level (cond b children ((child.0, change child.1) ∷ children))) [
    | true ↦ parted.1
    | false ↦ (from_some pair level change child children drops.0 parted.0, parted.1)
  ]
]

-- ---- its lines are some of those that it had

abbrev pub PlacesOf : (level : ℕ) → List (NodeEntry × Tree level) → List Dbkey
PlacesOf level children = flat_map (λ child. places level child.1) children

-- what holds of all lines of a tree, holds of those of the changed tree
pub all_replaced : (Q : Dbkey → Type 0) (pair : NodeEntry) (level : ℕ) (change : Tree level → Tree level) → ((tree : Tree level) → AllByRecursion Q (places level tree) → AllByRecursion Q (places level (change tree)))
    → (children : List (NodeEntry × Tree level)) → AllByRecursion Q (PlacesOf level children) → AllByRecursion Q (PlacesOf level (replaced level pair change children))
all_replaced Q pair level change within [] h = tt
all_replaced Q pair level change within (child ∷ children) h =
    let first = all_front Q (places level child.1) (PlacesOf level children) h in
    let rest = all_rest Q (places level child.1) (PlacesOf level children) h in
    elim (goes_on pair (Entries level children)) as (λ b. AllByRecursion Q (PlacesOf level (cond b (child ∷ replaced level pair change children) (keep level child.0 (change child.1) children)))) [
      | true ↦ all_append Q (places level child.1) (PlacesOf level (replaced level pair change children)) first (all_replaced Q pair level change within children rest)
      | false ↦ elim (has_nothing level (change child.1)) as (λ b. AllByRecursion Q (PlacesOf level (cond b children ((child.0, change child.1) ∷ children)))) [
        | true ↦ rest
        | false ↦ all_append Q (places level (change child.1)) (PlacesOf level children) (within child.1 first) rest
      ]
    ]

pub all_within : (Q : Dbkey → Type 0) (pair : NodeEntry) (level : ℕ) (tree : Tree level) → AllByRecursion Q (places level tree) → AllByRecursion Q (places level (without pair level tree))
all_within Q pair zero tree h = h
all_within Q pair (suc level) tree h = (h.0, all_replaced Q pair level (without pair level) (all_within Q pair level) tree.entries h.1)

distinct_replaced : (pair : NodeEntry) (level : ℕ) → ((tree : Tree level) → Distinct (places level tree) → Distinct (places level (without pair level tree))) → (children : List (NodeEntry × Tree level)) → Distinct (PlacesOf level children) → Distinct (PlacesOf level (replaced level pair (without pair level) children))
distinct_replaced pair level inner [] h = h
distinct_replaced pair level inner (child ∷ children) h =
    let both = parts (places level child.1) (PlacesOf level children) h in
    elim (goes_on pair (Entries level children)) as (λ b. Distinct (PlacesOf level (cond b (child ∷ replaced level pair (without pair level) children) (keep level child.0 (without pair level child.1) children)))) [
      | true ↦ joined (places level child.1) (PlacesOf level (replaced level pair (without pair level) children)) both.front (distinct_replaced pair level inner children both.rest)
          (all_replaced (λ y. IsApart y (places level child.1)) pair level (without pair level) (all_within (λ y. IsApart y (places level child.1)) pair level) children both.apart)
      | false ↦ elim (has_nothing level (without pair level child.1)) as (λ b. Distinct (PlacesOf level (cond b children ((child.0, without pair level child.1) ∷ children)))) [
        | true ↦ both.rest
        | false ↦ joined (places level (without pair level child.1)) (PlacesOf level children) (inner child.1 both.front) both.rest
            (map_all (λ y. IsApart y (places level child.1)) (λ y. IsApart y (places level (without pair level child.1))) (λ y. all_within (λ k. is_eq (dbkey_order k y) ≡ false) pair level child.1) (PlacesOf level children) both.apart)
      ]
    ]

pub still_distinct : (pair : NodeEntry) (level : ℕ) (tree : Tree level) → Distinct (places level tree) → Distinct (places level (without pair level tree))
still_distinct pair zero tree h = h
still_distinct pair (suc level) tree h =
    distinct_more tree.at (PlacesOf level (replaced level pair (without pair level) tree.entries))
    (all_replaced (λ k. is_eq (dbkey_order k tree.at) ≡ false) pair level (without pair level) (all_within (λ k. is_eq (dbkey_order k tree.at) ≡ false) pair level) tree.entries (head_apart tree.at (PlacesOf level tree.entries) h))
    (distinct_replaced pair level (still_distinct pair level) tree.entries (tail_distinct tree.at (PlacesOf level tree.entries) h))

-- ---- its pairs

drops_each : (lines : Lines) (area : ℕ) (pair : NodeEntry) (level : ℕ) → ((tree : Tree level) → Stands lines area level tree → pairs level (without pair level tree) ≡ without_pair pair (pairs level tree)) → (children : List (NodeEntry × Tree level)) → AllByRecursion (StandsBelow lines area level) children → AllByRecursion (Drops pair level (without pair level)) children
drops_each lines area pair level inner [] h = tt
drops_each lines area pair level inner (child ∷ children) h = (inner child.1 h.0.1, drops_each lines area pair level inner children h.1)

pub pairs_left : (lines : Lines) (area : ℕ) (pair : NodeEntry) (level : ℕ) (tree : Tree level) → Stands lines area level tree → pairs level (without pair level tree) ≡ without_pair pair (pairs level tree)
pairs_left lines area pair zero tree is = refl
pairs_left lines area pair (suc level) tree is =
    replaced_pairs pair level (without pair level) tree.entries (drops_each lines area pair level (pairs_left lines area pair level) tree.entries is.2) is.3 (node_ascends (line_in tree.at lines) (node_of (suc level) tree) is.1)

pub still_parted : (lines : Lines) (area : ℕ) (pair : NodeEntry) (level : ℕ) (tree : Tree (suc level)) → Stands lines area (suc level) tree → AreParted level (replaced level pair (without pair level) tree.entries)
still_parted lines area pair level tree is =
    replaced_parted pair level (without pair level) tree.entries (drops_each lines area pair level (pairs_left lines area pair level) tree.entries is.2) is.3 (node_ascends (line_in tree.at lines) (node_of (suc level) tree) is.1)
