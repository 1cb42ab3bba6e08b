-- Trees in which each node below the root has an entry.
use Rattle.std.proofs.Common.{◌≡◌, ℕ, zero, suc, true, false, cond, List, [], ◌∷◌, map, refl, ap, ◌∙◌}
use Rattle.std.specs.Ordering.{is_lt}
use Rattle.std.specs.List.{AllByRecursion}
use Rattle.index_node.specs.declared.entry.NodeEntry.{NodeEntry}
use Rattle.index_node.specs.declared.node.IndexNode.{IndexNode}
use Rattle.index_node.specs.Order.{entry_order}
use Rattle.sorted_index_laws.specs.Tree.{Tree, node_of, pairs, is_empty, has_nothing, IsFilled}
use Rattle.sorted_index_laws.specs.Changes.{goes_on, with_pair}
use Rattle.sorted_index_laws.specs.Inner.Removal.{keep, replaced, without}
use Rattle.sorted_index_laws.proofs.Without.{AllPairs, Entries}

-- a node with entries, above nodes with entries
abbrev pub HasSome : (level : ℕ) → Tree level → Type 0
HasSome level tree = (has_nothing level tree ≡ false) × IsFilled level tree

abbrev pub IsFilledChild : (level : ℕ) → NodeEntry × Tree level → Type 0
IsFilledChild level child = HasSome level child.1

abbrev pub AreFilled : (level : ℕ) → List (NodeEntry × Tree level) → Type 0
AreFilled level children = AllByRecursion (IsFilledChild level) children

pub nothing_is : (level : ℕ) (tree : Tree level) (left : IndexNode) → node_of level tree ≡ left → has_nothing level tree ≡ is_empty left.entries
nothing_is zero tree left is = ap (λ (n : IndexNode). is_empty n.entries) is
nothing_is (suc level) tree left is = mapped tree.entries ∙ ap (λ (n : IndexNode). is_empty n.entries) is
  where
    mapped : (cs : List (NodeEntry × Tree level)) → is_empty cs ≡ is_empty (map (λ c. c.0) cs)
    mapped [] = refl
    mapped (c ∷ cs) = refl

-- ---- without a pair

kept_filled : (level : ℕ) (entry : NodeEntry) (left : Tree level) (children : List (NodeEntry × Tree level)) → IsFilled level left → AreFilled level children → AreFilled level (keep level entry left children)
kept_filled level entry left children is rest = elim (has_nothing level left) as (λ b. has_nothing level left ≡ b → AreFilled level (cond b children ((entry, left) ∷ children))) [
  | true ↦ λ p. rest
  | false ↦ λ p. ((p, is), rest)
] refl

replaced_filled : (pair : NodeEntry) (level : ℕ) (change : Tree level → Tree level) → ((tree : Tree level) → IsFilled level tree → IsFilled level (change tree)) → (children : List (NodeEntry × Tree level)) → AreFilled level children → AreFilled level (replaced level pair change children)
replaced_filled pair level change inner [] h = tt
replaced_filled pair level change inner (child ∷ children) h = elim (goes_on pair (Entries level children)) as (λ b. AreFilled level (cond b (child ∷ replaced level pair change children) (keep level child.0 (change child.1) children))) [
  | true ↦ (h.0, replaced_filled pair level change inner children h.1)
  | false ↦ kept_filled level child.0 (change child.1) children (inner child.1 h.0.1) h.1
]

pub still_filled : (pair : NodeEntry) (level : ℕ) (tree : Tree level) → IsFilled level tree → IsFilled level (without pair level tree)
still_filled pair zero tree h = tt
still_filled pair (suc level) tree h = replaced_filled pair level (without pair level) (still_filled pair level) tree.entries h

-- ---- with a pair

some_with : (pair : NodeEntry) (ps : List NodeEntry) → is_empty (with_pair pair ps) ≡ false
some_with pair [] = refl
some_with pair (p ∷ ps) = elim (is_lt (entry_order p pair)) as (λ b. is_empty (cond b (p ∷ with_pair pair ps) (pair ∷ p ∷ ps)) ≡ false) [
  | true ↦ refl
  | false ↦ refl
]

some_children : (level : ℕ) (children : List (NodeEntry × Tree level)) → is_empty (AllPairs level children) ≡ false → is_empty children ≡ false
some_children level [] h = h
some_children level (child ∷ children) h = refl

some_pairs : (level : ℕ) (tree : Tree level) → is_empty (pairs level tree) ≡ false → has_nothing level tree ≡ false
some_pairs zero tree h = h
some_pairs (suc level) tree h = some_children level tree.entries h

-- a tree with the pair has an entry
pub put_some : (pair : NodeEntry) (level : ℕ) (tree : Tree level) (ps : List NodeEntry) → pairs level tree ≡ with_pair pair ps → has_nothing level tree ≡ false
put_some pair level tree ps is = some_pairs level tree (ap is_empty is ∙ some_with pair ps)
