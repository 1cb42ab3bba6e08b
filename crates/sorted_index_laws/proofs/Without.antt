-- A tree without a pair.
use Rattle.std.proofs.Common.{◌≡◌, ◌≢◌, ℕ, zero, suc, true, false, cond, not, List, [], ◌∷◌, ◌++◌, map, refl, sym, ap, ◌∙◌}
use Rattle.std.specs.declared.cmp.Ordering.{Ordering}
use Rattle.std.specs.declared.cmp.Ordering.TheVariants.{Less, Equal, Greater}
use Rattle.std.specs.Ordering.{is_le, is_eq, ordering_reverse}
use Rattle.std.specs.List.{AllByRecursion, flat_map}
use Rattle.std.proofs.lemmas.List.Elements.{filter-append}
use Rattle.index_node.specs.declared.entry.NodeEntry.{NodeEntry}
use Rattle.index_node.specs.Order.{entry_order}
use Rattle.index_node.specs.OrderLaws.{entries_total}
use Rattle.sorted_index_laws.specs.Tree.{Tree, place, pairs, IsPartedFrom, AreParted, is_empty, has_nothing}
use Rattle.sorted_index_laws.specs.Changes.{goes_on, without_pair}
use Rattle.sorted_index_laws.specs.Inner.Removal.{keep, replaced, without}
use Rattle.sorted_index_laws.proofs.Ordered.{Lt, UpTo, Ascend, lt_upto, itself, less_all, begin, all_from}

-- ---- the tree

pub same_place : (pair : NodeEntry) (level : ℕ) (tree : Tree level) → place level (without pair level tree) ≡ place level tree
same_place pair zero tree = refl
same_place pair (suc level) tree = refl

-- ---- orders

not_le : (o : Ordering) → is_le o ≡ false → o ≡ Greater
not_le Less h = absurd (cc)
not_le Equal h = absurd (cc)
not_le Greater h = refl

le_upto : (o : Ordering) → is_le o ≡ true → o ≢ Greater
le_upto Less h = λ g. cc
le_upto Equal h = λ g. cc
le_upto Greater h = absurd (cc)

less_not_eq : (o : Ordering) → o ≡ Less → is_eq o ≡ false
less_not_eq Less h = refl
less_not_eq Equal h = absurd (cc)
less_not_eq Greater h = refl

greater_not_eq : (o p : Ordering) → o ≡ ordering_reverse p → p ≡ Less → is_eq o ≡ false
greater_not_eq o p turn lt = ap is_eq (turn ∙ ap ordering_reverse lt)

abbrev pub IsOther : NodeEntry → NodeEntry → Type 0
IsOther pair p = is_eq (entry_order p pair) ≡ false

below_other : (pair bound : NodeEntry) (ps : List NodeEntry) → UpTo bound pair → AllByRecursion (λ p. Lt p bound) ps → AllByRecursion (IsOther pair) ps
below_other pair bound [] upto h = tt
below_other pair bound (p ∷ ps) upto h = (less_not_eq (entry_order p pair) (lt_upto p bound pair h.0 upto), below_other pair bound ps upto h.1)

above_other : (pair bound : NodeEntry) (ps : List NodeEntry) → Lt pair bound → AllByRecursion (UpTo bound) ps → AllByRecursion (IsOther pair) ps
above_other pair bound [] lt h = tt
above_other pair bound (p ∷ ps) lt h = (greater_not_eq (entry_order p pair) (entry_order pair p) (entries_total.antisymm p pair) (lt_upto pair bound p lt h.0), above_other pair bound ps lt h.1)

pub all_kept : (pair : NodeEntry) (ps : List NodeEntry) → AllByRecursion (IsOther pair) ps → without_pair pair ps ≡ ps
all_kept pair [] h = refl
all_kept pair (p ∷ ps) h = ap (λ b. cond (not b) (p ∷ without_pair pair ps) (without_pair pair ps)) h.0 ∙ ap (λ qs. p ∷ qs) (all_kept pair ps h.1)

pub all_of_kept : (P : NodeEntry → Type 0) (pair : NodeEntry) (ps : List NodeEntry) → AllByRecursion P ps → AllByRecursion P (without_pair pair ps)
all_of_kept P pair [] h = tt
all_of_kept P pair (p ∷ ps) h = elim (is_eq (entry_order p pair)) as (λ b. AllByRecursion P (cond (not b) (p ∷ without_pair pair ps) (without_pair pair ps))) [
  | true ↦ all_of_kept P pair ps h.1
  | false ↦ (h.0, all_of_kept P pair ps h.1)
]

less_turn : (a b : NodeEntry) → entry_order a b ≡ Greater → Lt b a
less_turn a b h = entries_total.antisymm b a ∙ ap ordering_reverse h

-- ---- its pairs

no_pairs : (level : ℕ) (tree : Tree level) → has_nothing level tree ≡ true → pairs level tree ≡ []
no_pairs zero tree h = nothing tree.entries h
  where
    nothing : (es : List NodeEntry) → is_empty es ≡ true → es ≡ []
    nothing [] h = refl
    nothing (e ∷ es) h = absurd (cc)
no_pairs (suc level) tree h = nothing tree.entries h
  where
    nothing : (es : List (NodeEntry × Tree level)) → is_empty es ≡ true → flat_map (λ c. pairs level c.1) es ≡ []
    nothing [] h = refl
    nothing (e ∷ es) h = absurd (cc)

keep_pairs : (level : ℕ) (entry : NodeEntry) (left : Tree level) (children : List (NodeEntry × Tree level)) → flat_map (λ c. pairs level c.1) (keep level entry left children) ≡ pairs level left ++ flat_map (λ c. pairs level c.1) children
keep_pairs level entry left children = elim (has_nothing level left) as (λ b. has_nothing level left ≡ b → flat_map (λ c. pairs level c.1) (cond b children ((entry, left) ∷ children)) ≡ pairs level left ++ flat_map (λ c. pairs level c.1) children) [
  | true ↦ λ is. ap (λ ps. ps ++ flat_map (λ c. pairs level c.1) children) (sym (no_pairs level left is))
  | false ↦ λ is. refl
] refl

abbrev pub AllPairs : (level : ℕ) → List (NodeEntry × Tree level) → List NodeEntry
AllPairs level children = flat_map (λ c. pairs level c.1) children

abbrev pub Entries : (level : ℕ) → List (NodeEntry × Tree level) → List NodeEntry
Entries level children = map (λ c. c.0) children

-- all pairs of the children behind are above the pair where it doesn't go on
rest_other : (level : ℕ) (pair : NodeEntry) (child : NodeEntry × Tree level) (children : List (NodeEntry × Tree level)) → AreParted level (child ∷ children) → Ascend (Entries level children) → goes_on pair (Entries level children) ≡ false → AllByRecursion (IsOther pair) (AllPairs level children)
rest_other level pair child [] parted ascend stays = tt
rest_other level pair child (next ∷ children) parted ascend stays =
    above_other pair next.0 (AllPairs level (next ∷ children)) (less_turn next.0 pair (not_le (entry_order next.0 pair) stays))
    (all_from level next.0 (next ∷ children) (itself next.0, less_all next.0 (Entries level children) ascend.0) (begin level child (next ∷ children) parted))

first_other : (level : ℕ) (pair : NodeEntry) (child : NodeEntry × Tree level) (children : List (NodeEntry × Tree level)) → IsPartedFrom level child children → goes_on pair (Entries level children) ≡ true → AllByRecursion (IsOther pair) (pairs level child.1)
first_other level pair child [] parted goes = absurd (cc)
first_other level pair child (next ∷ children) parted goes = below_other pair next.0 (pairs level child.1) (le_upto (entry_order next.0 pair) goes) parted.0

abbrev pub Drops : NodeEntry → (level : ℕ) → (Tree level → Tree level) → NodeEntry × Tree level → Type 0
Drops pair level change child = pairs level (change child.1) ≡ without_pair pair (pairs level child.1)

parts : (pair : NodeEntry) (xs ys : List NodeEntry) → without_pair pair (xs ++ ys) ≡ without_pair pair xs ++ without_pair pair ys
parts pair xs ys = filter-append (λ p. not (is_eq (entry_order p pair))) xs ys

pub replaced_pairs : (pair : NodeEntry) (level : ℕ) (change : Tree level → Tree level) (children : List (NodeEntry × Tree level)) → AllByRecursion (Drops pair level change) children → AreParted level children → Ascend (Entries level children)
    → AllPairs level (replaced level pair change children) ≡ without_pair pair (AllPairs level children)
replaced_pairs pair level change [] drops parted ascend = refl
replaced_pairs pair level change (child ∷ children) drops parted ascend =
    elim (goes_on pair (Entries level children)) as (λ b. goes_on pair (Entries level children) ≡ b → AllPairs level (cond b (child ∷ replaced level pair change children) (keep level child.0 (change child.1) children)) ≡ without_pair pair (pairs level child.1 ++ AllPairs level children)) [
      | true ↦ λ goes. sym (parts pair (pairs level child.1) (AllPairs level children) ∙ ((λ i. all_kept pair (pairs level child.1) (first_other level pair child children parted.0 goes) i ++ sym (replaced_pairs pair level change children drops.1 parted.1 ascend.1) i)))
      | false ↦ λ stays. keep_pairs level child.0 (change child.1) children
          ∙ sym (parts pair (pairs level child.1) (AllPairs level children) ∙ ((λ i. sym drops.0 i ++ all_kept pair (AllPairs level children) (rest_other level pair child children parted ascend.1 stays) i)))
    ] refl
