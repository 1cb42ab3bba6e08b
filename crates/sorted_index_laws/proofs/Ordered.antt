-- The pairs of an index ascend.
use Rattle.std.proofs.Common.{◌≡◌, ◌≢◌, ℕ, zero, suc, ◌+◌, List, [], ◌∷◌, ◌++◌, length, map, get_or, refl, sym, subst, ◌∙◌, arith}
use Rattle.std.specs.declared.cmp.Ordering.{Ordering}
use Rattle.std.specs.declared.cmp.Ordering.TheVariants.{Less, Equal, Greater}
use Rattle.std.proofs.lemmas.Cmp.{tied_itself, alike_right}
use Rattle.std.specs.List.{AllByRecursion, AllAdjacentBelow, flat_map}
use Rattle.std.specs.List.Sorted.{IsStrictlySortedBy}
use Rattle.std.proofs.lemmas.List.{append-nil}
use Rattle.std.specs.Prelude.{Option, Some, None}
use Rattle.index_node.specs.declared.entry.NodeEntry.{NodeEntry}
use Rattle.index_node.specs.declared.node.IndexNode.{IndexNode}
use Rattle.index_node.specs.Order.{entry_order}
use Rattle.index_node.specs.OrderLaws.{entries_total}
use Rattle.line_view.specs.Knowledge.{Lines, line_in}
use Rattle.sorted_index_laws.specs.Tree.{Tree, place, node_of, pairs, Bears, AreParted, Stands}
use Rattle.sorted_index_laws.proofs.Children.{IsFrom}

abbrev pub Lt : NodeEntry → NodeEntry → Type 0
Lt a b = entry_order a b ≡ Less

abbrev pub UpTo : NodeEntry → NodeEntry → Type 0
UpTo a b = entry_order a b ≢ Greater

abbrev pub Ascend : List NodeEntry → Type 0
Ascend [] = Unit {0}
Ascend (x ∷ xs) = AllByRecursion (Lt x) xs × Ascend xs

pub sorted : (es : List NodeEntry) → Ascend es → IsStrictlySortedBy entry_order es
unfolding IsStrictlySortedBy
sorted [] h = tt
sorted (x ∷ xs) h = (h.0, sorted xs h.1)

-- ---- orders that follow one another

pub lt_upto : (a b c : NodeEntry) → Lt a b → UpTo b c → Lt a c
lt_upto a b c lt upto = elim (entry_order b c) as (λ o. entry_order b c ≡ o → o ≢ Greater → Lt a c) [
  | Less ↦ λ is h. entries_total.trans a b c lt is
  | Equal ↦ λ is h. sym (alike_right entries_total b c a is) ∙ lt
  | Greater ↦ λ is h. absurd (h refl)
] refl upto

pub less_upto : (o : Ordering) → o ≡ Less → o ≢ Greater
less_upto Less is = λ h. cc
less_upto Equal is = λ h. cc
less_upto Greater is = λ h. cc

equal_upto : (o : Ordering) → o ≡ Equal → o ≢ Greater
equal_upto Less is = λ h. cc
equal_upto Equal is = λ h. cc
equal_upto Greater is = λ h. cc

pub upto_upto : (a b c : NodeEntry) → UpTo a b → UpTo b c → UpTo a c
upto_upto a b c first second = elim (entry_order a b) as (λ o. entry_order a b ≡ o → o ≢ Greater → UpTo a c) [
  | Less ↦ λ is h. less_upto (entry_order a c) (lt_upto a b c is second)
  | Equal ↦ λ is h. subst (λ o. o ≢ Greater) (sym (entries_total.congr a b c is)) second
  | Greater ↦ λ is h. absurd (h refl)
] refl first

pub itself : (a : NodeEntry) → UpTo a a
itself a = equal_upto (entry_order a a) (tied_itself entries_total a)

-- ---- lists

pub all_append : {X : Type 0} (P : X → Type 0) (xs ys : List X) → AllByRecursion P xs → AllByRecursion P ys → AllByRecursion P (xs ++ ys)
all_append P [] ys h k = k
all_append P (x ∷ xs) ys h k = (h.0, all_append P xs ys h.1 k)

all_lt : (a b : NodeEntry) (xs : List NodeEntry) → Lt a b → AllByRecursion (UpTo b) xs → AllByRecursion (Lt a) xs
all_lt a b [] lt h = tt
all_lt a b (x ∷ xs) lt h = (lt_upto a b x lt h.0, all_lt a b xs lt h.1)

all_upto : (a b : NodeEntry) (xs : List NodeEntry) → UpTo a b → AllByRecursion (UpTo b) xs → AllByRecursion (UpTo a) xs
all_upto a b [] first h = tt
all_upto a b (x ∷ xs) first h = (upto_upto a b x first h.0, all_upto a b xs first h.1)

pub less_all : (a : NodeEntry) (xs : List NodeEntry) → AllByRecursion (Lt a) xs → AllByRecursion (UpTo a) xs
less_all a [] h = tt
less_all a (x ∷ xs) h = (less_upto (entry_order a x) h.0, less_all a xs h.1)

ascend_append : (middle : NodeEntry) (xs ys : List NodeEntry) → Ascend xs → Ascend ys → AllByRecursion (λ x. Lt x middle) xs → AllByRecursion (UpTo middle) ys → Ascend (xs ++ ys)
ascend_append middle [] ys h k before behind = k
ascend_append middle (x ∷ xs) ys h k before behind = (all_append (Lt x) xs ys h.0 (all_lt x middle ys before.0 behind), ascend_append middle xs ys h.1 k before.1 behind)

-- each entry is below the next
ascend_more : (x y : NodeEntry) (ys : List NodeEntry) → Lt x y → Ascend (y ∷ ys) → Ascend (x ∷ y ∷ ys)
ascend_more x y ys lt h = ((lt, all_lt x y ys lt (less_all y ys h.0)), h)

adjacent_rest : (x : NodeEntry) (xs : List NodeEntry) → AllAdjacentBelow Lt (x ∷ xs) (length (x ∷ xs)) → AllAdjacentBelow Lt xs (length xs)
adjacent_rest x xs h k d inside =
    let more : suc k + 1 ≡ suc (k + 1) = omega arith in
    subst (λ n. Lt (get_or xs k d) (get_or (x ∷ xs) n d)) more (h (suc k) d (omega (arith, inside)))

pub ascend : (es : List NodeEntry) → AllAdjacentBelow Lt es (length es) → Ascend es
ascend [] h = tt
ascend (x ∷ []) h = (tt, tt)
ascend (x ∷ y ∷ ys) h = ascend_more x y ys (h 0 x (omega arith)) (ascend (y ∷ ys) (adjacent_rest x (y ∷ ys) h))

-- ---- children

pub begin : (level : ℕ) (child : NodeEntry × Tree level) (children : List (NodeEntry × Tree level)) → AreParted level (child ∷ children) → AllByRecursion (IsFrom level) children
begin level child [] parted = tt
begin level child (next ∷ children) parted = (parted.0.1, begin level next children parted.1)

pub all_from : (level : ℕ) (low : NodeEntry) (children : List (NodeEntry × Tree level)) → AllByRecursion (UpTo low) (map (λ c. c.0) children) → AllByRecursion (IsFrom level) children → AllByRecursion (UpTo low) (flat_map (λ c. pairs level c.1) children)
all_from level low [] h k = tt
all_from level low (child ∷ children) h k = all_append (UpTo low) (pairs level child.1) (flat_map (λ c. pairs level c.1) children) (all_upto low child.0 (pairs level child.1) h.0 k.0) (all_from level low children h.1 k.1)

children_ascend : (level : ℕ) (children : List (NodeEntry × Tree level)) → AllByRecursion (λ c. Ascend (pairs level c.1)) children → AreParted level children → Ascend (map (λ c. c.0) children) → Ascend (flat_map (λ c. pairs level c.1) children)
children_ascend level [] h parted entries = tt
children_ascend level (child ∷ []) h parted entries = subst Ascend (sym (append-nil (pairs level child.1))) h.0
children_ascend level (child ∷ next ∷ children) h parted entries =
    ascend_append next.0 (pairs level child.1) (flat_map (λ c. pairs level c.1) (next ∷ children)) h.0 (children_ascend level (next ∷ children) h.1 parted.1 entries.1) parted.0.0
    (all_from level next.0 (next ∷ children) (itself next.0, less_all next.0 (map (λ c. c.0) children) entries.1.0) (begin level child (next ∷ children) parted))

pub node_ascends : (image : Option (List ℕ)) (node : IndexNode) → Bears image node → Ascend node.entries
node_ascends None node is = absurd is
node_ascends (Some bytes) node is = ascend node.entries is.allowed.ascending

abbrev pub StandsBelow : Lines → ℕ → (level : ℕ) → NodeEntry × Tree level → Type 0
StandsBelow lines area level child = ((child.0).child ≡ Some (place level child.1)) × Stands lines area level child.1

pub each_ascends : (lines : Lines) (area level : ℕ) → ((tree : Tree level) → Stands lines area level tree → Ascend (pairs level tree)) → (children : List (NodeEntry × Tree level)) → AllByRecursion (StandsBelow lines area level) children → AllByRecursion (λ c. Ascend (pairs level c.1)) children
each_ascends lines area level inner [] h = tt
each_ascends lines area level inner (child ∷ children) h = (inner child.1 h.0.1, each_ascends lines area level inner children h.1)

pub pairs_ascend : (lines : Lines) (area level : ℕ) (tree : Tree level) → Stands lines area level tree → Ascend (pairs level tree)
pairs_ascend lines area zero tree is = node_ascends (line_in tree.at lines) (node_of zero tree) is.1
pairs_ascend lines area (suc level) tree is = children_ascend level tree.entries (each_ascends lines area level (pairs_ascend lines area level) tree.entries is.2) is.3 (node_ascends (line_in tree.at lines) (node_of (suc level) tree) is.1)
