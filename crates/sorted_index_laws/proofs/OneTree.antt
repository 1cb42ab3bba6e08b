-- An index has one list of pairs.
use Rattle.std.proofs.Common.{◌≡◌, ℕ, zero, suc, List, [], ◌∷◌, ◌++◌, map, get_or, refl, sym, ap, subst, ◌∙◌, arith}
use Rattle.std.specs.List.{AllByRecursion, flat_map}
use Rattle.std.specs.Prelude.{Option, Some, None}
use Rattle.rdb_types.specs.declared.keys.Dbkey.{Dbkey}
use Rattle.index_node.specs.declared.entry.NodeEntry.{NodeEntry}
use Rattle.index_node.specs.declared.node.IndexNode.{IndexNode}
use Rattle.line_view.specs.Knowledge.{Lines, line_in}
use Rattle.sorted_index_laws.specs.Tree.{Tree, place, node_of, pairs, Bears, Stands}
use Rattle.sorted_index_laws.proofs.Walk.{StandsBelow, bears, one_bears}

-- trees of one line have the same pairs, where those of these levels have
abbrev HaveSame : Lines → ℕ → ℕ → ℕ → Type 0
HaveSame lines area l m = (a : Tree l) (b : Tree m) → Stands lines area l a → Stands lines area m b → place l a ≡ place m b → pairs l a ≡ pairs m b

abbrev pick : Dbkey → Option Dbkey → Dbkey
pick d None = d
pick d (Some k) = k

head_is : (e f : NodeEntry) (es fs : List NodeEntry) → e ∷ es ≡ f ∷ fs → e ≡ f
head_is e f es fs same = ap (λ es. get_or es 0 e) same

tail_is : (e f : NodeEntry) (es fs : List NodeEntry) → e ∷ es ≡ f ∷ fs → es ≡ fs
tail_is e f es fs same = cc

same_children : (lines : Lines) (area l m : ℕ) → HaveSame lines area l m → (xs : List (NodeEntry × Tree l)) (ys : List (NodeEntry × Tree m)) → AllByRecursion (StandsBelow lines area l) xs → AllByRecursion (StandsBelow lines area m) ys → map (λ c. c.0) xs ≡ map (λ c. c.0) ys → flat_map (λ c. pairs l c.1) xs ≡ flat_map (λ c. pairs m c.1) ys
same_children lines area l m inner [] [] h k same = refl
same_children lines area l m inner [] (b ∷ ys) h k same = absurd (cc)
same_children lines area l m inner (a ∷ xs) [] h k same = absurd (cc)
same_children lines area l m inner (a ∷ xs) (b ∷ ys) h k same =
    let entry = head_is a.0 b.0 (map (λ c. c.0) xs) (map (λ c. c.0) ys) same in
    let at : place l a.1 ≡ place m b.1 = ap (pick (place l a.1)) (sym h.0.0 ∙ (ap (λ (e : NodeEntry). e.child) entry ∙ k.0.0)) in
    let rest = same_children lines area l m inner xs ys h.1 k.1 (tail_is a.0 b.0 (map (λ c. c.0) xs) (map (λ c. c.0) ys) same) in
    λ i. inner a.1 b.1 h.0.1 k.0.1 at i ++ rest i

one_node_there : (lines : Lines) (area l m : ℕ) (a : Tree l) (b : Tree m) → Stands lines area l a → Stands lines area m b → place l a ≡ place m b → node_of l a ≡ node_of m b
one_node_there lines area l m a b x y at = one_bears (line_in (place m b) lines) (node_of l a) (node_of m b) (subst (λ (k : Dbkey). Bears (line_in k lines) (node_of l a)) at (bears lines area l a x)) (bears lines area m b y)

pub one_tree : (lines : Lines) (area l m : ℕ) → HaveSame lines area l m
one_tree lines area zero zero a b x y at = ap (λ (n : IndexNode). n.entries) (one_node_there lines area zero zero a b x y at)
one_tree lines area zero (suc m) a b x y at = let level = ap (λ (n : IndexNode). n.level) (one_node_there lines area zero (suc m) a b x y at) in absurd (omega (arith, level))
one_tree lines area (suc l) zero a b x y at = let level = ap (λ (n : IndexNode). n.level) (one_node_there lines area (suc l) zero a b x y at) in absurd (omega (arith, level))
one_tree lines area (suc l) (suc m) a b x y at = same_children lines area l m (one_tree lines area l m) a.entries b.entries x.2 y.2 (ap (λ (n : IndexNode). n.entries) (one_node_there lines area (suc l) (suc m) a b x y at))
