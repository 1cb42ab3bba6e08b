-- Trees under writes on other lines.
use Rattle.std.proofs.Common.{◌≡◌, ℕ, zero, suc, false, List, [], ◌∷◌, ◌++◌, Option, Some, sym, ap, subst}
use Rattle.std.specs.Ordering.{is_eq}
use Rattle.std.specs.List.{AllByRecursion, flat_map}
use Rattle.rdb_types.specs.declared.keys.Dbkey.{Dbkey}
use Rattle.rdb_types.specs.Order.{dbkey_order}
use Rattle.index_node.specs.declared.entry.NodeEntry.{NodeEntry}
use Rattle.line_view.specs.Knowledge.{Lines, laid}
use Rattle.line_view.proofs.Written.{same_line}
use Rattle.sorted_index_laws.specs.Tree.{Tree, place, node_of, places, Bears, Stands}

-- the line isn't one of these
abbrev pub IsApart : Dbkey → List Dbkey → Type 0
IsApart key = AllByRecursion (λ (k : Dbkey). is_eq (dbkey_order k key) ≡ false)

pub apart_front : (key : Dbkey) (xs ys : List Dbkey) → IsApart key (xs ++ ys) → IsApart key xs
apart_front key [] ys h = tt
apart_front key (x ∷ xs) ys h = (h.0, apart_front key xs ys h.1)

pub apart_behind : (key : Dbkey) (xs ys : List Dbkey) → IsApart key (xs ++ ys) → IsApart key ys
apart_behind key [] ys h = h
apart_behind key (x ∷ xs) ys h = apart_behind key xs ys h.1

abbrev pub StandsBelow : Lines → ℕ → (level : ℕ) → NodeEntry × Tree level → Type 0
StandsBelow lines area level child = ((child.0).child ≡ Some (place level child.1)) × Stands lines area level child.1

pub all_beside : (lines : Lines) (key : Dbkey) (image : Option (List ℕ)) (area level : ℕ) → ((tree : Tree level) → IsApart key (places level tree) → Stands lines area level tree → Stands (laid key image lines) area level tree)
    → (children : List (NodeEntry × Tree level)) → IsApart key (flat_map (λ child. places level child.1) children) → AllByRecursion (StandsBelow lines area level) children → AllByRecursion (StandsBelow (laid key image lines) area level) children
all_beside lines key image area level inner [] apart is = tt
all_beside lines key image area level inner (child ∷ children) apart is = (
  (is.0.0, inner child.1 (apart_front key (places level child.1) (flat_map (λ c. places level c.1) children) apart) is.0.1),
  all_beside lines key image area level inner children (apart_behind key (places level child.1) (flat_map (λ c. places level c.1) children) apart) is.1,
)

-- a tree stands as it did where no line of it is written
pub stands_beside : (lines : Lines) (key : Dbkey) (image : Option (List ℕ)) (area level : ℕ) (tree : Tree level) → IsApart key (places level tree) → Stands lines area level tree → Stands (laid key image lines) area level tree
stands_beside lines key image area zero tree apart is = (is.0, subst (λ what. Bears what (node_of zero tree)) (sym (same_line lines key tree.at image apart.0)) is.1)
stands_beside lines key image area (suc level) tree apart is =
    (is.0, subst (λ what. Bears what (node_of (suc level) tree)) (sym (same_line lines key tree.at image apart.0)) is.1, all_beside lines key image area level (stands_beside lines key image area level) tree.entries apart.1 is.2, is.3)
