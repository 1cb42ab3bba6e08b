-- The nodes on the way to a pair.
use Rattle.std.proofs.Common.{◌≡◌, ℕ, zero, suc, Bool, true, false, cond, List, [], ◌∷◌, Option, Some, None, refl, sym, ap, subst, ◌∙◌}
use Rattle.std.specs.Prelude.{◌||◌, is_none, is_some}
use Rattle.std.specs.Ordering.{is_eq}
use Rattle.std.specs.List.{AllByRecursion, flat_map}
use Rattle.rdb_types.specs.declared.keys.Dbkey.{Dbkey}
use Rattle.rdb_types.specs.Order.{dbkey_order}
use Rattle.rdb_types.specs.OrderLaws.{same_dbkey}
use Rattle.index_node.specs.declared.entry.NodeEntry.{NodeEntry}
use Rattle.line_view.specs.Knowledge.{Lines, Knowledge, Agrees, line_in}
use Rattle.sorted_index_laws.specs.Tree.{Tree, place, places, IsIndex}
use Rattle.sorted_index_laws.specs.Search.{first_unknown}
use Rattle.sorted_index_laws.specs.Changes.{goes_on, chosen, has_line, path_below, path}
use Rattle.sorted_index_laws.proofs.Lines.{all_front, all_rest}
use Rattle.sorted_index_laws.proofs.Ordered.{all_append}
use Rattle.sorted_index_laws.proofs.Without.{Entries}
use Rattle.sorted_index_laws.proofs.Removed.{PlacesOf}
use Rattle.sorted_index_laws.proofs.Erased.{lines_there}
use Rattle.sorted_index_laws.proofs.Apart.{IsPresent, stands_present, tied}

-- what holds of each of these lines holds of one that is among them
pub of_line : (Q : Dbkey → Type 0) (keys : List Dbkey) (key : Dbkey) → has_line keys key ≡ true → AllByRecursion Q keys → Q key
of_line Q [] key h all = absurd (cc)
of_line Q (k ∷ keys) key h all = elim (is_eq (dbkey_order k key)) as (λ b. is_eq (dbkey_order k key) ≡ b → (b || has_line keys key) ≡ true → Q key) [
  | true ↦ λ is h. subst Q (same_dbkey k key (tied (dbkey_order k key) is)) all.0
  | false ↦ λ is h. of_line Q keys key h all.1
] refl h

abbrev way_below : NodeEntry → (level : ℕ) → List (Tree level) → List Dbkey
way_below pair level trees = flat_map (λ child. place level child ∷ path_below pair level child) trees

chosen_within : (Q : Dbkey → Type 0) (pair : NodeEntry) (level : ℕ) → ((tree : Tree level) → AllByRecursion Q (places level tree) → AllByRecursion Q (path pair level tree)) → (children : List (NodeEntry × Tree level)) → AllByRecursion Q (PlacesOf level children) → AllByRecursion Q (way_below pair level (chosen pair children))
chosen_within Q pair level inner [] h = tt
chosen_within Q pair level inner (child ∷ children) h = elim (goes_on pair (Entries level children)) as (λ b. AllByRecursion Q (way_below pair level (cond b (chosen pair children) (child.1 ∷ [])))) [
  | true ↦ chosen_within Q pair level inner children (all_rest Q (places level child.1) (PlacesOf level children) h)
  | false ↦ all_append Q (path pair level child.1) [] (inner child.1 (all_front Q (places level child.1) (PlacesOf level children) h)) tt
]

-- what holds of each line of a tree holds of those on the way to a pair
way_within : (Q : Dbkey → Type 0) (pair : NodeEntry) (level : ℕ) (tree : Tree level) → AllByRecursion Q (places level tree) → AllByRecursion Q (path pair level tree)
way_within Q pair zero tree h = (h.0, tt)
way_within Q pair (suc level) tree h = (h.0, chosen_within Q pair level (way_within Q pair level) tree.entries h.1)

pub is_place : (pair : NodeEntry) (level : ℕ) (tree : Tree level) (key : Dbkey) → has_line (path pair level tree) key ≡ true → has_line (places level tree) key ≡ true
is_place pair level tree key h = of_line (λ k. has_line (places level tree) k ≡ true) (path pair level tree) key h (way_within (λ k. has_line (places level tree) k ≡ true) pair level tree (lines_there (places level tree)))

all_known : (known : Knowledge) (keys : List Dbkey) → first_unknown known keys ≡ None → AllByRecursion (λ k. is_none (known.line k) ≡ false) keys
all_known known [] h = tt
all_known known (k ∷ keys) h = elim (is_none (known.line k)) as (λ b. is_none (known.line k) ≡ b → cond b (Some k) (first_unknown known keys) ≡ None → AllByRecursion (λ k. is_none (known.line k) ≡ false) (k ∷ keys)) [
  | true ↦ λ is h. absurd (cc)
  | false ↦ λ is h. (is, all_known known keys h)
] refl h

abbrev IsKnownPresent : Knowledge → Dbkey → Type 0
IsKnownPresent known key = (image : List ℕ) × (known.line key ≡ Some (Some image))

known_present : (known : Knowledge) (all : Lines) (key : Dbkey) → Agrees known all → IsPresent all key → is_none (known.line key) ≡ false → IsKnownPresent known key
known_present known all key agrees present some = elim (known.line key) as (λ what. known.line key ≡ what → is_none what ≡ false → (image : List ℕ) × (what ≡ Some (Some image))) [
  | None ↦ λ is h. absurd (cc)
  | Some image ↦ λ is h. there image is
] refl some
  where
    there : (image : Option (List ℕ)) → known.line key ≡ Some image → (bytes : List ℕ) × (Some image ≡ Some (Some bytes))
    there (Some bytes) is = (bytes, refl)
    there None is = let none : None ≡ line_in key all = agrees.line key None is in let bad : false ≡ true = ap is_some none ∙ present in absurd (cc)

pub on_way_present : (known : Knowledge) (all : Lines) (root : Dbkey) (pair : NodeEntry) (level : ℕ) (tree : Tree level) (key : Dbkey) → Agrees known all → IsIndex all root level tree → first_unknown known (path pair level tree) ≡ None → has_line (path pair level tree) key ≡ true → IsKnownPresent known key
on_way_present known all root pair level tree key agrees is read h =
    known_present known all key agrees (of_line (IsPresent all) (path pair level tree) key h (way_within (IsPresent all) pair level tree (stands_present all root.area level tree is.stands)))
    (of_line (λ k. is_none (known.line k) ≡ false) (path pair level tree) key h (all_known known (path pair level tree) read))
