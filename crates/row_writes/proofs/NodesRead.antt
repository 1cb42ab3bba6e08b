-- The lines that the work on an index reads are nodes of its tree.
use Rattle.std.proofs.Common.{◌≡◌, ℕ, zero, suc, Bool, true, false, cond, List, [], ◌∷◌, map, Some, subst}
use Rattle.std.specs.Prelude.{is_none}
use Rattle.std.specs.List.{AllByRecursion, flat_map}
use Rattle.std.proofs.lemmas.Option.{none-some, same_Some}
use Rattle.rdb_types.specs.declared.keys.Dbkey.{Dbkey}
use Rattle.index_node.specs.declared.entry.NodeEntry.{NodeEntry}
use Rattle.line_view.specs.Knowledge.{Knowledge}
use Rattle.sorted_index_laws.specs.Keys.{Interval, only}
use Rattle.sorted_index_laws.specs.Tree.{Tree, place, places}
use Rattle.sorted_index_laws.specs.Search.{may_hold, searched, reads_below, reads, first_unknown}
use Rattle.sorted_index_laws.specs.Changes.{has_line, path}
use Rattle.sorted_index_laws.specs.Insertion.{looked_at, lines_read}
use Rattle.sorted_index_laws.proofs.Lines.{map_all, all_front, all_rest}
use Rattle.sorted_index_laws.proofs.Ordered.{all_append}
use Rattle.sorted_index_laws.proofs.Removed.{PlacesOf}
use Rattle.sorted_index_laws.proofs.Erased.{lines_there}
use Rattle.sorted_index_laws.proofs.OnTheWay.{of_line, is_place}

-- ---- searches

abbrev read_below : Interval → (level : ℕ) → List (Tree level) → List Dbkey
read_below s level trees = flat_map (λ child. place level child ∷ reads_below s level child) trees

searched_within : (Q : Dbkey → Type 0) (s : Interval) (level : ℕ) → ((tree : Tree level) → AllByRecursion Q (places level tree) → AllByRecursion Q (reads s level tree)) → (first : Bool) (children : List (NodeEntry × Tree level)) → AllByRecursion Q (PlacesOf level children) → AllByRecursion Q (read_below s level (searched s first children))
searched_within Q s level inner first [] h = tt
searched_within Q s level inner first (child ∷ children) h =
    let rest = searched_within Q s level inner false children (all_rest Q (places level child.1) (PlacesOf level children) h) in
    elim (may_hold s first (child.0 ∷ map (λ c. c.0) children)) as (λ b. AllByRecursion Q (read_below s level (cond b (child.1 ∷ searched s false children) (searched s false children)))) [
      | true ↦ all_append Q (reads s level child.1) (read_below s level (searched s false children)) (inner child.1 (all_front Q (places level child.1) (PlacesOf level children) h)) rest
      | false ↦ rest
    ]

-- what holds of each line of a tree holds of those that a search reads
pub reads_within : (Q : Dbkey → Type 0) (s : Interval) (level : ℕ) (tree : Tree level) → AllByRecursion Q (places level tree) → AllByRecursion Q (reads s level tree)
reads_within Q s zero tree h = (h.0, tt)
reads_within Q s (suc level) tree h = (h.0, searched_within Q s level (reads_within Q s level) true tree.entries h.1)

-- ---- changes

pub path_within : (Q : Dbkey → Type 0) (pair : NodeEntry) (level : ℕ) (tree : Tree level) → AllByRecursion Q (places level tree) → AllByRecursion Q (path pair level tree)
path_within Q pair level tree h =
    map_all (λ k. has_line (path pair level tree) k ≡ true) Q (λ k on. of_line Q (places level tree) k (is_place pair level tree k on) h) (path pair level tree) (lines_there (path pair level tree))

pub read_within : (Q : Dbkey → Type 0) (unique : Bool) (pair : NodeEntry) (level : ℕ) (tree : Tree level) → AllByRecursion Q (places level tree) → AllByRecursion Q (lines_read unique pair level tree)
read_within Q unique pair level tree h =
    all_append Q (looked_at unique pair.key level tree) (path pair level tree)
    (elim unique as (λ b. AllByRecursion Q (looked_at b pair.key level tree)) [ true ↦ reads_within Q (only pair.key) level tree h | false ↦ tt ]) (path_within Q pair level tree h)

-- ---- the first that is lacked

pub first_among : (Q : Dbkey → Type 0) (known : Knowledge) (keys : List Dbkey) (key : Dbkey) → AllByRecursion Q keys → first_unknown known keys ≡ Some key → Q key
first_among Q known [] key all is = absurd (none-some key is)
first_among Q known (k ∷ ks) key all is = elim (is_none (known.line k)) as (λ b. cond b (Some k) (first_unknown known ks) ≡ Some key → Q key) [
  | true ↦ λ h. subst Q (same_Some k key h) all.0
  | false ↦ λ h. first_among Q known ks key all.1 h
] is
