-- The nodes that a pair leaves without entries are erased.
use Rattle.std.proofs.Common.{◌≡◌, ℕ, zero, suc, Bool, true, false, cond, ◌&&◌, List, [], ◌∷◌, ◌++◌, Option, None, refl, sym, ap, subst, ◌∙◌}
use Rattle.std.specs.Prelude.{◌||◌, is_none}
use Rattle.std.specs.Ordering.{is_eq}
use Rattle.std.specs.List.{AllByRecursion}
use Rattle.rdb_types.specs.declared.keys.Dbkey.{Dbkey}
use Rattle.rdb_types.specs.Order.{dbkey_order}
use Rattle.index_node.specs.declared.entry.NodeEntry.{NodeEntry}
use Rattle.line_view.specs.declared.writes.Write.{Write}
use Rattle.sorted_index_laws.specs.Tree.{Tree, place, node_of, places, Bears, is_empty, has_nothing}
use Rattle.sorted_index_laws.specs.Changes.{goes_on, has_line, is_erased, ErasesOthers}
use Rattle.sorted_index_laws.specs.Inner.Removal.{keep, replaced, without, Choose, IsLeft, WroteIn, Wrote}
use Rattle.sorted_index_laws.proofs.Lines.{map_all, all_front, all_rest, equal_eq}
use Rattle.sorted_index_laws.proofs.Ordered.{all_append}
use Rattle.sorted_index_laws.proofs.Without.{same_place, Entries}
use Rattle.sorted_index_laws.proofs.Removed.{PlacesOf}

-- the lines of the writes that erase are of this kind
abbrev ErasedOn : (Dbkey → Type 0) → List Write → Type 0
ErasedOn Q = AllByRecursion (λ w. w.image ≡ None → Q w.key)

-- ---- what holds of the lines that are left and of those that are erased, holds of all

none_below : (Q : Dbkey → Type 0) (level : ℕ) (children : List (NodeEntry × Tree level)) → is_empty children ≡ true → AllByRecursion Q (PlacesOf level children)
none_below Q level [] none = tt
none_below Q level (child ∷ children) none = absurd (cc)

alone : (Q : Dbkey → Type 0) (level : ℕ) (tree : Tree level) → has_nothing level tree ≡ true → Q (place level tree) → AllByRecursion Q (places level tree)
alone Q zero tree none h = (h, tt)
alone Q (suc level) tree none h = (h, none_below Q level tree.entries none)

erased_in : (Q : Dbkey → Type 0) (pair : NodeEntry) (level : ℕ) → ((tree : Tree level) (writes : List Write) → Wrote pair level tree writes → AllByRecursion Q (places level (without pair level tree)) → ErasedOn Q writes → AllByRecursion Q (places level tree))
    → (children : List (NodeEntry × Tree level)) (writes : List Write) → WroteIn pair level (Wrote pair level) children writes → AllByRecursion Q (PlacesOf level (replaced level pair (without pair level) children)) → ErasedOn Q writes → AllByRecursion Q (PlacesOf level children)
erased_in Q pair level inner [] writes wrote left erased = tt
erased_in Q pair level inner (child ∷ children) writes wrote left erased =
    let now = without pair level child.1 in
    let behind = replaced level pair (without pair level) children in
    elim (goes_on pair (Entries level children)) as (λ b. Choose b (WroteIn pair level (Wrote pair level) children writes)
    ((before : List Write) × ((image : Option (List ℕ)) × ((writes ≡ before ++ record { key = place level child.1; image = image } ∷ []) × Wrote pair level child.1 before × IsLeft level (without pair level child.1) image)))
    → AllByRecursion Q (PlacesOf level (cond b (child ∷ behind) (keep level child.0 now children))) → AllByRecursion Q (PlacesOf level (child ∷ children))) [
      | true ↦ λ w h. all_append Q (places level child.1) (PlacesOf level children) (all_front Q (places level child.1) (PlacesOf level behind) h)
          (erased_in Q pair level inner children writes w (all_rest Q (places level child.1) (PlacesOf level behind) h) erased)
      | false ↦ λ w h.
          let last : List Write = record { key = place level child.1; image = w.1.0 } ∷ [] in
          let each : ErasedOn Q (w.0 ++ last) = subst (ErasedOn Q) w.1.1.0 erased in
          let below = all_front (λ (v : Write). v.image ≡ None → Q v.key) w.0 last each in
          let own = (all_rest (λ (v : Write). v.image ≡ None → Q v.key) w.0 last each).0 in
          elim (has_nothing level now) as (λ b. has_nothing level now ≡ b → Choose b (w.1.0 ≡ None) (Bears w.1.0 (node_of level now)) → AllByRecursion Q (PlacesOf level (cond b children ((child.0, now) ∷ children))) → AllByRecursion Q (PlacesOf level (child ∷ children))) [
            | true ↦ λ none gone h. all_append Q (places level child.1) (PlacesOf level children)
                (inner child.1 w.0 w.1.1.1 (alone Q level now none (subst Q (sym (same_place pair level child.1)) (own gone))) below) h
            | false ↦ λ some kept h. all_append Q (places level child.1) (PlacesOf level children)
                (inner child.1 w.0 w.1.1.1 (all_front Q (places level now) (PlacesOf level children) h) below) (all_rest Q (places level now) (PlacesOf level children) h)
          ] refl w.1.1.2 h
    ] wrote left

erased_all : (Q : Dbkey → Type 0) (pair : NodeEntry) (level : ℕ) (tree : Tree level) (writes : List Write) → Wrote pair level tree writes → AllByRecursion Q (places level (without pair level tree)) → ErasedOn Q writes → AllByRecursion Q (places level tree)
erased_all Q pair zero tree writes wrote left erased = left
erased_all Q pair (suc level) tree writes wrote left erased = (left.0, erased_in Q pair level (erased_all Q pair level) tree.entries writes wrote left.1 erased)

-- ---- lists

pub or_left : (a b : Bool) → a ≡ true → (a || b) ≡ true
or_left a b h = ap (λ a. a || b) h

pub or_right : (a b : Bool) → b ≡ true → (a || b) ≡ true
or_right true b h = refl
or_right false b h = h

pub lines_there : (keys : List Dbkey) → AllByRecursion (λ key. has_line keys key ≡ true) keys
lines_there [] = tt
lines_there (k ∷ keys) = (
  or_left (is_eq (dbkey_order k k)) (has_line keys k) (equal_eq k),
  map_all (λ key. has_line keys key ≡ true) (λ key. has_line (k ∷ keys) key ≡ true) (λ key h. or_right (is_eq (dbkey_order k key)) (has_line keys key) h) keys (lines_there keys),
)

erased_there : (writes : List Write) → ErasedOn (λ key. is_erased writes key ≡ true) writes
erased_there [] = tt
erased_there (w ∷ writes) = (
  λ none. or_left (is_eq (dbkey_order w.key w.key) && is_none w.image) (is_erased writes w.key) (ap (λ b. b && is_none w.image) (equal_eq w.key) ∙ ap is_none none),
  map_all (λ v. v.image ≡ None → is_erased writes v.key ≡ true) (λ v. v.image ≡ None → is_erased (w ∷ writes) v.key ≡ true)
      (λ v h none. or_right (is_eq (dbkey_order w.key v.key) && is_none w.image) (is_erased writes v.key) (h none)) writes (erased_there writes),
)

-- ---- the nodes of the index

abbrev IsLeftOrErased : List Dbkey → List Write → Dbkey → Type 0
IsLeftOrErased keys writes key = (has_line keys key || is_erased writes key) ≡ true

pub others_erased : (pair : NodeEntry) (level : ℕ) (tree : Tree level) (writes before : List Write) (key : Dbkey) (image : Option (List ℕ)) → Wrote pair level tree before → writes ≡ before ++ record { key = key; image = image } ∷ [] → ErasesOthers level tree level (without pair level tree) writes
others_erased pair level tree writes before key image wrote is =
    let now = places level (without pair level tree) in
    let last : List Write = record { key = key; image = image } ∷ [] in
    let each : ErasedOn (IsLeftOrErased now writes) writes =
    map_all (λ w. w.image ≡ None → is_erased writes w.key ≡ true) (λ w. w.image ≡ None → IsLeftOrErased now writes w.key) (λ w h none. or_right (has_line now w.key) (is_erased writes w.key) (h none)) writes (erased_there writes) in
    erased_all (IsLeftOrErased now writes) pair level tree before wrote
    (map_all (λ k. has_line now k ≡ true) (IsLeftOrErased now writes) (λ k h. or_left (has_line now k) (is_erased writes k) h) now (lines_there now))
    (all_front (λ (w : Write). w.image ≡ None → IsLeftOrErased now writes w.key) before last (subst (ErasedOn (IsLeftOrErased now writes)) is each))
