-- Lines that are others, because rooms are not present.
use Rattle.std.proofs.Common.{◌≡◌, ℕ, zero, suc, ◌<◌, ◌≤◌, Bool, true, false, cond, List, [], ◌∷◌, map, Option, Some, None, refl, sym, ap, ◌∙◌, arith}
use Rattle.std.specs.Prelude.{is_some}
use Rattle.std.specs.declared.cmp.Ordering.{Ordering}
use Rattle.std.specs.declared.cmp.Ordering.TheVariants.{Less, Equal, Greater}
use Rattle.std.specs.Ordering.{is_eq}
use Rattle.std.specs.List.{AllByRecursion}
use Rattle.rdb_types.specs.declared.keys.Dbkey.{Dbkey}
use Rattle.rdb_types.specs.Order.{dbkey_order}
use Rattle.rdb_types.specs.OrderLaws.{same_dbkey}
use Rattle.index_node.specs.declared.entry.NodeEntry.{NodeEntry}
use Rattle.index_node.specs.declared.node.IndexNode.{IndexNode}
use Rattle.line_view.specs.Knowledge.{Lines, Knowledge, Agrees, line_in}
use Rattle.line_view.specs.declared.writes.Write.{Write}
use Rattle.line_view.proofs.Written.{WriteOn}
use Rattle.sorted_index_laws.specs.Tree.{Tree, node_of, places, Bears, Stands}
use Rattle.sorted_index_laws.specs.Insertion.{room_at}
use Rattle.sorted_index_laws.specs.Inner.Growth.{Among}
use Rattle.sorted_index_laws.proofs.Frame.{IsApart}
use Rattle.sorted_index_laws.proofs.Lines.{AreApart, map_all, flipped}
use Rattle.sorted_index_laws.proofs.Ordered.{StandsBelow, all_append}
use Rattle.sorted_index_laws.proofs.Removed.{PlacesOf}

abbrev apart_from : List Dbkey → Dbkey → Bool
apart_from [] y = true
apart_from (x ∷ xs) y = cond (is_eq (dbkey_order x y)) false (apart_from xs y)

apart_yes : (xs : List Dbkey) (y : Dbkey) → apart_from xs y ≡ true → IsApart y xs
apart_yes [] y h = tt
apart_yes (x ∷ xs) y h = elim (is_eq (dbkey_order x y)) as (λ b. is_eq (dbkey_order x y) ≡ b → cond b false (apart_from xs y) ≡ true → IsApart y (x ∷ xs)) [
  | true ↦ λ is k. absurd (cc)
  | false ↦ λ is k. (is, apart_yes xs y k)
] refl h

apart_no : (xs : List Dbkey) (y : Dbkey) → IsApart y xs → apart_from xs y ≡ true
apart_no [] y h = refl
apart_no (x ∷ xs) y h = ap (λ b. cond b false (apart_from xs y)) h.0 ∙ apart_no xs y h.1

-- the rooms of these numbers are none of these lines
abbrev pub AreOther : Knowledge → ℕ → ℕ → ℕ → List Dbkey → Type 0
AreOther known area from to xs = (n : ℕ) (k : Dbkey) → from ≤ n → n < to → known.room (room_at area n) ≡ Some k → IsApart k xs

pub among_apart : (known : Knowledge) (area from to : ℕ) (old new xs : List Dbkey) → Among known area from to old new → AreApart xs old → AreOther known area from to xs → AreApart xs new
among_apart known area from to old new xs among apart other =
    map_all (λ y. apart_from xs y ≡ true) (λ y. IsApart y xs) (apart_yes xs) new
    (among (apart_from xs) (map_all (λ y. IsApart y xs) (λ y. apart_from xs y ≡ true) (apart_no xs) old apart) (λ n k low high is. apart_no xs k (other n k low high is)))

pub among_one : (known : Knowledge) (area from to : ℕ) (old new : List Dbkey) (x : Dbkey) → Among known area from to old new → IsApart x old → AreOther known area from to (x ∷ []) → IsApart x new
among_one known area from to old new x among apart other =
    (flipped (x ∷ []) new (among_apart known area from to old new (x ∷ []) among (flipped old (x ∷ []) (apart, tt)) other)).0

pub widen : (known : Knowledge) (area from to low high : ℕ) (old new : List Dbkey) → low ≤ from → to ≤ high → Among known area from to old new → Among known area low high old new
widen known area from to low high old new below above among q h rooms = among q h (λ n k l u is. rooms n k (omega (arith, below, l)) (omega (arith, above, u)) is)

pub of_map : (P : Dbkey → Type 0) (writes : List Write) → AllByRecursion P (map (λ w. w.key) writes) → WriteOn P writes
of_map P [] h = tt
of_map P (w ∷ writes) h = (h.0, of_map P writes h.1)

-- ---- lines that are present

abbrev pub IsPresent : Lines → Dbkey → Type 0
IsPresent all k = is_some (line_in k all) ≡ true

bears_some : (image : Option (List ℕ)) (node : IndexNode) → Bears image node → is_some image ≡ true
bears_some None node h = absurd h
bears_some (Some bytes) node h = refl

all_present : (all : Lines) (area level : ℕ) → ((tree : Tree level) → Stands all area level tree → AllByRecursion (IsPresent all) (places level tree)) → (children : List (NodeEntry × Tree level)) → AllByRecursion (StandsBelow all area level) children → AllByRecursion (IsPresent all) (PlacesOf level children)
all_present all area level inner [] h = tt
all_present all area level inner (c ∷ children) h = all_append (IsPresent all) (places level c.1) (PlacesOf level children) (inner c.1 h.0.1) (all_present all area level inner children h.1)

pub stands_present : (all : Lines) (area level : ℕ) (tree : Tree level) → Stands all area level tree → AllByRecursion (IsPresent all) (places level tree)
stands_present all area zero tree is = (bears_some (line_in tree.at all) (node_of zero tree) is.1, tt)
stands_present all area (suc level) tree is = (bears_some (line_in tree.at all) (node_of (suc level) tree) is.1, all_present all area level (stands_present all area level) tree.entries is.2)

pub children_present : (all : Lines) (area level : ℕ) (children : List (NodeEntry × Tree level)) → AllByRecursion (StandsBelow all area level) children → AllByRecursion (IsPresent all) (PlacesOf level children)
children_present all area level children is = all_present all area level (stands_present all area level) children is

pub tied : (o : Ordering) → is_eq o ≡ true → o ≡ Equal
tied Less h = absurd (cc)
tied Equal h = refl
tied Greater h = absurd (cc)

pub free_apart : (all : Lines) (k : Dbkey) (xs : List Dbkey) → line_in k all ≡ None → AllByRecursion (IsPresent all) xs → IsApart k xs
free_apart all k [] free h = tt
free_apart all k (x ∷ xs) free h = (
  elim (is_eq (dbkey_order x k)) as (λ b. is_eq (dbkey_order x k) ≡ b → b ≡ false) [
    | true ↦ λ is. let same : x ≡ k = same_dbkey x k (tied (dbkey_order x k) is) in
        let bad : true ≡ false = sym h.0 ∙ (ap (λ (k : Dbkey). is_some (line_in k all)) same ∙ ap is_some free) in absurd (cc)
    | false ↦ λ is. refl
  ] refl,
  free_apart all k xs free h.1,
)

pub rooms_other : (known : Knowledge) (all : Lines) (area from to : ℕ) (xs : List Dbkey) → Agrees known all → AllByRecursion (IsPresent all) xs → AreOther known area from to xs
rooms_other known all area from to xs agrees h n k low high is = free_apart all k xs (agrees.free (room_at area n) k is) h

-- rooms of different numbers are different lines
pub rooms_apart : (known : Knowledge) (all : Lines) (area m n : ℕ) (a b : Dbkey) → Agrees known all → known.room (room_at area m) ≡ Some a → known.room (room_at area n) ≡ Some b → (m ≡ n → ⊥) → is_eq (dbkey_order a b) ≡ false
rooms_apart known all area m n a b agrees x y other =
    elim (is_eq (dbkey_order a b)) as (λ t. is_eq (dbkey_order a b) ≡ t → t ≡ false) [
      | true ↦ λ is. let same : a ≡ b = same_dbkey a b (tied (dbkey_order a b) is) in
          let room = agrees.apart (room_at area m) (room_at area n) a x (y ∙ ap Some (sym same)) in
          absurd (other (ap (λ r. r.nth) room))
      | false ↦ λ is. refl
    ] refl

pub room_other : (known : Knowledge) (all : Lines) (area m from to : ℕ) (a : Dbkey) → Agrees known all → known.room (room_at area m) ≡ Some a → (m < from) → AreOther known area from to (a ∷ [])
room_other known all area m from to a agrees x below n k low high is = (rooms_apart known all area m n a k agrees x is (λ same. omega (arith, same, below, low)), tt)

pub room_behind : (known : Knowledge) (all : Lines) (area m from to : ℕ) (a : Dbkey) → Agrees known all → known.room (room_at area m) ≡ Some a → (to ≤ m) → AreOther known area from to (a ∷ [])
room_behind known all area m from to a agrees x above n k low high is = (rooms_apart known all area m n a k agrees x is (λ same. omega (arith, same, above, high)), tt)
