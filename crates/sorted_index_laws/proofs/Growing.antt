-- A pair put in below a node, step by step.
use Rattle.std.proofs.Common.{◌≡◌, ◌≢◌, ℕ, zero, suc, ◌+◌, ◌-◌, ◌<◌, ◌≤◌, true, false, cond, List, [], ◌∷◌, ◌++◌, length, map, drop, get_or, Option, Some, None, refl, sym, ap, subst, ◌∙◌, arith, append_assoc, inl, inr}
use Rattle.std.specs.Prelude.{is_none, Result, Ok, Err}
use Rattle.std.specs.Ordering.{is_eq}
use Rattle.std.specs.List.{AllByRecursion, flat_map}
use Rattle.std.proofs.lemmas.Grind.{flat_map-append}
use Rattle.std.proofs.lemmas.List.{append-nil, map-append, length-map}
use Rattle.std.proofs.lemmas.Bool.{cases_lt}
use Rattle.slot_fields.specs.Fields.{size}
use Rattle.rdb_types.specs.declared.keys.Dbkey.{Dbkey}
use Rattle.index_node.specs.declared.entry.NodeEntry.{NodeEntry}
use Rattle.index_node.specs.declared.node.IndexNode.{IndexNode}
use Rattle.index_node.specs.Order.{entry_order}
use Rattle.index_node.specs.Node.{node_fields}
use Rattle.line_view.specs.declared.need.Need.TheVariants.{Line, Area, Room}
use Rattle.line_view.specs.Knowledge.{Lines, Knowledge, Agrees}
use Rattle.line_view.specs.declared.writes.Write.{Write}
use Rattle.line_view.specs.Writes.{laid_all}
use Rattle.line_view.proofs.Written.{laid_in_turn}
use Rattle.sorted_index_laws.specs.Stop.{IndexStop}
use Rattle.line_view.specs.declared.stop.Stop.TheVariants.{Missing, Own, Bad, NoMemory}
use Rattle.sorted_index_laws.specs.Tree.{Tree, place, node_of, pairs, places, Bears, AreParted, Stands, IsFilled}
use Rattle.sorted_index_laws.specs.Search.{first_unknown}
use Rattle.sorted_index_laws.specs.Changes.{goes_on, chosen, with_pair, path_below}
use Rattle.sorted_index_laws.specs.Inner.Steps.{IsKnownAs, ReadsNode, child_place}
use Rattle.sorted_index_laws.specs.Insertion.{IsNew, IsFull, room_at, AreTaken}
use Rattle.sorted_index_laws.specs.Inner.Growth.{IsHalved, IsKept, bound, unbound, lowered, is_up_to_own, with_new, Among, StandBelow, places_below, Grows, PutsIn, WritesOne, WritesTwo, WritesChild}
use Rattle.sorted_index_laws.specs.Inner.Growth.IsKept.{whole, lower, upper}
use Rattle.sorted_index_laws.proofs.Walk.{known_as, level_of, bears}
use Rattle.sorted_index_laws.proofs.Below.{past_known}
use Rattle.sorted_index_laws.proofs.Frame.{IsApart}
use Rattle.sorted_index_laws.proofs.Lines.{Distinct, none_distinct, all_front, all_rest, parts, head_apart, tail_distinct, distinct_more, keys_of, written_more, one_distinct, other_way}
use Rattle.sorted_index_laws.proofs.Ordered.{Lt, UpTo, Ascend, StandsBelow, all_append}
use Rattle.sorted_index_laws.proofs.Without.{AllPairs, Entries}
use Rattle.sorted_index_laws.proofs.Removed.{PlacesOf}
use Rattle.sorted_index_laws.proofs.Filled.{put_some}
use Rattle.sorted_index_laws.proofs.After.{area_of}
use Rattle.sorted_index_laws.proofs.TakenOut.{level_is, read_as}
use Rattle.sorted_index_laws.proofs.Put.{with_new_is, all_put}
use Rattle.sorted_index_laws.proofs.Apart.{among_one, IsPresent, stands_present, children_present, rooms_other, room_behind, free_apart}
use Rattle.sorted_index_laws.proofs.Exchange.{Unless, IsWay, way, IsExchange, HasChildren, exchanged, parted_rest, below_next, pair_below_next, own_upto, le_upto}
use Rattle.sorted_index_laws.proofs.Between.{first_of, two_entries}
use Rattle.sorted_index_laws.proofs.Halves.{HasHalves, halves, nothing_between, places_are, stand_written, stand_both, places_both}

abbrev pub HasPut : Knowledge → ℕ → NodeEntry → IndexNode → ℕ → ℕ → List Write → List Write → Result IndexNode IndexStop → Type 0
HasPut known area pair node from to old new result = (all : Lines) (level : ℕ) (tree : Tree level) → Agrees known all → StandBelow all area level tree → Distinct (places_below level tree) → node_of level tree ≡ node → IsNew pair (pairs level tree) → PutsIn known all area pair level tree from to old new result

pub none_taken : (known : Knowledge) (area from : ℕ) → AreTaken known area from from
none_taken known area from n low high = absurd (omega (arith, low, high))

-- ---- a leaf

pub leaf_put : (known : Knowledge) (area : ℕ) (pair : NodeEntry) (node : IndexNode) (entries : List NodeEntry) (from : ℕ) (old : List Write) → node.level ≡ 0 → entries ≡ with_new pair node.entries → HasPut known area pair node from from old old (Ok (record { level = node.level; entries = entries }))
leaf_put known area pair node entries from old leaf same all zero tree agrees stand once is new =
    let put : with_pair pair tree.entries ≡ entries = sym (same ∙ (ap (λ (n : IndexNode). with_new pair n.entries) (sym is) ∙ with_new_is pair tree.entries new)) in
    let node_is : node_of zero (record { at = tree.at; entries = with_pair pair tree.entries }) ≡ record { level = node.level; entries = entries } = λ i. record { level = level_is node zero tree is i; entries = put i } in (
      record {
        after = record { at = tree.at; entries = with_pair pair tree.entries };
        counted = omega arith;
        node = node_is;
        same = refl;
        with_it = refl;
        writes = [];
        behind = sym (append-nil old);
        below = tt;
        once = none_distinct;
        places = λ q h rooms. tt;
        written = λ q h rooms. tt;
        on_way = λ q h rooms. tt;
        written_once = none_distinct;
        rooms_full = λ more. absurd (omega (arith, more));
        full = λ long. subst (λ (n : IndexNode). 430 < size (node_fields n)) (sym node_is) long;
        filled = λ h. tt;
      },
      refl,
      none_taken known area from,
    )
leaf_put known area pair node entries from old leaf same all (suc level) tree agrees stand once is new = let up = level_is node (suc level) tree is in absurd (omega (arith, up, leaf))

-- ---- what is left of a child

-- a tree with the pair, of this node, before it is written
pub record Stays (known : Knowledge) (all : Lines) (area from to : ℕ) (pair : NodeEntry) (level : ℕ) (child : Tree level) (writes : List Write) (node : IndexNode) : Type 0 where
  pub tree : Tree level
  pub node_is : node_of level tree ≡ node
  pub same : place level tree ≡ place level child
  pub with_it : pairs level tree ≡ with_pair pair (pairs level child)
  pub below : StandBelow (laid_all writes all) area level tree
  pub once : Distinct (places_below level tree)
  pub places : Among known area from to (places_below level child) (places_below level tree)
  pub filled : IsFilled level child → IsFilled level tree

pub stays_whole : (known : Knowledge) (all : Lines) (area from to : ℕ) (pair : NodeEntry) (level : ℕ) (child : Tree level) (old new : List Write) (grown left : IndexNode) → (g : Grows known all area pair level child from to old new grown) → left ≡ grown → Stays known all area from to pair level child g.writes left
stays_whole known all area from to pair level child old new grown left g is = record { tree = g.after; node_is = g.node ∙ sym is; same = g.same; with_it = g.with_it; below = g.below; once = g.once; places = g.places; filled = g.filled }

-- its halves
pub halves_of : (known : Knowledge) (all : Lines) (area from to : ℕ) (pair : NodeEntry) (level : ℕ) (child : Tree level) (old new : List Write) (grown low_node high_node : IndexNode) (low high : NodeEntry) (at room : Dbkey) → (g : Grows known all area pair level child from to old new grown) → IsHalved grown low_node high_node low high → Ascend grown.entries
    → HasHalves (laid_all g.writes all) area level g.after low_node.entries high_node.entries high at room
halves_of known all area from to pair level child old new grown low_node high_node low high at room g h ascend =
    halves (laid_all g.writes all) area level g.after low_node.entries high_node.entries low high h.lows.0 h.highs.0 at room (ap (λ (n : IndexNode). n.entries) g.node ∙ h.entries) h.lows.1 h.highs.1 (subst Ascend h.entries ascend) g.below

pub level_grown : (known : Knowledge) (all : Lines) (area from to : ℕ) (pair : NodeEntry) (level : ℕ) (child : Tree level) (old new : List Write) (grown : IndexNode) → Grows known all area pair level child from to old new grown → level ≡ grown.level
level_grown known all area from to pair level child old new grown g = sym (level_of level g.after) ∙ ap (λ (n : IndexNode). n.level) g.node

nothing_more : (xs ys : List NodeEntry) → ys ≡ [] → xs ++ ys ≡ xs
nothing_more xs ys is = ap (λ l. xs ++ l) is ∙ append-nil xs

pub stays_lower : (known : Knowledge) (all : Lines) (area from to : ℕ) (pair : NodeEntry) (level : ℕ) (child : Tree level) (old new : List Write) (grown left other : IndexNode) (low high next : NodeEntry) → (g : Grows known all area pair level child from to old new grown) → IsHalved grown left other low high → Ascend grown.entries
    → AllByRecursion (λ p. Lt p next) (with_pair pair (pairs level child)) → UpTo next high → Stays known all area from to pair level child g.writes left
stays_lower known all area from to pair level child old new grown left other low high next g h ascend below past =
    let x = halves_of known all area from to pair level child old new grown left other low high (place level child) (place level child) g h ascend in
    let all_below = subst (AllByRecursion (λ p. Lt p next)) (sym g.with_it ∙ x.all_pairs) below in
    let none = nothing_between high next (pairs level x.upper) x.highs (all_rest (λ p. Lt p next) (pairs level x.lower) (pairs level x.upper) all_below) past in
    let l = places_below level x.lower in
    let u = places_below level x.upper in
    record {
      tree = x.lower;
      node_is = x.lower_node ∙ (λ i. record { level = (level_grown known all area from to pair level child old new grown g ∙ sym h.lower_level) i; entries = left.entries });
      same = x.lower_at;
      with_it = sym (sym g.with_it ∙ (x.all_pairs ∙ nothing_more (pairs level x.lower) (pairs level x.upper) none));
      below = x.lower_below;
      once = (parts l u (subst Distinct x.all_places g.once)).front;
      places = λ q k rooms. all_front (λ y. q y ≡ true) l u (subst (AllByRecursion (λ y. q y ≡ true)) x.all_places (g.places q k rooms));
      filled = λ h. (x.filled (g.filled h)).0.1;
    }

pub stays_upper : (known : Knowledge) (all : Lines) (area from to : ℕ) (pair : NodeEntry) (level : ℕ) (child : Tree level) (old new : List Write) (grown left other : IndexNode) (low high own : NodeEntry) → (g : Grows known all area pair level child from to old new grown) → IsHalved grown other left low high → Ascend grown.entries
    → AllByRecursion (UpTo own) (with_pair pair (pairs level child)) → UpTo high own → Stays known all area from to pair level child g.writes left
stays_upper known all area from to pair level child old new grown left other low high own g h ascend above past =
    let x = halves_of known all area from to pair level child old new grown other left low high (place level child) (place level child) g h ascend in
    let all_above = subst (AllByRecursion (UpTo own)) (sym g.with_it ∙ x.all_pairs) above in
    let none = nothing_between own high (pairs level x.lower) (all_front (UpTo own) (pairs level x.lower) (pairs level x.upper) all_above) x.lows past in
    let l = places_below level x.lower in
    let u = places_below level x.upper in
    record {
      tree = x.upper;
      node_is = x.upper_node ∙ (λ i. record { level = (level_grown known all area from to pair level child old new grown g ∙ sym h.upper_level) i; entries = left.entries });
      same = x.upper_at;
      with_it = sym (sym g.with_it ∙ (x.all_pairs ∙ ap (λ (ps : List NodeEntry). ps ++ pairs level x.upper) none));
      below = x.upper_below;
      once = (parts l u (subst Distinct x.all_places g.once)).rest;
      places = λ q k rooms. all_rest (λ y. q y ≡ true) l u (subst (AllByRecursion (λ y. q y ≡ true)) x.all_places (g.places q k rooms));
      filled = λ h. (x.filled (g.filled h)).1.1;
    }

-- ---- the children behind a change

unless_any : {X : Type 0} (xs : List X) (P : Type 0) → P → Unless xs P
unless_any [] P h = tt
unless_any (x ∷ xs) P h = h

pub own_first : (Q : Dbkey → Type 0) (level : ℕ) (tree : Tree level) → AllByRecursion Q (places level tree) → Q (place level tree) × AllByRecursion Q (places_below level tree)
own_first Q zero tree h = (h.0, tt)
own_first Q (suc level) tree h = (h.0, h.1)

pub own_then : (Q : Dbkey → Type 0) (level : ℕ) (tree : Tree level) → Q (place level tree) → AllByRecursion Q (places_below level tree) → AllByRecursion Q (places level tree)
own_then Q zero tree h k = (h, tt)
own_then Q (suc level) tree h k = (h, k)

pub keys_more : (Q : Dbkey → Type 0) (writes more : List Write) → AllByRecursion Q (map (λ w. w.key) writes) → AllByRecursion Q (map (λ w. w.key) more) → AllByRecursion Q (map (λ w. w.key) (writes ++ more))
keys_more Q writes more h k = subst (AllByRecursion Q) (sym (map-append (λ (w : Write). w.key) writes more)) (all_append Q (map (λ (w : Write). w.key) writes) (map (λ (w : Write). w.key) more) h k)

-- a line of the tree is none of those below it, also with the pair
pub own_apart : (known : Knowledge) (all : Lines) (area from to level : ℕ) (child : Tree level) (after : List Dbkey) → Agrees known all → Stands all area level child → Distinct (places level child) → Among known area from to (places_below level child) after → IsApart (place level child) after
own_apart known all area from to level child after agrees stands once among =
    among_one known area from to (places_below level child) after (place level child) among (head_apart (place level child) (places_below level child) (subst Distinct (places_are level child) once))
    (rooms_other known all area from to (place level child ∷ []) agrees ((own_first (IsPresent all) level child (stands_present all area level child stands)).0, tt))

-- a room is none of the lines below a tree
pub room_apart : (known : Knowledge) (all : Lines) (area from to level : ℕ) (child : Tree level) (after : List Dbkey) (room : Dbkey) → Agrees known all → Stands all area level child → known.room (room_at area to) ≡ Some room → Among known area from to (places_below level child) after → IsApart room after
room_apart known all area from to level child after room agrees stands is among =
    among_one known area from to (places_below level child) after room among
    (free_apart all room (places_below level child) (agrees.free (room_at area to) room is) (own_first (IsPresent all) level child (stands_present all area level child stands)).1)
    (room_behind known all area to from to room agrees is (omega arith))

one_exchange : (known : Knowledge) (all : Lines) (area from to : ℕ) (pair : NodeEntry) (level : ℕ) (before : List (NodeEntry × Tree level)) (child : NodeEntry × Tree level) (writes : List Write) (node : IndexNode) (image : Option (List ℕ)) → (s : Stays known all area from to pair level child.1 writes node) → Agrees known all → StandsBelow all area level child → Distinct (places level child.1) → Bears image node
    → Among known area from to (places_below level child.1) (map (λ w. w.key) writes) → Distinct (map (λ w. w.key) writes) → IsExchange known all area from to pair level before child (child.0, s.tree) [] (writes ++ record { key = place level child.1; image = image } ∷ [])
one_exchange known all area from to pair level before child writes node image s agrees stands once is written written_once =
    let at = place level child.1 in
    let apart = own_apart known all area from to level child.1 (places_below level s.tree) agrees stands.1 once s.places in
    let here = stand_written (laid_all writes all) at image area level s.tree s.same (area_of all area level child.1 stands.1) (subst (Bears image) (sym s.node_is) is) apart s.below in
    let distinct : Distinct (places level s.tree) = subst Distinct (sym (places_are level s.tree)) (distinct_more (place level s.tree) (places_below level s.tree) (subst (λ (k : Dbkey). IsApart k (places_below level s.tree)) (sym s.same) apart) s.once) in
    record {
      stand = ((stands.0 ∙ ap Some (sym s.same), subst (λ ls. Stands ls area level s.tree) (sym (laid_in_turn writes (record { key = at; image = image } ∷ []) all)) here), tt);
      parted = (tt, tt);
      once = subst Distinct (sym (append-nil (places level s.tree))) distinct;
      among = λ q h rooms. let own = own_first (λ k. q k ≡ true) level child.1 h in
          all_append (λ k. q k ≡ true) (places level s.tree) [] (own_then (λ k. q k ≡ true) level s.tree (subst (λ (k : Dbkey). q k ≡ true) (sym s.same) own.0) (s.places q own.1 rooms)) tt;
      written = λ q h rooms. let own = own_first (λ k. q k ≡ true) level child.1 h in keys_more (λ k. q k ≡ true) writes (record { key = at; image = image } ∷ []) (written q own.1 rooms) (own.0, tt);
      written_once = written_more writes (record { key = at; image = image } ∷ []) written_once (one_distinct at) (own_apart known all area from to level child.1 (keys_of writes) agrees stands.1 once written, tt);
      with_it = append-nil (pairs level s.tree) ∙ s.with_it;
      head = unless_any before (child.0 ≡ child.0) refl;
      filled = λ h. ((put_some pair level s.tree (pairs level child.1) s.with_it, s.filled h), tt);
    }

two_exchange : (known : Knowledge) (all : Lines) (area from to : ℕ) (pair : NodeEntry) (level : ℕ) (before : List (NodeEntry × Tree level)) (child : NodeEntry × Tree level) (own : NodeEntry) (old new : List Write) (grown low_node high_node : IndexNode) (low high : NodeEntry) (room : Dbkey) (image other : Option (List ℕ)) → (g : Grows known all area pair level child.1 from to old new grown)
    → (x : HasHalves (laid_all g.writes all) area level g.after low_node.entries high_node.entries high (place level child.1) room) → Agrees known all → StandsBelow all area level child → Distinct (places level child.1) → known.room (room_at area to) ≡ Some room → low_node.level ≡ level → high_node.level ≡ level → Bears image low_node → Bears other high_node
    → own.child ≡ Some (place level child.1) → Unless before (own ≡ child.0) → IsExchange known all area from (to + 1) pair level before child (own, x.lower) ((bound high room, x.upper) ∷ []) (g.writes ++ record { key = place level child.1; image = image } ∷ record { key = room; image = other } ∷ [])
two_exchange known all area from to pair level before child own old new grown low_node high_node low high room image other g x agrees stands once is_room low_level high_level is_image other_image named head =
    let at = place level child.1 in
    let more : List Write = record { key = at; image = image } ∷ record { key = room; image = other } ∷ [] in
    let at_apart = own_apart known all area from to level child.1 (places_below level g.after) agrees stands.1 once g.places in
    let room_out = room_apart known all area from to level child.1 (places_below level g.after) room agrees stands.1 is_room g.places in
    let present = own_first (IsPresent all) level child.1 (stands_present all area level child.1 stands.1) in
    let apart = (free_apart all room (at ∷ []) (agrees.free (room_at area to) room is_room) (present.0, tt)).0 in
    let both = stand_both (laid_all g.writes all) area level g.after low_node.entries high_node.entries own high at room image other x named (area_of all area level child.1 stands.1) (agrees.within (room_at area to) room is_room)
    (subst (Bears image) (λ i. record { level = low_level i; entries = low_node.entries }) is_image) (subst (Bears other) (λ i. record { level = high_level i; entries = high_node.entries }) other_image) apart at_apart room_out g.once in
    record {
      stand = subst (λ ls. AllByRecursion (StandsBelow ls area level) ((own, x.lower) ∷ (bound high room, x.upper) ∷ [])) (sym (laid_in_turn g.writes more all)) both.stand;
      parted = both.parted;
      once = both.once;
      among = λ q h rooms. let o = own_first (λ k. q k ≡ true) level child.1 h in
          places_both (λ k. q k ≡ true) (laid_all g.writes all) area level g.after low_node.entries high_node.entries own high at room x o.0 (rooms to room g.counted (omega arith) is_room) (g.places q o.1 (λ n k a b c. rooms n k a (omega (arith, b)) c));
      written = λ q h rooms. let o = own_first (λ k. q k ≡ true) level child.1 h in
          keys_more (λ k. q k ≡ true) g.writes more (g.written q o.1 (λ n k a b c. rooms n k a (omega (arith, b)) c)) (o.0, (rooms to room g.counted (omega arith) is_room, tt));
      written_once = written_more g.writes more g.written_once (distinct_more at (room ∷ []) (other_way room at ∙ apart, tt) (one_distinct room))
          (own_apart known all area from to level child.1 (keys_of g.writes) agrees stands.1 once g.written, (room_apart known all area from to level child.1 (keys_of g.writes) room agrees stands.1 is_room g.written, tt));
      with_it = both.pairs ∙ g.with_it;
      head = head;
      filled = λ h. let halves_filled = x.filled (g.filled h) in (halves_filled.0, (halves_filled.1, tt));
    }

-- ---- the child on the way

record IsInto (all : Lines) (area : ℕ) (pair : NodeEntry) (node : IndexNode) (level : ℕ) (tree : Tree (suc level)) (at : ℕ) (key : Dbkey) (before : List (NodeEntry × Tree level)) (child : NodeEntry × Tree level) (behind : List (NodeEntry × Tree level)) : Type 0 where
  pub way : IsWay pair level tree.entries at before child behind
  pub entries : node.entries ≡ Entries level before ++ child.0 ∷ Entries level behind
  pub long : length (Entries level before) ≡ at
  pub named : key ≡ place level child.1
  pub path : path_below pair (suc level) tree ≡ place level child.1 ∷ path_below pair level child.1
  pub stands : StandsBelow all area level child

abbrev HasInto : Lines → ℕ → NodeEntry → IndexNode → (level : ℕ) → Tree (suc level) → ℕ → Dbkey → Type 0
HasInto all area pair node level tree at key = (before : List (NodeEntry × Tree level)) × (child : NodeEntry × Tree level) × (behind : List (NodeEntry × Tree level)) × IsInto all area pair node level tree at key before child behind

abbrev pick : Dbkey → Option Dbkey → Dbkey
pick d None = d
pick d (Some k) = k

some_way : (pair : NodeEntry) (level : ℕ) (children : List (NodeEntry × Tree level)) → 0 < length (Entries level children) → (before : List (NodeEntry × Tree level)) × (child : NodeEntry × Tree level) × (behind : List (NodeEntry × Tree level)) × IsWay pair level children (child_place pair (Entries level children)) before child behind
some_way pair level [] some = absurd (omega (arith, some))
some_way pair level (c ∷ children) some = way pair level c children

get_middle : (xs : List NodeEntry) (y : NodeEntry) (ys : List NodeEntry) (d : NodeEntry) → get_or (xs ++ y ∷ ys) (length xs) d ≡ y
get_middle [] y ys d = refl
get_middle (x ∷ xs) y ys d = get_middle xs y ys d

into : (all : Lines) (area : ℕ) (pair : NodeEntry) (node : IndexNode) (at : ℕ) (key : Dbkey) → at ≡ child_place pair node.entries → at < length node.entries → ((d : NodeEntry) → (get_or node.entries at d).child ≡ Some key)
    → (level : ℕ) (tree : Tree (suc level)) → StandBelow all area (suc level) tree → node_of (suc level) tree ≡ node → HasInto all area pair node level tree at key
into all area pair node at key at_is within some level tree stand is =
    let entries : Entries level tree.entries ≡ node.entries = ap (λ (n : IndexNode). n.entries) is in
    let long : length (Entries level tree.entries) ≡ length node.entries = ap length entries in
    let found = some_way pair level tree.entries (omega (arith, within, long)) in
    let before = found.0 in
    let child = found.1 in
    let behind = found.2 in
    let here : child_place pair (Entries level tree.entries) ≡ at = ap (child_place pair) entries ∙ sym at_is in
    let w = subst (λ (k : ℕ). IsWay pair level tree.entries k before child behind) here found.3 in
    let split : node.entries ≡ Entries level before ++ child.0 ∷ Entries level behind = sym entries ∙ (ap (Entries level) w.is ∙ map-append (λ (c : NodeEntry × Tree level). c.0) before (child ∷ behind)) in
    let place_is : length (Entries level before) ≡ at = length-map before (λ (c : NodeEntry × Tree level). c.0) ∙ w.long in
    let stands = (all_rest (StandsBelow all area level) before (child ∷ behind) (subst (AllByRecursion (StandsBelow all area level)) w.is stand.0)).0 in
    let it : get_or node.entries at child.0 ≡ child.0 = ap (λ (es : List NodeEntry). get_or es at child.0) split ∙ (ap (λ (k : ℕ). get_or (Entries level before ++ child.0 ∷ Entries level behind) k child.0) (sym place_is) ∙ get_middle (Entries level before) child.0 (Entries level behind) child.0) in (
      before,
      child,
      behind,
      record {
        way = w;
        entries = split;
        long = place_is;
        named = ap (pick key) (sym (some child.0) ∙ (ap (λ (e : NodeEntry). e.child) it ∙ stands.0));
        path = ap (flat_map (λ (c : Tree level). place level c ∷ path_below pair level c)) w.one ∙ append-nil (place level child.1 ∷ path_below pair level child.1);
        stands = stands;
      },
    )

new_below : (pair : NodeEntry) (level : ℕ) (before : List (NodeEntry × Tree level)) (child : NodeEntry × Tree level) (behind : List (NodeEntry × Tree level)) → IsNew pair (AllPairs level (before ++ child ∷ behind)) → IsNew pair (pairs level child.1)
new_below pair level before child behind new =
    let own : IsNew pair (pairs level child.1 ++ AllPairs level behind) = all_rest (λ p. is_eq (entry_order p pair) ≡ false) (AllPairs level before) (pairs level child.1 ++ AllPairs level behind)
    (subst (IsNew pair) (flat_map-append (λ (c : NodeEntry × Tree level). pairs level c.1) before (child ∷ behind)) new) in
    all_front (λ p. is_eq (entry_order p pair) ≡ false) (pairs level child.1) (AllPairs level behind) own

pub stands_inner : (all : Lines) (area level : ℕ) (tree : Tree level) → Stands all area level tree → StandBelow all area level tree
stands_inner all area zero tree is = tt
stands_inner all area (suc level) tree is = (is.2, is.3)

pub inner_distinct : (level : ℕ) (tree : Tree level) → Distinct (places level tree) → Distinct (places_below level tree)
inner_distinct level tree h = tail_distinct (place level tree) (places_below level tree) (subst Distinct (places_are level tree) h)

-- ---- where it stops

unknown_there : (known : Knowledge) (key : Dbkey) (keys : List Dbkey) → known.line key ≡ None → first_unknown known (key ∷ keys) ≡ Some key
unknown_there known key keys none = ap (λ (o : Option (Option (List ℕ))). cond (is_none o) (Some key) (first_unknown known keys)) none

-- a child that stands is missed only where it isn't known
missed : (known : Knowledge) (all : Lines) (area : ℕ) (pair : NodeEntry) (level : ℕ) (tree : Tree (suc level)) (child : Tree level) (from to : ℕ) (old new : List Write) (below_level : ℕ) (e : IndexStop) → Agrees known all → Stands all area level child → path_below pair (suc level) tree ≡ place level child ∷ path_below pair level child → level ≡ below_level
    → ReadsNode known (place level child) (λ below. below.level ≡ below_level) (Err e) → PutsIn known all area pair (suc level) tree from to old new (Err e)
missed known all area pair level tree child from to old new below_level (Missing need) agrees stands path same reading =
    subst (λ n. PutsIn known all area pair (suc level) tree from to old new (Err (Missing n))) (sym reading.0) (ap (first_unknown known) path ∙ unknown_there known (place level child) (path_below pair level child) reading.1)
missed known all area pair level tree child from to old new below_level (Own duplicate) agrees stands path same reading = reading
missed known all area pair level tree child from to old new below_level (Bad key) agrees stands path same reading =
    reading.2 (node_of level child) (known_as known all (place level child) (node_of level child) agrees reading.1 (bears all area level child stands)) (level_of level child ∙ same)
missed known all area pair level tree child from to old new below_level NoMemory agrees stands path same reading = tt

pub child_missed : (known : Knowledge) (area : ℕ) (pair : NodeEntry) (node : IndexNode) (at below_level : ℕ) (key : Dbkey) (from : ℕ) (old : List Write) (e : IndexStop) → node.level ≢ 0 → below_level ≡ node.level - 1 → at ≡ child_place pair node.entries → at < length node.entries → ((d : NodeEntry) → (get_or node.entries at d).child ≡ Some key)
    → ReadsNode known key (λ below. below.level ≡ below_level) (Err e) → HasPut known area pair node from from old old (Err e)
child_missed known area pair node at below_level key from old e inner down at_is within some reading all zero tree agrees stand once is new = absurd (inner (sym (level_is node zero tree is)))
child_missed known area pair node at below_level key from old e inner down at_is within some reading all (suc level) tree agrees stand once is new =
    let t = into all area pair node at key at_is within some level tree stand is in
    let up = level_is node (suc level) tree is in
    let one_less : level ≡ below_level = omega (arith, up, down) in
    missed known all area pair level tree t.1.1 from from old old below_level e agrees t.3.stands.1 t.3.path one_less (subst (λ (k : Dbkey). ReadsNode known k (λ below. below.level ≡ below_level) (Err e)) t.3.named reading)

-- what is full below the chosen child is full
full_up : (pair : NodeEntry) (level : ℕ) (tree : Tree (suc level)) (child : Tree level) → chosen pair tree.entries ≡ child ∷ [] → IsFull pair level child → IsFull pair (suc level) tree
full_up pair level tree child one full = subst (AllByRecursion (IsFull pair level)) (sym one) (full, tt)

stopped : (known : Knowledge) (all : Lines) (area : ℕ) (pair : NodeEntry) (level : ℕ) (tree : Tree (suc level)) (child : Tree level) (from to : ℕ) (old new : List Write) (e : IndexStop) → path_below pair (suc level) tree ≡ place level child ∷ path_below pair level child → chosen pair tree.entries ≡ child ∷ [] → is_none (known.line (place level child)) ≡ false
    → PutsIn known all area pair level child from to old new (Err e) → PutsIn known all area pair (suc level) tree from to old new (Err e)
stopped known all area pair level tree child from to old new (Missing (Line key)) path one some h = ap (first_unknown known) path ∙ (past_known known (place level child) (path_below pair level child) some ∙ h)
stopped known all area pair level tree child from to old new (Missing (Area a)) path one some h = h
stopped known all area pair level tree child from to old new (Missing (Room room)) path one some h = (h.0, ap (first_unknown known) path ∙ (past_known known (place level child) (path_below pair level child) some ∙ h.1), full_up pair level tree child one h.2)
stopped known all area pair level tree child from to old new (Own duplicate) path one some h = h
stopped known all area pair level tree child from to old new (Bad key) path one some h = h
stopped known all area pair level tree child from to old new NoMemory path one some h = tt

-- what was put in below the child
put_there : (known : Knowledge) (area : ℕ) (pair : NodeEntry) (node : IndexNode) (at : ℕ) (key : Dbkey) (below : IndexNode) (from to : ℕ) (old new : List Write) (result : Result IndexNode IndexStop) (all : Lines) (level : ℕ) (tree : Tree (suc level)) → Agrees known all → Distinct (places_below (suc level) tree) → IsNew pair (pairs (suc level) tree)
    → IsKnownAs (known.line key) below → HasPut known area pair below from to old new result → (t : HasInto all area pair node level tree at key) → PutsIn known all area pair level t.1.1 from to old new result × (is_none (known.line (place level t.1.1)) ≡ false) × Distinct (places level t.1.1)
put_there known area pair node at key below from to old new result all level tree agrees once is_new known_as_below put t =
    let before = t.0 in
    let child = t.1 in
    let behind = t.2 in
    let r = read_as known all area level child.1 key below agrees t.3.stands.1 t.3.named known_as_below in
    let distinct = (parts (places level child.1) (PlacesOf level behind) (parts (PlacesOf level before) (places level child.1 ++ PlacesOf level behind)
    (subst Distinct (ap (PlacesOf level) t.3.way.is ∙ flat_map-append (λ (c : NodeEntry × Tree level). places level c.1) before (child ∷ behind)) once)).rest).front in
    let new_here = new_below pair level before child behind (subst (λ (cs : List (NodeEntry × Tree level)). IsNew pair (AllPairs level cs)) t.3.way.is is_new) in
    (put all level child.1 agrees (stands_inner all area level child.1 t.3.stands.1) (inner_distinct level child.1 distinct) r.0 new_here, r.1, distinct)

pub child_stopped : (known : Knowledge) (area : ℕ) (pair : NodeEntry) (node : IndexNode) (at : ℕ) (key : Dbkey) (below : IndexNode) (from to : ℕ) (old new : List Write) (e : IndexStop) → node.level ≢ 0 → at ≡ child_place pair node.entries → at < length node.entries → ((d : NodeEntry) → (get_or node.entries at d).child ≡ Some key)
    → IsKnownAs (known.line key) below → HasPut known area pair below from to old new (Err e) → HasPut known area pair node from to old new (Err e)
child_stopped known area pair node at key below from to old new e inner at_is within some known_as_below put all zero tree agrees stand once is is_new = absurd (inner (sym (level_is node zero tree is)))
child_stopped known area pair node at key below from to old new e inner at_is within some known_as_below put all (suc level) tree agrees stand once is is_new =
    let t = into all area pair node at key at_is within some level tree stand is in
    let p = put_there known area pair node at key below from to old new (Err e) all level tree agrees once is_new known_as_below put t in
    stopped known all area pair level tree t.1.1 from to old new e t.3.path t.3.way.one p.1 p.0

pub taken_more : (known : Knowledge) (area from mid to : ℕ) → AreTaken known area from mid → AreTaken known area mid to → AreTaken known area from to
taken_more known area from mid to first second n low high none = elim (cases_lt n mid) [ inl down ↦ first n low down none | inr up ↦ second n up high none ]

pub taken_one : (known : Knowledge) (area from to : ℕ) (room : Dbkey) → known.room (room_at area to) ≡ Some room → AreTaken known area from to → AreTaken known area from (to + 1)
taken_one known area from to room is taken n low high none = elim (cases_lt n to) [
  | inl down ↦ taken n low down none
  | inr up ↦ let same : n ≡ to = omega (arith, up, high) in let bad : Some room ≡ None = sym is ∙ (ap (λ (k : ℕ). known.room (room_at area k)) (sym same) ∙ none) in cc
]

-- no room, or no memory, for the child's lines
room_lacked : (known : Knowledge) (all : Lines) (area : ℕ) (pair : NodeEntry) (level : ℕ) (tree : Tree (suc level)) (child : Tree level) (from mid to : ℕ) (old new between : List Write) (entries : List NodeEntry) (at : ℕ) (key : Dbkey) (grown : IndexNode) (e : IndexStop) → path_below pair (suc level) tree ≡ place level child ∷ path_below pair level child → chosen pair tree.entries ≡ child ∷ [] → is_none (known.line (place level child)) ≡ false
    → PutsIn known all area pair level child from mid old between (Ok grown) → WritesChild known area entries at key grown mid to between new (Err e) → PutsIn known all area pair (suc level) tree from to old new (Err e)
room_lacked known all area pair level tree child from mid to old new between entries at key grown (Missing (Line k)) path one some put wrote = absurd wrote
room_lacked known all area pair level tree child from mid to old new between entries at key grown (Missing (Area a)) path one some put wrote = wrote
room_lacked known all area pair level tree child from mid to old new between entries at key grown (Missing (Room room)) path one some put wrote =
    ((mid, put.0.counted, wrote.0, wrote.1, put.2), ap (first_unknown known) path ∙ (past_known known (place level child) (path_below pair level child) some ∙ put.1), full_up pair level tree child one (put.0.full wrote.2))
room_lacked known all area pair level tree child from mid to old new between entries at key grown (Own duplicate) path one some put wrote = wrote
room_lacked known all area pair level tree child from mid to old new between entries at key grown (Bad k) path one some put wrote = wrote
room_lacked known all area pair level tree child from mid to old new between entries at key grown NoMemory path one some put wrote = tt

pub child_unwritten : (known : Knowledge) (area : ℕ) (pair : NodeEntry) (node : IndexNode) (at : ℕ) (key : Dbkey) (below grown : IndexNode) (from mid to : ℕ) (old between new : List Write) (e : IndexStop) → node.level ≢ 0 → at ≡ child_place pair node.entries → at < length node.entries → ((d : NodeEntry) → (get_or node.entries at d).child ≡ Some key)
    → IsKnownAs (known.line key) below → HasPut known area pair below from mid old between (Ok grown) → WritesChild known area node.entries at key grown mid to between new (Err e) → HasPut known area pair node from to old new (Err e)
child_unwritten known area pair node at key below grown from mid to old between new e inner at_is within some known_as_below put wrote all zero tree agrees stand once is is_new = absurd (inner (sym (level_is node zero tree is)))
child_unwritten known area pair node at key below grown from mid to old between new e inner at_is within some known_as_below put wrote all (suc level) tree agrees stand once is is_new =
    let t = into all area pair node at key at_is within some level tree stand is in
    let p = put_there known area pair node at key below from mid old between (Ok grown) all level tree agrees once is_new known_as_below put t in
    room_lacked known all area pair level tree t.1.1 from mid to old new between node.entries at key grown e t.3.path t.3.way.one p.1 p.0 wrote

-- ---- the node behind it

pub grows_up : (known : Knowledge) (all : Lines) (area : ℕ) (pair : NodeEntry) (level : ℕ) (tree : Tree (suc level)) (from to : ℕ) (old new writes : List Write) (children : List (NodeEntry × Tree level)) (entries : List NodeEntry) (node_level : ℕ) → HasChildren known all area from to pair level tree.entries children writes → Entries level children ≡ entries → suc level ≡ node_level → from ≤ to → new ≡ old ++ writes
    → (430 < size (node_fields (record { level = node_level; entries = entries })) → IsFull pair (suc level) tree) → Among known area from to (path_below pair (suc level) tree) (keys_of writes) → (from < to → IsFull pair (suc level) tree) → Grows known all area pair (suc level) tree from to old new (record { level = node_level; entries = entries })
grows_up known all area pair level tree from to old new writes children entries node_level h same up counted behind full on_way rooms_full = record {
  after = record { at = tree.at; entries = children };
  counted = counted;
  node = λ i. record { level = up i; entries = same i };
  same = refl;
  with_it = h.with_it;
  writes = writes;
  behind = behind;
  below = (h.stand, h.parted);
  once = h.once;
  places = h.among;
  written = h.written;
  on_way = on_way;
  written_once = h.written_once;
  rooms_full = rooms_full;
  full = full;
  filled = h.filled;
}

-- the children with an exchange for the one on the way
changed : (known : Knowledge) (all : Lines) (area from to : ℕ) (pair : NodeEntry) (node : IndexNode) (level : ℕ) (tree : Tree (suc level)) (at : ℕ) (key : Dbkey) (before : List (NodeEntry × Tree level)) (child first : NodeEntry × Tree level) (behind more : List (NodeEntry × Tree level)) (writes : List Write) → Agrees known all → StandBelow all area (suc level) tree → Distinct (places_below (suc level) tree) → Ascend (Entries level tree.entries)
    → IsInto all area pair node level tree at key before child behind → IsExchange known all area from to pair level before child first more writes → HasChildren known all area from to pair level tree.entries (before ++ (first ∷ more ++ behind)) writes
changed known all area from to pair node level tree at key before child first behind more writes agrees stand once ascend t x =
    let w = t.way in
    let stands = subst (AllByRecursion (StandsBelow all area level)) w.is stand.0 in
    subst (λ (cs : List (NodeEntry × Tree level)). HasChildren known all area from to pair level cs (before ++ (first ∷ more ++ behind)) writes) (sym w.is)
    (exchanged known all area from to pair level before child first behind more writes stands (subst (AreParted level) w.is stand.1) (subst (λ (cs : List (NodeEntry × Tree level)). Distinct (PlacesOf level cs)) w.is once) (subst (λ (cs : List (NodeEntry × Tree level)). Ascend (Entries level cs)) w.is ascend) w.goes w.stays
    (rooms_other known all area from to (PlacesOf level before) agrees (children_present all area level before (all_front (StandsBelow all area level) before (child ∷ behind) stands)))
    (rooms_other known all area from to (PlacesOf level behind) agrees (children_present all area level behind (all_rest (StandsBelow all area level) before (child ∷ behind) stands).1)) x)

drop_seam : (xs : List NodeEntry) (ys : List NodeEntry) → drop (length xs) (xs ++ ys) ≡ ys
drop_seam [] ys = refl
drop_seam (x ∷ xs) ys = drop_seam xs ys

drop_past : (xs : List NodeEntry) (y : NodeEntry) (ys : List NodeEntry) → drop (suc (length xs)) (xs ++ y ∷ ys) ≡ ys
drop_past [] y ys = refl
drop_past (x ∷ xs) y ys = drop_past xs y ys

past_at : (entries xs : List NodeEntry) (y : NodeEntry) (ys : List NodeEntry) (at : ℕ) → entries ≡ xs ++ y ∷ ys → length xs ≡ at → drop (at + 1) entries ≡ ys
past_at entries xs y ys at is long = (λ i. drop ((let more : at + 1 ≡ suc (length xs) = omega (arith, long) in more) i) (is i)) ∙ drop_past xs y ys

from_at : (entries xs : List NodeEntry) (y : NodeEntry) (ys : List NodeEntry) (at : ℕ) → entries ≡ xs ++ y ∷ ys → length xs ≡ at → drop at entries ≡ y ∷ ys
from_at entries xs y ys at is long = (λ i. drop (sym long i) (is i)) ∙ drop_seam xs (y ∷ ys)

-- which bound the entry of the next child, or of this one, is
next_past : (level : ℕ) (behind : List (NodeEntry × Tree level)) (high : NodeEntry) → goes_on high (Entries level behind) ≡ true → (b : NodeEntry × Tree level) × (rest : List (NodeEntry × Tree level)) × (behind ≡ b ∷ rest) × UpTo b.0 high
next_past level [] high h = absurd (cc)
next_past level (b ∷ rest) high h = (b, rest, refl, le_upto (entry_order b.0 high) h)

own_past : (level at : ℕ) (before : List (NodeEntry × Tree level)) (child : NodeEntry × Tree level) (entries : List NodeEntry) (high : NodeEntry) → length (Entries level before) ≡ at → is_up_to_own at high (child.0 ∷ entries) ≡ true → (b : NodeEntry × Tree level) × (rest : List (NodeEntry × Tree level)) × (before ≡ b ∷ rest) × UpTo high child.0
own_past level zero before child entries high long h = absurd (cc)
own_past level (suc at) [] child entries high long h = absurd (omega (arith, long))
own_past level (suc at) (b ∷ rest) child entries high long h = (b, rest, refl, le_upto (entry_order high child.0) h)

kept_stays : (known : Knowledge) (all : Lines) (area from to : ℕ) (pair : NodeEntry) (node : IndexNode) (level : ℕ) (tree : Tree (suc level)) (at : ℕ) (key : Dbkey) (before : List (NodeEntry × Tree level)) (child : NodeEntry × Tree level) (behind : List (NodeEntry × Tree level)) (old new : List Write) (grown left : IndexNode) → StandBelow all area (suc level) tree → IsInto all area pair node level tree at key before child behind → (g : Grows known all area pair level child.1 from to old new grown) → Ascend grown.entries → IsKept node.entries at grown left → Stays known all area from to pair level child.1 g.writes left
kept_stays known all area from to pair node level tree at key before child behind old new grown left stand t g ascend (whole is) = stays_whole known all area from to pair level child.1 old new grown left g is
kept_stays known all area from to pair node level tree at key before child behind old new grown left stand t g ascend (lower other low high h past) =
    let ys = Entries level behind in
    let n = next_past level behind high (subst (λ (es : List NodeEntry). goes_on high es ≡ true) (past_at node.entries (Entries level before) child.0 ys at t.entries t.long) past) in
    let parted = parted_rest level before (child ∷ behind) (subst (AreParted level) t.way.is stand.1) in
    stays_lower known all area from to pair level child.1 old new grown left other low high n.0.0 g h ascend
    (all_put (λ p. Lt p n.0.0) pair (pairs level child.1) (pair_below_next pair level n.0 behind n.1 t.way.stays n.2) (below_next level child n.0 behind n.1 parted n.2).0) n.3
kept_stays known all area from to pair node level tree at key before child behind old new grown left stand t g ascend (upper other low high h past) =
    let n = own_past level at before child (Entries level behind) high t.long (subst (λ (es : List NodeEntry). is_up_to_own at high es ≡ true) (from_at node.entries (Entries level before) child.0 (Entries level behind) at t.entries t.long) past) in
    let own = own_upto level before child behind (subst (AreParted level) t.way.is stand.1) in
    stays_upper known all area from to pair level child.1 old new grown left other low high child.0 g h ascend
    (all_put (UpTo child.0) pair (pairs level child.1) (subst (λ (cs : List (NodeEntry × Tree level)). Unless cs (UpTo child.0 pair)) n.2 t.way.goes) (subst (λ (cs : List (NodeEntry × Tree level)). Unless cs (AllByRecursion (UpTo child.0) (pairs level child.1))) n.2 own)) n.3

own_entry : (level : ℕ) (before : List (NodeEntry × Tree level)) (low : NodeEntry) (key : Dbkey) (own : NodeEntry) → own.child ≡ Some key → (first_of (Entries level before) (unbound low key) own).child ≡ Some key
own_entry level [] low key own is = refl
own_entry level (b ∷ before) low key own is = is

own_head : (level : ℕ) (before : List (NodeEntry × Tree level)) (low : NodeEntry) (key : Dbkey) (own : NodeEntry) → Unless before (first_of (Entries level before) (unbound low key) own ≡ own)
own_head level [] low key own = tt
own_head level (b ∷ before) low key own = refl

-- what the child's lines are written behind
abbrev written_behind : List Write → List Write → List Write → List Write → List Write → Type 0
written_behind old between new own more = (between ≡ old ++ own) × (new ≡ between ++ more)

pub behind_all : (old between new own more : List Write) → between ≡ old ++ own → new ≡ between ++ more → new ≡ old ++ (own ++ more)
behind_all old between new own more first second = second ∙ (ap (λ ws. ws ++ more) first ∙ append_assoc old own more)

wrote_one : (known : Knowledge) (all : Lines) (area : ℕ) (pair : NodeEntry) (node : IndexNode) (level : ℕ) (tree : Tree (suc level)) (at : ℕ) (key : Dbkey) (grown : IndexNode) (from mid to : ℕ) (old between new : List Write) (after : List NodeEntry) → Agrees known all → StandBelow all area (suc level) tree → Distinct (places_below (suc level) tree) → node_of (suc level) tree ≡ node → Ascend node.entries → size (node_fields node) ≤ 430
    → Ascend grown.entries → (t : HasInto all area pair node level tree at key) → Distinct (places level t.1.1) → Grows known all area pair level t.1.1 from mid old between grown → WritesOne node.entries at key grown mid to between new after → Grows known all area pair (suc level) tree from to old new (record { level = node.level; entries = after })
wrote_one known all area pair node level tree at key grown from mid to old between new after agrees stand once is ascend small grown_ascend t distinct g w =
    let before = t.0 in
    let child = t.1 in
    let behind = t.2 in
    let entries : Entries level tree.entries ≡ node.entries = ap (λ (n : IndexNode). n.entries) is in
    let s = kept_stays known all area from mid pair node level tree at key before child behind old between grown w.left stand t.3 g grown_ascend w.kept in
    let x = one_exchange known all area from mid pair level before child g.writes w.left (Some w.image) s agrees t.3.stands distinct w.bears g.written g.written_once in
    let own : List Write = record { key = place level child.1; image = Some w.image } ∷ [] in
    let h = changed known all area from mid pair node level tree at key before child (child.0, s.tree) behind [] (g.writes ++ own) agrees stand once (subst Ascend (sym entries) ascend) t.3 x in
    let last : new ≡ between ++ own = w.writes ∙ ap (λ (k : Dbkey). between ++ record { key = k; image = Some w.image } ∷ []) t.3.named in
    let same : Entries level (before ++ (child.0, s.tree) ∷ behind) ≡ after = map-append (λ (c : NodeEntry × Tree level). c.0) before ((child.0, s.tree) ∷ behind) ∙ (sym t.3.entries ∙ sym w.entries_are) in
    let short : node.entries ≡ after = sym w.entries_are in
    subst (λ (n : ℕ). Grows known all area pair (suc level) tree from n old new (record { level = node.level; entries = after })) (sym w.rooms)
    (grows_up known all area pair level tree from mid old new (g.writes ++ own) (before ++ (child.0, s.tree) ∷ behind) after node.level h same (level_is node (suc level) tree is) g.counted (behind_all old between new g.writes own g.behind last)
    (λ long. absurd (let bytes : size (node_fields node) ≡ size (node_fields (record { level = node.level; entries = after })) = ap (λ (es : List NodeEntry). size (node_fields (record { level = node.level; entries = es }))) short in omega (arith, small, long, bytes)))
    (λ q k rooms. let on = subst (AllByRecursion (λ y. q y ≡ true)) t.3.path k in keys_more (λ y. q y ≡ true) g.writes own (g.on_way q on.1 rooms) (on.0, tt))
    (λ more. full_up pair level tree child.1 t.3.way.one (g.rooms_full more)))

wrote_two : (known : Knowledge) (all : Lines) (area : ℕ) (pair : NodeEntry) (node : IndexNode) (level : ℕ) (tree : Tree (suc level)) (at : ℕ) (key : Dbkey) (grown : IndexNode) (from mid to : ℕ) (old between new : List Write) (after : List NodeEntry) → Agrees known all → StandBelow all area (suc level) tree → Distinct (places_below (suc level) tree) → node_of (suc level) tree ≡ node → Ascend node.entries
    → Ascend grown.entries → (t : HasInto all area pair node level tree at key) → Distinct (places level t.1.1) → Grows known all area pair level t.1.1 from mid old between grown → WritesTwo known area node.entries at key grown mid to between new after → Grows known all area pair (suc level) tree from to old new (record { level = node.level; entries = after })
wrote_two known all area pair node level tree at key grown from mid to old between new after agrees stand once is ascend grown_ascend t distinct g w =
    let before = t.0 in
    let child = t.1 in
    let behind = t.2 in
    let xs = Entries level before in
    let ys = Entries level behind in
    let entries : Entries level tree.entries ≡ node.entries = ap (λ (n : IndexNode). n.entries) is in
    let x = halves_of known all area from mid pair level child.1 old between grown w.lower w.upper w.low w.high (place level child.1) w.room g w.halved grown_ascend in
    let level_here = level_grown known all area from mid pair level child.1 old between grown g in
    let own = first_of xs (unbound w.low (place level child.1)) child.0 in
    let e = two_exchange known all area from mid pair level before child own old between grown w.lower w.upper w.low w.high w.room (Some w.lower_image) (Some w.upper_image) g x agrees t.3.stands distinct w.is_room (w.halved.lower_level ∙ sym level_here) (w.halved.upper_level ∙ sym level_here) w.lower_bears w.upper_bears
    (own_entry level before w.low (place level child.1) child.0 t.3.stands.0) (own_head level before w.low (place level child.1) child.0) in
    let more : List Write = record { key = place level child.1; image = Some w.lower_image } ∷ record { key = w.room; image = Some w.upper_image } ∷ [] in
    let children = before ++ ((own, x.lower) ∷ (bound w.high w.room, x.upper) ∷ [] ++ behind) in
    let h = changed known all area from (mid + 1) pair node level tree at key before child (own, x.lower) behind ((bound w.high w.room, x.upper) ∷ []) (g.writes ++ more) agrees stand once (subst Ascend (sym entries) ascend) t.3 e in
    let last : new ≡ between ++ more = w.writes ∙ ap (λ (k : Dbkey). between ++ record { key = k; image = Some w.lower_image } ∷ record { key = w.room; image = Some w.upper_image } ∷ []) t.3.named in
    let up : Ascend (xs ++ child.0 ∷ ys) = subst Ascend t.3.entries ascend in
    let low_first : Ascend (w.low ∷ (w.halved.lows.0 ++ w.upper.entries)) = subst Ascend (w.halved.entries ∙ ap (λ (es : List NodeEntry). es ++ w.upper.entries) w.halved.lows.1) grown_ascend in
    let less : Lt w.low w.high = (all_rest (Lt w.low) w.halved.lows.0 (w.high ∷ w.halved.highs.0) (subst (λ (es : List NodeEntry). AllByRecursion (Lt w.low) (w.halved.lows.0 ++ es)) w.halved.highs.1 low_first.0)).0 in
    let past_own = (λ i. is_up_to_own (t.3.long i) w.high (child.0 ∷ ys)) ∙ (sym (ap (is_up_to_own at w.high) (from_at node.entries xs child.0 ys at t.3.entries t.3.long)) ∙ w.past_own) in
    let before_next = sym (ap (goes_on w.high) (past_at node.entries xs child.0 ys at t.3.entries t.3.long)) ∙ w.before_next in
    let made = two_entries xs child.0 w.low w.high ys (place level child.1) w.room up less past_own before_next in
    let as_made : after ≡ with_pair (bound w.high w.room) (lowered (length xs) (unbound w.low (place level child.1)) (xs ++ child.0 ∷ ys)) = w.entries_are ∙ (λ i. with_pair (bound w.high w.room) (lowered (sym t.3.long i) (unbound w.low (t.3.named i)) (t.3.entries i))) in
    let same : Entries level children ≡ after = map-append (λ (c : NodeEntry × Tree level). c.0) before ((own, x.lower) ∷ (bound w.high w.room, x.upper) ∷ behind) ∙ sym (as_made ∙ made) in
    subst (λ (n : ℕ). Grows known all area pair (suc level) tree from n old new (record { level = node.level; entries = after })) (sym w.rooms)
    (grows_up known all area pair level tree from (mid + 1) old new (g.writes ++ more) children after node.level h same (level_is node (suc level) tree is) (let c = g.counted in omega (arith, c)) (behind_all old between new g.writes more g.behind last)
    (λ long. full_up pair level tree child.1 t.3.way.one (g.full w.long))
    (λ q k rooms. let on = subst (AllByRecursion (λ y. q y ≡ true)) t.3.path k in
    keys_more (λ y. q y ≡ true) g.writes more (g.on_way q on.1 (λ n y a b c. rooms n y a (omega (arith, b)) c)) (on.0, (rooms mid w.room g.counted (omega arith) w.is_room, tt)))
    (λ some. full_up pair level tree child.1 t.3.way.one (g.full w.long)))

pub child_written : (known : Knowledge) (area : ℕ) (pair : NodeEntry) (node : IndexNode) (at : ℕ) (key : Dbkey) (below grown : IndexNode) (from mid to : ℕ) (old between new : List Write) (after : List NodeEntry) → node.level ≢ 0 → Ascend node.entries → size (node_fields node) ≤ 430 → Ascend grown.entries → at ≡ child_place pair node.entries → at < length node.entries → ((d : NodeEntry) → (get_or node.entries at d).child ≡ Some key)
    → IsKnownAs (known.line key) below → HasPut known area pair below from mid old between (Ok grown) → WritesChild known area node.entries at key grown mid to between new (Ok after) → HasPut known area pair node from to old new (Ok (record { level = node.level; entries = after }))
child_written known area pair node at key below grown from mid to old between new after inner ascend small grown_ascend at_is within some known_as_below put wrote all zero tree agrees stand once is is_new = absurd (inner (sym (level_is node zero tree is)))
child_written known area pair node at key below grown from mid to old between new after inner ascend small grown_ascend at_is within some known_as_below put wrote all (suc level) tree agrees stand once is is_new =
    let t = into all area pair node at key at_is within some level tree stand is in
    let p = put_there known area pair node at key below from mid old between (Ok grown) all level tree agrees once is_new known_as_below put t in
    let path = ap (first_unknown known) t.3.path ∙ (past_known known (place level t.1.1) (path_below pair level t.1.1) p.1 ∙ p.0.1) in
    elim wrote [
      | inl w ↦ (wrote_one known all area pair node level tree at key grown from mid to old between new after agrees stand once is ascend small grown_ascend t p.2 p.0.0 w, path, subst (AreTaken known area from) (sym w.rooms) p.0.2)
      | inr w ↦ (wrote_two known all area pair node level tree at key grown from mid to old between new after agrees stand once is ascend grown_ascend t p.2 p.0.0 w, path, subst (AreTaken known area from) (sym w.rooms) (taken_one known area from mid w.room w.is_room p.0.2))
    ]
