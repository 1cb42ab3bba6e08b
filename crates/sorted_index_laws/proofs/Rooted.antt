-- A pair put into a whole index.
use Rattle.std.proofs.Common.{◌≡◌, ◌<◌, ℕ, zero, suc, ◌+◌, ◌==◌, Bool, true, false, cond, not, ◌&&◌, T, List, [], ◌∷◌, ◌++◌, map, Option, Some, None, refl, sym, ap, subst, ◌∙◌, arith, inl, inr, eqb-true, rules}
use Rattle.std.specs.Prelude.{◌||◌, is_none, option_map, Result, Ok, Err, ⊤, IsTrue, ◌↔◌}
use Rattle.std.specs.declared.cmp.Ordering.{Ordering}
use Rattle.std.specs.declared.cmp.Ordering.TheVariants.{Less, Equal, Greater}
use Rattle.std.specs.Ordering.{is_lt, is_gt, is_eq}
use Rattle.std.specs.Option.{option_or}
use Rattle.std.specs.List.{AllByRecursion}
use Rattle.std.proofs.Math.Dec.{eqb_refl}
use Rattle.std.proofs.lemmas.Bool.{cases_lt}
use Rattle.std.proofs.lemmas.List.Folds.{find-append}
use Rattle.rdb_types.specs.declared.keys.Dbkey.{Dbkey}
use Rattle.rdb_types.specs.declared.values.Value.{Value}
use Rattle.rdb_types.specs.Order.{dbkey_order, row_order}
use Rattle.rdb_types.specs.OrderLaws.{same_dbkey}
use Rattle.index_node.specs.declared.entry.NodeEntry.{NodeEntry}
use Rattle.index_node.specs.declared.node.IndexNode.{IndexNode}
use Rattle.index_node.specs.Node.{IsNode}
use Rattle.line_view.specs.declared.need.Need.TheVariants.{Line, Area, Room}
use Rattle.line_view.specs.Knowledge.{Lines, Knowledge, Agrees, line_in, laid}
use Rattle.line_view.specs.declared.writes.Write.{Write}
use Rattle.line_view.specs.Writes.{laid_all}
use Rattle.line_view.proofs.Written.{WriteOn, laid_in_turn}
use Rattle.sorted_index_laws.specs.Stop.{IndexStop}
use Rattle.line_view.specs.declared.stop.Stop.TheVariants.{Missing, Own, Bad, NoMemory}
use Rattle.sorted_index_laws.specs.Keys.{only, is_within}
use Rattle.sorted_index_laws.specs.Tree.{Tree, place, node_of, pairs, Bears, Stands, IsIndex}
use Rattle.sorted_index_laws.specs.Search.{first_unknown, rows_within, reads, Answers}
use Rattle.sorted_index_laws.specs.Changes.{with_pair, has_key, has_line, path_below, path, Leaves}
use Rattle.sorted_index_laws.specs.Inner.Steps.{IsKnownAs, ReadsNode}
use Rattle.sorted_index_laws.specs.Insertion.{IsNew, IsFull, IsWrittenFor, room_at, looked_at, lines_read, AreTaken, Inserts}
use Rattle.sorted_index_laws.specs.Inner.Growth.{bound, unbound, Looks, Among, places_below, Grows, PutsIn, WritesTop, WritesRoot}
use Rattle.sorted_index_laws.proofs.Walk.{known_as, bears}
use Rattle.sorted_index_laws.proofs.Below.{past_known}
use Rattle.sorted_index_laws.proofs.Frame.{IsApart}
use Rattle.sorted_index_laws.proofs.Lines.{Distinct, distinct_more, map_all, other_way, equal_eq, keys_of, written_more, one_distinct}
use Rattle.sorted_index_laws.proofs.Erased.{lines_there, or_left, or_right}
use Rattle.sorted_index_laws.proofs.Ordered.{Ascend, all_append}
use Rattle.sorted_index_laws.proofs.After.{areas}
use Rattle.sorted_index_laws.proofs.TakenOut.{read_as}
use Rattle.sorted_index_laws.proofs.Apart.{IsPresent, of_map, tied, stands_present, rooms_apart, free_apart, widen}
use Rattle.sorted_index_laws.proofs.Halves.{places_are, stand_written, stand_both, places_both}
use Rattle.sorted_index_laws.proofs.Growing.{HasPut, halves_of, level_grown, own_first, own_apart, room_apart, stands_inner, inner_distinct, taken_more, behind_all}

-- ---- whether the key is there

one_key : (o : Ordering) → (not (is_lt o) && not (is_gt o)) ≡ is_eq o
one_key Less = refl
one_key Equal = refl
one_key Greater = refl

abbrev nothing_in : List Dbkey → Bool
nothing_in [] = true
nothing_in (x ∷ xs) = false

key_found : (key : List Value) (ps : List NodeEntry) → has_key key ps ≡ not (nothing_in (rows_within (only key) ps))
key_found key [] = refl
key_found key (p ∷ ps) =
    elim (is_eq (row_order p.key key)) as (λ b. is_eq (row_order p.key key) ≡ b → has_key key (p ∷ ps) ≡ not (nothing_in (rows_within (only key) (p ∷ ps)))) [
      | true ↦ λ is. let within : is_within (only key) p.key ≡ true = one_key (row_order p.key key) ∙ is in
          rw is (rw within refl)
      | false ↦ λ is. let within : is_within (only key) p.key ≡ false = one_key (row_order p.key key) ∙ is in
          rw is (rw within (key_found key ps))
    ] refl

-- ---- the lines that are written

in_area : (area : ℕ) (k : Dbkey) → (k.area == area) ≡ true → k.area ≡ area
in_area area k h = eqb-true k.area area h

true_from_T : (b : Bool) → T b → b ≡ true
true_from_T true h = refl
true_from_T false h = absurd h

area_in : (area : ℕ) (k : Dbkey) → k.area ≡ area → (k.area == area) ≡ true
area_in area k h = ap (λ n. n == area) h ∙ true_from_T (area == area) (eqb_refl area)

areas_of : (known : Knowledge) (all : Lines) (area from to : ℕ) (old : List Dbkey) (writes : List Write) → Agrees known all → Among known area from to old (map (λ w. w.key) writes) → AllByRecursion (λ (k : Dbkey). k.area ≡ area) old → WriteOn (λ k. k.area ≡ area) writes
areas_of known all area from to old writes agrees among h =
    of_map (λ k. k.area ≡ area) writes
    (map_all (λ k. (k.area == area) ≡ true) (λ k. k.area ≡ area) (in_area area) (map (λ (w : Write). w.key) writes)
    (among (λ k. k.area == area) (map_all (λ k. k.area ≡ area) (λ k. (k.area == area) ≡ true) (area_in area) old h) (λ n k low high is. area_in area k (agrees.within (room_at area n) k is))))

areas_below : (all : Lines) (root : Dbkey) (level : ℕ) (tree : Tree level) → IsIndex all root level tree → AllByRecursion (λ (k : Dbkey). k.area ≡ root.area) (places_below level tree)
areas_below all root level tree is = (own_first (λ (k : Dbkey). k.area ≡ root.area) level tree (areas all root.area level tree is.stands)).1

-- the room of one of the numbers below this
abbrev is_held : Option Dbkey → Dbkey → Bool
is_held None key = false
is_held (Some room) key = is_eq (dbkey_order room key)

abbrev is_room : Knowledge → ℕ → ℕ → Dbkey → Bool
is_room known area zero key = false
is_room known area (suc n) key = is_held (known.room (room_at area n)) key || is_room known area n key

room_counted : (known : Knowledge) (area to n : ℕ) (key : Dbkey) → n < to → known.room (room_at area n) ≡ Some key → is_room known area to key ≡ true
room_counted known area zero n key below is = absurd (omega (arith, below))
room_counted known area (suc to) n key below is = elim (cases_lt n to) [
  | inl down ↦ or_right (is_held (known.room (room_at area to)) key) (is_room known area to key) (room_counted known area to n key down is)
  | inr up ↦ let same : n ≡ to = omega (arith, below, up) in
      or_left (is_held (known.room (room_at area to)) key) (is_room known area to key) (ap (λ (k : ℕ). is_held (known.room (room_at area k)) key) (sym same) ∙ (ap (λ o. is_held o key) is ∙ equal_eq key))
]

held : (room : Option Dbkey) (key : Dbkey) → is_held room key ≡ true → room ≡ Some key
held None key h = absurd (cc)
held (Some room) key h = ap Some (same_dbkey room key (tied (dbkey_order room key) h))

abbrev IsRoomBelow : Knowledge → ℕ → ℕ → Dbkey → Type 0
IsRoomBelow known area to key = (nth : ℕ) × (nth < to) × (known.room (room_at area nth) ≡ Some key)

room_found : (known : Knowledge) (area to : ℕ) (key : Dbkey) → is_room known area to key ≡ true → IsRoomBelow known area to key
room_found known area zero key h = absurd (cc)
room_found known area (suc to) key h = elim (is_held (known.room (room_at area to)) key) as (λ b. is_held (known.room (room_at area to)) key ≡ b → (b || is_room known area to key) ≡ true → IsRoomBelow known area (suc to) key) [
  | true ↦ λ is h. (to, omega arith, held (known.room (room_at area to)) key is)
  | false ↦ λ is h. let further = room_found known area to key h in (further.0, omega (arith, further.1), further.2)
] refl h

written_for : (known : Knowledge) (area to : ℕ) (pair : NodeEntry) (level : ℕ) (tree : Tree level) (key : Dbkey) → (0 < to → IsFull pair level tree) → (has_line (path pair level tree) key || is_room known area to key) ≡ true → IsWrittenFor known area pair level tree key
written_for known area to pair level tree key full h = elim (has_line (path pair level tree) key) as (λ b. has_line (path pair level tree) key ≡ b → (b || is_room known area to key) ≡ true → IsWrittenFor known area pair level tree key) [
  | true ↦ λ is h. inl is
  | false ↦ λ is h. let room = room_found known area to key h in inr ((room.0, room.2), full (omega (arith, room.1)))
] refl h

-- the lines below the root are on the way to the pair, or rooms
own_lines : (known : Knowledge) (area to : ℕ) (pair : NodeEntry) (level : ℕ) (tree : Tree level) (writes : List Write) → (0 < to → IsFull pair level tree) → Among known area 0 to (path_below pair level tree) (keys_of writes) → WriteOn (IsWrittenFor known area pair level tree) writes
own_lines known area to pair level tree writes full among =
    let way = path pair level tree in
    let is_own : Dbkey → Bool = λ key. has_line way key || is_room known area to key in
    of_map (IsWrittenFor known area pair level tree) writes
    (map_all (λ key. is_own key ≡ true) (IsWrittenFor known area pair level tree) (λ key. written_for known area to pair level tree key full) (keys_of writes)
    (among is_own (map_all (λ key. has_line way key ≡ true) (λ key. is_own key ≡ true) (λ key h. or_left (has_line way key) (is_room known area to key) h) (path_below pair level tree) (lines_there way).1)
    (λ n key low high is. or_right (has_line way key) (is_room known area to key) (room_counted known area to n key high is))))

own_root : (known : Knowledge) (area : ℕ) (root : Dbkey) (pair : NodeEntry) (level : ℕ) (tree : Tree level) → place level tree ≡ root → IsWrittenFor known area pair level tree root
own_root known area root pair level tree rooted = inl (subst (λ (k : Dbkey). has_line (path pair level tree) k ≡ true) rooted (lines_there (path pair level tree)).0)

-- ---- the root on its line

root_apart : (known : Knowledge) (all : Lines) (root : Dbkey) (to level : ℕ) (tree : Tree level) (after : List Dbkey) → Agrees known all → IsIndex all root level tree → Among known root.area 0 to (places_below level tree) after → IsApart root after
root_apart known all root to level tree after agrees is among = subst (λ (k : Dbkey). IsApart k after) is.rooted (own_apart known all root.area 0 to level tree after agrees is.stands is.once among)

root_one : (known : Knowledge) (all : Lines) (root : Dbkey) (pair : NodeEntry) (level : ℕ) (tree : Tree level) (to : ℕ) (between new : List Write) (grown : IndexNode) (image : List ℕ) → Agrees known all → IsIndex all root level tree → Grows known all root.area pair level tree 0 to [] between grown → IsNode image grown → new ≡ between ++ record { key = root; image = Some image } ∷ [] → Leaves all root level tree new (with_pair pair (pairs level tree))
root_one known all root pair level tree to between new grown image agrees is g is_image last =
    let own : List Write = record { key = root; image = Some image } ∷ [] in
    let here = g.same ∙ is.rooted in
    let apart = root_apart known all root to level tree (places_below level g.after) agrees is g.places in
    let stands = stand_written (laid_all g.writes all) root (Some image) root.area level g.after here refl (subst (IsNode image) (sym g.node) is_image) apart g.below in
    let whole : new ≡ g.writes ++ own = behind_all [] between new g.writes own g.behind last in
    let map_is : laid_all new all ≡ laid root (Some image) (laid_all g.writes all) = ap (λ ws. laid_all ws all) whole ∙ laid_in_turn g.writes own all in
    record {
      level = level;
      tree = g.after;
      index = record {
        rooted = here;
        stands = subst (λ ls. Stands ls root.area level g.after) (sym map_is) stands;
        once = subst Distinct (sym (places_are level g.after)) (distinct_more (place level g.after) (places_below level g.after) (subst (λ (k : Dbkey). IsApart k (places_below level g.after)) (sym here) apart) g.once);
      };
      pairs_are = g.with_it;
      once = subst (λ (ws : List Write). Distinct (keys_of ws)) (sym whole) (written_more g.writes own g.written_once (one_distinct root) (root_apart known all root to level tree (keys_of g.writes) agrees is g.written, tt));
      in_area = subst (WriteOn (λ k. k.area ≡ root.area)) (sym whole) (all_append (λ (w : Write). w.key.area ≡ root.area) g.writes own (areas_of known all root.area 0 to (places_below level tree) g.writes agrees g.written (areas_below all root level tree is)) (refl, tt));
      filled = g.filled;
    }

-- ---- the root above its halves

root_two : (known : Knowledge) (all : Lines) (root : Dbkey) (pair : NodeEntry) (level : ℕ) (tree : Tree level) (to : ℕ) (between new : List Write) (grown : IndexNode) → Agrees known all → IsIndex all root level tree → Ascend grown.entries → Grows known all root.area pair level tree 0 to [] between grown → WritesTop known root.area root grown to between new → Leaves all root level tree new (with_pair pair (pairs level tree))
root_two known all root pair level tree to between new grown agrees is ascend g w =
    let area = root.area in
    let under = laid_all g.writes all in
    let x = halves_of known all area 0 to pair level tree [] between grown w.lower w.upper w.low w.high w.lower_at w.upper_at g w.halved ascend in
    let level_here = level_grown known all area 0 to pair level tree [] between grown g in
    let low_apart = room_apart known all area 0 to level tree (places_below level g.after) w.lower_at agrees is.stands w.is_lower g.places in
    let high_apart = room_apart known all area 0 (to + 1) level tree (places_below level g.after) w.upper_at agrees is.stands w.is_upper (widen known area 0 to 0 (to + 1) (places_below level tree) (places_below level g.after) (omega arith) (omega arith) g.places) in
    let apart = rooms_apart known all area to (to + 1) w.lower_at w.upper_at agrees w.is_lower w.is_upper (λ same. omega (arith, same)) in
    let both = stand_both under area level g.after w.lower.entries w.upper.entries (unbound w.low w.lower_at) w.high w.lower_at w.upper_at (Some w.lower_image) (Some w.upper_image) x refl (agrees.within (room_at area to) w.lower_at w.is_lower) (agrees.within (room_at area (to + 1)) w.upper_at w.is_upper)
    (subst (IsNode w.lower_image) (λ i. record { level = (w.halved.lower_level ∙ sym level_here) i; entries = w.lower.entries }) w.lower_bears) (subst (IsNode w.upper_image) (λ i. record { level = (w.halved.upper_level ∙ sym level_here) i; entries = w.upper.entries }) w.upper_bears)
    apart low_apart high_apart g.once in
    let present : IsPresent all root = subst (IsPresent all) is.rooted (own_first (IsPresent all) level tree (stands_present all area level tree is.stands)).0 in
    let other_low : is_eq (dbkey_order w.lower_at root) ≡ false = other_way w.lower_at root ∙ (free_apart all w.lower_at (root ∷ []) (agrees.free (room_at area to) w.lower_at w.is_lower) (present, tt)).0 in
    let other_high : is_eq (dbkey_order w.upper_at root) ≡ false = other_way w.upper_at root ∙ (free_apart all w.upper_at (root ∷ []) (agrees.free (room_at area (to + 1)) w.upper_at w.is_upper) (present, tt)).0 in
    let own_apart = root_apart known all root to level tree (places_below level g.after) agrees is g.places in
    let top : Tree (suc level) = record { at = root; entries = (unbound w.low w.lower_at, x.lower) ∷ (bound w.high w.upper_at, x.upper) ∷ [] } in
    let top_apart = places_both (λ (k : Dbkey). is_eq (dbkey_order k root) ≡ false) under area level g.after w.lower.entries w.upper.entries (unbound w.low w.lower_at) w.high w.lower_at w.upper_at x other_low other_high own_apart in
    let more : List Write = record { key = w.lower_at; image = Some w.lower_image } ∷ record { key = w.upper_at; image = Some w.upper_image } ∷ record { key = root; image = Some w.image } ∷ [] in
    let beside = laid w.upper_at (Some w.upper_image) (laid w.lower_at (Some w.lower_image) under) in
    let up : grown.level + 1 ≡ suc level = omega (arith, level_here) in
    let stands = stand_written beside root (Some w.image) area (suc level) top refl refl (subst (λ (n : ℕ). IsNode w.image (record { level = n; entries = unbound w.low w.lower_at ∷ bound w.high w.upper_at ∷ [] })) up w.bears) top_apart (both.stand, both.parted) in
    let whole : new ≡ g.writes ++ more = behind_all [] between new g.writes more g.behind w.writes in
    let map_is : laid_all new all ≡ laid root (Some w.image) beside = ap (λ ws. laid_all ws all) whole ∙ laid_in_turn g.writes more all in
    record {
      level = suc level;
      tree = top;
      index = record {
        rooted = refl;
        stands = subst (λ ls. Stands ls area (suc level) top) (sym map_is) stands;
        once = distinct_more root (places_below (suc level) top) top_apart both.once;
      };
      pairs_are = both.pairs ∙ g.with_it;
      once = subst (λ (ws : List Write). Distinct (keys_of ws)) (sym whole)
          (written_more g.writes more g.written_once
          (distinct_more w.lower_at (w.upper_at ∷ root ∷ []) (other_way w.upper_at w.lower_at ∙ apart, (other_way root w.lower_at ∙ other_low, tt)) (distinct_more w.upper_at (root ∷ []) (other_way root w.upper_at ∙ other_high, tt) (one_distinct root))) (
            room_apart known all area 0 to level tree (keys_of g.writes) w.lower_at agrees is.stands w.is_lower g.written,
            (
              room_apart known all area 0 (to + 1) level tree (keys_of g.writes) w.upper_at agrees is.stands w.is_upper (widen known area 0 to 0 (to + 1) (places_below level tree) (keys_of g.writes) (omega arith) (omega arith) g.written),
              (root_apart known all root to level tree (keys_of g.writes) agrees is g.written, tt),
            ),
          ));
      in_area = subst (WriteOn (λ k. k.area ≡ area)) (sym whole) (all_append (λ (v : Write). v.key.area ≡ area) g.writes more (areas_of known all area 0 to (places_below level tree) g.writes agrees g.written (areas_below all root level tree is))
          (agrees.within (room_at area to) w.lower_at w.is_lower, (agrees.within (room_at area (to + 1)) w.upper_at w.is_upper, (refl, tt))));
      filled = λ h. let halves_filled = x.filled (g.filled h) in (halves_filled.0, (halves_filled.1, tt));
    }

-- ---- the lines that are written

lines_one : (known : Knowledge) (all : Lines) (root : Dbkey) (pair : NodeEntry) (level : ℕ) (tree : Tree level) (to : ℕ) (between new : List Write) (grown : IndexNode) (image : Option (List ℕ)) → place level tree ≡ root → Grows known all root.area pair level tree 0 to [] between grown → new ≡ between ++ record { key = root; image = image } ∷ [] → WriteOn (IsWrittenFor known root.area pair level tree) new
lines_one known all root pair level tree to between new grown image rooted g last =
    let own : List Write = record { key = root; image = image } ∷ [] in
    subst (WriteOn (IsWrittenFor known root.area pair level tree)) (sym (behind_all [] between new g.writes own g.behind last))
    (all_append (λ (w : Write). IsWrittenFor known root.area pair level tree w.key) g.writes own (own_lines known root.area to pair level tree g.writes g.rooms_full g.on_way) (own_root known root.area root pair level tree rooted, tt))

lines_two : (known : Knowledge) (all : Lines) (root : Dbkey) (pair : NodeEntry) (level : ℕ) (tree : Tree level) (to : ℕ) (between new : List Write) (grown : IndexNode) → place level tree ≡ root → Grows known all root.area pair level tree 0 to [] between grown → WritesTop known root.area root grown to between new → WriteOn (IsWrittenFor known root.area pair level tree) new
lines_two known all root pair level tree to between new grown rooted g w =
    let full = g.full w.long in
    let more : List Write = record { key = w.lower_at; image = Some w.lower_image } ∷ record { key = w.upper_at; image = Some w.upper_image } ∷ record { key = root; image = Some w.image } ∷ [] in
    subst (WriteOn (IsWrittenFor known root.area pair level tree)) (sym (behind_all [] between new g.writes more g.behind w.writes))
    (all_append (λ (v : Write). IsWrittenFor known root.area pair level tree v.key) g.writes more (own_lines known root.area to pair level tree g.writes g.rooms_full g.on_way)
    (inr ((to, w.is_lower), full), (inr ((to + 1, w.is_upper), full), (own_root known root.area root pair level tree rooted, tt))))

-- ---- the whole insertion

abbrev pub HasInserted : Knowledge → Dbkey → NodeEntry → Bool → Result (List Write) IndexStop → Type 0
HasInserted known root pair unique result = (all : Lines) (level : ℕ) (tree : Tree level) → Agrees known all → IsIndex all root level tree → IsNew pair (pairs level tree) → Inserts known all root pair unique level tree result

abbrev pub HasLooked : Knowledge → Dbkey → Bool → List Value → Result Bool IndexStop → Type 0
HasLooked known root unique key result = (all : Lines) (level : ℕ) (tree : Tree level) → Agrees known all → IsIndex all root level tree → Looks known unique key level tree result

look_stopped : (known : Knowledge) (all : Lines) (root : Dbkey) (pair : NodeEntry) (unique : Bool) (level : ℕ) (tree : Tree level) (e : IndexStop) → Looks known unique pair.key level tree (Err e) → Inserts known all root pair unique level tree (Err e)
look_stopped known all root pair unique level tree (Missing need) h = elim (first_unknown known (looked_at unique pair.key level tree)) as (λ o. first_unknown known (looked_at unique pair.key level tree) ≡ o → option_map Line o ≡ Some need → Inserts known all root pair unique level tree (Err (Missing need))) [
  | None ↦ λ is h. absurd (cc)
  | Some key ↦ λ is h. let same : Line key ≡ need = cc in subst (λ n. Inserts known all root pair unique level tree (Err (Missing n))) same
      (find-append (λ key. is_none (known.line key)) (looked_at unique pair.key level tree) (path pair level tree) ∙ ap (λ o. option_or o (first_unknown known (path pair level tree))) is)
] refl h
look_stopped known all root pair unique level tree (Own duplicate) h = absurd h
look_stopped known all root pair unique level tree (Bad key) h = absurd h
look_stopped known all root pair unique level tree NoMemory h = tt

pub looked_stopped : (known : Knowledge) (root : Dbkey) (pair : NodeEntry) (unique : Bool) (e : IndexStop) → HasLooked known root unique pair.key (Err e) → HasInserted known root pair unique (Err e)
looked_stopped known root pair unique e looked all level tree agrees is new = look_stopped known all root pair unique level tree e (looked all level tree agrees is)

read_on : (known : Knowledge) (unique : Bool) (pair : NodeEntry) (level : ℕ) (tree : Tree level) → first_unknown known (looked_at unique pair.key level tree) ≡ None → first_unknown known (lines_read unique pair level tree) ≡ first_unknown known (path pair level tree)
read_on known unique pair level tree none = find-append (λ key. is_none (known.line key)) (looked_at unique pair.key level tree) (path pair level tree) ∙ ap (λ o. option_or o (first_unknown known (path pair level tree))) none

unknown_root : (known : Knowledge) (key : Dbkey) (keys : List Dbkey) → known.line key ≡ None → first_unknown known (key ∷ keys) ≡ Some key
unknown_root known key keys none = ap (λ (o : Option (Option (List ℕ))). cond (is_none o) (Some key) (first_unknown known keys)) none

root_missed : (known : Knowledge) (all : Lines) (root : Dbkey) (pair : NodeEntry) (unique : Bool) (level : ℕ) (tree : Tree level) (e : IndexStop) → Agrees known all → IsIndex all root level tree → first_unknown known (looked_at unique pair.key level tree) ≡ None → ReadsNode known root (λ node. ⊤) (Err e) → Inserts known all root pair unique level tree (Err e)
root_missed known all root pair unique level tree (Missing need) agrees is none reading =
    subst (λ n. Inserts known all root pair unique level tree (Err (Missing n))) (sym reading.0)
    (read_on known unique pair level tree none ∙ (ap (λ (k : Dbkey). first_unknown known (k ∷ path_below pair level tree)) is.rooted ∙ unknown_root known root (path_below pair level tree) reading.1))
root_missed known all root pair unique level tree (Own duplicate) agrees is none reading = absurd reading
root_missed known all root pair unique level tree (Bad key) agrees is none reading =
    absurd (reading.2 (node_of level tree) (known_as known all root (node_of level tree) agrees reading.1 (subst (λ (k : Dbkey). Bears (line_in k all) (node_of level tree)) is.rooted (bears all root.area level tree is.stands))) tt)
root_missed known all root pair unique level tree NoMemory agrees is none reading = tt

pub inserted_missed : (known : Knowledge) (root : Dbkey) (pair : NodeEntry) (unique found : Bool) (e : IndexStop) → HasLooked known root unique pair.key (Ok found) → ReadsNode known root (λ node. ⊤) (Err e) → HasInserted known root pair unique (Err e)
inserted_missed known root pair unique found e looked reading all level tree agrees is new = root_missed known all root pair unique level tree e agrees is (looked all level tree agrees is).1 reading

-- what is put in below the root
put_below_root : (known : Knowledge) (root : Dbkey) (pair : NodeEntry) (node : IndexNode) (to : ℕ) (new : List Write) (result : Result IndexNode IndexStop) (all : Lines) (level : ℕ) (tree : Tree level) → Agrees known all → IsIndex all root level tree → IsNew pair (pairs level tree) → IsKnownAs (known.line root) node → HasPut known root.area pair node 0 to [] new result
    → PutsIn known all root.area pair level tree 0 to [] new result × (is_none (known.line (place level tree)) ≡ false)
put_below_root known root pair node to new result all level tree agrees is is_new known_as_node put =
    let r = read_as known all root.area level tree root node agrees is.stands (sym is.rooted) known_as_node in
    (put all level tree agrees (stands_inner all root.area level tree is.stands) (inner_distinct level tree is.once) r.0 is_new, r.1)

root_stopped : (known : Knowledge) (all : Lines) (root : Dbkey) (pair : NodeEntry) (unique : Bool) (level : ℕ) (tree : Tree level) (to : ℕ) (new : List Write) (e : IndexStop) → first_unknown known (looked_at unique pair.key level tree) ≡ None → (unique && has_key pair.key (pairs level tree)) ≡ false → is_none (known.line (place level tree)) ≡ false → PutsIn known all root.area pair level tree 0 to [] new (Err e) → Inserts known all root pair unique level tree (Err e)
root_stopped known all root pair unique level tree to new (Missing (Line key)) none free some h = read_on known unique pair level tree none ∙ (past_known known (place level tree) (path_below pair level tree) some ∙ h)
root_stopped known all root pair unique level tree to new (Missing (Area a)) none free some h = h
root_stopped known all root pair unique level tree to new (Missing (Room room)) none free some h = (h.0, read_on known unique pair level tree none ∙ (past_known known (place level tree) (path_below pair level tree) some ∙ h.1), free, h.2)
root_stopped known all root pair unique level tree to new (Own duplicate) none free some h = absurd h
root_stopped known all root pair unique level tree to new (Bad key) none free some h = absurd h
root_stopped known all root pair unique level tree to new NoMemory none free some h = tt

pub inserted_stopped : (known : Knowledge) (root : Dbkey) (pair : NodeEntry) (unique found : Bool) (node : IndexNode) (to : ℕ) (new : List Write) (e : IndexStop) → HasLooked known root unique pair.key (Ok found) → found ≡ false → IsKnownAs (known.line root) node → HasPut known root.area pair node 0 to [] new (Err e) → HasInserted known root pair unique (Err e)
inserted_stopped known root pair unique found node to new e looked is_not known_as_node put all level tree agrees is is_new =
    let l = looked all level tree agrees is in
    let p = put_below_root known root pair node to new (Err e) all level tree agrees is is_new known_as_node put in
    root_stopped known all root pair unique level tree to new e l.1 (sym l.0 ∙ is_not) p.1 p.0

root_unwritten : (known : Knowledge) (all : Lines) (root : Dbkey) (pair : NodeEntry) (unique : Bool) (level : ℕ) (tree : Tree level) (to : ℕ) (between new : List Write) (grown : IndexNode) (e : IndexStop) → first_unknown known (lines_read unique pair level tree) ≡ None → (unique && has_key pair.key (pairs level tree)) ≡ false → Grows known all root.area pair level tree 0 to [] between grown → AreTaken known root.area 0 to → WritesRoot known root.area root grown to between new (Err e) → Inserts known all root pair unique level tree (Err e)
root_unwritten known all root pair unique level tree to between new grown (Missing (Line key)) none free g taken h = absurd h
root_unwritten known all root pair unique level tree to between new grown (Missing (Area a)) none free g taken h = h
root_unwritten known all root pair unique level tree to between new grown (Missing (Room room)) none free g taken h =
    ((h.0.0, omega arith, h.0.2, h.0.3, taken_more known root.area 0 to h.0.0 taken h.0.4), none, free, g.full h.1)
root_unwritten known all root pair unique level tree to between new grown (Own duplicate) none free g taken h = absurd h
root_unwritten known all root pair unique level tree to between new grown (Bad key) none free g taken h = (h.0, level_grown known all root.area 0 to pair level tree [] between grown g ∙ h.1, free, g.full h.2)
root_unwritten known all root pair unique level tree to between new grown NoMemory none free g taken h = tt

pub inserted_unwritten : (known : Knowledge) (root : Dbkey) (pair : NodeEntry) (unique found : Bool) (node grown : IndexNode) (to : ℕ) (between new : List Write) (e : IndexStop) → HasLooked known root unique pair.key (Ok found) → found ≡ false → IsKnownAs (known.line root) node → HasPut known root.area pair node 0 to [] between (Ok grown) → WritesRoot known root.area root grown to between new (Err e) → HasInserted known root pair unique (Err e)
inserted_unwritten known root pair unique found node grown to between new e looked is_not known_as_node put wrote all level tree agrees is is_new =
    let l = looked all level tree agrees is in
    let p = put_below_root known root pair node to between (Ok grown) all level tree agrees is is_new known_as_node put in
    let none = read_on known unique pair level tree l.1 ∙ (past_known known (place level tree) (path_below pair level tree) p.1 ∙ p.0.1) in
    root_unwritten known all root pair unique level tree to between new grown e none (sym l.0 ∙ is_not) p.0.0 p.0.2 wrote

pub inserted : (known : Knowledge) (root : Dbkey) (pair : NodeEntry) (unique found : Bool) (node grown : IndexNode) (to : ℕ) (between new : List Write) (done : Unit) → HasLooked known root unique pair.key (Ok found) → found ≡ false → IsKnownAs (known.line root) node → Ascend grown.entries → HasPut known root.area pair node 0 to [] between (Ok grown) → WritesRoot known root.area root grown to between new (Ok done) → HasInserted known root pair unique (Ok new)
inserted known root pair unique found node grown to between new done looked is_not known_as_node ascend put wrote all level tree agrees is is_new =
    let l = looked all level tree agrees is in
    let p = put_below_root known root pair node to between (Ok grown) all level tree agrees is is_new known_as_node put in
    let none = read_on known unique pair level tree l.1 ∙ (past_known known (place level tree) (path_below pair level tree) p.1 ∙ p.0.1) in
    elim wrote [
      | inl w ↦ (root_one known all root pair level tree to between new grown w.0 agrees is p.0.0 w.1 w.2, none, sym l.0 ∙ is_not, lines_one known all root pair level tree to between new grown (Some w.0) is.rooted p.0.0 w.2)
      | inr w ↦ (root_two known all root pair level tree to between new grown agrees is ascend p.0.0 w, none, sym l.0 ∙ is_not, lines_two known all root pair level tree to between new grown is.rooted p.0.0 w)
    ]

-- ---- looking for the key

looks : (known : Knowledge) (key : List Value) (level : ℕ) (tree : Tree level) (e : IndexStop) → Answers known (reads (only key) level tree) (rows_within (only key) (pairs level tree)) (Err e) → Looks known true key level tree (Err e)
looks known key level tree (Missing need) h = h
looks known key level tree (Own duplicate) h = h
looks known key level tree (Bad bad) h = h
looks known key level tree NoMemory h = tt

abbrev pub HasFound : Knowledge → Dbkey → List Value → Result (List Dbkey) IndexStop → Type 0
HasFound known root key result = (all : Lines) (level : ℕ) (tree : Tree level) → Agrees known all → IsIndex all root level tree → Answers known (reads (only key) level tree) (rows_within (only key) (pairs level tree)) result

pub looked_missed : (known : Knowledge) (root : Dbkey) (key : List Value) (unique : Bool) (e : IndexStop) → unique ≡ true → HasFound known root key (Err e) → HasLooked known root unique key (Err e)
looked_missed known root key unique e is_so found all level tree agrees is = subst (λ b. Looks known b key level tree (Err e)) (sym is_so) (looks known key level tree e (found all level tree agrees is))

nothing_is : (rows : List Dbkey) (b : Bool) → (IsTrue b ↔ (rows ≡ [])) → not b ≡ not (nothing_in rows)
nothing_is [] true iff = refl
nothing_is [] false iff = absurd (let bad : IsTrue false = iff.1 refl in grind arith)
nothing_is (x ∷ rows) true iff = absurd (let bad : x ∷ rows ≡ [] = iff.0 (search rules) in cc)
nothing_is (x ∷ rows) false iff = refl

pub looked : (known : Knowledge) (root : Dbkey) (key : List Value) (unique : Bool) (rows : List Dbkey) (b : Bool) → unique ≡ true → HasFound known root key (Ok rows) → (IsTrue b ↔ (rows ≡ [])) → HasLooked known root unique key (Ok (not b))
looked known root key unique rows b is_so found iff all level tree agrees is =
    let f = found all level tree agrees is in
    subst (λ u. Looks known u key level tree (Ok (not b))) (sym is_so) (nothing_is rows b iff ∙ (ap (λ rs. not (nothing_in rs)) f.0 ∙ sym (key_found key (pairs level tree))), f.1)

pub looked_not : (known : Knowledge) (root : Dbkey) (key : List Value) (unique : Bool) → unique ≡ false → HasLooked known root unique key (Ok false)
looked_not known root key unique is_not all level tree agrees is = subst (λ u. Looks known u key level tree (Ok false)) (sym is_not) (refl, refl)
