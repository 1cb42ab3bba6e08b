-- A pair put in below a node that has no child yet.
use Rattle.std.proofs.Common.{◌≡◌, ◌≢◌, ℕ, zero, suc, ◌+◌, ◌-◌, true, List, [], ◌∷◌, ◌++◌, Some, None, refl, sym, ap, subst, ◌∙◌, arith, inl, inr}
use Rattle.std.specs.Prelude.{Result, Ok, Err}
use Rattle.std.specs.List.{AllByRecursion, flat_map}
use Rattle.std.proofs.lemmas.List.{append-nil}
use Rattle.std.proofs.lemmas.Bool.{cases_lt}
use Rattle.rdb_types.specs.declared.keys.Dbkey.{Dbkey}
use Rattle.index_node.specs.declared.entry.NodeEntry.{NodeEntry}
use Rattle.index_node.specs.declared.node.IndexNode.{IndexNode}
use Rattle.index_node.specs.Node.{IsNode}
use Rattle.line_view.specs.declared.need.Need.TheVariants.{Line, Area, Room}
use Rattle.line_view.specs.Knowledge.{Lines, Knowledge, Agrees}
use Rattle.line_view.specs.declared.writes.Write.{Write}
use Rattle.line_view.specs.Writes.{laid_all}
use Rattle.line_view.proofs.Written.{laid_in_turn}
use Rattle.sorted_index_laws.specs.Stop.{IndexStop}
use Rattle.line_view.specs.declared.stop.Stop.TheVariants.{Missing, Own, Bad, NoMemory}
use Rattle.sorted_index_laws.specs.Tree.{Tree, place, node_of, pairs, places, Stands, IsFilled}
use Rattle.sorted_index_laws.specs.Search.{first_unknown}
use Rattle.sorted_index_laws.specs.Changes.{chosen, with_pair, path_below}
use Rattle.sorted_index_laws.specs.Insertion.{IsNew, IsFull, room_at, AreTaken}
use Rattle.sorted_index_laws.specs.Inner.Growth.{bound, StandBelow, places_below, Grows, PutsIn}
use Rattle.sorted_index_laws.proofs.Frame.{IsApart}
use Rattle.sorted_index_laws.proofs.Lines.{Distinct, none_distinct, distinct_more, keys_of, written_more, one_distinct}
use Rattle.sorted_index_laws.proofs.Ordered.{all_append}
use Rattle.sorted_index_laws.proofs.Without.{Entries}
use Rattle.sorted_index_laws.proofs.Filled.{put_some}
use Rattle.sorted_index_laws.proofs.TakenOut.{level_is}
use Rattle.sorted_index_laws.proofs.Apart.{among_one, room_other}
use Rattle.sorted_index_laws.proofs.Exchange.{HasChildren}
use Rattle.sorted_index_laws.proofs.Halves.{places_are, stand_written}
use Rattle.sorted_index_laws.proofs.Growing.{HasPut, behind_all, grows_up, keys_more, none_taken, own_then}

taken_first : (known : Knowledge) (area from to : ℕ) (room : Dbkey) → known.room (room_at area from) ≡ Some room → AreTaken known area (from + 1) to → AreTaken known area from to
taken_first known area from to room is taken n low high none = elim (cases_lt from n) [
  | inl up ↦ taken n (omega (arith, up)) high none
  | inr down ↦ let same : n ≡ from = omega (arith, low, down) in let bad : Some room ≡ None = sym is ∙ (ap (λ (k : ℕ). known.room (room_at area k)) (sym same) ∙ none) in cc
]

abbrev pub empty : (level : ℕ) → Dbkey → Tree level
empty zero at = record { at = at; entries = [] }
empty (suc level) at = record { at = at; entries = [] }

-- what is so of a tree without entries
record IsEmpty (all : Lines) (area : ℕ) (pair : NodeEntry) (level : ℕ) (at : Dbkey) : Type 0 where
  pub node : node_of level (empty level at) ≡ record { level = level; entries = [] }
  pub place_is : place level (empty level at) ≡ at
  pub stand : StandBelow all area level (empty level at)
  pub places : places_below level (empty level at) ≡ []
  pub pairs : pairs level (empty level at) ≡ []
  pub path : path_below pair level (empty level at) ≡ []
  pub filled : IsFilled level (empty level at)

is_empty : (all : Lines) (area : ℕ) (pair : NodeEntry) (level : ℕ) (at : Dbkey) → IsEmpty all area pair level at
is_empty all area pair zero at = record { node = refl; place_is = refl; stand = tt; places = refl; pairs = refl; path = refl; filled = tt }
is_empty all area pair (suc level) at = record { node = refl; place_is = refl; stand = (tt, tt); places = refl; pairs = refl; path = refl; filled = tt }

-- what is put in below the new child
first_below : (known : Knowledge) (all : Lines) (area : ℕ) (pair : NodeEntry) (node_level below_level level : ℕ) (child : Dbkey) (from to : ℕ) (old new : List Write) (result : Result IndexNode IndexStop) → Agrees known all → suc level ≡ node_level → below_level ≡ node_level - 1 → HasPut known area pair (record { level = below_level; entries = [] }) from to old new result → PutsIn known all area pair level (empty level child) from to old new result
first_below known all area pair node_level below_level level child from to old new result agrees up down put =
    let e = is_empty all area pair level child in
    let same : level ≡ below_level = omega (arith, up, down) in
    put all level (empty level child) agrees e.stand (subst Distinct (sym e.places) none_distinct) (e.node ∙ (λ i. record { level = same i; entries = [] })) (subst (IsNew pair) (sym e.pairs) tt)

no_children : (level : ℕ) (children : List (NodeEntry × Tree level)) → Entries level children ≡ [] → children ≡ []
no_children level [] h = refl
no_children level (c ∷ children) h = absurd (cc)

first_children : (known : Knowledge) (all : Lines) (area : ℕ) (pair : NodeEntry) (level : ℕ) (child : Dbkey) (from to : ℕ) (old between : List Write) (below : IndexNode) (image : List ℕ) → Agrees known all → known.room (room_at area from) ≡ Some child → (g : Grows known all area pair level (empty level child) (from + 1) to old between below) → IsNode image below
    → HasChildren known all area from to pair level [] ((bound pair child, g.after) ∷ []) (g.writes ++ record { key = child; image = Some image } ∷ [])
first_children known all area pair level child from to old between below image agrees is_room g is_image =
    let e = is_empty all area pair level child in
    let here = g.same ∙ e.place_is in
    let own : List Write = record { key = child; image = Some image } ∷ [] in
    let apart = among_one known area (from + 1) to (places_below level (empty level child)) (places_below level g.after) child g.places (subst (IsApart child) (sym e.places) tt) (room_other known all area from (from + 1) to child agrees is_room (omega arith)) in
    let stands = stand_written (laid_all g.writes all) child (Some image) area level g.after here (agrees.within (room_at area from) child is_room) (subst (IsNode image) (sym g.node) is_image) apart g.below in
    let distinct : Distinct (places level g.after) = subst Distinct (sym (places_are level g.after)) (distinct_more (place level g.after) (places_below level g.after) (subst (λ (k : Dbkey). IsApart k (places_below level g.after)) (sym here) apart) g.once) in
    record {
      stand = ((ap Some (sym here), subst (λ ls. Stands ls area level g.after) (sym (laid_in_turn g.writes own all)) stands), tt);
      parted = (tt, tt);
      once = subst Distinct (sym (append-nil (places level g.after))) distinct;
      among = λ q h rooms. all_append (λ k. q k ≡ true) (places level g.after) []
          (own_then (λ k. q k ≡ true) level g.after (subst (λ (k : Dbkey). q k ≡ true) (sym here) (rooms from child (omega arith) (let c = g.counted in omega (arith, c)) is_room)) (g.places q (subst (AllByRecursion (λ k. q k ≡ true)) (sym e.places) tt) (λ n k a b c. rooms n k (omega (arith, a)) b c))) tt;
      written = λ q h rooms. keys_more (λ k. q k ≡ true) g.writes own (g.written q (subst (AllByRecursion (λ k. q k ≡ true)) (sym e.places) tt) (λ n k a b c. rooms n k (omega (arith, a)) b c)) (rooms from child (omega arith) (let c = g.counted in omega (arith, c)) is_room, tt);
      written_once = written_more g.writes own g.written_once (one_distinct child)
          (among_one known area (from + 1) to (places_below level (empty level child)) (keys_of g.writes) child g.written (subst (IsApart child) (sym e.places) tt) (room_other known all area from (from + 1) to child agrees is_room (omega arith)), tt);
      with_it = append-nil (pairs level g.after) ∙ (g.with_it ∙ ap (with_pair pair) e.pairs);
      filled = λ h. ((put_some pair level g.after (pairs level (empty level child)) g.with_it, g.filled e.filled), tt);
    }

pub first_put : (known : Knowledge) (area : ℕ) (pair : NodeEntry) (node : IndexNode) (below_level : ℕ) (child : Dbkey) (from to : ℕ) (old between new : List Write) (below : IndexNode) (image : List ℕ) (entries : List NodeEntry) → node.level ≢ 0 → below_level ≡ node.level - 1 → node.entries ≡ [] → known.room (room_at area from) ≡ Some child → HasPut known area pair (record { level = below_level; entries = [] }) (from + 1) to old between (Ok below)
    → IsNode image below → new ≡ between ++ record { key = child; image = Some image } ∷ [] → entries ≡ bound pair child ∷ [] → HasPut known area pair node from to old new (Ok (record { level = node.level; entries = entries }))
first_put known area pair node below_level child from to old between new below image entries inner down none is_room put is_image last same all zero tree agrees stand once is is_new = absurd (inner (sym (level_is node zero tree is)))
first_put known area pair node below_level child from to old between new below image entries inner down none is_room put is_image last same all (suc level) tree agrees stand once is is_new =
    let up = level_is node (suc level) tree is in
    let p = first_below known all area pair node.level below_level level child (from + 1) to old between (Ok below) agrees up down put in
    let g = p.0 in
    let empty_here : tree.entries ≡ [] = no_children level tree.entries (ap (λ (n : IndexNode). n.entries) is ∙ none) in
    let h = subst (λ (cs : List (NodeEntry × Tree level)). HasChildren known all area from to pair level cs ((bound pair child, g.after) ∷ []) (g.writes ++ record { key = child; image = Some image } ∷ [])) (sym empty_here) (first_children known all area pair level child from to old between below image agrees is_room g is_image) in (
      grows_up known all area pair level tree from to old new (g.writes ++ record { key = child; image = Some image } ∷ []) ((bound pair child, g.after) ∷ []) entries node.level h (sym same) up (let c = g.counted in omega (arith, c)) (behind_all old between new g.writes (record { key = child; image = Some image } ∷ []) g.behind last)
          (λ long. subst (λ (cs : List (NodeEntry × Tree level)). AllByRecursion (IsFull pair level) (chosen pair cs)) (sym empty_here) tt)
          (λ q k rooms. keys_more (λ y. q y ≡ true) g.writes (record { key = child; image = Some image } ∷ []) (g.on_way q (subst (AllByRecursion (λ y. q y ≡ true)) (sym (is_empty all area pair level child).path) tt) (λ n y a b c. rooms n y (omega (arith, a)) b c)) (rooms from child (omega arith) (let c = g.counted in omega (arith, c)) is_room, tt))
          (λ more. subst (λ (cs : List (NodeEntry × Tree level)). AllByRecursion (IsFull pair level) (chosen pair cs)) (sym empty_here) tt),
      ap (λ (cs : List (NodeEntry × Tree level)). first_unknown known (flat_map (λ (c : Tree level). place level c ∷ path_below pair level c) (chosen pair cs))) empty_here,
      taken_first known area from to child is_room p.2,
    )

first_lacks : (known : Knowledge) (all : Lines) (area : ℕ) (pair : NodeEntry) (level : ℕ) (tree : Tree (suc level)) (child : Dbkey) (from to : ℕ) (old new : List Write) (e : IndexStop) → known.room (room_at area from) ≡ Some child → tree.entries ≡ [] → PutsIn known all area pair level (empty level child) (from + 1) to old new (Err e) → PutsIn known all area pair (suc level) tree from to old new (Err e)
first_lacks known all area pair level tree child from to old new (Missing (Line key)) is_room none h = let e = is_empty all area pair level child in absurd (let bad : None ≡ Some key = ap (first_unknown known) (sym e.path) ∙ h in cc)
first_lacks known all area pair level tree child from to old new (Missing (Area a)) is_room none h = h
first_lacks known all area pair level tree child from to old new (Missing (Room room)) is_room none h = (
  (h.0.0, omega (arith, h.0.1), h.0.2, h.0.3, taken_first known area from h.0.0 child is_room h.0.4),
  ap (λ (cs : List (NodeEntry × Tree level)). first_unknown known (flat_map (λ (c : Tree level). place level c ∷ path_below pair level c) (chosen pair cs))) none,
  subst (λ (cs : List (NodeEntry × Tree level)). AllByRecursion (IsFull pair level) (chosen pair cs)) (sym none) tt,
)
first_lacks known all area pair level tree child from to old new (Own duplicate) is_room none h = h
first_lacks known all area pair level tree child from to old new (Bad key) is_room none h = h
first_lacks known all area pair level tree child from to old new NoMemory is_room none h = tt

pub first_stopped : (known : Knowledge) (area : ℕ) (pair : NodeEntry) (node : IndexNode) (below_level : ℕ) (child : Dbkey) (from to : ℕ) (old new : List Write) (e : IndexStop) → node.level ≢ 0 → below_level ≡ node.level - 1 → node.entries ≡ [] → known.room (room_at area from) ≡ Some child → HasPut known area pair (record { level = below_level; entries = [] }) (from + 1) to old new (Err e) → HasPut known area pair node from to old new (Err e)
first_stopped known area pair node below_level child from to old new e inner down none is_room put all zero tree agrees stand once is is_new = absurd (inner (sym (level_is node zero tree is)))
first_stopped known area pair node below_level child from to old new e inner down none is_room put all (suc level) tree agrees stand once is is_new =
    let up = level_is node (suc level) tree is in
    first_lacks known all area pair level tree child from to old new e is_room (no_children level tree.entries (ap (λ (n : IndexNode). n.entries) is ∙ none)) (first_below known all area pair node.level below_level level child (from + 1) to old new (Err e) agrees up down put)

pub first_unroomed : (known : Knowledge) (area : ℕ) (pair : NodeEntry) (node : IndexNode) (from : ℕ) (old : List Write) → node.level ≢ 0 → node.entries ≡ [] → known.room (room_at area from) ≡ None → HasPut known area pair node from from old old (Err (Missing (Room (room_at area from))))
first_unroomed known area pair node from old inner none lacks all zero tree agrees stand once is is_new = absurd (inner (sym (level_is node zero tree is)))
first_unroomed known area pair node from old inner none lacks all (suc level) tree agrees stand once is is_new =
    let empty_here : tree.entries ≡ [] = no_children level tree.entries (ap (λ (n : IndexNode). n.entries) is ∙ none) in (
      (from, omega arith, refl, lacks, none_taken known area from),
      ap (λ (cs : List (NodeEntry × Tree level)). first_unknown known (flat_map (λ (c : Tree level). place level c ∷ path_below pair level c) (chosen pair cs))) empty_here,
      subst (λ (cs : List (NodeEntry × Tree level)). AllByRecursion (IsFull pair level) (chosen pair cs)) (sym empty_here) tt,
    )
