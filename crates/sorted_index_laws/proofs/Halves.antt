-- A tree in two halves.
use Rattle.std.proofs.Common.{◌≡◌, ℕ, zero, suc, false, cond, List, [], ◌∷◌, ◌++◌, Option, Some, refl, sym, ap, subst, ◌∙◌}
use Rattle.std.specs.declared.cmp.Ordering.TheVariants.{Greater}
use Rattle.std.specs.Ordering.{is_eq, ordering_reverse}
use Rattle.std.specs.List.{AllByRecursion}
use Rattle.std.proofs.lemmas.Grind.{flat_map-append}
use Rattle.std.proofs.lemmas.List.{append-nil}
use Rattle.rdb_types.specs.declared.keys.Dbkey.{Dbkey}
use Rattle.rdb_types.specs.Order.{dbkey_order}
use Rattle.index_node.specs.declared.entry.NodeEntry.{NodeEntry}
use Rattle.index_node.specs.Order.{entry_order}
use Rattle.index_node.specs.OrderLaws.{entries_total}
use Rattle.line_view.specs.Knowledge.{Lines, line_in, laid}
use Rattle.line_view.proofs.FullMap.{laid_found}
use Rattle.sorted_index_laws.specs.Tree.{Tree, place, node_of, pairs, places, Bears, AreParted, Stands, is_empty, IsFilled}
use Rattle.sorted_index_laws.specs.Inner.Growth.{StandBelow, places_below, bound}
use Rattle.sorted_index_laws.proofs.Frame.{IsApart, stands_beside}
use Rattle.sorted_index_laws.proofs.Lines.{equal_eq, Distinct, all_front, all_rest, parts, joined, other_way, apart_more, untold, distinct_more}
use Rattle.sorted_index_laws.proofs.Ordered.{Lt, UpTo, Ascend, StandsBelow, lt_upto, less_all, itself, all_append}
use Rattle.sorted_index_laws.proofs.Without.{AllPairs, Entries}
use Rattle.sorted_index_laws.proofs.Removed.{PlacesOf}
use Rattle.sorted_index_laws.proofs.After.{stands_whole, inner_beside}
use Rattle.sorted_index_laws.proofs.Filled.{HasSome, IsFilledChild, AreFilled}
use Rattle.sorted_index_laws.proofs.Exchange.{pairs_before, pairs_from, parted_rest, ascend_rest}

-- ---- lists

pub record Cut (level : ℕ) (children : List (NodeEntry × Tree level)) (xs ys : List NodeEntry) : Type 0 where
  pub front : List (NodeEntry × Tree level)
  pub rest : List (NodeEntry × Tree level)
  pub is : children ≡ front ++ rest
  pub fronts : Entries level front ≡ xs
  pub rests : Entries level rest ≡ ys

head_is : (x y : NodeEntry) (xs ys : List NodeEntry) → x ∷ xs ≡ y ∷ ys → x ≡ y
head_is x y xs ys is = cc

tail_is : (x y : NodeEntry) (xs ys : List NodeEntry) → x ∷ xs ≡ y ∷ ys → xs ≡ ys
tail_is x y xs ys is = cc

pub cut : (level : ℕ) (children : List (NodeEntry × Tree level)) (xs ys : List NodeEntry) → Entries level children ≡ xs ++ ys → Cut level children xs ys
cut level children [] ys is = record { front = []; rest = children; is = refl; fronts = refl; rests = is }
cut level [] (x ∷ xs) ys is = absurd (cc)
cut level (c ∷ children) (x ∷ xs) ys is =
    let below = cut level children xs ys (tail_is c.0 x (Entries level children) (xs ++ ys) is) in
    record {
      front = c ∷ below.front;
      rest = below.rest;
      is = ap (λ cs. c ∷ cs) below.is;
      fronts = λ i. head_is c.0 x (Entries level children) (xs ++ ys) is i ∷ below.fronts i;
      rests = below.rests;
    }

ascend_before : (xs ys : List NodeEntry) (high : NodeEntry) → Ascend (xs ++ high ∷ ys) → AllByRecursion (λ p. Lt p high) xs
ascend_before [] ys high h = tt
ascend_before (x ∷ xs) ys high h = ((all_rest (Lt x) xs (high ∷ ys) h.0).0, ascend_before xs ys high h.1)

pub parted_front : (level : ℕ) (front rest : List (NodeEntry × Tree level)) → AreParted level (front ++ rest) → AreParted level front
parted_front level [] rest h = tt
parted_front level (x ∷ []) rest h = (tt, tt)
parted_front level (x ∷ y ∷ front) rest h = (h.0, parted_front level (y ∷ front) rest h.1)

pairs_past : (level : ℕ) (before : NodeEntry × Tree level) (more : List (NodeEntry × Tree level)) (child : NodeEntry × Tree level) (behind : List (NodeEntry × Tree level)) → AreParted level (before ∷ more ++ child ∷ behind) → Ascend (Entries level (child ∷ behind)) → AllByRecursion (UpTo child.0) (AllPairs level (child ∷ behind))
pairs_past level before [] child behind parted ascend = pairs_from level before child behind parted ascend
pairs_past level before (b ∷ more) child behind parted ascend = pairs_past level b more child behind parted.1 ascend

-- ---- the halves

pub record HasHalves (lines : Lines) (area level : ℕ) (tree : Tree level) (front rest : List NodeEntry) (high : NodeEntry) (at room : Dbkey) : Type 0 where
  pub lower : Tree level
  pub upper : Tree level
  pub lower_node : node_of level lower ≡ record { level = level; entries = front }
  pub upper_node : node_of level upper ≡ record { level = level; entries = rest }
  pub lower_at : place level lower ≡ at
  pub upper_at : place level upper ≡ room
  pub lower_below : StandBelow lines area level lower
  pub upper_below : StandBelow lines area level upper
  pub all_places : places_below level tree ≡ places_below level lower ++ places_below level upper
  pub all_pairs : pairs level tree ≡ pairs level lower ++ pairs level upper
  pub lows : AllByRecursion (λ p. Lt p high) (pairs level lower)
  pub highs : AllByRecursion (UpTo high) (pairs level upper)
  pub filled : IsFilled level tree → HasSome level lower × HasSome level upper

lows_of : (level : ℕ) (front rest : List (NodeEntry × Tree level)) (high : NodeEntry) (more : List NodeEntry) → Entries level rest ≡ high ∷ more → AreParted level (front ++ rest) → Ascend (Entries level (front ++ rest)) → AllByRecursion (λ p. Lt p high) (AllPairs level front)
lows_of level front [] high more is parted ascend = absurd (cc)
lows_of level front (c ∷ rest) high more is parted ascend = subst (λ (e : NodeEntry). AllByRecursion (λ p. Lt p e) (AllPairs level front)) (head_is c.0 high (Entries level rest) more is) (pairs_before level front c rest parted ascend)

highs_of : (level : ℕ) (front rest : List (NodeEntry × Tree level)) (low high : NodeEntry) (less more : List NodeEntry) → Entries level front ≡ low ∷ less → Entries level rest ≡ high ∷ more → AreParted level (front ++ rest) → Ascend (Entries level rest) → AllByRecursion (UpTo high) (AllPairs level rest)
highs_of level [] rest low high less more some is parted ascend = absurd (cc)
highs_of level (a ∷ front) [] low high less more some is parted ascend = absurd (cc)
highs_of level (a ∷ front) (c ∷ rest) low high less more some is parted ascend = subst (λ (e : NodeEntry). AllByRecursion (UpTo e) (AllPairs level (c ∷ rest))) (head_is c.0 high (Entries level rest) more is) (pairs_past level a front c rest parted ascend)

some_in : (level : ℕ) (children : List (NodeEntry × Tree level)) (entry : NodeEntry) (more : List NodeEntry) → Entries level children ≡ entry ∷ more → is_empty children ≡ false
some_in level [] entry more is = absurd (cc)
some_in level (child ∷ children) entry more is = refl

pub halves : (lines : Lines) (area level : ℕ) (tree : Tree level) (front rest : List NodeEntry) (low high : NodeEntry) (less more : List NodeEntry) (at room : Dbkey) → (node_of level tree).entries ≡ front ++ rest → front ≡ low ∷ less → rest ≡ high ∷ more → Ascend (front ++ rest) → StandBelow lines area level tree → HasHalves lines area level tree front rest high at room
halves lines area zero tree front rest low high less more at room is lows highs ascend stand =
    let behind = subst Ascend highs (ascend_rest front rest ascend) in
    record {
      lower = record { at = at; entries = front };
      upper = record { at = room; entries = rest };
      lower_node = refl;
      upper_node = refl;
      lower_at = refl;
      upper_at = refl;
      lower_below = tt;
      upper_below = tt;
      all_places = refl;
      all_pairs = is;
      lows = ascend_before front more high (subst (λ (es : List NodeEntry). Ascend (front ++ es)) highs ascend);
      highs = subst (AllByRecursion (UpTo high)) (sym highs) (itself high, less_all high more behind.0);
      filled = λ h. ((ap is_empty lows, tt), (ap is_empty highs, tt));
    }
halves lines area (suc level) tree front rest low high less more at room is lows highs ascend stand =
    let c = cut level tree.entries front rest is in
    let parted = subst (AreParted level) c.is stand.1 in
    let stands = subst (AllByRecursion (StandsBelow lines area level)) c.is stand.0 in
    let ups : Ascend (Entries level (c.front ++ c.rest)) = subst Ascend (sym is ∙ ap (Entries level) c.is) ascend in
    let ups_rest : Ascend (Entries level c.rest) = subst Ascend (sym c.rests) (ascend_rest front rest ascend) in
    let filled : AreFilled level tree.entries → AreFilled level (c.front ++ c.rest) = subst (AreFilled level) c.is in
    record {
      lower = record { at = at; entries = c.front };
      upper = record { at = room; entries = c.rest };
      lower_node = λ i. record { level = suc level; entries = c.fronts i };
      upper_node = λ i. record { level = suc level; entries = c.rests i };
      lower_at = refl;
      upper_at = refl;
      lower_below = (all_front (StandsBelow lines area level) c.front c.rest stands, parted_front level c.front c.rest parted);
      upper_below = (all_rest (StandsBelow lines area level) c.front c.rest stands, parted_rest level c.front c.rest parted);
      all_places = ap (PlacesOf level) c.is ∙ flat_map-append (λ (child : NodeEntry × Tree level). places level child.1) c.front c.rest;
      all_pairs = ap (AllPairs level) c.is ∙ flat_map-append (λ (child : NodeEntry × Tree level). pairs level child.1) c.front c.rest;
      lows = lows_of level c.front c.rest high more (c.rests ∙ highs) parted ups;
      highs = highs_of level c.front c.rest low high less more (c.fronts ∙ lows) (c.rests ∙ highs) parted ups_rest;
      filled = λ h. (
        (some_in level c.front low less (c.fronts ∙ lows), all_front (IsFilledChild level) c.front c.rest (filled h)),
        (some_in level c.rest high more (c.rests ∙ highs), all_rest (IsFilledChild level) c.front c.rest (filled h)),
      );
    }

-- no pair is at or above a bound and below one that isn't above it
pub nothing_between : (low high : NodeEntry) (ps : List NodeEntry) → AllByRecursion (UpTo low) ps → AllByRecursion (λ p. Lt p high) ps → UpTo high low → ps ≡ []
nothing_between low high [] from below turn = refl
nothing_between low high (p ∷ ps) from below turn =
    let lt : Lt p low = lt_upto p high low below.0 turn in
    let gt : entry_order low p ≡ Greater = entries_total.antisymm low p ∙ ap ordering_reverse lt in
    absurd (from.0 gt)

-- ---- nodes that are written

pub places_are : (level : ℕ) (tree : Tree level) → places level tree ≡ place level tree ∷ places_below level tree
places_are zero tree = refl
places_are (suc level) tree = refl

pub stand_written : (lines : Lines) (at : Dbkey) (image : Option (List ℕ)) (area level : ℕ) (tree : Tree level) → place level tree ≡ at → at.area ≡ area → Bears image (node_of level tree) → IsApart at (places_below level tree) → StandBelow lines area level tree → Stands (laid at image lines) area level tree
stand_written lines at image area level tree here in_area is apart below =
    let found : line_in (place level tree) (laid at image lines) ≡ image = laid_found (place level tree) at image lines ∙ ap (λ b. cond b image (line_in (place level tree) lines)) (ap (λ (k : Dbkey). is_eq (dbkey_order k at)) here ∙ equal_eq at) in
    stands_whole (laid at image lines) area level tree (ap (λ (k : Dbkey). k.area) here ∙ in_area) (subst (λ what. Bears what (node_of level tree)) (sym found) is) (inner_beside lines at image area level tree apart below)

-- ---- both halves, written on two lines

pub record StandBoth (lines : Lines) (area level : ℕ) (tree : Tree level) (first second : NodeEntry × Tree level) : Type 0 where
  pub stand : AllByRecursion (StandsBelow lines area level) (first ∷ second ∷ [])
  pub parted : AreParted level (first ∷ second ∷ [])
  pub once : Distinct (PlacesOf level (first ∷ second ∷ []))
  pub pairs : AllPairs level (first ∷ second ∷ []) ≡ pairs level tree

apart_own : (level : ℕ) (tree : Tree level) (key at : Dbkey) → place level tree ≡ at → is_eq (dbkey_order at key) ≡ false → IsApart key (places_below level tree) → IsApart key (places level tree)
apart_own level tree key at here other apart = subst (IsApart key) (sym (places_are level tree)) (subst (λ (k : Dbkey). is_eq (dbkey_order k key) ≡ false) (sym here) other, apart)

distinct_own : (level : ℕ) (tree : Tree level) (at : Dbkey) → place level tree ≡ at → IsApart at (places_below level tree) → Distinct (places_below level tree) → Distinct (places level tree)
distinct_own level tree at here apart once = subst Distinct (sym (places_are level tree)) (distinct_more (place level tree) (places_below level tree) (subst (λ (k : Dbkey). IsApart k (places_below level tree)) (sym here) apart) once)

-- the two trees have no line in common
distinct_both : (level : ℕ) (lower upper : Tree level) (at room : Dbkey) → place level lower ≡ at → place level upper ≡ room → is_eq (dbkey_order at room) ≡ false → is_eq (dbkey_order room at) ≡ false → IsApart at (places_below level lower ++ places_below level upper) → IsApart room (places_below level lower ++ places_below level upper) → Distinct (places_below level lower ++ places_below level upper)
    → Distinct (places level lower ++ places level upper)
distinct_both level lower upper at room lower_at upper_at other turned at_apart room_apart once =
    let l = places_below level lower in
    let u = places_below level upper in
    let p = parts l u once in
    let l_at = all_front (λ (k : Dbkey). is_eq (dbkey_order k at) ≡ false) l u at_apart in
    let u_at = all_rest (λ (k : Dbkey). is_eq (dbkey_order k at) ≡ false) l u at_apart in
    let l_room = all_front (λ (k : Dbkey). is_eq (dbkey_order k room) ≡ false) l u room_apart in
    let u_room = all_rest (λ (k : Dbkey). is_eq (dbkey_order k room) ≡ false) l u room_apart in
    subst (λ (ks : List Dbkey). Distinct (ks ++ places level upper)) (sym (places_are level lower ∙ ap (λ (k : Dbkey). k ∷ l) lower_at))
    (subst (λ (ks : List Dbkey). Distinct (at ∷ l ++ ks)) (sym (places_are level upper ∙ ap (λ (k : Dbkey). k ∷ u) upper_at))
    (joined (at ∷ l) (room ∷ u) (distinct_more at l l_at p.front) (distinct_more room u u_room p.rest) ((other, l_room), apart_more at l u (untold at u u_at) p.apart)))

pub stand_both : (lines : Lines) (area level : ℕ) (tree : Tree level) (front rest : List NodeEntry) (own high : NodeEntry) (at room : Dbkey) (image other : Option (List ℕ)) (h : HasHalves lines area level tree front rest high at room) → own.child ≡ Some at → at.area ≡ area → room.area ≡ area
    → Bears image (record { level = level; entries = front }) → Bears other (record { level = level; entries = rest }) → is_eq (dbkey_order at room) ≡ false → IsApart at (places_below level tree) → IsApart room (places_below level tree) → Distinct (places_below level tree)
    → StandBoth (laid room other (laid at image lines)) area level tree (own, h.lower) (bound high room, h.upper)
stand_both lines area level tree front rest own high at room image other h named in_area room_in bears other_bears apart at_apart room_apart once =
    let l = places_below level h.lower in
    let u = places_below level h.upper in
    let turned : is_eq (dbkey_order room at) ≡ false = other_way room at ∙ apart in
    let at_both = subst (IsApart at) h.all_places at_apart in
    let room_both = subst (IsApart room) h.all_places room_apart in
    let l_at = all_front (λ (k : Dbkey). is_eq (dbkey_order k at) ≡ false) l u at_both in
    let u_at = all_rest (λ (k : Dbkey). is_eq (dbkey_order k at) ≡ false) l u at_both in
    let l_room = all_front (λ (k : Dbkey). is_eq (dbkey_order k room) ≡ false) l u room_both in
    let u_room = all_rest (λ (k : Dbkey). is_eq (dbkey_order k room) ≡ false) l u room_both in
    let first : Stands (laid at image lines) area level h.lower = stand_written lines at image area level h.lower h.lower_at in_area (subst (Bears image) (sym h.lower_node) bears) l_at h.lower_below in
    let second : Stands (laid room other (laid at image lines)) area level h.upper =
    stand_written (laid at image lines) room other area level h.upper h.upper_at room_in (subst (Bears other) (sym h.upper_node) other_bears) u_room (inner_beside lines at image area level h.upper u_at h.upper_below) in
    let pairs_are : AllPairs level ((own, h.lower) ∷ (bound high room, h.upper) ∷ []) ≡ pairs level tree = ap (λ (ps : List NodeEntry). pairs level h.lower ++ ps) (append-nil (pairs level h.upper)) ∙ sym h.all_pairs in
    record {
      stand = (
        (named ∙ ap Some (sym h.lower_at), stands_beside (laid at image lines) room other area level h.lower (apart_own level h.lower room at h.lower_at apart l_room) first),
        ((ap Some (sym h.upper_at), second), tt),
      );
      parted = ((h.lows, h.highs), (tt, tt));
      once = subst (λ (ks : List Dbkey). Distinct (places level h.lower ++ ks)) (sym (append-nil (places level h.upper))) (distinct_both level h.lower h.upper at room h.lower_at h.upper_at apart turned at_both room_both (subst Distinct h.all_places once));
      pairs = pairs_are;
    }

-- what holds of the two lines and of those below the tree, holds of all lines of the two
pub places_both : (Q : Dbkey → Type 0) (lines : Lines) (area level : ℕ) (tree : Tree level) (front rest : List NodeEntry) (own high : NodeEntry) (at room : Dbkey) (h : HasHalves lines area level tree front rest high at room) → Q at → Q room → AllByRecursion Q (places_below level tree) → AllByRecursion Q (PlacesOf level ((own, h.lower) ∷ (bound high room, h.upper) ∷ []))
places_both Q lines area level tree front rest own high at room h on_at on_room below =
    let l = places_below level h.lower in
    let u = places_below level h.upper in
    let both = subst (AllByRecursion Q) h.all_places below in
    all_append Q (places level h.lower) (places level h.upper ++ [])
    (subst (AllByRecursion Q) (sym (places_are level h.lower)) (subst Q (sym h.lower_at) on_at, all_front Q l u both))
    (all_append Q (places level h.upper) [] (subst (AllByRecursion Q) (sym (places_are level h.upper)) (subst Q (sym h.upper_at) on_room, all_rest Q l u both)) tt)
