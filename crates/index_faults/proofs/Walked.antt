-- A walk over what is below a node, child by child.
use Rattle.std.specs.BTreeMap.{is_at}
use Rattle.rdb_types.specs.Order.{dbkey_order}
use Rattle.relation_rows.specs.Stored.{IsAreaKnown}
use Rattle.line_faults.specs.Found.{IsIn}
use Rattle.std.proofs.Common.{inl, inr, add-one, ◌≡◌, ◌≤◌, ◌<◌, ◌+◌, ◌-◌, ◌==◌, ℕ, zero, suc, Bool, true, false, List, [], ◌∷◌, ◌++◌, map, take, drop, length, get_or, Option, Some, None, refl, sym, ap, subst, ◌∙◌, arith}
use Rattle.std.specs.List.{AllByRecursion, flat_map, list_any}
use Rattle.std.proofs.lemmas.Bool.{eqb-true, eq-eqb}
use Rattle.std.proofs.lemmas.List.{append-nil, append_assoc, map-append, take_more, take_all, drop_at, length-take-le, length-map}
use Rattle.rdb_types.specs.declared.keys.Dbkey.{Dbkey}
use Rattle.index_node.specs.declared.entry.NodeEntry.{NodeEntry}
use Rattle.index_node.specs.declared.node.IndexNode.{IndexNode}
use Rattle.index_node.specs.Node.{IsAllowedNode}
use Rattle.line_view.specs.Knowledge.{Knowledge, Lines, Agrees, line_in}
use Rattle.sorted_index_laws.specs.Inner.Steps.{IsKnownAs}
use Rattle.sorted_index_laws.specs.Tree.{Tree, Bears, place, node_of, pairs, places, Stands}
use Rattle.sorted_index_laws.proofs.Frame.{IsApart, StandsBelow}
use Rattle.sorted_index_laws.proofs.Removed.{PlacesOf}
use Rattle.sorted_index_laws.proofs.Lines.{Distinct, tail_distinct, head_apart}
use Rattle.sorted_index_laws.proofs.Ordered.{all_append}
use Rattle.index_faults.specs.declared.walk.Walk.{Walk}
use Rattle.index_faults.specs.Walks.{are_between, IsReached, IsMissed, IsJudged, Reaches, AreNew, ReachesOnly, IsPassed, places_below, IsWhole, Walks, IsInOrderWith}
use Rattle.index_faults.proofs.Passing.{Around, AreChildren, ArePassed, here, below_it, placed, unreached, own_first, child_new, child_area, child_node, child_level, child_between, still_only, still_holds, not_apart, one_known, node_known, stands_bears, own_places}
use Rattle.index_faults.proofs.Reached.{none_reached, one_reached, more_reached, in_inserted_only}
use Rattle.index_faults.proofs.Bounds.{IsBetween, none_between, more_between, parted}

-- ---- lists

none_first : {X : Type 0} (xs ys : List X) → xs ++ ys ≡ [] → xs ≡ []
none_first [] ys is = refl
none_first (x ∷ xs) ys is = absurd (let no : ⊥ = cc in no)

pub none_then : {X : Type 0} (xs ys : List X) → xs ++ ys ≡ [] → ys ≡ []
none_then [] ys is = is
none_then (x ∷ xs) ys is = absurd (let no : ⊥ = cc in no)

flat_more : {X Y : Type 0} (f : X → List Y) (xs : List X) (x : X) → flat_map f (xs ++ x ∷ []) ≡ flat_map f xs ++ f x
flat_more f [] x = append-nil (f x)
flat_more f (y ∷ ys) x = ap (λ l. f y ++ l) (flat_more f ys x) ∙ sym (append_assoc (f y) (flat_map f ys) (f x))

-- ---- nodes

pub known_allowed : (what : Option (Option (List ℕ))) (node : IndexNode) → IsKnownAs what node → IsAllowedNode node
known_allowed None node is = absurd is
known_allowed (Some None) node is = absurd is
known_allowed (Some (Some bytes)) node is = is.allowed

known_bears : (known : Knowledge) (all : Lines) (at : Dbkey) (node : IndexNode) → Agrees known all → (what : Option (Option (List ℕ))) → known.line at ≡ what → IsKnownAs what node → Bears (line_in at all) node
known_bears known all at node agrees None told is = absurd is
known_bears known all at node agrees (Some None) told is = absurd is
known_bears known all at node agrees (Some (Some bytes)) told is = subst (λ (o : Option (List ℕ)). Bears o node) (agrees.line at (Some bytes) told) is

bears : (known : Knowledge) (all : Lines) (at : Dbkey) (node : IndexNode) → Agrees known all → IsKnownAs (known.line at) node → Bears (line_in at all) node
bears known all at node agrees is = known_bears known all at node agrees (known.line at) refl is

-- ---- how far it came

-- these are trees below the first entries of a node
pub record HasChildren (all : Lines) (area below : ℕ) (entries : List NodeEntry) (count : ℕ) (old new : List Dbkey) (held : List NodeEntry) : Type 0 where
  pub children : List (NodeEntry × Tree below)
  pub are : map (λ c. c.0) children ≡ take count entries
  pub stand : AllByRecursion (StandsBelow all area below) children
  pub between : IsBetween below entries children
  pub holds : held ≡ flat_map (λ c. pairs below c.1) children
  pub reaches : Reaches old new (PlacesOf below children)

pub record Progress (known : Knowledge) (below : ℕ) (entries : List NodeEntry) (count : ℕ) (old now : Walk) : Type 0 where
  pub area : now.area ≡ old.area
  pub more : List Dbkey
  pub faults_are : now.faults ≡ old.faults ++ more
  pub held : List NodeEntry
  pub pairs_are : now.pairs ≡ old.pairs ++ held
  pub whole : more ≡ [] → (all : Lines) → Agrees known all → HasChildren all old.area below entries count old.reached.keys now.reached.keys held
  pub passed : IsAreaKnown known old.area → (all : Lines) → Agrees known all → (l : ℕ) → l ≡ below → (children : List (NodeEntry × Tree l)) → AreChildren all old.area l entries old.reached.keys children → ArePassed l children count more held old.reached.keys now.reached.keys

pub start : (known : Knowledge) (below : ℕ) (entries : List NodeEntry) (old : Walk) → Progress known below entries 0 old old
start known below entries old = record {
  area = refl;
  more = [];
  faults_are = sym (append-nil old.faults);
  held = [];
  pairs_are = sym (append-nil old.pairs);
  whole = λ none all agrees. record {
    children = [];
    are = refl;
    stand = tt;
    between = none_between below entries;
    holds = refl;
    reaches = none_reached old.reached.keys;
  };
  passed = λ is all agrees l same children are. record { none = refl; holds = refl; only = λ key there. inl there };
}

-- a child that isn't there
pub missed : (known : Knowledge) (below : ℕ) (entries : List NodeEntry) (count : ℕ) (old now new : Walk) (child : Dbkey) → count < length entries → ((d : NodeEntry) → (get_or entries count d).child ≡ Some child) → Progress known below entries count old now → IsMissed known child (Some below) now new → Progress known below entries (count + 1) old new
missed known below entries count old now new child inside entry p miss = record {
  area = miss.area ∙ p.area;
  more = p.more ++ child ∷ [];
  faults_are = miss.fault ∙ ap (λ l. l ++ child ∷ []) p.faults_are ∙ append_assoc old.faults p.more (child ∷ []);
  held = p.held;
  pairs_are = miss.pairs_stay ∙ p.pairs_are;
  whole = λ none all agrees. absurd (let first = none_then p.more (child ∷ []) none in let no : ⊥ = cc in no);
  passed = λ is all agrees l same children are.
      let q = p.passed is all agrees l same children are in
      let it = here known all old.area l entries old.reached.keys now.reached.keys children are count q.only child inside entry in
      absurd (miss.cause (node_of l it.it.1)
      (child_area known all old.area l entries old.reached.keys now.reached.keys children are count q.only child inside entry ∙ sym p.area)
      (child_new known all old.area l entries old.reached.keys now.reached.keys children are count q.only child inside entry)
      (child_node known all old.area l entries old.reached.keys now.reached.keys children are count q.only child inside entry agrees is)
      (child_level known all old.area l entries old.reached.keys now.reached.keys children are count q.only child inside entry below same));
}

-- what a judgement adds
record Adds (child : Dbkey) (between : Bool) (faults : ℕ) (old new : Walk) : Type 0 where
  more : List Dbkey
  are : new.faults ≡ old.faults ++ more
  fine : length old.faults ≡ faults → more ≡ [] → between ≡ true
  silent : between ≡ true → more ≡ []

adds : (child : Dbkey) (between : Bool) (faults : ℕ) (old new : Walk) → IsJudged child between faults old new → Adds child between faults old new
adds child true faults old new j = record { more = []; are = j.fine refl ∙ sym (append-nil old.faults); fine = λ same none. refl; silent = λ is. refl }
adds child false faults old new j = by (length old.faults == faults) refl where
  by : (b : Bool) → (length old.faults == faults) ≡ b → Adds child false faults old new
  by true is = record { more = child ∷ []; are = j.bad (eqb-true (length old.faults) faults is) refl; fine = λ same none. absurd (let no : ⊥ = cc in no); silent = λ is. absurd (let no : ⊥ = cc in no) }
  by false isnt = record {
    more = [];
    are = j.late (λ same. let is = eq-eqb (length old.faults) faults same in let no : ⊥ = cc in no) ∙ sym (append-nil old.faults);
    fine = λ same none. absurd (let is = eq-eqb (length old.faults) faults same in let no : ⊥ = cc in no);
    silent = λ is. refl;
  }

-- what stands below a child, at the level that it has
at_level : (all : Lines) (area : ℕ) (at : Dbkey) (level below : ℕ) (held : List NodeEntry) (old new : List Dbkey) → level ≡ below → IsWhole all area at level held old new → IsWhole all area at below held old new
at_level all area at level below held old new same is = subst (λ (l : ℕ). IsWhole all area at l held old new) same is

all_places : (level : ℕ) (tree : Tree level) → places level tree ≡ place level tree ∷ places_below level tree
all_places zero tree = refl
all_places (suc level) tree = refl

module _ (known : Knowledge) (below : ℕ) (entries : List NodeEntry) (count : ℕ) (old now mid next new : Walk) (child : Dbkey) (node : IndexNode) (p : Progress known below entries count old now)
    (reached : IsReached known child (Some below) node now mid) (walks : Walks known node mid next)
    (judged : IsJudged child (are_between count entries (drop (length now.pairs) next.pairs)) (length now.faults) next new)
    (inside : count < length entries) (entry : (d : NodeEntry) → (get_or entries count d).child ≡ Some child) where
  judgement : Adds child (are_between count entries (drop (length now.pairs) next.pairs)) (length now.faults) next new
  judgement = adds child (are_between count entries (drop (length now.pairs) next.pairs)) (length now.faults) next new judged

  behind : drop (length now.pairs) next.pairs ≡ walks.held
  behind = ap (drop (length now.pairs)) (walks.pairs_are ∙ ap (λ l. l ++ walks.held) reached.pairs_stay) ∙ drop_at now.pairs walks.held (length now.pairs) refl

  unfaulted : walks.more ≡ [] → length next.faults ≡ length now.faults
  unfaulted none = ap length (walks.faults_are ∙ ap (λ l. mid.faults ++ l) none ∙ append-nil mid.faults ∙ reached.faults_stay)

  module _ (none : p.more ++ (walks.more ++ judgement.more) ≡ []) (all : Lines) (agrees : Agrees known all) where
    before : HasChildren all old.area below entries count old.reached.keys now.reached.keys p.held
    before = p.whole (none_first p.more (walks.more ++ judgement.more) none) all agrees

    rest : walks.more ++ judgement.more ≡ []
    rest = none_then p.more (walks.more ++ judgement.more) none

    own : child.area ≡ mid.area
    own = reached.own ∙ sym reached.area

    its : IsWhole all mid.area child node.level walks.held mid.reached.keys next.reached.keys
    its = walks.whole (none_first walks.more judgement.more rest) all child agrees (bears known all child node agrees reached.bears) own

    leveled : IsWhole all mid.area child below walks.held mid.reached.keys next.reached.keys
    leveled = at_level all mid.area child node.level below walks.held mid.reached.keys next.reached.keys (eqb-true node.level below reached.leveled) its

    abbrev there : NodeEntry → NodeEntry × Tree below
    there d = (get_or entries count d, leveled.tree)

    stands : (d : NodeEntry) → StandsBelow all old.area below (there d)
    stands d = (entry d ∙ ap Some (sym leveled.placed), subst (λ (a : ℕ). Stands all a below leveled.tree) (reached.area ∙ p.area) leveled.stands)

    is_between : are_between count entries (pairs below leveled.tree) ≡ true
    is_between =
        ap (λ (ps : List NodeEntry). are_between count entries ps) (sym (behind ∙ leveled.holds))
        ∙ judgement.fine (unfaulted (none_first walks.more judgement.more rest)) (none_then walks.more judgement.more rest)

    counted : length before.children ≡ count
    counted = sym (length-map before.children (λ (c : NodeEntry × Tree below). c.0)) ∙ ap length before.are ∙ length-take-le count entries (omega (arith, inside))

    reaches_own : Reaches now.reached.keys new.reached.keys (places below leveled.tree)
    reaches_own = subst (λ (ks : List Dbkey). Reaches now.reached.keys new.reached.keys ks) (sym (all_places below leveled.tree ∙ ap (λ k. k ∷ places_below below leveled.tree) leveled.placed))
        (more_reached now.reached.keys mid.reached.keys new.reached.keys (child ∷ []) (places_below below leveled.tree) (one_reached now.reached.keys mid.reached.keys child reached.fresh reached.reached)
        (subst (λ (ks : List Dbkey). Reaches mid.reached.keys ks (places_below below leveled.tree)) (sym judged.reached_stay) leveled.reaches))

    with_child : (d : NodeEntry) → HasChildren all old.area below entries (count + 1) old.reached.keys new.reached.keys (p.held ++ walks.held)
    with_child d = record {
      children = before.children ++ there d ∷ [];
      are = map-append (λ (c : NodeEntry × Tree below). c.0) before.children (there d ∷ []) ∙ ap (λ l. l ++ get_or entries count d ∷ []) before.are ∙ sym (take_more entries count d inside);
      stand = all_append (StandsBelow all old.area below) before.children (there d ∷ []) before.stand (stands d, tt);
      between = more_between below count entries before.children (there d) counted before.between is_between;
      holds = (λ i. before.holds i ++ leveled.holds i) ∙ sym (flat_more (λ (c : NodeEntry × Tree below). pairs below c.1) before.children (there d));
      reaches = subst (λ (ks : List Dbkey). Reaches old.reached.keys new.reached.keys ks) (sym (flat_more (λ (c : NodeEntry × Tree below). places below c.1) before.children (there d)))
          (more_reached old.reached.keys now.reached.keys new.reached.keys (PlacesOf below before.children) (places below leveled.tree) before.reaches reaches_own);
    }

  -- where the node is in order
  module _ (is : IsAreaKnown known old.area) (all : Lines) (agrees : Agrees known all) (l : ℕ) (same : l ≡ below) (children : List (NodeEntry × Tree l)) (are : AreChildren all old.area l entries old.reached.keys children) where
    abbrev q : ArePassed l children count p.more p.held old.reached.keys now.reached.keys
    q = p.passed is all agrees l same children are

    abbrev it : Around count children
    it = here known all old.area l entries old.reached.keys now.reached.keys children are count q.only child inside entry

    stands_so : StandsBelow all old.area l it.it
    stands_so = below_it known all old.area l entries old.reached.keys now.reached.keys children are count q.only child inside entry

    placed_so : place l it.it.1 ≡ child
    placed_so = placed known all old.area l entries old.reached.keys now.reached.keys children are count q.only child inside entry

    abbrev first_of : Dbkey
    first_of = place l it.it.1

    distinct_so : Distinct (first_of ∷ places_below l it.it.1)
    distinct_so = own_first known all old.area l entries old.reached.keys now.reached.keys children are count q.only child inside entry

    its_node : node_of l it.it.1 ≡ node
    its_node = one_known (known.line child) (node_of l it.it.1) node (child_node known all old.area l entries old.reached.keys now.reached.keys children are count q.only child inside entry agrees is) reached.bears

    unreached_so : (key : Dbkey) → IsIn key (places_below l it.it.1) → IsIn key mid.reached.keys → ⊥
    unreached_so key there was = elim (in_inserted_only key child now.reached.keys (subst (IsIn key) reached.reached was)) [
      | inl before ↦ unreached known all old.area l entries old.reached.keys now.reached.keys children are count q.only child inside entry key (subst (IsIn key) (sym (own_places l it.it.1)) (inr there)) before
      | inr is_child ↦ not_apart key (places_below l it.it.1) (subst (λ (k : Dbkey). IsApart k (places_below l it.it.1)) (placed_so ∙ is_child) (head_apart first_of (places_below l it.it.1) distinct_so)) there
    ]

    inner : IsPassed l it.it.1 walks.more walks.held mid.reached.keys next.reached.keys
    inner = walks.passed (subst (IsAreaKnown known) (sym (reached.area ∙ p.area)) is) all agrees l it.it.1 its_node (subst (λ (a : ℕ). Stands all a l it.it.1) (sym (reached.area ∙ p.area)) stands_so.1)
        (record { distinct = tail_distinct first_of (places_below l it.it.1) distinct_so; fresh = unreached_so })

    quiet : judgement.more ≡ []
    quiet = judgement.silent (ap (λ (ps : List NodeEntry). are_between count entries ps) (behind ∙ inner.holds) ∙ child_between known all old.area l entries old.reached.keys now.reached.keys children are count q.only child inside entry)

    one_reached_only : ReachesOnly now.reached.keys mid.reached.keys (child ∷ [])
    one_reached_only key there = elim (in_inserted_only key child now.reached.keys (subst (IsIn key) reached.reached there)) [
      | inl before ↦ inl before
      | inr is_child ↦ inr (inl is_child)
    ]

    passed_next : ArePassed l children (suc count) (p.more ++ (walks.more ++ judgement.more)) (p.held ++ walks.held) old.reached.keys new.reached.keys
    passed_next = record {
      none = λ i. q.none i ++ (inner.none i ++ quiet i);
      holds = still_holds known all old.area l entries old.reached.keys now.reached.keys children are count q.only child inside entry p.held walks.held q.holds inner.holds;
      only = subst (λ (ks : List Dbkey). ReachesOnly old.reached.keys ks (PlacesOf l (take (suc count) children))) (sym judged.reached_stay)
          (still_only known all old.area l entries old.reached.keys now.reached.keys children are count q.only child inside entry mid.reached.keys next.reached.keys one_reached_only inner.only);
    }

    passed_on : ArePassed l children (count + 1) (p.more ++ (walks.more ++ judgement.more)) (p.held ++ walks.held) old.reached.keys new.reached.keys
    passed_on = subst (λ (n : ℕ). ArePassed l children n (p.more ++ (walks.more ++ judgement.more)) (p.held ++ walks.held) old.reached.keys new.reached.keys) (sym (add-one count)) passed_next

  pub one_child : (d : NodeEntry) → Progress known below entries (count + 1) old new
  one_child d = record {
    area = judged.area ∙ walks.area ∙ reached.area ∙ p.area;
    more = p.more ++ (walks.more ++ judgement.more);
    faults_are = judgement.are
        ∙ ap (λ l. l ++ judgement.more) (walks.faults_are ∙ ap (λ l. l ++ walks.more) (reached.faults_stay ∙ p.faults_are))
        ∙ append_assoc (old.faults ++ p.more) walks.more judgement.more
        ∙ append_assoc old.faults p.more (walks.more ++ judgement.more);
    held = p.held ++ walks.held;
    pairs_are = judged.pairs_stay ∙ walks.pairs_are ∙ ap (λ l. l ++ walks.held) (reached.pairs_stay ∙ p.pairs_are) ∙ append_assoc old.pairs p.held walks.held;
    whole = λ none all agrees. with_child none all agrees d;
    passed = λ is all agrees l same children are. passed_on is all agrees l same children are;
  }

-- ---- the end

leaf_holds : (l : ℕ) (tree : Tree l) (entries : List NodeEntry) → node_of l tree ≡ record { level = 0; entries = entries } → entries ≡ pairs l tree
leaf_holds zero tree entries of = sym (ap (λ (n : IndexNode). n.entries) of)
leaf_holds (suc l) tree entries of = absurd (let level : suc l ≡ 0 = ap (λ (n : IndexNode). n.level) of in let no : ⊥ = omega (arith, level) in no)

-- the children of a node in order were all gone over
finish_passed : (known : Knowledge) (level : ℕ) (entries : List NodeEntry) (count : ℕ) (old now : Walk) → length entries ≤ count → (q : Progress known level entries count old now) → IsAreaKnown known old.area → (all : Lines) → Agrees known all
    → (l : ℕ) (tree : Tree l) → node_of l tree ≡ record { level = suc level; entries = entries } → Stands all old.area l tree → AreNew old.reached.keys (places_below l tree) → IsPassed l tree q.more q.held old.reached.keys now.reached.keys
finish_passed known level entries count old now ended q is all agrees zero tree of stands apart = absurd (let at : 0 ≡ suc level = ap (λ (n : IndexNode). n.level) of in let no : ⊥ = omega (arith, at) in no)
finish_passed known level entries count old now ended q is all agrees (suc l) tree of stands apart =
    let at : suc l ≡ suc level = ap (λ (n : IndexNode). n.level) of in
    let same : l ≡ level = omega (arith, at) in
    let are : map (λ (c : NodeEntry × Tree l). c.0) tree.entries ≡ entries = ap (λ (n : IndexNode). n.entries) of in
    let r = q.passed is all agrees l same tree.entries (record { are = are; stand = stands.2; parted = stands.3; new = apart }) in
    let counted : length tree.entries ≡ length entries = sym (length-map tree.entries (λ (c : NodeEntry × Tree l). c.0)) ∙ ap length are in
    let all_of : take count tree.entries ≡ tree.entries = take_all count tree.entries (omega (arith, counted, ended)) in
    record {
      none = r.none;
      holds = r.holds ∙ ap (flat_map (λ (c : NodeEntry × Tree l). pairs l c.1)) all_of;
      only = subst (λ (cs : List (NodeEntry × Tree l)). ReachesOnly old.reached.keys now.reached.keys (PlacesOf l cs)) all_of r.only;
    }

-- a leaf
pub leaf : (known : Knowledge) (level : ℕ) (entries : List NodeEntry) (old new : Walk) → level ≡ 0 → new ≡ record old { pairs = old.pairs ++ entries } → Walks known (record { level = level; entries = entries }) old new
leaf known (suc level) entries old new is added = absurd (let no : ⊥ = cc in no)
leaf known zero entries old new is added = record {
  area = ap (λ (w : Walk). w.area) added;
  more = [];
  faults_are = ap (λ (w : Walk). w.faults) added ∙ sym (append-nil old.faults);
  held = entries;
  pairs_are = ap (λ (w : Walk). w.pairs) added;
  whole = λ none all at agrees bears own. record {
    tree = record { at = at; entries = entries };
    placed = refl;
    stands = (own, bears);
    holds = refl;
    reaches = subst (λ (w : Walk). Reaches old.reached.keys w.reached.keys []) (sym added) (none_reached old.reached.keys);
  };
  passed = λ is all agrees l tree of stands apart. record {
    none = refl;
    holds = leaf_holds l tree entries of;
    only = λ key there. inl (subst (λ (w : Walk). IsIn key w.reached.keys) added there);
  };
}

pub finish : (known : Knowledge) (level below : ℕ) (entries : List NodeEntry) (count : ℕ) (old now : Walk) → (level ≡ 0 → ⊥) → below ≡ level - 1 → length entries ≤ count → Progress known below entries count old now → Walks known (record { level = level; entries = entries }) old now
finish known zero below entries count old now inner is ended p = absurd (inner refl)
finish known (suc level) below entries count old now inner is ended p =
    let same : below ≡ level = omega (arith, is) in
    let q : Progress known level entries count old now = subst (λ (b : ℕ). Progress known b entries count old now) same p in
    record {
      area = q.area;
      more = q.more;
      faults_are = q.faults_are;
      held = q.held;
      pairs_are = q.pairs_are;
      whole = λ none all at agrees bears own.
          let has = q.whole none all agrees in
          let are : map (λ (c : NodeEntry × Tree level). c.0) has.children ≡ entries = has.are ∙ take_all count entries ended in
          record {
            tree = record { at = at; entries = has.children };
            placed = refl;
            stands = (own, subst (λ (es : List NodeEntry). Bears (line_in at all) (record { level = suc level; entries = es })) (sym are) bears, has.stand, parted level entries has.children (sym are) has.between);
            holds = has.holds;
            reaches = has.reaches;
          };
      passed = finish_passed known level entries count old now ended q;
    }

-- ---- the root

pub in_order : (known : Knowledge) (all : Lines) (root : Dbkey) (node : IndexNode) (first mid last : Walk) → first.area ≡ root.area → first.pairs ≡ [] → Agrees known all → IsReached known root None node first mid → Walks known node mid last → last.faults ≡ [] → IsInOrderWith all root last.pairs
in_order known all root node first mid last area empty agrees reached walks none =
    let more : walks.more ≡ [] = none_then mid.faults walks.more (sym walks.faults_are ∙ none) in
    let its = walks.whole more all root agrees (bears known all root node agrees reached.bears) (reached.own ∙ sym reached.area) in
    record {
      level = node.level;
      tree = its.tree;
      index = record {
        rooted = its.placed;
        stands = subst (λ (a : ℕ). Stands all a node.level its.tree) (reached.area ∙ area) its.stands;
        once = subst (λ (ks : List Dbkey). Distinct ks) (sym (all_places node.level its.tree ∙ ap (λ k. k ∷ places_below node.level its.tree) its.placed))
            (more_reached first.reached.keys mid.reached.keys last.reached.keys (root ∷ []) (places_below node.level its.tree) (one_reached first.reached.keys mid.reached.keys root reached.fresh reached.reached) its.reaches).distinct;
      };
      holds = walks.pairs_are ∙ ap (λ l. l ++ walks.held) (reached.pairs_stay ∙ empty) ∙ its.holds;
    }

-- ---- an index in order

module _ (known : Knowledge) (all : Lines) (root : Dbkey) (held : List NodeEntry) (first : Walk) (area : first.area ≡ root.area) (empty : first.reached.keys ≡ []) (agrees : Agrees known all) (is : IsAreaKnown known root.area) (order : IsInOrderWith all root held) where
  root_known : IsKnownAs (known.line root) (node_of order.level order.tree)
  root_known = node_known known all root.area agrees is root (node_of order.level order.tree) refl (subst (λ (k : Dbkey). Bears (line_in k all) (node_of order.level order.tree)) order.index.rooted (stands_bears all root.area order.level order.tree order.index.stands))

  abbrev inner_places : List Dbkey
  inner_places = places_below order.level order.tree

  all_distinct : Distinct (place order.level order.tree ∷ inner_places)
  all_distinct = subst Distinct (own_places order.level order.tree) order.index.once

  pub root_there : (new : Walk) → IsMissed known root None first new → ⊥
  root_there new miss = miss.cause (node_of order.level order.tree) (sym area) (ap (list_any (is_at (dbkey_order root))) empty) root_known refl

  pub no_fault : (node : IndexNode) (mid last : Walk) → first.faults ≡ [] → IsReached known root None node first mid → Walks known node mid last → last.faults ≡ []
  no_fault node mid last none reached walks =
      let mid_area : root.area ≡ mid.area = sym (reached.area ∙ area) in
      let passed = walks.passed (subst (IsAreaKnown known) mid_area is) all agrees order.level order.tree (one_known (known.line root) (node_of order.level order.tree) node root_known reached.bears)
      (subst (λ (a : ℕ). Stands all a order.level order.tree) mid_area order.index.stands)
      (record { distinct = tail_distinct (place order.level order.tree) inner_places all_distinct; fresh = unreached_root mid reached }) in
      walks.faults_are ∙ ap (λ l. mid.faults ++ l) passed.none ∙ append-nil mid.faults ∙ reached.faults_stay ∙ none
    where
      unreached_root : (mid : Walk) → IsReached known root None node first mid → (key : Dbkey) → IsIn key inner_places → IsIn key mid.reached.keys → ⊥
      unreached_root mid reached key there was = elim (in_inserted_only key root first.reached.keys (subst (IsIn key) reached.reached was)) [
        | inl before ↦ subst (IsIn key) empty before
        | inr is_root ↦ not_apart key inner_places (subst (λ (k : Dbkey). IsApart k inner_places) (order.index.rooted ∙ is_root) (head_apart (place order.level order.tree) inner_places all_distinct)) there
      ]
