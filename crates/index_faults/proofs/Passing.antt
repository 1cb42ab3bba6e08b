-- An index in order, and a child of one of its nodes.
use Rattle.std.proofs.Common.{cond, ◌≡◌, ◌<◌, ◌==◌, ◌⊎◌, inl, inr, ℕ, zero, suc, Bool, true, false, ◌||◌, List, [], ◌∷◌, ◌++◌, map, take, drop, length, get_or, Option, Some, None, is_some, refl, sym, ap, subst, ◌∙◌, arith}
use Rattle.std.specs.List.{AllByRecursion, flat_map, list_any, slice_get}
use Rattle.std.specs.declared.cmp.Ordering.{Ordering}
use Rattle.std.specs.declared.cmp.Ordering.TheVariants.{Less, Equal, Greater}
use Rattle.std.specs.Ordering.{is_eq}
use Rattle.std.specs.BTreeMap.{is_at}
use Rattle.std.proofs.lemmas.Bool.{eq-eqb}
use Rattle.std.proofs.lemmas.Grind.{flat_map-append}
use Rattle.std.proofs.lemmas.List.{length-map}
use Rattle.std.proofs.lemmas.Option.{same_Some}
use Rattle.rdb_types.specs.declared.keys.Dbkey.{Dbkey}
use Rattle.rdb_types.specs.Order.{dbkey_order}
use Rattle.rdb_types.specs.OrderLaws.{same_dbkey}
use Rattle.index_node.specs.declared.entry.NodeEntry.{NodeEntry}
use Rattle.index_node.specs.declared.node.IndexNode.{IndexNode}
use Rattle.index_node.proofs.Nodes.{one_node}
use Rattle.line_view.specs.Knowledge.{Knowledge, Lines, Agrees, line_in, lines_in, keys_of}
use Rattle.relation_rows.specs.Stored.{IsLineKnown, IsAreaKnown}
use Rattle.sorted_index_laws.specs.Inner.Steps.{IsKnownAs}
use Rattle.sorted_index_laws.specs.Tree.{Tree, Bears, place, node_of, pairs, places, Stands, AreParted}
use Rattle.sorted_index_laws.proofs.Frame.{IsApart, StandsBelow}
use Rattle.sorted_index_laws.proofs.Removed.{PlacesOf}
use Rattle.sorted_index_laws.proofs.Lines.{Distinct, AreApart, Parts, parts, equal_eq, all_rest}
use Rattle.line_faults.specs.Found.{IsIn}
use Rattle.line_faults.proofs.Learnt.{in_from_all, in_whole}
use Rattle.index_faults.specs.declared.walk.Walk.{Walk}
use Rattle.index_faults.specs.Walks.{has_level, are_between, AreNew, ReachesOnly, places_below}
use Rattle.index_faults.proofs.Bounds.{is_between}

-- ---- lists

-- a list around one of its elements
pub record Around {X : Type 0} (n : ℕ) (xs : List X) : Type 0 where
  pub it : X
  pub whole : xs ≡ take n xs ++ it ∷ drop (suc n) xs
  pub front : take (suc n) xs ≡ take n xs ++ it ∷ []
  pub got : slice_get xs n ≡ Some it

pub around : {X : Type 0} (n : ℕ) (xs : List X) → n < length xs → Around n xs
around n [] less = absurd (let no : ⊥ = omega (arith, less) in no)
around zero (x ∷ xs) less = record { it = x; whole = refl; front = refl; got = refl }
around (suc n) (x ∷ xs) less =
    let rest = around n xs (omega (arith, less)) in
    record {
      it = rest.it;
      whole = ap (λ l. x ∷ l) rest.whole;
      front = ap (λ l. x ∷ l) rest.front;
      got = rest.got;
    }

mapped_at : {X Y : Type 0} (f : X → Y) (d : Y) (n : ℕ) (xs : List X) (x : X) → slice_get xs n ≡ Some x → get_or (map f xs) n d ≡ f x
mapped_at f d n [] x got = absurd (let no : ⊥ = cc in no)
mapped_at f d zero (y ∷ ys) x got = ap f (same_Some _ _ got)
mapped_at f d (suc n) (y ∷ ys) x got = mapped_at f d n ys x got

in_front : (key : Dbkey) (xs ys : List Dbkey) → IsIn key xs → IsIn key (xs ++ ys)
in_front key [] ys there = absurd there
in_front key (x ∷ xs) ys (inl same) = inl same
in_front key (x ∷ xs) ys (inr there) = inr (in_front key xs ys there)

in_behind : (key : Dbkey) (xs ys : List Dbkey) → IsIn key ys → IsIn key (xs ++ ys)
in_behind key [] ys there = there
in_behind key (x ∷ xs) ys there = inr (in_behind key xs ys there)

in_either : (key : Dbkey) (xs ys : List Dbkey) → IsIn key (xs ++ ys) → IsIn key xs ⊎ IsIn key ys
in_either key [] ys there = inr there
in_either key (x ∷ xs) ys (inl same) = inl (inl same)
in_either key (x ∷ xs) ys (inr there) = elim (in_either key xs ys there) [
  | inl front ↦ inl (inr front)
  | inr rest ↦ inr rest
]

pub not_apart : (key : Dbkey) (xs : List Dbkey) → IsApart key xs → IsIn key xs → ⊥
not_apart key [] apart there = there
not_apart key (x ∷ xs) apart (inl same) = let tied = ap (λ (k : Dbkey). is_eq (dbkey_order k key)) same ∙ equal_eq key in let isnt = apart.0 in let no : ⊥ = cc in no
not_apart key (x ∷ xs) apart (inr there) = not_apart key xs apart.1 there

pub clash : (key : Dbkey) (xs ys : List Dbkey) → AreApart xs ys → IsIn key xs → IsIn key ys → ⊥
clash key xs ys apart first then = not_apart key xs (in_from_all (λ (y : Dbkey). IsApart y xs) ys key apart then) first

ties : (o : Ordering) → is_eq o ≡ true → o ≡ Equal
ties Less h = absurd (let no : ⊥ = cc in no)
ties Equal h = refl
ties Greater h = absurd (let no : ⊥ = cc in no)

passing_in : (key : Dbkey) (ks : List Dbkey) → list_any (is_at (dbkey_order key)) ks ≡ true → IsIn key ks
passing_in key [] passes = absurd (let no : ⊥ = cc in no)
passing_in key (k ∷ ks) passes = by (passing_in key ks) (is_eq (dbkey_order key k)) refl
  where
    by : (list_any (is_at (dbkey_order key)) ks ≡ true → IsIn key ks) → (b : Bool) → is_eq (dbkey_order key k) ≡ b → IsIn key (k ∷ ks)
    by rest true is = inl (sym (same_dbkey key k (ties (dbkey_order key k) is)))
    by rest false isnt = inr (rest (sym (ap (λ (b : Bool). b || list_any (is_at (dbkey_order key)) ks) isnt) ∙ passes))

pub not_passing : (key : Dbkey) (ks : List Dbkey) → (IsIn key ks → ⊥) → list_any (is_at (dbkey_order key)) ks ≡ false
not_passing key ks none = by (list_any (is_at (dbkey_order key)) ks) refl
  where
    by : (b : Bool) → list_any (is_at (dbkey_order key)) ks ≡ b → b ≡ false
    by true passes = absurd (none (passing_in key ks passes))
    by false isnt = refl

-- ---- what is known of a node's line

in_found : (key : Dbkey) (lines : Lines) (bytes : List ℕ) → line_in key lines ≡ Some bytes → IsIn key (keys_of lines)
in_found key [] bytes there = absurd (let no : ⊥ = cc in no)
in_found key (e ∷ es) bytes there = by (in_found key es bytes) (is_eq (dbkey_order key e.0)) refl
  where
    by : (line_in key es ≡ Some bytes → IsIn key (keys_of es)) → (b : Bool) → is_eq (dbkey_order key e.0) ≡ b → IsIn key (keys_of (e ∷ es))
    by rest true is = inl (sym (same_dbkey key e.0 (ties (dbkey_order key e.0) is)))
    by rest false isnt = inr (rest (sym (ap (λ (b : Bool). cond b (Some e.1) (line_in key es)) isnt) ∙ there))

module _ (known : Knowledge) (all : Lines) (area : ℕ) (agrees : Agrees known all) (is : IsAreaKnown known area) where
  told : (key : Dbkey) (bytes : List ℕ) → key.area ≡ area → line_in key all ≡ Some bytes → is_some (known.line key) ≡ true
  told key bytes own there =
      let among : IsIn key (keys_of (lines_in area all)) = in_found key (lines_in area all) bytes (in_whole key area all own ∙ there) in
      in_from_all (IsLineKnown known) is.0 key is.2 (subst (IsIn key) (sym (agrees.area area is.0 is.1)) among)

  known_by : (key : Dbkey) (node : IndexNode) (what : Option (Option (List ℕ))) → known.line key ≡ what → is_some what ≡ true → Bears (line_in key all) node → IsKnownAs (known.line key) node
  known_by key node None is_what some bears = absurd (let no : ⊥ = cc in no)
  known_by key node (Some what) is_what some bears = subst (λ (o : Option (Option (List ℕ))). IsKnownAs o node) (sym is_what) (by what (subst (λ (o : Option (List ℕ)). Bears o node) (sym (agrees.line key what is_what)) bears))
    where
      by : (o : Option (List ℕ)) → Bears o node → IsKnownAs (Some o) node
      by None none = none
      by (Some bytes) is_node = is_node

  bears_known : (key : Dbkey) (node : IndexNode) (o : Option (List ℕ)) → line_in key all ≡ o → key.area ≡ area → Bears o node → IsKnownAs (known.line key) node
  bears_known key node None there own bears = absurd bears
  bears_known key node (Some bytes) there own bears = known_by key node (known.line key) refl (told key bytes own there) (subst (λ (o : Option (List ℕ)). Bears o node) (sym there) bears)

  pub node_known : (key : Dbkey) (node : IndexNode) → key.area ≡ area → Bears (line_in key all) node → IsKnownAs (known.line key) node
  node_known key node own bears = bears_known key node (line_in key all) refl own bears

pub one_known : (what : Option (Option (List ℕ))) (a b : IndexNode) → IsKnownAs what a → IsKnownAs what b → a ≡ b
one_known None a b x y = absurd x
one_known (Some None) a b x y = absurd x
one_known (Some (Some bytes)) a b x y = one_node bytes a b x y

-- ---- trees

pub level_is : (level : ℕ) (tree : Tree level) → (node_of level tree).level ≡ level
level_is zero tree = refl
level_is (suc level) tree = refl

pub stands_own : (all : Lines) (area level : ℕ) (tree : Tree level) → Stands all area level tree → (place level tree).area ≡ area
stands_own all area zero tree stands = stands.0
stands_own all area (suc level) tree stands = stands.0

pub stands_bears : (all : Lines) (area level : ℕ) (tree : Tree level) → Stands all area level tree → Bears (line_in (place level tree) all) (node_of level tree)
stands_bears all area zero tree stands = stands.1
stands_bears all area (suc level) tree stands = stands.1

pub own_places : (level : ℕ) (tree : Tree level) → places level tree ≡ place level tree ∷ places_below level tree
own_places zero tree = refl
own_places (suc level) tree = refl

-- ---- the children of a node in order

pub record AreChildren (all : Lines) (area below : ℕ) (entries : List NodeEntry) (old : List Dbkey) (children : List (NodeEntry × Tree below)) : Type 0 where
  pub are : map (λ c. c.0) children ≡ entries
  pub stand : AllByRecursion (StandsBelow all area below) children
  pub parted : AreParted below children
  pub new : AreNew old (PlacesOf below children)

-- the first ones were gone over
pub record ArePassed (below : ℕ) (children : List (NodeEntry × Tree below)) (count : ℕ) (more : List Dbkey) (held : List NodeEntry) (old now : List Dbkey) : Type 0 where
  pub none : more ≡ []
  pub holds : held ≡ flat_map (λ c. pairs below c.1) (take count children)
  pub only : ReachesOnly old now (PlacesOf below (take count children))

module _ (known : Knowledge) (all : Lines) (area below : ℕ) (entries : List NodeEntry) (old now : List Dbkey) (children : List (NodeEntry × Tree below)) (are : AreChildren all area below entries old children) (count : ℕ)
    (only : ReachesOnly old now (PlacesOf below (take count children))) (child : Dbkey) (inside : count < length entries) (entry : (d : NodeEntry) → (get_or entries count d).child ≡ Some child) where
  counted : length children ≡ length entries
  counted = sym (length-map children (λ (c : NodeEntry × Tree below). c.0)) ∙ ap length are.are

  pub here : Around count children
  here = around count children (omega (arith, inside, counted))

  pub below_it : StandsBelow all area below here.it
  below_it = (all_rest (StandsBelow all area below) (take count children) (here.it ∷ drop (suc count) children) (subst (λ (l : List (NodeEntry × Tree below)). AllByRecursion (StandsBelow all area below) l) here.whole are.stand)).0

  its_entry : here.it.0 ≡ get_or entries count here.it.0
  its_entry = sym (mapped_at (λ (c : NodeEntry × Tree below). c.0) here.it.0 count children here.it here.got) ∙ ap (λ (es : List NodeEntry). get_or es count here.it.0) are.are

  pub placed : place below here.it.1 ≡ child
  placed = same_Some _ _ (sym below_it.0 ∙ ap (λ (e : NodeEntry). e.child) its_entry ∙ entry here.it.0)

  front : List Dbkey
  front = PlacesOf below (take count children)

  abbrev own : List Dbkey
  own = places below here.it.1

  abbrev rest : List Dbkey
  rest = PlacesOf below (drop (suc count) children)

  split : PlacesOf below children ≡ PlacesOf below (take count children) ++ (own ++ rest)
  split = ap (PlacesOf below) here.whole ∙ flat_map-append (λ (c : NodeEntry × Tree below). places below c.1) (take count children) (here.it ∷ drop (suc count) children)

  distinct : Parts (PlacesOf below (take count children)) (own ++ rest)
  distinct = parts (PlacesOf below (take count children)) (own ++ rest) (subst Distinct split are.new.distinct)

  its : Parts own rest
  its = parts own rest distinct.rest

  -- no line of the child's tree was reached
  pub unreached : (key : Dbkey) → IsIn key own → IsIn key now → ⊥
  unreached key there was = elim (only key was) [
    | inl before ↦ are.new.fresh key (subst (IsIn key) (sym split) (in_behind key (PlacesOf below (take count children)) (own ++ rest) (in_front key own rest there))) before
    | inr earlier ↦ clash key (PlacesOf below (take count children)) (own ++ rest) distinct.apart earlier (in_front key own rest there)
  ]

  pub own_first : Distinct (place below here.it.1 ∷ places_below below here.it.1)
  own_first = subst Distinct (own_places below here.it.1) its.front

  pub child_own : IsIn child own
  child_own = subst (IsIn child) (sym (own_places below here.it.1)) (inl placed)

  pub child_new : list_any (is_at (dbkey_order child)) now ≡ false
  child_new = not_passing child now (λ there. unreached child child_own there)

  pub child_area : child.area ≡ area
  child_area = ap (λ (k : Dbkey). k.area) (sym placed) ∙ stands_own all area below here.it.1 below_it.1

  pub child_node : Agrees known all → IsAreaKnown known area → IsKnownAs (known.line child) (node_of below here.it.1)
  child_node agrees is = node_known known all area agrees is child (node_of below here.it.1) child_area (subst (λ (k : Dbkey). Bears (line_in k all) (node_of below here.it.1)) placed (stands_bears all area below here.it.1 below_it.1))

  pub child_level : (level : ℕ) → below ≡ level → has_level (Some level) (node_of below here.it.1) ≡ true
  child_level level same = eq-eqb (node_of below here.it.1).level level (level_is below here.it.1 ∙ same)

  pub child_between : are_between count entries (pairs below here.it.1) ≡ true
  child_between = is_between below count entries children here.it are.are are.parted here.got

  -- behind the child, whose tree alone was reached
  pub still_only : (mid next : List Dbkey) → ReachesOnly now mid (child ∷ []) → ReachesOnly mid next (places_below below here.it.1) → ReachesOnly old next (PlacesOf below (take (suc count) children))
  still_only mid next one rest_only key there = elim (rest_only key there) [
    | inr inner ↦ inr (in_own key (inr inner))
    | inl before ↦ elim (one key before) [
      | inr (inl same) ↦ inr (in_own key (inl (placed ∙ same)))
      | inr (inr none) ↦ absurd none
      | inl was ↦ elim (only key was) [
        | inl older ↦ inl older
        | inr earlier ↦ inr (subst (IsIn key) (sym fronts) (in_front key (PlacesOf below (take count children)) (own ++ []) earlier))
      ]
    ]
  ]
    where
      fronts : PlacesOf below (take (suc count) children) ≡ PlacesOf below (take count children) ++ (own ++ [])
      fronts = ap (PlacesOf below) here.front ∙ flat_map-append (λ (c : NodeEntry × Tree below). places below c.1) (take count children) (here.it ∷ [])

      in_own : (key : Dbkey) → IsIn key (place below here.it.1 ∷ places_below below here.it.1) → IsIn key (PlacesOf below (take (suc count) children))
      in_own key inner = subst (IsIn key) (sym fronts) (in_behind key (PlacesOf below (take count children)) (own ++ []) (in_front key own [] (subst (IsIn key) (sym (own_places below here.it.1)) inner)))

  pub still_holds : (held more : List NodeEntry) → held ≡ flat_map (λ c. pairs below c.1) (take count children) → more ≡ pairs below here.it.1 → held ++ more ≡ flat_map (λ c. pairs below c.1) (take (suc count) children)
  still_holds held more is its_are =
      (λ i. is i ++ its_are i) ∙ sym (ap (λ (l : List NodeEntry). flat_map (λ (c : NodeEntry × Tree below). pairs below c.1) (take count children) ++ l) (nothing_behind (pairs below here.it.1)))
      ∙ sym (ap (flat_map (λ (c : NodeEntry × Tree below). pairs below c.1)) here.front ∙ flat_map-append (λ (c : NodeEntry × Tree below). pairs below c.1) (take count children) (here.it ∷ []))
    where
      nothing_behind : (xs : List NodeEntry) → xs ++ [] ≡ xs
      nothing_behind [] = refl
      nothing_behind (x ∷ xs) = ap (λ l. x ∷ l) (nothing_behind xs)
