-- Pairs between the entries of a node.
use Rattle.std.proofs.Common.{◌≡◌, ◌≢◌, ℕ, zero, suc, ◌+◌, Bool, true, false, ◌&&◌, List, [], ◌∷◌, ◌++◌, map, drop, length, Option, Some, None, refl, sym, ap, subst, ◌∙◌, arith, add-one}
use Rattle.std.specs.List.{AllByRecursion, slice_get, list_all}
use Rattle.std.specs.declared.cmp.Ordering.{Ordering}
use Rattle.std.specs.declared.cmp.Ordering.TheVariants.{Less, Equal, Greater}
use Rattle.std.specs.Ordering.{is_lt, is_le}
use Rattle.std.proofs.lemmas.Bool.{and_parts}
use Rattle.std.proofs.lemmas.Option.{same_Some}
use Rattle.index_node.specs.declared.entry.NodeEntry.{NodeEntry}
use Rattle.index_node.specs.Order.{entry_order}
use Rattle.sorted_index_laws.specs.Tree.{Tree, pairs, AreParted}
use Rattle.index_faults.specs.Walks.{are_from, are_below, low_at, are_between}

less : (r : Ordering) → is_lt r ≡ true → r ≡ Less
less Less h = refl
less Equal h = absurd (let no : ⊥ = cc in no)
less Greater h = absurd (let no : ⊥ = cc in no)

not_greater : (r : Ordering) → is_le r ≡ true → r ≢ Greater
not_greater Less h is = let no : ⊥ = cc in no
not_greater Equal h is = let no : ⊥ = cc in no
not_greater Greater h is = let no : ⊥ = cc in no

all_less : (high : NodeEntry) (ps : List NodeEntry) → list_all (λ p. is_lt (entry_order p high)) ps ≡ true → AllByRecursion (λ p. entry_order p high ≡ Less) ps
all_less high [] h = tt
all_less high (p ∷ ps) h = let parts = and_parts _ _ h in (less (entry_order p high) parts.0, all_less high ps parts.1)

all_from : (low : NodeEntry) (ps : List NodeEntry) → list_all (λ p. is_le (entry_order low p)) ps ≡ true → AllByRecursion (λ p. entry_order low p ≢ Greater) ps
all_from low [] h = tt
all_from low (p ∷ ps) h = let parts = and_parts _ _ h in (not_greater (entry_order low p) parts.0, all_from low ps parts.1)

-- the element at a place behind some
got_behind : {X : Type 0} (n i : ℕ) (xs : List X) → slice_get xs (n + i) ≡ slice_get (drop n xs) i
got_behind zero i xs = ap (slice_get xs) (let e : zero + i ≡ i = omega arith in e)
got_behind (suc n) i [] = refl
got_behind (suc n) i (x ∷ xs) = ap (slice_get (x ∷ xs)) (let e : suc n + i ≡ suc (n + i) = omega arith in e) ∙ got_behind n i xs

drop_next : {X : Type 0} (n : ℕ) (xs ys : List X) (y : X) → drop n xs ≡ y ∷ ys → drop (suc n) xs ≡ ys
drop_next zero [] ys y is = absurd (let no : ⊥ = cc in no)
drop_next zero (x ∷ xs) ys y is = cc
drop_next (suc n) [] ys y is = absurd (let no : ⊥ = cc in no)
drop_next (suc n) (x ∷ xs) ys y is = drop_next n xs ys y is

-- the pairs below each of the children from one on stand between the entries
abbrev AreBetween : (level : ℕ) → ℕ → List NodeEntry → List (NodeEntry × Tree level) → Type 0
AreBetween level n entries [] = Unit {0}
AreBetween level n entries (c ∷ cs) = (are_between n entries (pairs level c.1) ≡ true) × AreBetween level (suc n) entries cs

pub IsBetween : (level : ℕ) → List NodeEntry → List (NodeEntry × Tree level) → Type 0
IsBetween level entries children = AreBetween level 0 entries children

pub none_between : (level : ℕ) (entries : List NodeEntry) → IsBetween level entries []
unfolding IsBetween
none_between level entries = tt

one_between : (level n k : ℕ) (entries : List NodeEntry) (cs : List (NodeEntry × Tree level)) (c : NodeEntry × Tree level) → n + length cs ≡ k → AreBetween level n entries cs → are_between k entries (pairs level c.1) ≡ true → AreBetween level n entries (cs ++ c ∷ [])
one_between level n k entries [] c at between is = (subst (λ (m : ℕ). are_between m entries (pairs level c.1) ≡ true) (sym (let e : n ≡ k = omega (arith, at) in e)) is, tt)
one_between level n k entries (x ∷ xs) c at between is = (between.0, one_between level (suc n) k entries xs c (omega (arith, at)) between.1 is)

pub more_between : (level k : ℕ) (entries : List NodeEntry) (cs : List (NodeEntry × Tree level)) (c : NodeEntry × Tree level) → length cs ≡ k → IsBetween level entries cs → are_between k entries (pairs level c.1) ≡ true → IsBetween level entries (cs ++ c ∷ [])
unfolding IsBetween
more_between level k entries cs c at between is = one_between level 0 k entries cs c (let e : 0 + length cs ≡ k = omega (arith, at) in e) between is

parted_from : (level n : ℕ) (entries : List NodeEntry) (children : List (NodeEntry × Tree level)) → drop n entries ≡ map (λ c. c.0) children → AreBetween level n entries children → AreParted level children
parted_from level n entries [] are between = tt
parted_from level n entries (c ∷ []) are between = (tt, tt)
parted_from level n entries (c ∷ d ∷ cs) are between =
    let next : drop (suc n) entries ≡ map (λ (x : NodeEntry × Tree level). x.0) (d ∷ cs) = drop_next n entries (map (λ (x : NodeEntry × Tree level). x.0) (d ∷ cs)) c.0 are in
    let at_next : slice_get entries (suc n) ≡ Some d.0 = ap (slice_get entries) (let e : suc n ≡ suc n + 0 = omega arith in e) ∙ got_behind (suc n) 0 entries ∙ ap (λ (l : List NodeEntry). slice_get l 0) next in
    let high : slice_get entries (n + 1) ≡ Some d.0 = ap (slice_get entries) (add-one n) ∙ at_next in
    let own = and_parts _ _ between.0 in
    let after = and_parts _ _ between.1.0 in (
      (
        all_less d.0 (pairs level c.1) (subst (λ (o : Option NodeEntry). are_below o (pairs level c.1) ≡ true) high own.1),
        all_from d.0 (pairs level d.1) (subst (λ (o : Option NodeEntry). are_from o (pairs level d.1) ≡ true) at_next after.0),
      ),
      parted_from level (suc n) entries (d ∷ cs) next between.1,
    )

pub parted : (level : ℕ) (entries : List NodeEntry) (children : List (NodeEntry × Tree level)) → entries ≡ map (λ c. c.0) children → IsBetween level entries children → AreParted level children
unfolding IsBetween
parted level entries children are between = parted_from level 0 entries children are between

-- ---- and back: the pairs below the children of an index in order

is_less : (r : Ordering) → r ≡ Less → is_lt r ≡ true
is_less Less h = refl
is_less Equal h = absurd (let no : ⊥ = cc in no)
is_less Greater h = absurd (let no : ⊥ = cc in no)

is_from : (r : Ordering) → r ≢ Greater → is_le r ≡ true
is_from Less h = refl
is_from Equal h = refl
is_from Greater h = absurd (h refl)

both_true : (a b : Bool) → a ≡ true → b ≡ true → (a && b) ≡ true
both_true true b h k = k
both_true false b h k = absurd (let no : ⊥ = cc in no)

test_less : (high : NodeEntry) (ps : List NodeEntry) → AllByRecursion (λ p. entry_order p high ≡ Less) ps → list_all (λ p. is_lt (entry_order p high)) ps ≡ true
test_less high [] h = refl
test_less high (p ∷ ps) h = both_true _ _ (is_less (entry_order p high) h.0) (test_less high ps h.1)

test_from : (low : NodeEntry) (ps : List NodeEntry) → AllByRecursion (λ p. entry_order low p ≢ Greater) ps → list_all (λ p. is_le (entry_order low p)) ps ≡ true
test_from low [] h = refl
test_from low (p ∷ ps) h = both_true _ _ (is_from (entry_order low p) h.0) (test_from low ps h.1)

-- what bounds a child from below, by its place
abbrev IsFrom : (level : ℕ) → ℕ → List NodeEntry → List (NodeEntry × Tree level) → Type 0
IsFrom level n entries [] = Unit {0}
IsFrom level n entries (c ∷ cs) = are_from (low_at n entries) (pairs level c.1) ≡ true

between_from : (level n : ℕ) (entries : List NodeEntry) (children : List (NodeEntry × Tree level)) → drop n entries ≡ map (λ c. c.0) children → IsFrom level n entries children → AreParted level children → AreBetween level n entries children
between_from level n entries [] are low parted = tt
between_from level n entries (c ∷ []) are low parted =
    let last : slice_get entries (n + 1) ≡ None = got_behind n 1 entries ∙ ap (λ (l : List NodeEntry). slice_get l 1) are in
    (both_true _ _ low (ap (λ (o : Option NodeEntry). are_below o (pairs level c.1)) last), tt)
between_from level n entries (c ∷ d ∷ cs) are low parted =
    let next : drop (suc n) entries ≡ map (λ (x : NodeEntry × Tree level). x.0) (d ∷ cs) = drop_next n entries (map (λ (x : NodeEntry × Tree level). x.0) (d ∷ cs)) c.0 are in
    let at_next : slice_get entries (suc n) ≡ Some d.0 = ap (slice_get entries) (let e : suc n ≡ suc n + 0 = omega arith in e) ∙ got_behind (suc n) 0 entries ∙ ap (λ (l : List NodeEntry). slice_get l 0) next in
    let high : slice_get entries (n + 1) ≡ Some d.0 = ap (slice_get entries) (add-one n) ∙ at_next in (
      both_true _ _ low (ap (λ (o : Option NodeEntry). are_below o (pairs level c.1)) high ∙ test_less d.0 (pairs level c.1) parted.0.0),
      between_from level (suc n) entries (d ∷ cs) next (ap (λ (o : Option NodeEntry). are_from o (pairs level d.1)) at_next ∙ test_from d.0 (pairs level d.1) parted.0.1) parted.1,
    )

first_from : (level : ℕ) (entries : List NodeEntry) (children : List (NodeEntry × Tree level)) → IsFrom level 0 entries children
first_from level entries [] = tt
first_from level entries (c ∷ cs) = refl

between_nth : (level m k n : ℕ) (entries : List NodeEntry) (cs : List (NodeEntry × Tree level)) (c : NodeEntry × Tree level) → m + n ≡ k → AreBetween level m entries cs → slice_get cs n ≡ Some c → are_between k entries (pairs level c.1) ≡ true
between_nth level m k n entries [] c at between got = absurd (let no : ⊥ = cc in no)
between_nth level m k zero entries (x ∷ xs) c at between got =
    let same : x ≡ c = same_Some _ _ got in
    let place : m ≡ k = omega (arith, at) in
    subst (λ (j : ℕ). are_between j entries (pairs level c.1) ≡ true) place (subst (λ (y : NodeEntry × Tree level). are_between m entries (pairs level y.1) ≡ true) same between.0)
between_nth level m k (suc n) entries (x ∷ xs) c at between got = between_nth level (suc m) k n entries xs c (omega (arith, at)) between.1 got

pub is_between : (level n : ℕ) (entries : List NodeEntry) (children : List (NodeEntry × Tree level)) (c : NodeEntry × Tree level) → map (λ x. x.0) children ≡ entries → AreParted level children → slice_get children n ≡ Some c → are_between n entries (pairs level c.1) ≡ true
is_between level n entries children c are parted got =
    between_nth level 0 n n entries children c (omega arith) (between_from level 0 entries children (sym are) (first_from level entries children) parted) got
