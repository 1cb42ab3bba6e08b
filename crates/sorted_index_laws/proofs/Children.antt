-- The children of a node from one on.
use Rattle.std.proofs.Common.{◌≡◌, ◌≢◌, ℕ, zero, suc, Bool, true, false, not, cond, ◌&&◌, List, [], ◌∷◌, ◌++◌, map, drop, refl, ap, ◌∙◌}
use Rattle.std.specs.declared.cmp.Ordering.{Ordering}
use Rattle.std.specs.declared.cmp.Ordering.TheVariants.{Less, Equal, Greater}
use Rattle.std.specs.Ordering.{is_gt, ordering_then}
use Rattle.std.specs.List.{AllByRecursion, filter}
use Rattle.std.proofs.lemmas.List.{map-append}
use Rattle.std.proofs.lemmas.List.Elements.{filter-append}
use Rattle.index_node.specs.declared.entry.NodeEntry.{NodeEntry}
use Rattle.rdb_types.specs.Order.{row_order, dbkey_order}
use Rattle.index_node.specs.Order.{entry_order}
use Rattle.sorted_index_laws.specs.Keys.{Interval, is_within}
use Rattle.sorted_index_laws.specs.Tree.{Tree, pairs, IsPartedFrom, AreParted}
use Rattle.sorted_index_laws.specs.Search.{rows_within, reaches, may_hold}
use Rattle.sorted_index_laws.proofs.Intervals.{IsConvex}

-- ---- rows

pub rows_append : (s : Interval) (xs ys : List NodeEntry) → rows_within s (xs ++ ys) ≡ rows_within s xs ++ rows_within s ys
rows_append s xs ys = ap (map (λ p. p.row)) (filter-append (λ p. is_within s p.key) xs ys) ∙ map-append (λ p. p.row) (filter (λ p. is_within s p.key) xs) (filter (λ p. is_within s p.key) ys)

none_below : (s : Interval) (ps : List NodeEntry) → AllByRecursion (λ p. s.is_below p.key ≡ true) ps → rows_within s ps ≡ []
none_below s [] h = refl
none_below s (p ∷ ps) h =
    ap (λ b. map (λ (q : NodeEntry). q.row) (cond (not b && not (s.is_above p.key)) (p ∷ filter (λ q. is_within s q.key) ps) (filter (λ q. is_within s q.key) ps))) h.0
    ∙ none_below s ps h.1

and_false : (b : Bool) → (b && false) ≡ false
and_false true = refl
and_false false = refl

none_above : (s : Interval) (ps : List NodeEntry) → AllByRecursion (λ p. s.is_above p.key ≡ true) ps → rows_within s ps ≡ []
none_above s [] h = refl
none_above s (p ∷ ps) h =
    ap (λ b. map (λ (q : NodeEntry). q.row) (cond b (p ∷ filter (λ q. is_within s q.key) ps) (filter (λ q. is_within s q.key) ps))) (ap (λ b. not (s.is_below p.key) && not b) h.0 ∙ and_false (not (s.is_below p.key)))
    ∙ none_above s ps h.1

-- ---- entries and their keys

less_keys : (r t : Ordering) → ordering_then r t ≡ Less → is_gt r ≡ false
less_keys Less t h = refl
less_keys Equal t h = refl
less_keys Greater t h = absurd (cc)

upto_keys : (r t : Ordering) → ordering_then r t ≢ Greater → is_gt r ≡ false
upto_keys Less t h = refl
upto_keys Equal t h = refl
upto_keys Greater t h = absurd (h refl)

all_below : (s : Interval) → IsConvex s → (next : NodeEntry) (ps : List NodeEntry) → AllByRecursion (λ p. entry_order p next ≡ Less) ps → s.is_below next.key ≡ true → AllByRecursion (λ p. s.is_below p.key ≡ true) ps
all_below s is next [] h below = tt
all_below s is next (p ∷ ps) h below = (is.lower p.key next.key (less_keys (row_order p.key next.key) (dbkey_order p.row next.row) h.0) below, all_below s is next ps h.1 below)

all_above : (s : Interval) → IsConvex s → (own : NodeEntry) (ps : List NodeEntry) → AllByRecursion (λ p. entry_order own p ≢ Greater) ps → s.is_above own.key ≡ true → AllByRecursion (λ p. s.is_above p.key ≡ true) ps
all_above s is own [] h above = tt
all_above s is own (p ∷ ps) h above = (is.higher own.key p.key (upto_keys (row_order own.key p.key) (dbkey_order own.row p.row) h.0) above, all_above s is own ps h.1 above)

-- ---- where children begin and end

abbrev pub IsFrom : (level : ℕ) → NodeEntry × Tree level → Type 0
IsFrom level child = AllByRecursion (λ pair. entry_order child.0 pair ≢ Greater) (pairs level child.1)

-- each child but a node's first begins at its entry
abbrev pub AreBound : (level : ℕ) → Bool → List (NodeEntry × Tree level) → Type 0
AreBound level first [] = Unit {0}
AreBound level first (child ∷ children) = (first ≡ false → IsFrom level child) × IsPartedFrom level child children × AreBound level false children

-- the first of these children does, unless it is its node's first
abbrev pub Begins : (level : ℕ) → Bool → List (NodeEntry × Tree level) → Type 0
Begins level first [] = Unit {0}
Begins level first (child ∷ children) = first ≡ false → IsFrom level child

next_begins : (level : ℕ) (child : NodeEntry × Tree level) (children : List (NodeEntry × Tree level)) → IsPartedFrom level child children → Begins level false children
next_begins level child [] parted = tt
next_begins level child (next ∷ children) parted = λ h. parted.1

bound_from : (level : ℕ) (first : Bool) (children : List (NodeEntry × Tree level)) → AreParted level children → Begins level first children → AreBound level first children
bound_from level first [] parted begins = tt
bound_from level first (child ∷ children) parted begins = (begins, parted.0, bound_from level false children parted.1 (next_begins level child children parted.0))

pub bound : (level : ℕ) (children : List (NodeEntry × Tree level)) → AreParted level children → AreBound level true children
bound level [] parted = tt
bound level (child ∷ children) parted = bound_from level true (child ∷ children) parted (λ h. absurd (cc))

bound_behind : (level : ℕ) (i : ℕ) (children : List (NodeEntry × Tree level)) → AreBound level false children → AreBound level false (drop i children)
bound_behind level zero children h = h
bound_behind level (suc i) [] h = tt
bound_behind level (suc i) (child ∷ children) h = bound_behind level i children h.2

abbrev pub is_first : ℕ → Bool
is_first zero = true
is_first (suc i) = false

pub bound_at : (level : ℕ) (i : ℕ) (children : List (NodeEntry × Tree level)) → AreBound level true children → AreBound level (is_first i) (drop i children)
bound_at level zero children h = h
bound_at level (suc i) [] h = tt
bound_at level (suc i) (child ∷ children) h = bound_behind level i children h.2

-- ---- a child that isn't searched has nothing

not_false : (b : Bool) → not b ≡ false → b ≡ true
not_false true h = refl
not_false false h = absurd (cc)

reach_fails : (s : Interval) → IsConvex s → (level : ℕ) (child : NodeEntry × Tree level) (children : List (NodeEntry × Tree level)) → IsPartedFrom level child children → reaches s (map (λ c. c.0) children) ≡ false → rows_within s (pairs level child.1) ≡ []
reach_fails s is level child [] parted fails = absurd (cc)
reach_fails s is level child (next ∷ children) parted fails =
    none_below s (pairs level child.1) (all_below s is next.0 (pairs level child.1) parted.0 (not_false (s.is_below (next.0).key) fails))

pub nothing_there : (s : Interval) → IsConvex s → (level : ℕ) (first : Bool) (child : NodeEntry × Tree level) (children : List (NodeEntry × Tree level)) → AreBound level first (child ∷ children) → may_hold s first (child.0 ∷ map (λ c. c.0) children) ≡ false → rows_within s (pairs level child.1) ≡ []
nothing_there s is level true child children bounds fails = reach_fails s is level child children bounds.1 fails
nothing_there s is level false child children bounds fails =
    elim (s.is_above (child.0).key) as (λ b. s.is_above (child.0).key ≡ b → (not b && reaches s (map (λ c. c.0) children)) ≡ false → rows_within s (pairs level child.1) ≡ []) [
      | true ↦ λ above h. none_above s (pairs level child.1) (all_above s is child.0 (pairs level child.1) (bounds.0 refl) above)
      | false ↦ λ above h. reach_fails s is level child children bounds.1 h
    ] refl fails
