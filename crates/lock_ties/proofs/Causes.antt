-- The causes of refusals by locks: what the tree of locks answers, the account has at its place.
use Rattle.std.proofs.Common.{◌≡◌, ℕ, ◌++◌, ◌∷◌, [], ◌==◌, ◌&&◌, ◌||◌, not, Bool, true, false, List, refl, ◌∙◌, sym, ap, subst, cond, inl, inr, Option, Some, None}
use Rattle.std.specs.List.{list_any}
use Rattle.std.proofs.lemmas.Bool.{false≢true, and_from, and_parts, or_left, or_right, or_cases}
use Rattle.rdo_ast.specs.declared.reply.Reply.TheVariants as r
use Rattle.vms_locks.specs.Walks.{IsWalk, IsCycle}
use Rattle.lock_needs.specs.declared.need.Need.{Need}
use Rattle.lock_needs.specs.declared.party.OpenWant.{OpenWant}
use Rattle.lock_needs.specs.declared.party.Asked.{Asked}
use Rattle.lock_needs.specs.Party.{Party}
use Rattle.rdb_types.specs.declared.node.Node.{Node}
use Rattle.lock_needs.specs.Nodes.{same_node}
use Rattle.lock_needs.specs.Needs.{conflict}
use Rattle.lock_needs.specs.Waits.{upper_of, converts_at, asked_before, has_asked, comes_first, wanted, waits_for}
use Rattle.rdb_account.specs.Places.{Opening, Place}
use Rattle.rdb_account.specs.Lawful.{waits, waits_by, want_in, is_nowait, has_cause, is_chain, ends_with, begins_with, is_lawful_cycle}
use Rattle.lock_tree_laws.specs.Order.{waits_with, waits_by_needs}
use Rattle.lock_ties.specs.Ties.{asked_want, AreTied}
use Rattle.lock_ties.proofs.Places.{same-number, number}
use Rattle.lock_ties.proofs.Asks.{waits_by_asks, waits-tied}

abbrev Waits : Place → ℕ → ℕ → Type 0
Waits p a b = waits p a b ≡ true

-- nobody waits for itself
never-own : (p : Place) (s : ℕ) → waits p s s ≡ true → ⊥
never-own p s h = by (want_in s p.asks) h
  where
    by : (w : Option Need) → waits_by p s s w ≡ true → ⊥
    by None h = false≢true h
    by (Some w) h = false≢true (sym (rw (same-number s) refl) ∙ h)

chain : (p : Place) (x y : ℕ) (over : List ℕ) → IsWalk (Waits p) x over y → is_chain p (x ∷ (over ++ y ∷ [])) ≡ true
chain p x y [] h = and_from (waits p x y) true h refl
chain p x y (z ∷ zs) h = and_from (waits p x z) (is_chain p (z ∷ (zs ++ y ∷ []))) h.0 (chain p z y zs h.1)

ends : (x y : ℕ) (over : List ℕ) → ends_with y (x ∷ (over ++ y ∷ [])) ≡ true
ends x y [] = same-number y
ends x y (z ∷ zs) = ends z y zs

another : (p : Place) (s : ℕ) (over : List ℕ) → IsWalk (Waits p) s over s → list_any (λ t. not (t == s)) (s ∷ (over ++ s ∷ [])) ≡ true
another p s [] h = absurd (never-own p s h)
another p s (z ∷ zs) h = or_right (not (s == s)) _ (by (z == s) refl)
  where
    by : (b : Bool) → (z == s) ≡ b → list_any (λ t. not (t == s)) (z ∷ (zs ++ s ∷ [])) ≡ true
    by true e = absurd (never-own p s (subst (λ (t : ℕ). waits p s t ≡ true) (number z s e) h.0))
    by false e = or_left (not (z == s)) _ (ap not e)

pub cycle-lawful : (p : Place) (s : ℕ) (cycle : List ℕ) → IsCycle (Waits p) s cycle → is_lawful_cycle p s cycle ≡ true
cycle-lawful p s cycle c =
    subst (λ (xs : List ℕ). is_lawful_cycle p s xs ≡ true) (sym c.2)
    (and_from (begins_with s (s ∷ (c.0 ++ s ∷ []))) _ (same-number s)
    (and_from (ends_with s (s ∷ (c.0 ++ s ∷ []))) _ (ends s s c.0)
    (and_from (list_any (λ t. not (t == s)) (s ∷ (c.0 ++ s ∷ []))) _ (another p s c.0 c.1) (chain p s s c.0 c.1))))

-- ---- from the tree's answers

walk-tied : (A B : ℕ → ℕ → Type 0) → ((a b : ℕ) → A a b → B a b) → (x y : ℕ) (over : List ℕ) → IsWalk A x over y → IsWalk B x over y
walk-tied A B to x y [] h = to x y h
walk-tied A B to x y (z ∷ zs) h = (to x z h.0, walk-tied A B to z y zs h.1)

-- one whose want was asked waits for another, by needs
abbrev pub WaitsAsked : List Asked → (ℕ → Party) → ℕ → ℕ → Type 0
WaitsAsked asks party a b = (w : Need) × (asked_want asks a (party a).opened ≡ Some w) × (waits_by_asks asks party a w b ≡ true)

asked-waits : (p : Place) (party : ℕ → Party) (asks : List Asked) → AreTied p party asks → (a b : ℕ) → WaitsAsked asks party a b → waits p a b ≡ true
asked-waits p party asks tied a b h = waits-tied p party asks tied a h.0 b (tied.wants a ∙ h.1) h.2

-- ---- what the tree calls a wait by needs

before-asked : (first second : ℕ) (n : Node) (asks : List Asked) → asked_before first second n asks ≡ true → has_asked first asks ≡ true
before-asked first second n [] h = absurd (false≢true h)
before-asked first second n (a ∷ rest) h =
    elim (same_node a.node n && (a.owner == first || a.owner == second)) as (λ b. cond b (a.owner == first) (asked_before first second n rest) ≡ true → (a.owner == first || has_asked first rest) ≡ true) [
      | true ↦ λ k. or_left (a.owner == first) (has_asked first rest) k
      | false ↦ λ k. or_right (a.owner == first) (has_asked first rest) (before-asked first second n rest k)
    ] h

-- who comes first was asked
first-asked : (asks : List Asked) (s : ℕ) (w : Need) (t : ℕ) (got : List Need) (v : Need) → comes_first asks s w t got (Some v) ≡ true → has_asked t asks ≡ true
first-asked asks s w t got v h =
    let p = and_parts (conflict w v) ((converts_at got (upper_of w v) && has_asked t asks) || asked_before t s (upper_of w v) asks) h in
    elim (or_cases (converts_at got (upper_of w v) && has_asked t asks) (asked_before t s (upper_of w v) asks) p.1) [
      | inl x ↦ (and_parts (converts_at got (upper_of w v)) (has_asked t asks) x).1
      | inr x ↦ before-asked t s (upper_of w v) asks x
    ]

-- so wants that were asked nowhere count for nothing
first-by-asks : (asks : List Asked) (s : ℕ) (w : Need) (t : ℕ) (got : List Need) (o : Option OpenWant) → comes_first asks s w t got (wanted o) ≡ true → comes_first asks s w t got (asked_want asks t o) ≡ true
first-by-asks asks s w t got None h = absurd (false≢true h)
first-by-asks asks s w t got (Some v) h =
    ap (λ b. comes_first asks s w t got (cond b (Some v.need) None)) (first-asked asks s w t got v.need h) ∙ h

behind-by-asks : (asks : List Asked) (party : ℕ → Party) (s : ℕ) (w : Need) (t : ℕ) → waits_for asks s w t (party t) ≡ true → waits_by_asks asks party s w t ≡ true
behind-by-asks asks party s w t h =
    let p = and_parts (not (s == t)) (list_any (conflict w) (party t).needs || comes_first asks s w t (party t).needs (wanted (party t).opened)) h in
    and_from (not (s == t)) (list_any (conflict w) (party t).needs || comes_first asks s w t (party t).needs (asked_want asks t (party t).opened)) p.0
    (elim (or_cases (list_any (conflict w) (party t).needs) (comes_first asks s w t (party t).needs (wanted (party t).opened)) p.1) [
      | inl x ↦ or_left (list_any (conflict w) (party t).needs) _ x
      | inr x ↦ or_right (list_any (conflict w) (party t).needs) _ (first-by-asks asks s w t (party t).needs (party t).opened x)
    ])

-- what the tree answers of waits, the account says too
pub needs-waits : (asks : List Asked) (party : ℕ → Party) (a b : ℕ) → waits_by_needs party asks a b ≡ true → WaitsAsked asks party a b
needs-waits asks party a b h = by (party a).opened refl h
  where
    by : (o : Option OpenWant) → (party a).opened ≡ o → waits_with asks a o b (party b) ≡ true → WaitsAsked asks party a b
    by None e h = absurd (false≢true h)
    by (Some w) e h =
        let p = and_parts (has_asked a asks) (waits_for asks a w.need b (party b)) h in
        (w.need, ap (λ (o : Option OpenWant). asked_want asks a o) e ∙ ap (λ c. cond c (Some w.need) None) p.0, behind-by-asks asks party a w.need b p.1)

-- Where the account is tied to the tree, a sleeper waits for whom the tree names, a refusal has its cause, and a deadlock's cycle is one.
pub tree-waits : (p : Place) (party : ℕ → Party) (asks : List Asked) (a b : ℕ) → AreTied p party asks → waits_by_needs party asks a b ≡ true → waits p a b ≡ true
tree-waits p party asks a b tied h = asked-waits p party asks tied a b (needs-waits asks party a b h)

pub tree-conflict : (o : Opening) (p : Place) (party : ℕ → Party) (asks : List Asked) (s t : ℕ) → AreTied p party asks → is_nowait (p.transaction s) ≡ true → waits_by_needs party asks s t ≡ true → has_cause o p s (r.LockConflict t) ≡ true
tree-conflict o p party asks s t tied nowait h = and_from (is_nowait (p.transaction s)) (waits p s t) nowait (tree-waits p party asks s t tied h)

pub tree-deadlock : (o : Opening) (p : Place) (party : ℕ → Party) (asks : List Asked) (s : ℕ) (cycle : List ℕ) → AreTied p party asks → IsCycle (λ a b. waits_by_needs party asks a b ≡ true) s cycle → has_cause o p s (r.Deadlock cycle) ≡ true
tree-deadlock o p party asks s cycle tied c =
    cycle-lawful p s cycle (c.0, walk-tied (λ a b. waits_by_needs party asks a b ≡ true) (Waits p) (λ a b h. tree-waits p party asks a b tied h) s s c.0 c.1, c.2)
