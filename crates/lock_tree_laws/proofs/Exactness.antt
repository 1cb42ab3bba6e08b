-- Where no lock above covers the want, a lock at its node that isn't in excess is no stronger than it has to be.
use Rattle.std.proofs.Common.{◌≡◌, ℕ, Bool, true, false, refl, sym, ◌∙◌, ap, subst, inl, inr, List, [], ◌∷◌}
use Rattle.std.specs.Prelude.{◌&&◌, ◌||◌, not, if◌then◌else◌, Option, Some}
use Rattle.std.proofs.lemmas.Bool.{false≢true, and_parts, and_from, or_left, or_right, or_cases, cases_Bool, not_from_false}
use Rattle.rdb_types.specs.declared.node.Node.{Node}
use Rattle.vms_queues.specs.declared.lock_mode.Mode.{Mode}
use Rattle.vms_queues.specs.declared.lock_mode.Mode.TheVariants.{NL, CR, CW, PR, PW, EX}
use Rattle.vms_queues.specs.Modes.{at_most, least_above, intent}
use Rattle.vms_queues.proofs.ModeLaws.{all_modes-at, all_modes_3-at, implies, from_implies}
use Rattle.rdb_types.specs.declared.node.Level.TheVariants.{Area, Range, Page}
use Rattle.rdb_types.specs.declared.node.Level.{Level}
use Rattle.lock_needs.specs.declared.need.Need.{Need}
use Rattle.lock_needs.specs.declared.party.OpenWant.{OpenWant}
use Rattle.lock_needs.specs.Party.{Party}
use Rattle.vms_locks.specs.Table.{Table}
use Rattle.lock_needs.specs.Nodes.{same_node, contains, is_on, is_above, on_way}
use Rattle.lock_needs.specs.Needs.{Holding, HasIntentsAbove, covers_below, covers_from, covered_above, is_covered, all_covered}
use Rattle.lock_needs.specs.Keeping.{below, needed_on, is_excess}
use Rattle.lock_needs.specs.Wants.{kept_at, opened_at, mode_for, intents_on}
use Rattle.lock_needs.proofs.ModeTables.{at_most-refl, at_most-trans, at_most-join, join-left, join-right, intent-most, intent-own}
use Rattle.lock_needs.proofs.NodeLaws.{same_node-true, same_node-refl, contains-self, contains-is, contains-above, IsOn, comparable, on-then}
use Rattle.lock_needs.proofs.Apart.{IsCover, cover-of}
use Rattle.lock_needs.proofs.Enough.{if-join, if-join-from, on-within}
use Rattle.lock_needs.proofs.Joins.{nothing, join-none}
use Rattle.lock_tree_laws.specs.LockTable.{granted_at, sought_at, HasIntents}
use Rattle.lock_tree_laws.specs.Parties.{IsKeptBut, IsKept, nowhere, wanting, unasked}
use Rattle.lock_tree_laws.proofs.Leaving.{opened-unasked}

-- no lock above the node covers all needs below
abbrev pub HasNoExclusiveAbove : Holding → Node → Type 0
HasNoExclusiveAbove held n = (x : Node) → contains x n ≡ true → at_most EX (held x) ≡ false

exclusive : (m k : Mode) → at_most EX m ≡ true → covers_below m k ≡ true
exclusive EX k h = refl
exclusive NL k h = absurd (false≢true h)
exclusive CR k h = absurd (false≢true h)
exclusive CW k h = absurd (false≢true h)
exclusive PR k h = absurd (false≢true h)
exclusive PW k h = absurd (false≢true h)

-- a lock on a containing node that covers a need is on its way
covers-above : (held : Holding) (w : Need) (x : Node) → contains x w.node ≡ true → covers_below (held x) w.mode ≡ true → covered_above held w ≡ true
covers-above held w x h c =
    at-level x.level (and_from (is_above x.level w.node.level) (covers_below (held (on_way x.level w.node)) w.mode) (contains-above x w.node h)
    (subst (λ (z : Node). covers_below (held z) w.mode ≡ true) (contains-is x w.node h) c))
  where
    at-level : (l : Level) → covers_from held w l ≡ true → covered_above held w ≡ true
    at-level Area e = or_left (covers_from held w Area) (covers_from held w Range || covers_from held w Page) e
    at-level Range e = or_right (covers_from held w Area) (covers_from held w Range || covers_from held w Page) (or_left (covers_from held w Range) (covers_from held w Page) e)
    at-level Page e = or_right (covers_from held w Area) (covers_from held w Range || covers_from held w Page) (or_right (covers_from held w Range) (covers_from held w Page) e)
    at-level l e = absurd (false≢true e)

pub uncovered-open : (held : Holding) (w : Need) (n : Node) → covered_above held w ≡ false → is_on n w.node ≡ true → HasNoExclusiveAbove held n
uncovered-open held w n bare on x c =
    elim (cases_Bool (at_most EX (held x))) [
      | inr f ↦ f
      | inl t ↦ absurd (false≢true (sym bare ∙ covers-above held w x (on-within x n w.node c on) (exclusive (held x) w.mode t)))
    ]

-- what covers a need below, and isn't exclusive, reads
reads-below : (m k h : Mode) → covers_below m k ≡ true → at_most EX m ≡ false → at_most PR h ≡ true → at_most k h ≡ true
reads-below m k h c e p =
    from_implies (at_most PR h) (at_most k h)
    (from_implies (not (at_most EX m)) (implies (at_most PR h) (at_most k h))
    (from_implies (covers_below m k) (implies (not (at_most EX m)) (implies (at_most PR h) (at_most k h)))
    (all_modes_3-at (λ m k h. implies (covers_below m k) (implies (not (at_most EX m)) (implies (at_most PR h) (at_most k h)))) refl m k h) c)
    (not_from_false (at_most EX m) e)) p

-- where a lock is no intent, what is kept is what it allows
pub at-least-read : (h k : Mode) → (at_most PR h ≡ true → at_most k h ≡ true) → at_most (intent h) k ≡ true → (at_most k h && not (at_most h k)) ≡ false → at_most h k ≡ true
at-least-read h k f i x = elim (cases_Bool (at_most PR h)) [
  | inl t ↦ elim (cases_Bool (at_most h k)) [
    | inl y ↦ y
    | inr n ↦ absurd (false≢true (sym x ∙ and_from (at_most k h) (not (at_most h k)) (f t) (ap not n)))
  ]
  | inr n ↦ at_most-trans h (intent h) k
      (from_implies (not (at_most PR h)) (at_most h (intent h)) (all_modes-at (λ h. implies (not (at_most PR h)) (at_most h (intent h))) refl h) (not_from_false (at_most PR h) n)) i
]

module _ (held : Holding) (n : Node) (intents : HasIntentsAbove held) (none : HasNoExclusiveAbove held n) (reads : at_most PR (held n) ≡ true) where
  -- the lock that covers a need on the node or below allows what it asks of the node
  cover-allows : (w : Need) (x : Node) → IsCover held w x → IsOn n w.node → at_most (intent w.mode) (held n) ≡ true
  cover-allows w x c on =
      elim (comparable x n w.node (elim c.place [ inl e ↦ inl e | inr r ↦ inr r.0 ]) on) [
        | inl e ↦ at_most-trans (intent w.mode) w.mode (held n) (intent-own w.mode) (subst (λ (z : Node). at_most w.mode (held z) ≡ true) e c.most)
        | inr k ↦ elim k [
          | inr nx ↦ at_most-trans (intent w.mode) (intent (held x)) (held n) (intent-most w.mode (held x) c.most) (intents n x nx)
          | inl xn ↦ at_most-trans (intent w.mode) w.mode (held n) (intent-own w.mode) (from-above w x c on xn)
        ]
      ]
    where
      from-above : (w : Need) (x : Node) → IsCover held w x → IsOn n w.node → contains x n ≡ true → at_most w.mode (held n) ≡ true
      from-above w x c on xn = elim c.place [
        | inr r ↦ reads-below (held x) w.mode (held n) r.1 (none x xn) reads
        | inl e ↦ absurd (false≢true (sym (contains-self x x (on-then x n x (inr xn) (elim on [
          | inl f ↦ subst (λ (z : Node). contains z x ≡ true) (sym f) (subst (λ (z : Node). contains z x ≡ true) e (subst (λ (z : Node). contains x z ≡ true) (f ∙ sym e) xn))
          | inr g ↦ subst (λ (z : Node). contains n z ≡ true) (sym e) g
        ]))) ∙ same_node-refl x))
      ]

  pub below-allowed : (ws : List Need) → all_covered held ws ≡ true → at_most (below ws n) (held n) ≡ true
  below-allowed [] h = nothing (held n)
  below-allowed (w ∷ ws) h =
      let p = and_parts (is_covered held w) (all_covered held ws) h in
      let c = cover-of held w p.0 in
      if-join-from (contains n w.node) (intent w.mode) (below ws n) (held n)
      (λ t. cover-allows w c.0 c.1 (inr t)) (below-allowed ws p.1)

  -- the need on the node itself is allowed whole
  on-allowed : (w : Need) → is_covered held w ≡ true → n ≡ w.node → at_most w.mode (held n) ≡ true
  on-allowed w h e =
      let c = cover-of held w h in
      elim c.1.place [
        | inl f ↦ subst (λ (z : Node). at_most w.mode (held z) ≡ true) (f ∙ sym e) c.1.most
        | inr r ↦ reads-below (held c.0) w.mode (held n) r.1 (none c.0 (subst (λ (z : Node). contains c.0 z ≡ true) (sym e) r.0)) reads
      ]

  pub needed-allowed : (ws : List Need) → all_covered held ws ≡ true → at_most (needed_on ws n) (held n) ≡ true
  needed-allowed [] h = nothing (held n)
  needed-allowed (w ∷ ws) h =
      let p = and_parts (is_covered held w) (all_covered held ws) h in
      if-join-from (same_node n w.node) w.mode (needed_on ws n) (held n)
      (λ s. on-allowed w p.0 (same_node-true n w.node s)) (needed-allowed ws p.1)

-- intents of needs on the node and below are among what is kept there
pub intents-kept : (n : Node) (keep : Mode) (ws : List Need) → at_most (below ws n) keep ≡ true → at_most (needed_on ws n) keep ≡ true → at_most (intents_on ws n) keep ≡ true
intents-kept n keep [] h g = nothing keep
intents-kept n keep (w ∷ ws) h g =
    let p = if-join (contains n w.node) (intent w.mode) (below ws n) keep h in
    let q = if-join (same_node n w.node) w.mode (needed_on ws n) keep g in
    if-join-from (is_on n w.node) (intent w.mode) (intents_on ws n) keep
    (λ o. elim (or_cases (same_node n w.node) (contains n w.node) o) [
      | inl s ↦ elim (or_cases (not (same_node n w.node)) (at_most w.mode keep) q.0) [
        | inl x ↦ absurd (false≢true (ap not (sym s) ∙ x))
        | inr y ↦ at_most-trans (intent w.mode) w.mode keep (intent-own w.mode) y
      ]
      | inr c ↦ elim (or_cases (not (contains n w.node)) (at_most (intent w.mode) keep) p.0) [
        | inl x ↦ absurd (false≢true (ap not (sym c) ∙ x))
        | inr y ↦ y
      ]
    ])
    (intents-kept n keep ws p.1 q.1)

module _ (held sought : Holding) (ws : List Need) (w : OpenWant) (k : IsKeptBut nowhere held sought (wanting ws (unasked w))) where
  nothing-opened : opened_at held (Some (unasked w)) w.here ≡ NL
  nothing-opened = opened-unasked held w w.here ∙ ap (λ (b : Bool). if b then mode_for w.need w.here else NL) (apart w.here)
    where
      apart : (n : Node) → contains n n ≡ false
      apart n = elim (cases_Bool (contains n n)) [ inr f ↦ f | inl t ↦ absurd (false≢true (sym (contains-self n n t) ∙ same_node-refl n)) ]

  -- what must be kept at the node is what the needs ask there
  pub kept-unasked : kept_at held (wanting ws (unasked w)) w.here ≡ least_above (below ws w.here) (needed_on ws w.here)
  kept-unasked = ap (λ (y : Mode). least_above y (least_above (below ws w.here) (needed_on ws w.here))) nothing-opened ∙ join-none (least_above (below ws w.here) (needed_on ws w.here))

  pub least-open : HasIntentsAbove held → covered_above held w.need ≡ false → is_excess (held w.here) (kept_at held (wanting ws (unasked w)) w.here) ≡ false → at_most (held w.here) (kept_at held (wanting ws (unasked w)) w.here) ≡ true
  least-open intents bare x =
      let n : Node = w.here in
      let keep : Mode = least_above (below ws n) (needed_on ws n) in
      subst (λ (y : Mode). at_most (held n) y ≡ true) (sym kept-unasked)
      (at-least-read (held n) keep
      (λ reads.
      let none : HasNoExclusiveAbove held n = uncovered-open held w.need n bare k.way in
      at_most-join (below ws n) (needed_on ws n) (held n)
      ∙ and_from (at_most (below ws n) (held n)) (at_most (needed_on ws n) (held n)) (below-allowed held n intents none reads ws k.covered) (needed-allowed held n intents none reads ws k.covered))
      (at_most-trans (intent (held n)) (intents_on ws n) keep
      (subst (λ (y : Mode). at_most (intent (held n)) y ≡ true) (join-none (intents_on ws n))
      (subst (λ (y : Mode). at_most (intent (held n)) (least_above (intent y) (intents_on ws n)) ≡ true) nothing-opened (k.earned n refl)))
      (intents-kept n keep ws (join-left (below ws n) (needed_on ws n)) (join-right (below ws n) (needed_on ws n))))
      (subst (λ (y : Mode). is_excess (held n) y ≡ false) kept-unasked x))

  -- after the owner's own weakening
  pub least-served : (less : Holding) → less w.here ≡ kept_at held (wanting ws (unasked w)) w.here → at_most (less w.here) (kept_at less (wanting ws (unasked w)) w.here) ≡ true
  least-served less e =
      subst (λ (y : Mode). at_most (less w.here) y ≡ true)
      (e ∙ (kept-unasked ∙ sym (ap (λ (y : Mode). least_above y (least_above (below ws w.here) (needed_on ws w.here))) (nothing-opened_less less) ∙ join-none (least_above (below ws w.here) (needed_on ws w.here)))))
      (at_most-refl (less w.here))
    where
      nothing-opened_less : (more : Holding) → opened_at more (Some (unasked w)) w.here ≡ NL
      nothing-opened_less more = opened-unasked more w w.here ∙ (sym (opened-unasked held w w.here) ∙ nothing-opened)

-- the same of the owner as it is told
module _ (held sought : Holding) (p : Party) (w : OpenWant) (opened : p.opened ≡ Some (unasked w)) (k : IsKeptBut nowhere held sought p) where
  pub as-wanting : p ≡ wanting p.needs (unasked w)
  as-wanting = ap (λ (o : Option OpenWant). record p { opened = o }) opened

  pub as-kept : IsKeptBut nowhere held sought (wanting p.needs (unasked w))
  as-kept = subst (IsKeptBut nowhere held sought) as-wanting k

  pub party-least : HasIntentsAbove held → covered_above held w.need ≡ false → is_excess (held w.here) (kept_at held p w.here) ≡ false → at_most (held w.here) (kept_at held p w.here) ≡ true
  party-least intents bare x =
      subst (λ (q : Party). at_most (held w.here) (kept_at held q w.here) ≡ true) (sym as-wanting)
      (least-open held sought p.needs w as-kept intents bare (subst (λ (q : Party). is_excess (held w.here) (kept_at held q w.here) ≡ false) as-wanting x))

  pub party-served : (less : Holding) → less w.here ≡ kept_at held p w.here → at_most (less w.here) (kept_at less p w.here) ≡ true
  party-served less e =
      subst (λ (q : Party). at_most (less w.here) (kept_at less q w.here) ≡ true) (sym as-wanting)
      (least-served held sought p.needs w as-kept less (e ∙ ap (λ (q : Party). kept_at held q w.here) as-wanting))

-- as the code does it: the lock is served as a notice serves it
pub least-after : (old new : Table) (owner : ℕ) (p : Party) (w : OpenWant) → p.opened ≡ Some (unasked w) → IsKept old owner p → HasIntents old → covered_above (granted_at old owner) w.need ≡ false
    → (is_excess (granted_at old owner w.here) (kept_at (granted_at old owner) p w.here) ≡ true → granted_at new owner w.here ≡ kept_at (granted_at old owner) p w.here)
    → (is_excess (granted_at old owner w.here) (kept_at (granted_at old owner) p w.here) ≡ false → new ≡ old)
    → at_most (granted_at new owner w.here) (kept_at (granted_at new owner) p w.here) ≡ true
least-after old new owner p w opened k intents bare served unchanged =
    elim (cases_Bool (is_excess (granted_at old owner w.here) (kept_at (granted_at old owner) p w.here))) [
      | inl x ↦ party-served (granted_at old owner) (sought_at old owner) p w opened k (granted_at new owner) (served x)
      | inr x ↦ subst (λ (t : Table). at_most (granted_at t owner w.here) (kept_at (granted_at t owner) p w.here) ≡ true) (sym (unchanged x))
          (party-least (granted_at old owner) (sought_at old owner) p w opened k (intents.granted owner) bare x)
    ]
