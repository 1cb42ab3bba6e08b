-- A want that ends leaves its nodes from the lowest up.
use Rattle.std.proofs.Common.{◌≡◌, ℕ, Bool, true, false, refl, sym, ◌∙◌, ap, subst, ◌⊎◌, inl, inr, List, [], ◌∷◌}
use Rattle.std.specs.Prelude.{◌&&◌, ◌||◌, ◌==◌, not, if◌then◌else◌, Option, Some, None, unwrap_or}
use Rattle.std.proofs.lemmas.Bool.{false≢true, and_parts, or_left, or_right, or_cases, cases_Bool, not-true, not_from_false, eqb-true}
use Rattle.rdb_types.specs.declared.node.Node.{Node}
use Rattle.vms_queues.specs.declared.lock_mode.Mode.{Mode}
use Rattle.vms_queues.specs.declared.lock_mode.Mode.TheVariants.{NL, CW}
use Rattle.vms_queues.specs.Modes.{at_most, least_above, intent}
use Rattle.vms_queues.proofs.ModeLaws.{all_modes-at, all_modes_3-at, implies, from_implies}
use Rattle.vms_locks.specs.Table.{Table}
use Rattle.lock_needs.specs.declared.need.Need.{Need}
use Rattle.lock_needs.specs.declared.party.OpenWant.{OpenWant}
use Rattle.lock_needs.specs.Party.{Party}
use Rattle.lock_needs.specs.Nodes.{same_node, contains, is_on, above_of}
use Rattle.lock_needs.specs.Needs.{Holding, all_covered, is_covered, covered_above}
use Rattle.lock_needs.specs.Keeping.{below, needed_on, needed_uncovered, must_keep, after_want, is_enough}
use Rattle.lock_needs.specs.Wants.{mode_for, opened_at, sleeps_at, intents_on, earned_at, IsOnWay}
use Rattle.lock_needs.proofs.ModeTables.{at_most-refl, at_most-trans, join-left, join-right, intent-join, intent-most}
use Rattle.lock_needs.proofs.NodeLaws.{same_node-true, same_node-refl, contains-self, contains-trans}
use Rattle.lock_needs.proofs.Above.{top-alone, above-contains, above-next}
use Rattle.lock_needs.proofs.Cover.{by_test}
use Rattle.lock_needs.proofs.Enough.{intents-below, uncovered-most, if-join, if-join-from, enough-after_want}
use Rattle.lock_needs.proofs.Joins.{nothing, join-none}
use Rattle.lock_tree_laws.specs.LockTable.{granted_at, sought_at, HasIntents, LoweredAt}
use Rattle.lock_tree_laws.specs.Parties.{IsKeptBut, IsKept, HasReason, was_asked, is_needed, nowhere, wanting, resting, unasked, asked_at}
use Rattle.lock_tree_laws.specs.Inner.Lowering.{MayComeDown, BroughtDown}
use Rattle.lock_tree_laws.proofs.Brought.{kept-alike, brought-kept, may-come-down, below-owed, needed-owed, unneeded}

-- ---- another open want of the same owner, which isn't queued anywhere

pub reopened : (but : Node → Bool) (held sought seeks : Holding) (ws : List Need) (o q : Option OpenWant)
    → ((x : Node) → but x ≡ false → opened_at held q x ≡ opened_at held o x)
    → ((x : Node) → at_most (opened_at held q x) (held x) ≡ true)
    → IsOnWay q
    → ((x : Node) → seeks x ≡ held x)
    → ((w : OpenWant) → q ≡ Some w → sleeps_at held (Some w) w.here ≡ false)
    → ((x : Node) (w : OpenWant) → q ≡ Some w → was_asked w x ≡ true → at_most (held x) (must_keep ws (opened_at held q x) x) ≡ true)
    → IsKeptBut nowhere held sought (record { needs = ws; opened = o }) → IsKeptBut but held seeks (record { needs = ws; opened = q })
reopened but held sought seeks ws o q opened granted way awake asleep exact k = record {
  covered = k.covered;
  plain = k.plain;
  way = way;
  granted = granted;
  awake = λ x s. awake x;
  asleep = λ w e s. absurd (false≢true (sym (asleep w e) ∙ s));
  exact = exact;
  earned = λ x b. subst (λ (y : Mode). at_most (intent (held x)) (least_above (intent y) (intents_on ws x)) ≡ true) (sym (opened x b)) (k.earned x refl);
  no_stray = λ x b. subst (λ (y : Mode). (held x ≡ NL) ⊎ ((at_most y NL ≡ false) ⊎ (is_needed ws x ≡ true))) (sym (opened x b)) (k.no_stray x refl);
}

c-drop : (c s : Bool) → (c || (s && false)) ≡ c
c-drop true s = refl
c-drop false true = refl
c-drop false false = refl

or-none : (c : Bool) → (c || false) ≡ c
or-none true = refl
or-none false = refl

pub and-none : (s : Bool) → (s && false) ≡ false
and-none true = refl
and-none false = refl

-- what an open want was granted that isn't asked at its node
pub opened-unasked : (held : Holding) (w : OpenWant) (x : Node) → opened_at held (Some (unasked w)) x ≡ (if contains x w.here then mode_for w.need x else NL)
opened-unasked held w x = ap (λ (b : Bool). if b then mode_for w.need x else NL) (c-drop (contains x w.here) (same_node x w.here))

opened-elsewhere : (held : Holding) (w : OpenWant) (x : Node) → same_node x w.here ≡ false → opened_at held (Some w) x ≡ (if contains x w.here then mode_for w.need x else NL)
opened-elsewhere held w x d =
    ap (λ (s : Bool). if contains x w.here || (s && (w.is_asked && at_most (mode_for w.need x) (held x))) then mode_for w.need x else NL) d
    ∙ ap (λ (b : Bool). if b then mode_for w.need x else NL) (or-none (contains x w.here))

pub sleeps-elsewhere : (held : Holding) (w : OpenWant) (x : Node) → same_node x w.here ≡ false → sleeps_at held (Some w) x ≡ false
sleeps-elsewhere held w x d = ap (λ (s : Bool). s && (w.is_asked && not (at_most (mode_for w.need x) (held x)))) d

pub the-want : (w v : OpenWant) → Some w ≡ Some v → v ≡ w
the-want w v e = ap (λ (o : Option OpenWant). unwrap_or o w) (sym e)

pub unasked-sleeps : (held : Holding) (w v : OpenWant) → Some (unasked w) ≡ Some v → sleeps_at held (Some v) v.here ≡ false
unasked-sleeps held w v e =
    subst (λ (u : OpenWant). sleeps_at held (Some u) u.here ≡ false) (sym (the-want (unasked w) v e)) (and-none (same_node w.here w.here))

module _ (held sought : Holding) (ws : List Need) (w : OpenWant) (k : IsKeptBut nowhere held sought (wanting ws w)) where
  unasked-granted : (x : Node) → at_most (opened_at held (Some (unasked w)) x) (held x) ≡ true
  unasked-granted x =
      subst (λ (y : Mode). at_most y (held x) ≡ true) (sym (opened-unasked held w x))
      (by_test (λ (y : Mode). at_most y (held x) ≡ true) (contains x w.here) (mode_for w.need x) NL
      (λ c. subst (λ (b : Bool). at_most (if b || (same_node x w.here && (w.is_asked && at_most (mode_for w.need x) (held x))) then mode_for w.need x else NL) (held x) ≡ true) c (k.granted x))
      (λ c. nothing (held x)))

  unasked-exact : (x : Node) (v : OpenWant) → Some (unasked w) ≡ Some v → was_asked v x ≡ true → at_most (held x) (must_keep ws (opened_at held (Some (unasked w)) x) x) ≡ true
  unasked-exact x v e asked =
      let c : contains x w.here ≡ true = sym (c-drop (contains x w.here) (same_node x w.here)) ∙ subst (λ (u : OpenWant). was_asked u x ≡ true) (the-want (unasked w) v e) asked in
      let was : at_most (held x) (must_keep ws (opened_at held (Some w) x) x) ≡ true = k.exact x w refl (or_left (contains x w.here) (same_node x w.here && w.is_asked) c) in
      subst (λ (y : Mode). at_most (held x) (must_keep ws y x) ≡ true)
      (ap (λ (b : Bool). if b || (same_node x w.here && (w.is_asked && at_most (mode_for w.need x) (held x))) then mode_for w.need x else NL) c
      ∙ sym (opened-unasked held w x ∙ ap (λ (b : Bool). if b then mode_for w.need x else NL) c)) was

  -- it forgets that it was asked at its node
  pub forgotten : sought w.here ≡ held w.here → IsKeptBut (λ x. same_node x w.here) held sought (wanting ws (unasked w))
  forgotten quiet =
      reopened (λ x. same_node x w.here) held sought sought ws (Some w) (Some (unasked w))
      (λ x d. opened-unasked held w x ∙ sym (opened-elsewhere held w x d))
      unasked-granted k.way
      (λ x. elim (cases_Bool (same_node x w.here)) [
        | inl s ↦ subst (λ (z : Node). sought z ≡ held z) (sym (same_node-true x w.here s)) quiet
        | inr d ↦ k.awake x (sleeps-elsewhere held w x d)
      ])
      (unasked-sleeps held w) unasked-exact k

  -- its queued request is cancelled
  pub cancelled : (seeks : Holding) → at_most (mode_for w.need w.here) (held w.here) ≡ false → seeks w.here ≡ held w.here → ((x : Node) → same_node x w.here ≡ false → seeks x ≡ sought x) → IsKeptBut nowhere held seeks (wanting ws (unasked w))
  cancelled seeks asleep quiet others =
      reopened nowhere held sought seeks ws (Some w) (Some (unasked w))
      (λ x b. elim (cases_Bool (same_node x w.here)) [
        | inr d ↦ opened-unasked held w x ∙ sym (opened-elsewhere held w x d)
        | inl s ↦ opened-unasked held w x ∙ sym (here x s)
      ])
      unasked-granted k.way
      (λ x. elim (cases_Bool (same_node x w.here)) [
        | inl s ↦ subst (λ (z : Node). seeks z ≡ held z) (sym (same_node-true x w.here s)) quiet
        | inr d ↦ others x d ∙ k.awake x (sleeps-elsewhere held w x d)
      ])
      (unasked-sleeps held w) unasked-exact k
    where
      here : (x : Node) → same_node x w.here ≡ true → opened_at held (Some w) x ≡ (if contains x w.here then mode_for w.need x else NL)
      here x s =
          let busy : at_most (mode_for w.need x) (held x) ≡ false = subst (λ (z : Node). at_most (mode_for w.need z) (held z) ≡ false) (sym (same_node-true x w.here s)) asleep in
          ap (λ (b : Bool). if contains x w.here || (same_node x w.here && (w.is_asked && b)) then mode_for w.need x else NL) busy
          ∙ (ap (λ (b : Bool). if contains x w.here || (same_node x w.here && b) then mode_for w.need x else NL) (and-none w.is_asked)
          ∙ ap (λ (b : Bool). if b then mode_for w.need x else NL) (c-drop (contains x w.here) (same_node x w.here)))

-- a node and the one above it, where the want was granted its mode
module _ (held : Holding) (w : OpenWant) (up : Node) (e : above_of w.here ≡ Some up) (up-granted : at_most (mode_for w.need up) (held up) ≡ true) where
  pub up-same : (x : Node) → contains x w.here ≡ (contains x up || same_node x up)
  up-same x =
      elim (cases_Bool (contains x w.here)) [
        | inl c ↦ c ∙ sym (elim (above-next w.here up e x c) [
          | inl s ↦ or_right (contains x up) (same_node x up) (subst (λ (z : Node). same_node x z ≡ true) s (same_node-refl x))
          | inr d ↦ or_left (contains x up) (same_node x up) d
        ])
        | inr f ↦ f ∙ sym (elim (cases_Bool (contains x up || same_node x up)) [
          | inr g ↦ g
          | inl t ↦ absurd (false≢true (sym f ∙ elim (or_cases (contains x up) (same_node x up) t) [
            | inl d ↦ contains-trans x up w.here d (above-contains w.here up e)
            | inr s ↦ subst (λ (z : Node). contains z w.here ≡ true) (sym (same_node-true x up s)) (above-contains w.here up e)
          ]))
        ])
      ]

  tested : (x : Node) → (contains x up || (same_node x up && at_most (mode_for w.need x) (held x))) ≡ contains x w.here
  tested x =
      elim (cases_Bool (same_node x up)) [
        | inr d ↦ ap (λ (s : Bool). contains x up || (s && at_most (mode_for w.need x) (held x))) d ∙ sym (up-same x ∙ ap (λ (s : Bool). contains x up || s) d)
        | inl s ↦
            ap (λ (b : Bool). contains x up || (same_node x up && b)) (subst (λ (z : Node). at_most (mode_for w.need z) (held z) ≡ true) (sym (same_node-true x up s)) up-granted)
            ∙ (ap (λ (b : Bool). contains x up || b) (and-true (same_node x up)) ∙ sym (up-same x))
      ]
    where
      and-true : (b : Bool) → (b && true) ≡ b
      and-true true = refl
      and-true false = refl

  pub opened-up : (x : Node) → opened_at held (Some (asked_at w up)) x ≡ opened_at held (Some (unasked w)) x
  opened-up x = ap (λ (b : Bool). if b then mode_for w.need x else NL) (tested x) ∙ sym (opened-unasked held w x)

  up-sleeps : (v : OpenWant) → Some (asked_at w up) ≡ Some v → sleeps_at held (Some v) v.here ≡ false
  up-sleeps v f =
      subst (λ (u : OpenWant). sleeps_at held (Some u) u.here ≡ false) (sym (the-want (asked_at w up) v f))
      (ap (λ (b : Bool). same_node up up && (true && not b)) up-granted ∙ and-none (same_node up up))

-- from a node to the one above it
module _ (held sought : Holding) (ws : List Need) (w : OpenWant) (up : Node) (e : above_of w.here ≡ Some up) (k : IsKeptBut nowhere held sought (wanting ws (unasked w))) where
  pub above-granted : at_most (mode_for w.need up) (held up) ≡ true
  above-granted =
      subst (λ (b : Bool). at_most (if b || (same_node up w.here && (false && at_most (mode_for w.need up) (held up))) then mode_for w.need up else NL) (held up) ≡ true) (above-contains w.here up e) (k.granted up)

  pub climbed : IsOnWay (Some w) → IsKeptBut nowhere held sought (wanting ws (asked_at w up))
  climbed way =
      reopened nowhere held sought sought ws (Some (unasked w)) (Some (asked_at w up))
      (λ x b. opened-up held w up e above-granted x)
      (λ x. subst (λ (y : Mode). at_most y (held x) ≡ true) (sym (opened-up held w up e above-granted x)) (k.granted x))
      (or_right (same_node up w.need.node) (contains up w.need.node) (elim (or_cases (same_node w.here w.need.node) (contains w.here w.need.node) way) [
        | inl s ↦ subst (λ (z : Node). contains up z ≡ true) (same_node-true w.here w.need.node s) (above-contains w.here up e)
        | inr c ↦ contains-trans up w.here w.need.node (above-contains w.here up e) c
      ]))
      (λ x. k.awake x (and-none (same_node x w.here)))
      (up-sleeps held w up e above-granted)
      (λ x v f asked.
      let c : contains x w.here ≡ true = up-same held w up e above-granted x ∙ (ap (λ (s : Bool). contains x up || s) (sym (and-all (same_node x up))) ∙ subst (λ (u : OpenWant). was_asked u x ≡ true) (the-want (asked_at w up) v f) asked) in
      subst (λ (y : Mode). at_most (held x) (must_keep ws y x) ≡ true) (sym (opened-up held w up e above-granted x))
      (k.exact x (unasked w) refl (c-drop (contains x w.here) (same_node x w.here) ∙ c)))
      k
    where
      and-all : (b : Bool) → (b && true) ≡ b
      and-all true = refl
      and-all false = refl

-- at the top nothing is left of it
pub closed : (held sought : Holding) (ws : List Need) (w : OpenWant) → above_of w.here ≡ None → IsKeptBut nowhere held sought (wanting ws (unasked w)) → IsKeptBut nowhere held sought (resting ws)
closed held sought ws w e k =
    reopened nowhere held sought sought ws (Some (unasked w)) None
    (λ x b. sym (opened-unasked held w x ∙ ap (λ (c : Bool). if c then mode_for w.need x else NL) (top-alone w.here x e)))
    (λ x. nothing (held x)) tt
    (λ x. k.awake x (and-none (same_node x w.here)))
    (λ v f. absurd (false≢true (ap (λ (o : Option OpenWant). elim o [ None ↦ false | Some u ↦ true ]) f)))
    (λ x v f asked. absurd (false≢true (ap (λ (o : Option OpenWant). elim o [ None ↦ false | Some u ↦ true ]) f)))
    k

-- ---- what is kept at the node that it leaves

-- what was left out at a node
pub filled : (held sought : Holding) (p : Party) (n : Node) → at_most (intent (held n)) (earned_at held p n) ≡ true → HasReason held p n (held n) → IsKeptBut (λ x. same_node x n) held sought p → IsKeptBut nowhere held sought p
filled held sought p n owed reason k = record {
  covered = k.covered;
  plain = k.plain;
  way = k.way;
  granted = k.granted;
  awake = k.awake;
  asleep = k.asleep;
  exact = k.exact;
  earned = λ x b. elim (cases_Bool (same_node x n)) [
    | inr d ↦ k.earned x d
    | inl s ↦ subst (λ (z : Node). at_most (intent (held z)) (earned_at held p z) ≡ true) (sym (same_node-true x n s)) owed
  ];
  no_stray = λ x b. elim (cases_Bool (same_node x n)) [
    | inr d ↦ k.no_stray x d
    | inl s ↦ subst (λ (z : Node). HasReason held p z (held z)) (sym (same_node-true x n s)) reason
  ];
}

none-most : (m : Mode) → at_most m NL ≡ true → m ≡ NL
none-most NL h = refl
none-most m h = absurd (false≢true h)

uncovered-on : (held : Holding) (ws : List Need) (n : Node) → at_most (needed_uncovered held ws n) (needed_on ws n) ≡ true
uncovered-on held ws n = uncovered-most held n (needed_on ws n) ws (at_most-refl (needed_on ws n))

module _ (held : Holding) (ws : List Need) (n : Node) where
  pub after-owed : at_most (intent (after_want held ws n)) (intents_on ws n) ≡ true
  after-owed =
      intent-join (below ws n) (needed_uncovered held ws n) (intents_on ws n) (below-owed ws n)
      (at_most-trans (intent (needed_uncovered held ws n)) (intent (needed_on ws n)) (intents_on ws n) (intent-most (needed_uncovered held ws n) (needed_on ws n) (uncovered-on held ws n)) (needed-owed ws n))

  unneeded-after : is_needed ws n ≡ false → after_want held ws n ≡ NL
  unneeded-after f =
      let u = unneeded ws n f in
      let rest : needed_uncovered held ws n ≡ NL = none-most (needed_uncovered held ws n) (subst (λ (y : Mode). at_most (needed_uncovered held ws n) y ≡ true) u.1 (uncovered-on held ws n)) in
      ap (λ (y : Mode). least_above y (needed_uncovered held ws n)) u.0 ∙ (ap (λ (y : Mode). least_above NL y) rest)

  pub after-reason : (after_want held ws n ≡ NL) ⊎ (is_needed ws n ≡ true)
  after-reason = elim (cases_Bool (is_needed ws n)) [ inl y ↦ inr y | inr f ↦ inl (unneeded-after f) ]

  -- needs on the node that nothing above covers are covered there
  uncovered-held : (vs : List Need) → all_covered held vs ≡ true → at_most (needed_uncovered held vs n) (held n) ≡ true
  uncovered-held [] h = nothing (held n)
  uncovered-held (w ∷ vs) h =
      let p = and_parts (is_covered held w) (all_covered held vs) h in
      if-join-from (same_node n w.node && not (covered_above held w)) w.mode (needed_uncovered held vs n) (held n)
      (λ t.
      let q = and_parts (same_node n w.node) (not (covered_above held w)) t in
      elim (or_cases (at_most w.mode (held w.node)) (covered_above held w) p.0) [
        | inl a ↦ subst (λ (z : Node). at_most w.mode (held z) ≡ true) (sym (same_node-true n w.node q.0)) a
        | inr c ↦ absurd (false≢true (sym (not-true (covered_above held w) q.1) ∙ c))
      ])
      (uncovered-held vs p.1)

  pub below-intent : (vs : List Need) → at_most (below vs n) CW ≡ true
  below-intent [] = refl
  below-intent (w ∷ vs) = if-join-from (contains n w.node) (intent w.mode) (below vs n) CW (λ c. all_modes-at (λ m. at_most (intent m) CW) refl w.mode) (below-intent vs)

  below-on : (vs : List Need) (bound : Mode) → at_most (intents_on vs n) bound ≡ true → at_most (below vs n) bound ≡ true
  below-on [] bound h = h
  below-on (w ∷ vs) bound h =
      let p = if-join (is_on n w.node) (intent w.mode) (intents_on vs n) bound h in
      if-join-from (contains n w.node) (intent w.mode) (below vs n) bound
      (λ c. elim (or_cases (not (is_on n w.node)) (at_most (intent w.mode) bound) p.0) [
        | inr y ↦ y
        | inl z ↦ absurd (false≢true (ap not (sym (or_right (same_node n w.node) (contains n w.node) c)) ∙ z))
      ])
      (below-on vs bound p.1)

  -- A lock that isn't as strong as what is kept is owed to needs below.
  weaker-law : (b u h : Mode) → at_most (least_above b u) h ≡ false → at_most u h ≡ true → at_most b CW ≡ true → at_most (intent h) b ≡ true
  weaker-law b u h x y z =
      from_implies (at_most b CW) (at_most (intent h) b)
      (from_implies (at_most u h) (implies (at_most b CW) (at_most (intent h) b))
      (from_implies (not (at_most (least_above b u) h)) (implies (at_most u h) (implies (at_most b CW) (at_most (intent h) b)))
      (all_modes_3-at (λ b u h. implies (not (at_most (least_above b u) h)) (implies (at_most u h) (implies (at_most b CW) (at_most (intent h) b)))) refl b u h) (not_from_false (at_most (least_above b u) h) x)) y) z

  pub weaker-owed : all_covered held ws ≡ true → at_most (after_want held ws n) (held n) ≡ false → (at_most (intent (held n)) (intents_on ws n) ≡ true) × (is_needed ws n ≡ true)
  weaker-owed covered x = (
    at_most-trans (intent (held n)) (below ws n) (intents_on ws n)
        (weaker-law (below ws n) (needed_uncovered held ws n) (held n) x (uncovered-held ws covered) (below-intent ws))
        (below-on ws (intents_on ws n) (at_most-refl (intents_on ws n))),
    elim (cases_Bool (is_needed ws n)) [
      | inl y ↦ y
      | inr f ↦ absurd (false≢true (sym x ∙ subst (λ (y : Mode). at_most y (held n) ≡ true) (sym (unneeded-after f)) (nothing (held n))))
    ],
  )

-- ---- the step over the table

module _ (old new : Table) (owner : ℕ) (ws : List Need) (w : OpenWant) (intents : HasIntents old) (k : IsKept old owner (wanting ws w)) (quiet : sought_at old owner w.here ≡ granted_at old owner w.here) where
  not-here : (v : OpenWant) → Some (unasked w) ≡ Some v → was_asked v w.here ≡ false
  not-here v e =
      subst (λ (u : OpenWant). was_asked u w.here ≡ false) (sym (the-want (unasked w) v e))
      (c-drop (contains w.here w.here) (same_node w.here w.here) ∙ apart w.here)
    where
      apart : (n : Node) → contains n n ≡ false
      apart n = elim (cases_Bool (contains n n)) [ inr f ↦ f | inl t ↦ absurd (false≢true (sym (contains-self n n t) ∙ same_node-refl n)) ]

  below-earned : (c : Node) → contains w.here c ≡ true → at_most (intent (granted_at old owner c)) (after_want (granted_at old owner) ws w.here) ≡ true
  below-earned c h =
      let keep : Mode = after_want (granted_at old owner) ws w.here in
      let apart : same_node c w.here ≡ false = elim (cases_Bool (same_node c w.here)) [
        | inr d ↦ d
        | inl s ↦ absurd (false≢true (sym (contains-self w.here c h) ∙ subst (λ (z : Node). same_node w.here z ≡ true) (sym (same_node-true c w.here s)) (same_node-refl w.here)))
      ] in
      let outside : contains c w.here ≡ false = elim (cases_Bool (contains c w.here)) [
        | inr d ↦ d
        | inl t ↦ absurd (false≢true (sym (contains-self w.here w.here (contains-trans w.here c w.here h t)) ∙ same_node-refl w.here))
      ] in
      let none : opened_at (granted_at old owner) (Some w) c ≡ NL = opened-elsewhere (granted_at old owner) w c apart ∙ ap (λ (b : Bool). if b then mode_for w.need c else NL) outside in
      at_most-trans (intent (granted_at old owner c)) (intents_on ws c) keep
      (subst (λ (y : Mode). at_most (intent (granted_at old owner c)) y ≡ true) (join-none (intents_on ws c))
      (subst (λ (y : Mode). at_most (intent (granted_at old owner c)) (least_above (intent y) (intents_on ws c)) ≡ true) none (k.earned c refl)))
      (intents-below w.here c keep ws h (join-left (below ws w.here) (needed_uncovered (granted_at old owner) ws w.here)))

  pub leaving-ready : at_most (after_want (granted_at old owner) ws w.here) (granted_at old owner w.here) ≡ true → MayComeDown old owner w.here (after_want (granted_at old owner) ws w.here)
  leaving-ready weaker =
      may-come-down old owner (wanting ws (unasked w)) w.here (after_want (granted_at old owner) ws w.here) intents
      (forgotten (granted_at old owner) (sought_at old owner) ws w k quiet) not-here below-earned weaker

  pub leaving-down : BroughtDown owner w.here (after_want (granted_at old owner) ws w.here) ws old new → IsKept new owner (wanting ws (unasked w))
  leaving-down b =
      let keep : Mode = after_want (granted_at old owner) ws w.here in
      let o : Mode = opened_at (granted_at old owner) (Some (unasked w)) w.here in
      brought-kept old new owner w.here keep (wanting ws (unasked w)) not-here b
      (forgotten (granted_at old owner) (sought_at old owner) ws w k quiet)
      (at_most-trans (intent keep) (intents_on ws w.here) (earned_at (granted_at old owner) (wanting ws (unasked w)) w.here) (after-owed (granted_at old owner) ws w.here) (join-right (intent o) (intents_on ws w.here)))
      (elim (after-reason (granted_at old owner) ws w.here) [ inl e ↦ inl e | inr y ↦ inr (inr y) ])

  -- where the lock isn't as strong as what is kept it stays
  pub leaving-stays : at_most (after_want (granted_at old owner) ws w.here) (granted_at old owner w.here) ≡ false → IsKept old owner (wanting ws (unasked w))
  leaving-stays x =
      let o : Mode = opened_at (granted_at old owner) (Some (unasked w)) w.here in
      let f = weaker-owed (granted_at old owner) ws w.here k.covered x in
      filled (granted_at old owner) (sought_at old owner) (wanting ws (unasked w)) w.here
      (at_most-trans (intent (granted_at old owner w.here)) (intents_on ws w.here) (earned_at (granted_at old owner) (wanting ws (unasked w)) w.here) f.0 (join-right (intent o) (intents_on ws w.here)))
      (inr (inr f.1))
      (forgotten (granted_at old owner) (sought_at old owner) ws w k quiet)

  -- where the owner holds nothing there is nothing to leave
  pub leaving-none : at_most (granted_at old owner w.here) NL ≡ true → IsKept old owner (wanting ws (unasked w))
  leaving-none h =
      let none : granted_at old owner w.here ≡ NL = none-most (granted_at old owner w.here) h in
      filled (granted_at old owner) (sought_at old owner) (wanting ws (unasked w)) w.here
      (subst (λ (m : Mode). at_most (intent m) (earned_at (granted_at old owner) (wanting ws (unasked w)) w.here) ≡ true) (sym none) (nothing (earned_at (granted_at old owner) (wanting ws (unasked w)) w.here)))
      (inl none)
      (forgotten (granted_at old owner) (sought_at old owner) ws w k quiet)

-- the queued request of a sleeping want is cancelled
pub woken-up : (old new : Table) (owner : ℕ) (ws : List Need) (w : OpenWant) → IsKept old owner (wanting ws w) → at_most (mode_for w.need w.here) (granted_at old owner w.here) ≡ false
    → LoweredAt old new owner w.here (granted_at old owner w.here) → IsKept new owner (wanting ws (unasked w))
woken-up old new owner ws w k asleep low =
    kept-alike nowhere (granted_at old owner) (granted_at new owner) (sought_at new owner) (sought_at new owner) (wanting ws (unasked w)) same (λ x. refl)
    (cancelled (granted_at old owner) (sought_at old owner) ws w k (sought_at new owner) asleep low.sought_own
    (λ x d. low.sought_others owner x (and-miss (owner == owner) (same_node x w.here) d)))
  where
    and-miss : (a b : Bool) → b ≡ false → (a && b) ≡ false
    and-miss true b d = d
    and-miss false b d = refl

    same : (x : Node) → granted_at new owner x ≡ granted_at old owner x
    same x = elim (cases_Bool (same_node x w.here)) [
      | inr d ↦ low.elsewhere owner x d
      | inl s ↦ subst (λ (z : Node). granted_at new owner z ≡ granted_at old owner z) (sym (same_node-true x w.here s)) low.own
    ]

-- ---- as the code does it

pub tested-mode : (m held n h : Mode) (b t : Bool) → m ≡ n → held ≡ h → b ≡ at_most m held → b ≡ t → at_most n h ≡ t
tested-mode m held n h b t em eh eb et = ap (λ (y : Mode). at_most n y) (sym eh) ∙ (ap (λ (y : Mode). at_most y held) (sym em) ∙ (sym eb ∙ et))

pub tested-held : (m held h : Mode) (b t : Bool) → held ≡ h → b ≡ at_most m held → b ≡ t → at_most m h ≡ t
tested-held m held h b t eh eb et = ap (λ (y : Mode). at_most m y) (sym eh) ∙ (sym eb ∙ et)

-- Locks grow to what was asked, and what is asked stays or is given up: intents stand.
rising-intents : (old new : Table) → HasIntents old → ((o : ℕ) (x : Node) → (granted_at new o x ≡ granted_at old o x) ⊎ (granted_at new o x ≡ sought_at old o x))
    → ((o : ℕ) (x : Node) → (sought_at new o x ≡ sought_at old o x) ⊎ ((sought_at new o x ≡ granted_at old o x) × (granted_at new o x ≡ granted_at old o x))) → HasIntents new
rising-intents old new intents grows asks = record {
  ascends = λ o x. elim (asks o x) [
    | inr e ↦ subst (λ (y : Mode). at_most y (sought_at new o x) ≡ true) (e.0 ∙ sym e.1) (at_most-refl (sought_at new o x))
    | inl e ↦ subst (λ (y : Mode). at_most (granted_at new o x) y ≡ true) (sym e) (either (λ (y : Mode). at_most y (sought_at old o x) ≡ true) o x (intents.ascends o x) (at_most-refl (sought_at old o x)))
  ];
  granted = λ o a x h. at_most-trans (intent (granted_at new o x)) (granted_at old o a) (granted_at new o a)
      (either (λ (y : Mode). at_most (intent y) (granted_at old o a) ≡ true) o x (intents.granted o a x h) (intents.sought o a x h)) (more o a);
  sought = λ o a x h. at_most-trans (intent (sought_at new o x)) (granted_at old o a) (granted_at new o a)
      (elim (asks o x) [
        | inl e ↦ subst (λ (y : Mode). at_most (intent y) (granted_at old o a) ≡ true) (sym e) (intents.sought o a x h)
        | inr e ↦ subst (λ (y : Mode). at_most (intent y) (granted_at old o a) ≡ true) (sym e.0) (intents.granted o a x h)
      ]) (more o a);
}
  where
    either : (P : Mode → Type 0) (o : ℕ) (x : Node) → P (granted_at old o x) → P (sought_at old o x) → P (granted_at new o x)
    either P o x f g = elim (grows o x) [ inl e ↦ subst P (sym e) f | inr e ↦ subst P (sym e) g ]

    more : (o : ℕ) (x : Node) → at_most (granted_at old o x) (granted_at new o x) ≡ true
    more o x = either (λ (y : Mode). at_most (granted_at old o x) y ≡ true) o x (at_most-refl (granted_at old o x)) (intents.ascends o x)

pub cancelled-intents : (old new : Table) (owner : ℕ) (n : Node) → HasIntents old → LoweredAt old new owner n (granted_at old owner n) → HasIntents new
cancelled-intents old new owner n intents low =
    rising-intents old new intents
    (λ o x. elim (cases_Bool (same_node x n)) [
      | inr d ↦ inl (low.elsewhere o x d)
      | inl s ↦ subst (λ (z : Node). (granted_at new o z ≡ granted_at old o z) ⊎ (granted_at new o z ≡ sought_at old o z)) (sym (same_node-true x n s)) (elim (cases_Bool (o == owner)) [
        | inr d ↦ low.others o d
        | inl e ↦ inl (subst (λ (u : ℕ). granted_at new u n ≡ granted_at old u n) (sym (eqb-true o owner e)) low.own)
      ])
    ])
    (λ o x. elim (cases_Bool ((o == owner) && same_node x n)) [
      | inr d ↦ inl (low.sought_others o x d)
      | inl e ↦
          let p = and_parts (o == owner) (same_node x n) e in
          inr (subst (λ (u : ℕ). (sought_at new u x ≡ granted_at old u x) × (granted_at new u x ≡ granted_at old u x)) (sym (eqb-true o owner p.0))
          (subst (λ (z : Node). (sought_at new owner z ≡ granted_at old owner z) × (granted_at new owner z ≡ granted_at old owner z)) (sym (same_node-true x n p.1)) (low.sought_own, low.own)))
    ])

-- who was granted its mode isn't queued
pub granted-quiet : (t : Table) (owner : ℕ) (ws : List Need) (w : OpenWant) → IsKept t owner (wanting ws w) → at_most (mode_for w.need w.here) (granted_at t owner w.here) ≡ true → sought_at t owner w.here ≡ granted_at t owner w.here
granted-quiet t owner ws w k h =
    k.awake w.here (ap (λ (b : Bool). same_node w.here w.here && (w.is_asked && not b)) h ∙ (ap (λ (b : Bool). same_node w.here w.here && b) (and-none w.is_asked) ∙ and-none (same_node w.here w.here)))

-- at the node above nothing is queued either
pub up-quiet : (t : Table) (owner : ℕ) (ws : List Need) (w : OpenWant) (up : Node) → IsKept t owner (wanting ws (unasked w)) → sought_at t owner up ≡ granted_at t owner up
up-quiet t owner ws w up k = k.awake up (and-none (same_node up w.here))

module _ (old new : Table) (owner : ℕ) (ws : List Need) (w : OpenWant) (keep : Mode) (is : keep ≡ after_want (granted_at old owner) ws w.here) (intents : HasIntents old) (k : IsKept old owner (wanting ws w)) (quiet : sought_at old owner w.here ≡ granted_at old owner w.here) where
  pub left-ready : at_most keep (granted_at old owner w.here) ≡ true → MayComeDown old owner w.here keep
  left-ready h =
      subst (λ (m : Mode). MayComeDown old owner w.here m) (sym is)
      (leaving-ready old new owner ws w intents k quiet (subst (λ (m : Mode). at_most m (granted_at old owner w.here) ≡ true) is h))

  pub left-enough : is_enough (granted_at old owner) ws w.here keep ≡ true
  left-enough = subst (λ (m : Mode). is_enough (granted_at old owner) ws w.here m ≡ true) (sym is) (enough-after_want (granted_at old owner) w.here ws)

  pub left-down : BroughtDown owner w.here keep ws old new → IsKept new owner (wanting ws (unasked w))
  left-down b = leaving-down old new owner ws w intents k quiet (subst (λ (m : Mode). BroughtDown owner w.here m ws old new) is b)

  pub left-stays : at_most keep (granted_at old owner w.here) ≡ false → IsKept old owner (wanting ws (unasked w))
  left-stays h = leaving-stays old new owner ws w intents k quiet (subst (λ (m : Mode). at_most m (granted_at old owner w.here) ≡ false) is h)

pub left-none : (old new : Table) (owner : ℕ) (ws : List Need) (w : OpenWant) → HasIntents old → IsKept old owner (wanting ws w) → sought_at old owner w.here ≡ granted_at old owner w.here → at_most (granted_at old owner w.here) NL ≡ true → IsKept old owner (wanting ws (unasked w))
left-none old new owner ws w intents k quiet h = leaving-none old new owner ws w intents k quiet h

-- a want that wasn't asked at its node
pub never-asked_here : (w : OpenWant) → w.is_asked ≡ false → w ≡ unasked w
never-asked_here w e = ap (λ (b : Bool). record w { is_asked = b }) e
