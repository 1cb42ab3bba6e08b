-- A want is asked at its node: it is granted there or queued, and what is true of its owner and of the others stays.
use Rattle.std.proofs.Common.{◌≡◌, ℕ, Bool, true, false, refl, sym, ◌∙◌, ap, subst, ◌⊎◌, inl, inr, List}
use Rattle.std.specs.Prelude.{◌&&◌, ◌||◌, ◌==◌, not, if◌then◌else◌, Some}
use Rattle.std.proofs.lemmas.Bool.{false≢true, and_parts, and_from, or_left, or_cases, cases_Bool, eqb-true, eq-eqb}
use Rattle.rdb_types.specs.declared.node.Node.{Node}
use Rattle.vms_queues.specs.declared.lock_mode.Mode.{Mode}
use Rattle.vms_queues.specs.declared.lock_mode.Mode.TheVariants.{NL}
use Rattle.vms_queues.specs.Modes.{at_most, least_above, intent}
use Rattle.vms_locks.specs.Table.{Table}
use Rattle.lock_needs.specs.declared.need.Need.{Need}
use Rattle.lock_needs.specs.declared.party.OpenWant.{OpenWant}
use Rattle.lock_needs.specs.Nodes.{same_node, contains}
use Rattle.lock_needs.specs.Needs.{Holding}
use Rattle.lock_needs.specs.Keeping.{below, needed_on}
use Rattle.lock_needs.specs.Wants.{mode_for, opened_at, kept_at, intents_on, earned_at}
use Rattle.lock_needs.proofs.ModeTables.{at_most-refl, at_most-trans, at_most-join, join-left, join-right, intent-join, intent-most, intent-twice, intent-own}
use Rattle.lock_needs.proofs.NodeLaws.{same_node-true, same_node-refl}
use Rattle.lock_needs.proofs.Cover.{by_test}
use Rattle.lock_needs.proofs.Growing.{join-more}
use Rattle.lock_needs.proofs.Joins.{nothing, at_most-both}
use Rattle.vms_locks.specs.declared.answer.Enq.{Enq}
use Rattle.vms_locks.specs.declared.answer.Enq.TheVariants.{Granted, Asleep, NotQueued, Deadlock}
use Rattle.lock_tree_laws.specs.Inner.Answering.{TakesAnswer}
use Rattle.lock_tree_laws.specs.LockTable.{granted_at, sought_at, HasIntents, RaisedAt, QueuedAt}
use Rattle.lock_tree_laws.specs.Parties.{IsKeptBut, IsKept, KeepsOthers, was_asked, nowhere, wanting, unasked, asked_at}
use Rattle.lock_tree_laws.proofs.Waking.{woken-kept}
use Rattle.lock_tree_laws.proofs.Brought.{kept-alike}
use Rattle.lock_tree_laws.proofs.Leaving.{opened-unasked, and-none, the-want}
use Rattle.lock_tree_laws.specs.Asking.{AnswersAt}

-- what joins a mode to one that is at least it
join-same : (h m : Mode) → at_most m h ≡ true → least_above h m ≡ h
join-same h m e =
    at_most-both (least_above h m) h
    (and_from (at_most (least_above h m) h) (at_most h (least_above h m))
    (at_most-join h m h ∙ and_from (at_most h h) (at_most m h) (at_most-refl h) e)
    (join-left h m))

-- ---- the owner

-- The want has come to its node, where the lock is no stronger than it has to be.
module _ (held sought : Holding) (ws : List Need) (w : OpenWant) (k : IsKeptBut nowhere held sought (wanting ws (unasked w)))
    (least : at_most (held w.here) (kept_at held (wanting ws (unasked w)) w.here) ≡ true) where
  -- asking gives it no less
  opened-asks : (x : Node) → at_most (opened_at held (Some (unasked w)) x) (opened_at held (Some (asked_at w w.here)) x) ≡ true
  opened-asks x =
      let m : Mode = mode_for w.need x in
      let tail : Bool = same_node x w.here && (true && at_most m (held x)) in
      subst (λ (y : Mode). at_most y (if contains x w.here || tail then m else NL) ≡ true) (sym (opened-unasked held w x))
      (by_test (λ (y : Mode). at_most y (if contains x w.here || tail then m else NL) ≡ true) (contains x w.here) m NL
      (λ c. subst (λ (b : Bool). at_most m (if b then m else NL) ≡ true) (sym (or_left (contains x w.here) tail c)) (at_most-refl m))
      (λ d. nothing (if contains x w.here || tail then m else NL)))

  asked-granted : (x : Node) → at_most (opened_at held (Some (asked_at w w.here)) x) (held x) ≡ true
  asked-granted x =
      let m : Mode = mode_for w.need x in
      let tail : Bool = same_node x w.here && (true && at_most m (held x)) in
      by_test (λ (y : Mode). at_most y (held x) ≡ true) (contains x w.here || tail) m NL
      (λ h. elim (or_cases (contains x w.here) tail h) [
        | inl c ↦ subst (λ (y : Mode). at_most y (held x) ≡ true) (opened-unasked held w x ∙ ap (λ (b : Bool). if b then m else NL) c) (k.granted x)
        | inr s ↦ (and_parts (same_node x w.here) (at_most m (held x)) s).1
      ])
      (λ d. nothing (held x))

  asked-exact : (x : Node) → was_asked (asked_at w w.here) x ≡ true → at_most (held x) (kept_at held (wanting ws (unasked w)) x) ≡ true
  asked-exact x a =
      elim (or_cases (contains x w.here) (same_node x w.here && true) a) [
        | inl c ↦ k.exact x (unasked w) refl (or_left (contains x w.here) (same_node x w.here && false) c)
        | inr s ↦ subst (λ (z : Node). at_most (held z) (kept_at held (wanting ws (unasked w)) z) ≡ true) (sym (same_node-true x w.here (and_parts (same_node x w.here) true s).0)) least
      ]

  pub queued-kept : (seeks : Holding) → seeks w.here ≡ least_above (held w.here) (mode_for w.need w.here) → ((x : Node) → same_node x w.here ≡ false → seeks x ≡ sought x) → IsKeptBut nowhere held seeks (wanting ws (asked_at w w.here))
  queued-kept seeks here elsewhere = record {
    covered = k.covered;
    plain = k.plain;
    way = k.way;
    granted = asked-granted;
    awake = λ x s. elim (cases_Bool (same_node x w.here)) [
      | inr d ↦ elsewhere x d ∙ k.awake x (and-none (same_node x w.here))
      | inl e ↦
          let has : at_most (mode_for w.need x) (held x) ≡ true = elim (cases_Bool (at_most (mode_for w.need x) (held x))) [
            | inl t ↦ t
            | inr f ↦ absurd (false≢true (sym s ∙ and_from (same_node x w.here) (true && not (at_most (mode_for w.need x) (held x))) e (ap not f)))
          ] in
          subst (λ (z : Node). seeks z ≡ held z) (sym (same_node-true x w.here e))
          (here ∙ join-same (held w.here) (mode_for w.need w.here) (subst (λ (z : Node). at_most (mode_for w.need z) (held z) ≡ true) (same_node-true x w.here e) has))
    ];
    asleep = λ v e s. subst (λ (u : OpenWant). seeks u.here ≡ least_above (held u.here) (mode_for u.need u.here)) (sym (the-want (asked_at w w.here) v e)) here;
    exact = λ x v e a.
        at_most-trans (held x) (kept_at held (wanting ws (unasked w)) x) (kept_at held (wanting ws (asked_at w w.here)) x)
        (asked-exact x (subst (λ (u : OpenWant). was_asked u x ≡ true) (the-want (asked_at w w.here) v e) a))
        (join-more (opened_at held (Some (unasked w)) x) (opened_at held (Some (asked_at w w.here)) x) (least_above (below ws x) (needed_on ws x)) (opened-asks x));
    earned = λ x b.
        at_most-trans (intent (held x)) (earned_at held (wanting ws (unasked w)) x) (earned_at held (wanting ws (asked_at w w.here)) x) (k.earned x refl)
        (join-more (intent (opened_at held (Some (unasked w)) x)) (intent (opened_at held (Some (asked_at w w.here)) x)) (intents_on ws x)
        (intent-most (opened_at held (Some (unasked w)) x) (opened_at held (Some (asked_at w w.here)) x) (opened-asks x)));
    no_stray = λ x b. elim (k.no_stray x refl) [
      | inl e ↦ inl e
      | inr r ↦ elim r [
        | inr y ↦ inr (inr y)
        | inl f ↦ inr (inl (elim (cases_Bool (at_most (opened_at held (Some (asked_at w w.here)) x) NL)) [
          | inr g ↦ g
          | inl g ↦ absurd (false≢true (sym f ∙ at_most-trans (opened_at held (Some (unasked w)) x) (opened_at held (Some (asked_at w w.here)) x) NL (opened-asks x) g))
        ]))
      ]
    ];
  }

  -- intents of what is asked stand above the node
  pub want-intent : (a : Node) → contains a w.here ≡ true → at_most (intent (mode_for w.need w.here)) (held a) ≡ true
  want-intent a c =
      let m : Mode = mode_for w.need a in
      let has : at_most m (held a) ≡ true = subst (λ (y : Mode). at_most y (held a) ≡ true) (opened-unasked held w a ∙ ap (λ (b : Bool). if b then m else NL) c) (k.granted a) in
      subst (λ (y : Mode). at_most y (held a) ≡ true) (sym (any-intent (same_node w.here w.need.node)))
      (at_most-trans (intent w.need.mode) m (held a) (less (same_node a w.need.node)) has)
    where
      any-intent : (b : Bool) → intent (if b then w.need.mode else intent w.need.mode) ≡ intent w.need.mode
      any-intent true = refl
      any-intent false = intent-twice w.need.mode

      less : (b : Bool) → at_most (intent w.need.mode) (if b then w.need.mode else intent w.need.mode) ≡ true
      less true = intent-own w.need.mode
      less false = at_most-refl (intent w.need.mode)

-- ---- the table

-- The owner asked the mode at the node: there it has been granted it, or it is queued for it.
pub record AskedAt (old new : Table) (owner : ℕ) (n : Node) (mode : Mode) : Type 0 where
  pub granted : (o : ℕ) (x : Node) → (granted_at new o x ≡ granted_at old o x) ⊎ ((((o == owner) && same_node x n) ≡ true) × (granted_at new o x ≡ mode))
  pub sought : (o : ℕ) (x : Node) → sought_at new o x ≡ (if (o == owner) && same_node x n then mode else sought_at old o x)

pub raised-asked : (old new : Table) (owner : ℕ) (n : Node) (mode : Mode) → RaisedAt old new owner n mode → AskedAt old new owner n mode
raised-asked old new owner n mode r = record {
  granted = λ o x. elim (cases_Bool ((o == owner) && same_node x n)) [
    | inl t ↦ inr (t, r.granted o x ∙ ap (λ (b : Bool). if b then mode else granted_at old o x) t)
    | inr f ↦ inl (r.granted o x ∙ ap (λ (b : Bool). if b then mode else granted_at old o x) f)
  ];
  sought = r.sought;
}

pub queued-asked : (old new : Table) (owner : ℕ) (n : Node) (mode : Mode) → QueuedAt old new owner n mode → AskedAt old new owner n mode
queued-asked old new owner n mode q = record { granted = λ o x. inl (q.granted o x); sought = q.sought }

module _ (old new : Table) (owner : ℕ) (n : Node) (mode : Mode) (a : AskedAt old new owner n mode) where
  other-granted : (u : ℕ) (x : Node) → (u == owner) ≡ false → granted_at new u x ≡ granted_at old u x
  other-granted u x d = elim (a.granted u x) [
    | inl e ↦ e
    | inr r ↦ absurd (false≢true (sym d ∙ (and_parts (u == owner) (same_node x n) r.0).0))
  ]

  pub asked-others : KeepsOthers owner old new
  asked-others u q d k =
      kept-alike nowhere (granted_at old u) (granted_at new u) (sought_at old u) (sought_at new u) q (λ x. other-granted u x d)
      (λ x. a.sought u x ∙ ap (λ (b : Bool). if b && same_node x n then mode else sought_at old u x) d) k

  -- what holds of the mode at the node and of the old ones holds of the new ones
  at-granted : (P : Mode → Type 0) (o : ℕ) (x : Node) → (o ≡ owner → x ≡ n → P mode) → P (granted_at old o x) → P (granted_at new o x)
  at-granted P o x f g = elim (a.granted o x) [
    | inl e ↦ subst P (sym e) g
    | inr r ↦
        let p = and_parts (o == owner) (same_node x n) r.0 in
        subst P (sym r.1) (f (eqb-true o owner p.0) (same_node-true x n p.1))
  ]

  at-sought : (P : Mode → Type 0) (o : ℕ) (x : Node) → (o ≡ owner → x ≡ n → P mode) → P (sought_at old o x) → P (sought_at new o x)
  at-sought P o x f g =
      subst P (sym (a.sought o x))
      (by_test P ((o == owner) && same_node x n) mode (sought_at old o x)
      (λ e. let p = and_parts (o == owner) (same_node x n) e in f (eqb-true o owner p.0) (same_node-true x n p.1)) (λ e. g))

  module _ (intents : HasIntents old) (ascends : at_most (granted_at old owner n) mode ≡ true) (above : (x : Node) → contains x n ≡ true → at_most (intent mode) (granted_at old owner x) ≡ true) where
    at-owner : (P : ℕ → Node → Type 0) (o : ℕ) (x : Node) → P owner n → o ≡ owner → x ≡ n → P o x
    at-owner P o x f e d = subst (λ (u : ℕ). P u x) (sym e) (subst (P owner) (sym d) f)

    rises : (o : ℕ) (x : Node) → at_most (granted_at old o x) (granted_at new o x) ≡ true
    rises o x =
        at-granted (λ (y : Mode). at_most (granted_at old o x) y ≡ true) o x
        (λ e d. at-owner (λ u z. at_most (granted_at old u z) mode ≡ true) o x ascends e d)
        (at_most-refl (granted_at old o x))

    intent-stands : (o : ℕ) (x c : Node) → contains x c ≡ true → o ≡ owner → c ≡ n → at_most (intent mode) (granted_at new o x) ≡ true
    intent-stands o x c h e d =
        at_most-trans (intent mode) (granted_at old o x) (granted_at new o x)
        (subst (λ (u : ℕ). at_most (intent mode) (granted_at old u x) ≡ true) (sym e) (above x (subst (λ (z : Node). contains x z ≡ true) d h)))
        (rises o x)

    pub asked-intents : HasIntents new
    asked-intents = record {
      ascends = λ o x. elim (a.granted o x) [
        | inl g ↦ subst (λ (y : Mode). at_most y (sought_at new o x) ≡ true) (sym g)
            (at-sought (λ (y : Mode). at_most (granted_at old o x) y ≡ true) o x
            (λ e d. at-owner (λ u z. at_most (granted_at old u z) mode ≡ true) o x ascends e d)
            (intents.ascends o x))
        | inr r ↦
            subst (λ (y : Mode). at_most y (sought_at new o x) ≡ true) (sym r.1)
            (subst (λ (y : Mode). at_most mode y ≡ true) (sym (a.sought o x ∙ ap (λ (b : Bool). if b then mode else sought_at old o x) r.0)) (at_most-refl mode))
      ];
      granted = λ o x c h.
          at-granted (λ (y : Mode). at_most (intent y) (granted_at new o x) ≡ true) o c
          (λ e d. intent-stands o x c h e d)
          (at_most-trans (intent (granted_at old o c)) (granted_at old o x) (granted_at new o x) (intents.granted o x c h) (rises o x));
      sought = λ o x c h.
          at-sought (λ (y : Mode). at_most (intent y) (granted_at new o x) ≡ true) o c
          (λ e d. intent-stands o x c h e d)
          (at_most-trans (intent (sought_at old o c)) (granted_at old o x) (granted_at new o x) (intents.sought o x c h) (rises o x));
    }

-- The want is asked at its node, for the least mode that joins the owner's lock and the want.
module _ (old new : Table) (owner : ℕ) (ws : List Need) (w : OpenWant) (mode : Mode) (is : mode ≡ least_above (granted_at old owner w.here) (mode_for w.need w.here))
    (k : IsKept old owner (wanting ws (unasked w))) (least : at_most (granted_at old owner w.here) (kept_at (granted_at old owner) (wanting ws (unasked w)) w.here) ≡ true) where
  pub want-ascends : at_most (granted_at old owner w.here) mode ≡ true
  want-ascends = subst (λ (y : Mode). at_most (granted_at old owner w.here) y ≡ true) (sym is) (join-left (granted_at old owner w.here) (mode_for w.need w.here))

  pub want-quiet : (x : Node) → sought_at old owner x ≡ granted_at old owner x
  want-quiet x = k.awake x (and-none (same_node x w.here))

  module _ (a : AskedAt old new owner w.here mode) (intents : HasIntents old) where
    pub want-intents : HasIntents new
    want-intents =
        asked-intents old new owner w.here mode a intents want-ascends
        (λ x c. subst (λ (y : Mode). at_most (intent y) (granted_at old owner x) ≡ true) (sym is)
        (intent-join (granted_at old owner w.here) (mode_for w.need w.here) (granted_at old owner x)
        (intents.granted owner x w.here c) (want-intent (granted_at old owner) (sought_at old owner) ws w k least x c)))

    own-sought : (x : Node) → same_node x w.here ≡ true → sought_at new owner x ≡ mode
    own-sought x s = a.sought owner x ∙ ap (λ (b : Bool). if b then mode else sought_at old owner x) (and_from (owner == owner) (same_node x w.here) (eq-eqb owner owner refl) s)

    pub want-kept : IsKept new owner (wanting ws (asked_at w w.here))
    want-kept =
        woken-kept (granted_at old owner) (granted_at new owner) (sought_at new owner) (wanting ws (asked_at w w.here))
        (λ x. elim (a.granted owner x) [
          | inl e ↦ inl e
          | inr r ↦ inr (r.1 ∙ sym (own-sought x (and_parts (owner == owner) (same_node x w.here) r.0).1))
        ])
        (λ x. elim (cases_Bool (same_node x w.here)) [
          | inl s ↦ subst (λ (y : Mode). at_most (granted_at old owner x) y ≡ true) (sym (own-sought x s)) (subst (λ (z : Node). at_most (granted_at old owner z) mode ≡ true) (sym (same_node-true x w.here s)) want-ascends)
          | inr d ↦ subst (λ (y : Mode). at_most (granted_at old owner x) y ≡ true) (sym (apart x d ∙ want-quiet x)) (at_most-refl (granted_at old owner x))
        ])
        (queued-kept (granted_at old owner) (sought_at old owner) ws w k least (sought_at new owner)
        (own-sought w.here (same_node-refl w.here) ∙ is) apart)
      where
        apart : (x : Node) → same_node x w.here ≡ false → sought_at new owner x ≡ sought_at old owner x
        apart x d = a.sought owner x ∙ ap (λ (b : Bool). if b then mode else sought_at old owner x) (miss (owner == owner) (same_node x w.here) d)
          where
            miss : (p q : Bool) → q ≡ false → (p && q) ≡ false
            miss true q d = d
            miss false q d = refl

  -- ---- each answer

  module _ (intents : HasIntents old) (wait : Bool) where
    pub want-answered : (answer : Enq) → AnswersAt old new owner w.here mode wait answer → TakesAnswer new owner ws w wait answer
    want-answered Granted r = (
      want-kept (raised-asked old new owner w.here mode r) intents,
      subst (λ (y : Mode). at_most (mode_for w.need w.here) y ≡ true)
          (sym (r.granted owner w.here ∙ ap (λ (b : Bool). if b then mode else granted_at old owner w.here) (and_from (owner == owner) (same_node w.here w.here) (eq-eqb owner owner refl) (same_node-refl w.here))))
          (subst (λ (y : Mode). at_most (mode_for w.need w.here) y ≡ true) (sym is) (join-right (granted_at old owner w.here) (mode_for w.need w.here))),
    )
    want-answered Asleep r = (want-kept (queued-asked old new owner w.here mode r.1) intents, r.0)
    want-answered (NotQueued b) r = (subst (λ (t : Table). IsKept t owner (wanting ws (unasked w))) (sym r.1) k, r.0)
    want-answered (Deadlock c) r = (subst (λ (t : Table). IsKept t owner (wanting ws (unasked w))) (sym r.1) k, r.0)

    pub answer-intents : (answer : Enq) → AnswersAt old new owner w.here mode wait answer → HasIntents new
    answer-intents Granted r = want-intents (raised-asked old new owner w.here mode r) intents
    answer-intents Asleep r = want-intents (queued-asked old new owner w.here mode r.1) intents
    answer-intents (NotQueued b) r = subst HasIntents (sym r.1) intents
    answer-intents (Deadlock c) r = subst HasIntents (sym r.1) intents

    pub answer-others : (answer : Enq) → AnswersAt old new owner w.here mode wait answer → KeepsOthers owner old new
    answer-others Granted r = asked-others old new owner w.here mode (raised-asked old new owner w.here mode r)
    answer-others Asleep r = asked-others old new owner w.here mode (queued-asked old new owner w.here mode r.1)
    answer-others (NotQueued b) r = λ u q d h. subst (λ (t : Table). IsKept t u q) (sym r.1) h
    answer-others (Deadlock c) r = λ u q d h. subst (λ (t : Table). IsKept t u q) (sym r.1) h

-- the mode that the code asks
pub asked-mode : (h g m n j : Mode) → h ≡ g → m ≡ n → j ≡ least_above h m → j ≡ least_above g n
asked-mode h g m n j eh em ej = ej ∙ (ap (λ (y : Mode). least_above y m) eh ∙ ap (λ (y : Mode). least_above g y) em)
