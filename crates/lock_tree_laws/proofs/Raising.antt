-- A lock taken one level lower: it is granted, and all that is true of the table stays.
use Rattle.std.proofs.Common.{◌≡◌, ℕ, Bool, true, false, refl, sym, ◌∙◌, ap, subst, inl, inr, [], ◌∷◌}
use Rattle.std.specs.Prelude.{◌&&◌, ◌==◌, not, if◌then◌else◌}
use Rattle.std.proofs.lemmas.Bool.{false≢true, and_parts, and_from, or_left, or_cases, cases_Bool, eqb-true, eq-eqb, and_right}
use Rattle.vms_queues.specs.declared.lock_mode.Mode.{Mode}
use Rattle.vms_queues.specs.Modes.{may_share, at_most, least_above, intent}
use Rattle.rdb_types.specs.declared.node.Node.{Node}
use Rattle.vms_locks.specs.Table.{Table}
use Rattle.lock_needs.specs.Nodes.{same_node, contains, is_on, step_towards}
use Rattle.lock_needs.specs.Needs.{covers_below}
use Rattle.lock_tree_laws.specs.LockTable.{granted_at, sought_at, AllShare, RaisedAt}
use Rattle.lock_tree_laws.specs.Inner.Lowering.{MayComeDown, HasTaken, earns}
use Rattle.lock_needs.specs.declared.need.Need.{Need}
use Rattle.lock_needs.proofs.ModeTables.{at_most-refl, at_most-trans, shares-join, join-left, join-right, intent-most, intent-twice, intent-join, lower-shares}
use Rattle.lock_needs.proofs.NodeLaws.{same_node-true, same_node-refl, contains-self, step-within, step-reaches, step-above}
use Rattle.lock_needs.proofs.Cover.{by_test}

-- The lock of the owner on the node covers a need of this mode below. So the mode that joins it to the owner's lock one level lower is free there.
module _ (t : Table) (owner : ℕ) (n k : Node) (keep m : Mode) (shares : AllShare t) (ready : MayComeDown t owner n keep) (within : contains n k ≡ true) (covers : covers_below (granted_at t owner n) m ≡ true) where
  pub taken-free : (u : ℕ) → (u == owner) ≡ false → may_share (least_above (granted_at t owner (step_towards n k)) m) (granted_at t u (step_towards n k)) ≡ true
  taken-free u d =
      let c : Node = step_towards n k in
      shares-join (granted_at t owner c) m (granted_at t u c)
      ∙ and_from (may_share (granted_at t owner c) (granted_at t u c)) (may_share m (granted_at t u c)) (shares owner u d c)
      (lower-shares (granted_at t owner n) m (granted_at t u n) (granted_at t u c) covers (shares owner u d n) (ready.intents.granted u n c (step-within n k within)))

  pub taken-adds_no_wait : (u : ℕ) → (u == owner) ≡ false → may_share (granted_at t owner (step_towards n k)) (sought_at t u (step_towards n k)) ≡ true → may_share (least_above (granted_at t owner (step_towards n k)) m) (sought_at t u (step_towards n k)) ≡ true
  taken-adds_no_wait u d s =
      let c : Node = step_towards n k in
      shares-join (granted_at t owner c) m (sought_at t u c)
      ∙ and_from (may_share (granted_at t owner c) (sought_at t u c)) (may_share m (sought_at t u c)) s
      (lower-shares (granted_at t owner n) m (granted_at t u n) (sought_at t u c) covers (shares owner u d n) (ready.intents.sought u n c (step-within n k within)))

  -- the mode's intent stands at each node above
  taken-intent : at_most (intent m) keep ≡ true → (a : Node) → contains a (step_towards n k) ≡ true → at_most (intent (least_above (granted_at t owner (step_towards n k)) m)) (granted_at t owner a) ≡ true
  taken-intent i a h =
      let c : Node = step_towards n k in
      let held : Mode = granted_at t owner n in
      let at_n : at_most (intent m) held ≡ true = at_most-trans (intent m) keep held i ready.weaker in
      intent-join (granted_at t owner c) m (granted_at t owner a) (ready.intents.granted owner a c h)
      (elim (step-above a n k within h) [
        | inl s ↦ subst (λ (x : Node). at_most (intent m) (granted_at t owner x) ≡ true) (sym (same_node-true a n s)) at_n
        | inr up ↦ at_most-trans (intent m) (intent held) (granted_at t owner a)
            (subst (λ (x : Mode). at_most x (intent held) ≡ true) (intent-twice m) (intent-most (intent m) held at_n))
            (ready.intents.granted owner a n up)
      ])

  module _ (new : Table) (raised : RaisedAt t new owner (step_towards n k) (least_above (granted_at t owner (step_towards n k)) m)) where
    hit : ℕ → Node → Bool
    hit o x = (o == owner) && same_node x (step_towards n k)

    -- what holds of the new mode and of the old one where it stays
    at_new : (P : Mode → Type 0) (o : ℕ) (x : Node) → (o ≡ owner → x ≡ step_towards n k → P (least_above (granted_at t owner (step_towards n k)) m)) → (((o == owner) && same_node x (step_towards n k)) ≡ false → P (granted_at t o x)) → P (granted_at new o x)
    at_new P o x f g =
        let c : Node = step_towards n k in
        subst P (sym (raised.granted o x))
        (by_test P ((o == owner) && same_node x c) (least_above (granted_at t owner c) m) (granted_at t o x)
        (λ e. let p = and_parts (o == owner) (same_node x c) e in f (eqb-true o owner p.0) (same_node-true x c p.1)) g)

    sought_new : (P : Mode → Type 0) (o : ℕ) (x : Node) → (o ≡ owner → x ≡ step_towards n k → P (least_above (granted_at t owner (step_towards n k)) m)) → (((o == owner) && same_node x (step_towards n k)) ≡ false → P (sought_at t o x)) → P (sought_at new o x)
    sought_new P o x f g =
        let c : Node = step_towards n k in
        subst P (sym (raised.sought o x))
        (by_test P ((o == owner) && same_node x c) (least_above (granted_at t owner c) m) (sought_at t o x)
        (λ e. let p = and_parts (o == owner) (same_node x c) e in f (eqb-true o owner p.0) (same_node-true x c p.1)) g)

    rises : (o : ℕ) (x : Node) → at_most (granted_at t o x) (granted_at new o x) ≡ true
    rises o x =
        at_new (λ (y : Mode). at_most (granted_at t o x) y ≡ true) o x
        (λ e f. subst (λ (p : ℕ). at_most (granted_at t p x) (least_above (granted_at t owner (step_towards n k)) m) ≡ true) (sym e)
        (subst (λ (z : Node). at_most (granted_at t owner z) (least_above (granted_at t owner (step_towards n k)) m) ≡ true) (sym f)
        (join-left (granted_at t owner (step_towards n k)) m)))
        (λ d. at_most-refl (granted_at t o x))

    other-granted : (o : ℕ) (x : Node) → (o == owner) ≡ false → granted_at new o x ≡ granted_at t o x
    other-granted o x d =
        raised.granted o x ∙ ap (λ (b : Bool). if b && same_node x (step_towards n k) then least_above (granted_at t owner (step_towards n k)) m else granted_at t o x) d

    other-sought : (o : ℕ) (x : Node) → (o == owner) ≡ false → sought_at new o x ≡ sought_at t o x
    other-sought o x d =
        raised.sought o x ∙ ap (λ (b : Bool). if b && same_node x (step_towards n k) then least_above (granted_at t owner (step_towards n k)) m else sought_at t o x) d

    elsewhere : (o : ℕ) (x : Node) → same_node x (step_towards n k) ≡ false → granted_at new o x ≡ granted_at t o x
    elsewhere o x d =
        raised.granted o x ∙ ap (λ (b : Bool). if b then least_above (granted_at t owner (step_towards n k)) m else granted_at t o x) (and_right (o == owner) (same_node x (step_towards n k)) d)

    raised-granted : at_most (intent m) keep ≡ true → (o : ℕ) (a x : Node) → contains a x ≡ true → at_most (intent (granted_at new o x)) (granted_at new o a) ≡ true
    raised-granted i o a x h =
        at_new (λ (y : Mode). at_most (intent y) (granted_at new o a) ≡ true) o x
        (λ e f.
        let c : Node = step_towards n k in
        let mode : Mode = least_above (granted_at t owner c) m in
        at_most-trans (intent mode) (granted_at t o a) (granted_at new o a)
        (subst (λ (p : ℕ). at_most (intent mode) (granted_at t p a) ≡ true) (sym e)
        (taken-intent i a (subst (λ (z : Node). contains a z ≡ true) f h))) (rises o a))
        (λ d. at_most-trans (intent (granted_at t o x)) (granted_at t o a) (granted_at new o a) (ready.intents.granted o a x h) (rises o a))

    raised-sought : at_most (intent m) keep ≡ true → (o : ℕ) (a x : Node) → contains a x ≡ true → at_most (intent (sought_at new o x)) (granted_at new o a) ≡ true
    raised-sought i o a x h =
        sought_new (λ (y : Mode). at_most (intent y) (granted_at new o a) ≡ true) o x
        (λ e f.
        let c : Node = step_towards n k in
        let mode : Mode = least_above (granted_at t owner c) m in
        at_most-trans (intent mode) (granted_at t o a) (granted_at new o a)
        (subst (λ (p : ℕ). at_most (intent mode) (granted_at t p a) ≡ true) (sym e)
        (taken-intent i a (subst (λ (z : Node). contains a z ≡ true) f h))) (rises o a))
        (λ d. at_most-trans (intent (sought_at t o x)) (granted_at t o a) (granted_at new o a) (ready.intents.sought o a x h) (rises o a))

    raised-ascends : (o : ℕ) (x : Node) → at_most (granted_at new o x) (sought_at new o x) ≡ true
    raised-ascends o x =
        let c : Node = step_towards n k in
        let mode : Mode = least_above (granted_at t owner c) m in
        subst (λ (y : Mode). at_most y (sought_at new o x) ≡ true) (sym (raised.granted o x))
        (subst (λ (y : Mode). at_most (if (o == owner) && same_node x c then mode else granted_at t o x) y ≡ true) (sym (raised.sought o x))
        (elim ((o == owner) && same_node x c) as (λ b. at_most (if b then mode else granted_at t o x) (if b then mode else sought_at t o x) ≡ true) [
          | true ↦ at_most-refl mode
          | false ↦ ready.intents.ascends o x
        ]))

    at_node : granted_at new owner n ≡ granted_at t owner n
    at_node = elsewhere owner n (contains-self n (step_towards n k) (step-within n k within))

    sought-elsewhere : (x : Node) → same_node x (step_towards n k) ≡ false → sought_at new owner x ≡ sought_at t owner x
    sought-elsewhere x d =
        raised.sought owner x ∙ ap (λ (b : Bool). if b then least_above (granted_at t owner (step_towards n k)) m else sought_at t owner x) (and_right (owner == owner) (same_node x (step_towards n k)) d)

    sought-node : sought_at new owner n ≡ sought_at t owner n
    sought-node = sought-elsewhere n (contains-self n (step_towards n k) (step-within n k within))

    -- a node that isn't below is another one
    apart-below : (x : Node) → contains n x ≡ false → same_node x (step_towards n k) ≡ false
    apart-below x out =
        elim (cases_Bool (same_node x (step_towards n k))) [
          | inr d ↦ d
          | inl s ↦ absurd (false≢true (sym out ∙ subst (λ (z : Node). contains n z ≡ true) (sym (same_node-true x (step_towards n k) s)) (step-within n k within)))
        ]

    pub raised-ready : at_most (intent m) keep ≡ true → MayComeDown new owner n keep
    raised-ready i = record {
      intents = record { ascends = raised-ascends; granted = raised-granted i; sought = raised-sought i };
      earned = λ x h. at_new (λ (y : Mode). at_most (intent y) keep ≡ true) owner x
          (λ e f. intent-join (granted_at t owner (step_towards n k)) m keep (ready.earned (step_towards n k) (step-within n k within)) i)
          (λ d. ready.earned x h);
      awake = λ x h. raised.sought owner x
          ∙ (ap (λ (y : Mode). if (owner == owner) && same_node x (step_towards n k) then least_above (granted_at t owner (step_towards n k)) m else y) (ready.awake x h)
          ∙ sym (raised.granted owner x));
      awake_here = sought-node ∙ (ready.awake_here ∙ sym at_node);
      weaker = subst (λ (y : Mode). at_most keep y ≡ true) (sym at_node) ready.weaker;
    }

    on-taken : (w : Need) → w.node ≡ k → (x : Node) → same_node x (step_towards n k) ≡ true → is_on x w.node ≡ true
    on-taken w at_k x s =
        subst (λ (z : Node). is_on z w.node ≡ true) (sym (same_node-true x (step_towards n k) s))
        (subst (λ (z : Node). is_on (step_towards n k) z ≡ true) (sym at_k) (step-reaches n k within))

    both-taken : (x : Node) → same_node x (step_towards n k) ≡ true → sought_at new owner x ≡ granted_at new owner x
    both-taken x s =
        let hit : ((owner == owner) && same_node x (step_towards n k)) ≡ true = and_from (owner == owner) (same_node x (step_towards n k)) (eq-eqb owner owner refl) s in
        let mode : Mode = least_above (granted_at t owner (step_towards n k)) m in
        raised.sought owner x ∙ (ap (λ (b : Bool). if b then mode else sought_at t owner x) hit ∙ sym (raised.granted owner x ∙ ap (λ (b : Bool). if b then mode else granted_at t owner x) hit))

    pub raised-taken : (w : Need) → w.node ≡ k → w.mode ≡ m → HasTaken owner n (w ∷ []) t new
    raised-taken w at_k as_m = record {
      more = rises owner;
      elsewhere = λ x out. elsewhere owner x (apart-below x out);
      reason = λ x. elim (cases_Bool (same_node x (step_towards n k))) [
        | inr d ↦ inl (elsewhere owner x d)
        | inl s ↦ inr (or_left (is_on x w.node) false (on-taken w at_k x s))
      ];
      earned = λ x bound old owed.
          at_new (λ (y : Mode). at_most (intent y) bound ≡ true) owner x
          (λ e f. intent-join (granted_at t owner (step_towards n k)) m bound
          (subst (λ (z : Node). at_most (intent (granted_at t owner z)) bound ≡ true) f old)
          (subst (λ (y : Mode). at_most (intent y) bound ≡ true) as_m
          (elim (or_cases (not (is_on x w.node)) (at_most (intent w.mode) bound) (and_parts (earns x bound w) true owed).0) [
            | inr y ↦ y
            | inl z ↦ absurd (false≢true (ap not (sym (on-taken w at_k x (subst (λ (z : Node). same_node x z ≡ true) f (same_node-refl x)))) ∙ z))
          ])))
          (λ d. old);
      sought = λ x same. elim (cases_Bool (same_node x (step_towards n k))) [
        | inr d ↦ sought-elsewhere x d ∙ (same ∙ sym (elsewhere owner x d))
        | inl s ↦ both-taken x s
      ];
      sought_elsewhere = λ x out. sought-elsewhere x (apart-below x out);
      others = other-granted;
      sought_others = other-sought;
    }

    -- the lock taken there is at least the mode
    pub raised-covers : at_most m (granted_at new owner (step_towards n k)) ≡ true
    raised-covers =
        at_new (λ (y : Mode). at_most m y ≡ true) owner (step_towards n k)
        (λ e f. join-right (granted_at t owner (step_towards n k)) m)
        (λ d. absurd (false≢true (sym d ∙ and_from (owner == owner) (same_node (step_towards n k) (step_towards n k)) (eq-eqb owner owner refl) (same_node-refl (step_towards n k)))))
