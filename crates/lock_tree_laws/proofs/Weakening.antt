-- A lock that comes down: intents stand above all that is left, and each need stays covered.
use Rattle.std.proofs.Common.{◌≡◌, ℕ, true, false, sym, ◌∙◌, subst, inl, inr, List}
use Rattle.std.specs.Prelude.{◌==◌}
use Rattle.std.proofs.lemmas.Bool.{false≢true, cases_Bool, eqb-true, and_left, and_right}
use Rattle.vms_queues.specs.declared.lock_mode.Mode.{Mode}
use Rattle.vms_queues.specs.Modes.{at_most, intent}
use Rattle.rdb_types.specs.declared.node.Node.{Node}
use Rattle.lock_needs.specs.declared.need.Need.{Need}
use Rattle.vms_locks.specs.Table.{Table}
use Rattle.lock_needs.specs.Nodes.{same_node, contains}
use Rattle.lock_needs.specs.Needs.{all_covered, supposing}
use Rattle.lock_tree_laws.specs.LockTable.{granted_at, sought_at, HasIntents, LoweredAt}
use Rattle.lock_tree_laws.specs.Inner.Lowering.{MayComeDown}
use Rattle.lock_needs.proofs.ModeTables.{at_most-refl, at_most-trans, intent-most}
use Rattle.lock_needs.proofs.NodeLaws.{same_node-true, contains-self}
use Rattle.lock_needs.proofs.Cover.{by_test, all_covered-more}

module _ (t new : Table) (owner : ℕ) (n : Node) (keep : Mode) (ready : MayComeDown t owner n keep) (low : LoweredAt t new owner n keep) where
  apart-from : (a x : Node) → contains a x ≡ true → same_node x n ≡ true → same_node a n ≡ false
  apart-from a x h s = subst (λ (z : Node). same_node a z ≡ false) (same_node-true x n s) (contains-self a x h)

  -- the owner's mode at each node
  pub own-mode : (x : Node) → granted_at new owner x ≡ supposing n keep (granted_at t owner) x
  own-mode x =
      by_test (λ (y : Mode). granted_at new owner x ≡ y) (same_node x n) keep (granted_at t owner x)
      (λ s. subst (λ (z : Node). granted_at new owner z ≡ keep) (sym (same_node-true x n s)) low.own)
      (λ d. low.elsewhere owner x d)

  pub lowered-covered : (ws : List Need) → all_covered (supposing n keep (granted_at t owner)) ws ≡ true → all_covered (granted_at new owner) ws ≡ true
  lowered-covered ws h =
      all_covered-more (supposing n keep (granted_at t owner)) (granted_at new owner)
      (λ x. subst (λ (y : Mode). at_most (supposing n keep (granted_at t owner) x) y ≡ true) (sym (own-mode x)) (at_most-refl (supposing n keep (granted_at t owner) x)))
      ws h

  -- another's mode does not fall
  pub others-more : (o : ℕ) (x : Node) → (o == owner) ≡ false → at_most (granted_at t o x) (granted_at new o x) ≡ true
  others-more o x d =
      elim (cases_Bool (same_node x n)) [
        | inr e ↦ subst (λ (y : Mode). at_most (granted_at t o x) y ≡ true) (sym (low.elsewhere o x e)) (at_most-refl (granted_at t o x))
        | inl s ↦ subst (λ (z : Node). at_most (granted_at t o z) (granted_at new o z) ≡ true) (sym (same_node-true x n s))
            (elim (low.others o d) [
              | inl e ↦ subst (λ (y : Mode). at_most (granted_at t o n) y ≡ true) (sym e) (at_most-refl (granted_at t o n))
              | inr e ↦ subst (λ (y : Mode). at_most (granted_at t o n) y ≡ true) (sym e) (ready.intents.ascends o n)
            ])
      ]

  -- another's mode is what it held or what it asked
  pub others-either : (P : Mode → Type 0) (o : ℕ) (x : Node) → (o == owner) ≡ false → P (granted_at t o x) → P (sought_at t o x) → P (granted_at new o x)
  others-either P o x d f g =
      elim (cases_Bool (same_node x n)) [
        | inr e ↦ subst P (sym (low.elsewhere o x e)) f
        | inl s ↦ elim (low.others o d) [
          | inl e ↦ subst P (sym (subst (λ (z : Node). granted_at new o z ≡ granted_at t o z) (sym (same_node-true x n s)) e)) f
          | inr e ↦ subst P (sym (subst (λ (z : Node). granted_at new o z ≡ sought_at t o z) (sym (same_node-true x n s)) e)) g
        ]
      ]

  -- an intent of the owner that stood above a node stands there still, if what it kept allows it
  own-above : (i : Mode) (a : Node) → at_most i (granted_at t owner a) ≡ true → (same_node a n ≡ true → at_most i keep ≡ true) → at_most i (granted_at new owner a) ≡ true
  own-above i a h f =
      subst (λ (y : Mode). at_most i y ≡ true) (sym (own-mode a))
      (by_test (λ (y : Mode). at_most i y ≡ true) (same_node a n) keep (granted_at t owner a) f (λ d. h))

  keep-below : (a : Node) → contains a n ≡ true → at_most (intent keep) (granted_at t owner a) ≡ true
  keep-below a h =
      at_most-trans (intent keep) (intent (granted_at t owner n)) (granted_at t owner a) (intent-most keep (granted_at t owner n) ready.weaker) (ready.intents.granted owner a n h)

  own-granted : (a x : Node) → contains a x ≡ true → at_most (intent (granted_at new owner x)) (granted_at new owner a) ≡ true
  own-granted a x h =
      subst (λ (y : Mode). at_most (intent y) (granted_at new owner a) ≡ true) (sym (own-mode x))
      (by_test (λ (y : Mode). at_most (intent y) (granted_at new owner a) ≡ true) (same_node x n) keep (granted_at t owner x)
      (λ s. own-above (intent keep) a (keep-below a (subst (λ (z : Node). contains a z ≡ true) (same_node-true x n s) h))
      (λ e. absurd (false≢true (sym (apart-from a x h s) ∙ e))))
      (λ d. own-above (intent (granted_at t owner x)) a (ready.intents.granted owner a x h)
      (λ e. ready.earned x (subst (λ (z : Node). contains z x ≡ true) (same_node-true a n e) h))))

  sought-either : (P : Mode → Type 0) (x : Node) → (same_node x n ≡ true → P keep) → P (sought_at t owner x) → P (sought_at new owner x)
  sought-either P x f g =
      elim (cases_Bool (same_node x n)) [
        | inr d ↦ subst P (sym (low.sought_others owner x (and_right (owner == owner) (same_node x n) d))) g
        | inl s ↦ subst P (sym (subst (λ (z : Node). sought_at new owner z ≡ keep) (sym (same_node-true x n s)) low.sought_own)) (f s)
      ]

  own-sought : (a x : Node) → contains a x ≡ true → at_most (intent (sought_at new owner x)) (granted_at new owner a) ≡ true
  own-sought a x h =
      sought-either (λ (y : Mode). at_most (intent y) (granted_at new owner a) ≡ true) x
      (λ s. own-above (intent keep) a (keep-below a (subst (λ (z : Node). contains a z ≡ true) (same_node-true x n s) h))
      (λ e. absurd (false≢true (sym (apart-from a x h s) ∙ e))))
      (own-above (intent (sought_at t owner x)) a (ready.intents.sought owner a x h)
      (λ e.
      let inside : contains n x ≡ true = subst (λ (z : Node). contains z x ≡ true) (same_node-true a n e) h in
      subst (λ (y : Mode). at_most (intent y) keep ≡ true) (sym (ready.awake x inside)) (ready.earned x inside)))

  own-ascends : (x : Node) → at_most (granted_at new owner x) (sought_at new owner x) ≡ true
  own-ascends x =
      elim (cases_Bool (same_node x n)) [
        | inr d ↦ subst (λ (y : Mode). at_most y (sought_at new owner x) ≡ true) (sym (low.elsewhere owner x d))
            (subst (λ (y : Mode). at_most (granted_at t owner x) y ≡ true) (sym (low.sought_others owner x (and_right (owner == owner) (same_node x n) d))) (ready.intents.ascends owner x))
        | inl s ↦ subst (λ (z : Node). at_most (granted_at new owner z) (sought_at new owner z) ≡ true) (sym (same_node-true x n s))
            (subst (λ (y : Mode). at_most y (sought_at new owner n) ≡ true) (sym low.own)
            (subst (λ (y : Mode). at_most keep y ≡ true) (sym low.sought_own) (at_most-refl keep)))
      ]

  pub others-sought : (o : ℕ) (x : Node) → (o == owner) ≡ false → sought_at new o x ≡ sought_at t o x
  others-sought o x d = low.sought_others o x (and_left (o == owner) (same_node x n) d)

  others-ascends : (o : ℕ) (x : Node) → (o == owner) ≡ false → at_most (granted_at new o x) (sought_at new o x) ≡ true
  others-ascends o x d =
      subst (λ (y : Mode). at_most (granted_at new o x) y ≡ true) (sym (others-sought o x d))
      (others-either (λ (y : Mode). at_most y (sought_at t o x) ≡ true) o x d (ready.intents.ascends o x) (at_most-refl (sought_at t o x)))

  -- what holds of the owner and of each other holds of all
  for_all : (P : ℕ → Type 0) → P owner → ((o : ℕ) → (o == owner) ≡ false → P o) → (o : ℕ) → P o
  for_all P f g o = elim (cases_Bool (o == owner)) [ inl s ↦ subst P (sym (eqb-true o owner s)) f | inr d ↦ g o d ]

  pub lowered-intents : HasIntents new
  lowered-intents = record {
    ascends = for_all (λ (o : ℕ). (x : Node) → at_most (granted_at new o x) (sought_at new o x) ≡ true) own-ascends (λ o d x. others-ascends o x d);
    granted = for_all (λ (o : ℕ). (a x : Node) → contains a x ≡ true → at_most (intent (granted_at new o x)) (granted_at new o a) ≡ true) own-granted
        (λ o d a x h. at_most-trans (intent (granted_at new o x)) (granted_at t o a) (granted_at new o a)
        (others-either (λ (y : Mode). at_most (intent y) (granted_at t o a) ≡ true) o x d (ready.intents.granted o a x h) (ready.intents.sought o a x h))
        (others-more o a d));
    sought = for_all (λ (o : ℕ). (a x : Node) → contains a x ≡ true → at_most (intent (sought_at new o x)) (granted_at new o a) ≡ true) own-sought
        (λ o d a x h. subst (λ (y : Mode). at_most (intent y) (granted_at new o a) ≡ true) (sym (others-sought o x d))
        (at_most-trans (intent (sought_at t o x)) (granted_at t o a) (granted_at new o a) (ready.intents.sought o a x h) (others-more o a d)));
  }
