-- A want is got as soon as a lock covers it, wherever it has come to.
use Rattle.std.proofs.Common.{◌≡◌, ℕ, ◌++◌, ◌∷◌, [], Bool, true, false, refl, sym, ◌∙◌, ap, subst, ◌⊎◌, inl, inr, List}
use Rattle.std.specs.Prelude.{◌&&◌, ◌==◌, if◌then◌else◌, Option, Some, None}
use Rattle.std.proofs.lemmas.Bool.{false≢true, and_parts, and_from, or_right, or_cases, cases_Bool, eq-eqb}
use Rattle.rdb_types.specs.declared.node.Node.{Node}
use Rattle.vms_queues.specs.declared.lock_mode.Mode.{Mode}
use Rattle.vms_queues.specs.declared.lock_mode.Mode.TheVariants.{NL}
use Rattle.vms_queues.specs.Modes.{at_most, least_above, intent}
use Rattle.vms_locks.specs.Table.{Table}
use Rattle.vms_locks.specs.declared.answer.Enq.{Enq}
use Rattle.vms_locks.specs.declared.answer.Enq.TheVariants.{Granted, Asleep, NotQueued, Deadlock}
use Rattle.lock_needs.specs.declared.need.Need.{Need}
use Rattle.lock_needs.specs.declared.party.OpenWant.{OpenWant}
use Rattle.lock_needs.specs.Nodes.{same_node, contains, is_on}
use Rattle.lock_needs.specs.Needs.{Holding, is_covered, is_plain}
use Rattle.lock_needs.specs.Wants.{mode_for, has_granted, opened_at, intents_on, earned_at}
use Rattle.lock_needs.proofs.ModeTables.{at_most-refl, at_most-trans, at_most-join, join-left, join-right, intent-join, intent-twice, intent-own}
use Rattle.lock_needs.proofs.NodeLaws.{same_node-true, same_node-refl}
use Rattle.lock_needs.proofs.Cover.{all_covered-more, covered-by}
use Rattle.lock_needs.proofs.Enough.{on-within}
use Rattle.lock_needs.proofs.Joins.{nothing}
use Rattle.lock_tree_laws.specs.LockTable.{granted_at, sought_at, HasIntents, RaisedAt}
use Rattle.lock_tree_laws.specs.Parties.{IsKeptBut, IsKept, KeepsOthers, HasReason, nowhere, wanting, resting, unasked}
use Rattle.vms_locks.specs.Answers.{Answers}
use Rattle.lock_tree_laws.specs.Inner.Answering.{was_granted}
use Rattle.lock_tree_laws.specs.Asking.{request_at, AnswersAt}
use Rattle.lock_tree_laws.proofs.Wanting.{list_all-push, list_any-push, list_any-pushed, intents-push, intents-pushed}
use Rattle.lock_tree_laws.proofs.WantAsked.{asked-intents, asked-others, raised-asked}
use Rattle.lock_tree_laws.proofs.Leaving.{and-none, opened-unasked}

-- The owner's locks grow on the way to the need of its want, by no more than the need, and one of them covers it.
module _ (held more sought seeks : Holding) (ws : List Need) (w : OpenWant) (k : IsKeptBut nowhere held sought (wanting ws w))
    (up : (x : Node) → at_most (held x) (more x) ≡ true)
    (either : (x : Node) → (more x ≡ held x) ⊎ ((is_on x w.need.node ≡ true) × (more x ≡ least_above (held x) w.need.mode)))
    (covered : is_covered more w.need ≡ true) (plain : is_plain w.need ≡ true) (quiet : (x : Node) → seeks x ≡ more x) where
  on-need : (x : Node) → has_granted held w x ≡ true → is_on x w.need.node ≡ true
  on-need x h = elim (or_cases (contains x w.here) (same_node x w.here && (w.is_asked && at_most (mode_for w.need x) (held x))) h) [
    | inl c ↦ or_right (same_node x w.need.node) (contains x w.need.node) (on-within x w.here w.need.node c k.way)
    | inr s ↦ subst (λ (z : Node). is_on z w.need.node ≡ true) (sym (same_node-true x w.here (and_parts (same_node x w.here) (w.is_asked && at_most (mode_for w.need x) (held x)) s).0)) k.way
  ]

  opened-on : (x : Node) → at_most (opened_at held (Some w) x) NL ≡ false → is_on x w.need.node ≡ true
  opened-on x f = elim (cases_Bool (has_granted held w x)) [
    | inl y ↦ on-need x y
    | inr z ↦ absurd (false≢true (sym f ∙ ap (λ (b : Bool). at_most (if b then mode_for w.need x else NL) NL) z))
  ]

  opened-owed : (x : Node) → at_most (intent (opened_at held (Some w) x)) (intents_on (ws ++ w.need ∷ []) x) ≡ true
  opened-owed x = elim (cases_Bool (has_granted held w x)) [
    | inr z ↦ subst (λ (b : Bool). at_most (intent (if b then mode_for w.need x else NL)) (intents_on (ws ++ w.need ∷ []) x) ≡ true) (sym z) (nothing (intents_on (ws ++ w.need ∷ []) x))
    | inl y ↦ subst (λ (b : Bool). at_most (intent (if b then mode_for w.need x else NL)) (intents_on (ws ++ w.need ∷ []) x) ≡ true) (sym y)
        (subst (λ (m : Mode). at_most m (intents_on (ws ++ w.need ∷ []) x) ≡ true) (sym (mode-intent (same_node x w.need.node))) (intents-pushed ws w.need x (on-need x y)))
  ]
    where
      mode-intent : (b : Bool) → intent (if b then w.need.mode else intent w.need.mode) ≡ intent w.need.mode
      mode-intent true = refl
      mode-intent false = intent-twice w.need.mode

  held-owed : (x : Node) → at_most (intent (held x)) (intents_on (ws ++ w.need ∷ []) x) ≡ true
  held-owed x =
      at_most-trans (intent (held x)) (earned_at held (wanting ws w) x) (intents_on (ws ++ w.need ∷ []) x) (k.earned x refl)
      (at_most-join (intent (opened_at held (Some w) x)) (intents_on ws x) (intents_on (ws ++ w.need ∷ []) x)
      ∙ and_from (at_most (intent (opened_at held (Some w) x)) (intents_on (ws ++ w.need ∷ []) x)) (at_most (intents_on ws x) (intents_on (ws ++ w.need ∷ []) x)) (opened-owed x) (intents-push ws w.need x))

  more-owed : (x : Node) → at_most (intent (more x)) (intents_on (ws ++ w.need ∷ []) x) ≡ true
  more-owed x = elim (either x) [
    | inl e ↦ subst (λ (y : Mode). at_most (intent y) (intents_on (ws ++ w.need ∷ []) x) ≡ true) (sym e) (held-owed x)
    | inr r ↦ subst (λ (y : Mode). at_most (intent y) (intents_on (ws ++ w.need ∷ []) x) ≡ true) (sym r.1)
        (intent-join (held x) w.need.mode (intents_on (ws ++ w.need ∷ []) x) (held-owed x) (intents-pushed ws w.need x r.0))
  ]

  more-reason : (x : Node) → HasReason more (resting (ws ++ w.need ∷ [])) x (more x)
  more-reason x = elim (either x) [
    | inr r ↦ inr (inr (list_any-pushed (λ v. is_on x v.node) ws w.need r.0))
    | inl e ↦ elim (k.no_stray x refl) [
      | inl z ↦ inl (e ∙ z)
      | inr r ↦ elim r [
        | inl f ↦ inr (inr (list_any-pushed (λ v. is_on x v.node) ws w.need (opened-on x f)))
        | inr y ↦ inr (inr (list_any-push (λ v. is_on x v.node) ws w.need y))
      ]
    ]
  ]

  pub got-grown : IsKeptBut nowhere more seeks (resting (ws ++ w.need ∷ []))
  got-grown = record {
    covered = list_all-push (is_covered more) ws w.need (all_covered-more held more up ws k.covered) covered;
    plain = list_all-push is_plain ws w.need k.plain plain;
    way = tt;
    granted = λ x. nothing (more x);
    awake = λ x s. quiet x;
    asleep = λ v e. absurd (false≢true (ap (λ (o : Option OpenWant). elim o [ None ↦ false | Some u ↦ true ]) e));
    exact = λ x v e. absurd (false≢true (ap (λ (o : Option OpenWant). elim o [ None ↦ false | Some u ↦ true ]) e));
    earned = λ x b. at_most-trans (intent (more x)) (intents_on (ws ++ w.need ∷ []) x) (least_above NL (intents_on (ws ++ w.need ∷ []) x)) (more-owed x) (join-right NL (intents_on (ws ++ w.need ∷ []) x));
    no_stray = λ x b. more-reason x;
  }

-- a want that a lock covers is got as it stands
pub got-open : (held sought : Holding) (ws : List Need) (w : OpenWant) → IsKeptBut nowhere held sought (wanting ws w) → is_covered held w.need ≡ true → is_plain w.need ≡ true
    → ((x : Node) → sought x ≡ held x) → IsKeptBut nowhere held sought (resting (ws ++ w.need ∷ []))
got-open held sought ws w k covered plain quiet = got-grown held held sought sought ws w k (λ x. at_most-refl (held x)) (λ x. inl refl) covered plain quiet

-- ---- the whole need is asked where its want has come to

module _ (old new : Table) (owner : ℕ) (ws : List Need) (w : OpenWant) (mode : Mode) (is : mode ≡ least_above (granted_at old owner w.here) w.need.mode)
    (k : IsKept old owner (wanting ws (unasked w))) where
  pub whole-ascends : at_most (granted_at old owner w.here) mode ≡ true
  whole-ascends = subst (λ (y : Mode). at_most (granted_at old owner w.here) y ≡ true) (sym is) (join-left (granted_at old owner w.here) w.need.mode)

  pub whole-quiet : (x : Node) → sought_at old owner x ≡ granted_at old owner x
  whole-quiet x = k.awake x (and-none (same_node x w.here))

  module _ (r : RaisedAt old new owner w.here mode) where
    here-granted : (x : Node) → same_node x w.here ≡ true → granted_at new owner x ≡ mode
    here-granted x s = r.granted owner x ∙ ap (λ (b : Bool). if b then mode else granted_at old owner x) (and_from (owner == owner) (same_node x w.here) (eq-eqb owner owner refl) s)

    apart-granted : (x : Node) → same_node x w.here ≡ false → granted_at new owner x ≡ granted_at old owner x
    apart-granted x d = r.granted owner x ∙ ap (λ (b : Bool). if b then mode else granted_at old owner x) (miss (owner == owner) (same_node x w.here) d)
      where
        miss : (p q : Bool) → q ≡ false → (p && q) ≡ false
        miss true q d = d
        miss false q d = refl

    whole-quiet_after : (x : Node) → sought_at new owner x ≡ granted_at new owner x
    whole-quiet_after x =
        r.sought owner x
        ∙ (ap (λ (y : Mode). if (owner == owner) && same_node x w.here then mode else y) (whole-quiet x) ∙ sym (r.granted owner x))

    pub whole-got : is_plain w.need ≡ true → IsKept new owner (resting (ws ++ w.need ∷ []))
    whole-got plain =
        got-grown (granted_at old owner) (granted_at new owner) (sought_at old owner) (sought_at new owner) ws (unasked w) k
        (λ x. elim (cases_Bool (same_node x w.here)) [
          | inl s ↦ subst (λ (y : Mode). at_most (granted_at old owner x) y ≡ true) (sym (here-granted x s)) (subst (λ (z : Node). at_most (granted_at old owner z) mode ≡ true) (sym (same_node-true x w.here s)) whole-ascends)
          | inr d ↦ subst (λ (y : Mode). at_most (granted_at old owner x) y ≡ true) (sym (apart-granted x d)) (at_most-refl (granted_at old owner x))
        ])
        (λ x. elim (cases_Bool (same_node x w.here)) [
          | inl s ↦ inr (
            subst (λ (z : Node). is_on z w.need.node ≡ true) (sym (same_node-true x w.here s)) k.way,
            here-granted x s ∙ (is ∙ ap (λ (z : Node). least_above (granted_at old owner z) w.need.mode) (sym (same_node-true x w.here s))),
          )
          | inr d ↦ inl (apart-granted x d)
        ])
        (covered-by (granted_at new owner) w.need w.here plain k.way
        (subst (λ (y : Mode). at_most w.need.mode y ≡ true) (sym (here-granted w.here (same_node-refl w.here) ∙ is)) (join-right (granted_at old owner w.here) w.need.mode)))
        plain whole-quiet_after

  pub whole-raised : (answer : Enq) → AnswersAt old new owner w.here mode false answer → was_granted answer ≡ true → RaisedAt old new owner w.here (least_above (granted_at old owner w.here) w.need.mode)
  whole-raised Granted r g = subst (λ (m : Mode). RaisedAt old new owner w.here m) is r
  whole-raised Asleep r g = absurd (false≢true g)
  whole-raised (NotQueued b) r g = absurd (false≢true g)
  whole-raised (Deadlock c) r g = absurd (false≢true g)

  -- intents of the need stand above the node
  whole-intent : (a : Node) → contains a w.here ≡ true → at_most (intent w.need.mode) (granted_at old owner a) ≡ true
  whole-intent a c =
      let m : Mode = mode_for w.need a in
      at_most-trans (intent w.need.mode) m (granted_at old owner a) (less (same_node a w.need.node))
      (subst (λ (y : Mode). at_most y (granted_at old owner a) ≡ true) (opened-unasked (granted_at old owner) w a ∙ ap (λ (b : Bool). if b then m else NL) c) (k.granted a))
    where
      less : (b : Bool) → at_most (intent w.need.mode) (if b then w.need.mode else intent w.need.mode) ≡ true
      less true = intent-own w.need.mode
      less false = at_most-refl (intent w.need.mode)

  module _ (intents : HasIntents old) where
    whole-above : (x : Node) → contains x w.here ≡ true → at_most (intent mode) (granted_at old owner x) ≡ true
    whole-above x c =
        subst (λ (y : Mode). at_most (intent y) (granted_at old owner x) ≡ true) (sym is)
        (intent-join (granted_at old owner w.here) w.need.mode (granted_at old owner x) (intents.granted owner x w.here c) (whole-intent x c))

    -- where it isn't granted at once, nothing changes: it doesn't wait
    pub whole-left : (answer : Enq) → AnswersAt old new owner w.here mode false answer → (RaisedAt old new owner w.here mode) ⊎ (new ≡ old)
    whole-left Granted r = inl r
    whole-left Asleep r = absurd (false≢true r.0)
    whole-left (NotQueued b) r = inr r.1
    whole-left (Deadlock c) r = inr r.1

    pub whole-intents : (answer : Enq) → AnswersAt old new owner w.here mode false answer → HasIntents new
    whole-intents answer r = elim (whole-left answer r) [
      | inl g ↦ asked-intents old new owner w.here mode (raised-asked old new owner w.here mode g) intents whole-ascends whole-above
      | inr e ↦ subst HasIntents (sym e) intents
    ]

    pub whole-others : (answer : Enq) → AnswersAt old new owner w.here mode false answer → KeepsOthers owner old new
    whole-others answer r = elim (whole-left answer r) [
      | inl g ↦ asked-others old new owner w.here mode (raised-asked old new owner w.here mode g)
      | inr e ↦ λ u q d h. subst (λ (t : Table). IsKept t u q) (sym e) h
    ]

    pub whole-answered : is_plain w.need ≡ true → (answer : Enq) → AnswersAt old new owner w.here mode false answer → was_granted answer ≡ true → IsKept new owner (resting (ws ++ w.need ∷ []))
    whole-answered plain Granted r g = whole-got r plain
    whole-answered plain Asleep r g = absurd (false≢true g)
    whole-answered plain (NotQueued b) r g = absurd (false≢true g)
    whole-answered plain (Deadlock c) r g = absurd (false≢true g)

    pub whole-refused : (answer : Enq) → AnswersAt old new owner w.here mode false answer → was_granted answer ≡ false → new ≡ old
    whole-refused Granted r g = absurd (false≢true (sym g))
    whole-refused Asleep r g = absurd (false≢true r.0)
    whole-refused (NotQueued b) r g = r.1
    whole-refused (Deadlock c) r g = r.1

-- what was granted, for the mode that joins the lock and the need
pub whole-exact : (old new : Table) (owner : ℕ) (w : OpenWant) (mode : Mode) → mode ≡ least_above (granted_at old owner w.here) w.need.mode → (answer : Enq) → Answers old new owner w.here false (request_at old owner w.here mode) answer → was_granted answer ≡ true
    → Answers old new owner w.here false (request_at old owner w.here (least_above (granted_at old owner w.here) w.need.mode)) Granted
whole-exact old new owner w mode is Granted h g = subst (λ (m : Mode). Answers old new owner w.here false (request_at old owner w.here m) Granted) is h
whole-exact old new owner w mode is Asleep h g = absurd (false≢true g)
whole-exact old new owner w mode is (NotQueued b) h g = absurd (false≢true g)
whole-exact old new owner w mode is (Deadlock c) h g = absurd (false≢true g)
