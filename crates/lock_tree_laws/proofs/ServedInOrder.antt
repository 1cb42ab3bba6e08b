-- An owner whose lock is served a notice, or given back as its want ends, stands in the way by its needs.
use Rattle.std.proofs.Common.{◌≡◌, ℕ, Bool, true, false, refl, sym, ◌∙◌, ap, subst, inl, inr, List}
use Rattle.std.specs.Prelude.{◌&&◌, ◌==◌, not, if◌then◌else◌, Option, Some, None}
use Rattle.std.proofs.lemmas.Bool.{false≢true, cases_Bool, and_parts, and_from, or_cases, not_from_false}
use Rattle.rdb_types.specs.declared.node.Node.{Node}
use Rattle.vms_queues.specs.declared.lock_mode.Mode.{Mode}
use Rattle.vms_queues.specs.declared.lock_mode.Mode.TheVariants.{NL, PR, EX}
use Rattle.vms_queues.specs.Modes.{may_share, at_most, least_above, intent}
use Rattle.vms_queues.proofs.ModeLaws.{all_modes-at, implies, from_implies, may_share-comm}
use Rattle.vms_locks.specs.Table.{Table, queues_at, IsLive}
use Rattle.lock_needs.specs.declared.need.Need.{Need}
use Rattle.lock_needs.specs.declared.party.OpenWant.{OpenWant}
use Rattle.lock_needs.specs.Party.{Party}
use Rattle.lock_needs.specs.Nodes.{same_node, contains, above_of}
use Rattle.lock_needs.specs.Needs.{Holding}
use Rattle.lock_needs.specs.Keeping.{below, needed_on, needed_uncovered, after_want, is_excess}
use Rattle.lock_needs.specs.Wants.{mode_for, has_granted, opened_at, kept_at, intents_on}
use Rattle.lock_needs.proofs.ModeTables.{at_most-refl, at_most-trans, at_most-join, at_most-shares, join-left, join-right}
use Rattle.lock_needs.proofs.NodeLaws.{same_node-true}
use Rattle.lock_needs.proofs.Above.{top-alone}
use Rattle.lock_needs.proofs.Cover.{by_test}
use Rattle.lock_needs.proofs.Enough.{uncovered-most}
use Rattle.lock_needs.proofs.Growing.{join-more}
use Rattle.lock_needs.proofs.Joins.{nothing}
use Rattle.lock_tree_laws.specs.LockTable.{granted_at, sought_at, HasIntents}
use Rattle.lock_tree_laws.specs.Inner.Lowering.{BroughtDown}
use Rattle.lock_tree_laws.specs.Parties.{IsKept, was_asked, is_needed, wanting, resting, unasked, asked_at}
use Rattle.lock_tree_laws.specs.Order.{MakesWay, StandsByNeeds}
use Rattle.lock_tree_laws.proofs.HeldModes.{nothing-shares}
use Rattle.lock_tree_laws.proofs.Changes.{shares-live}
use Rattle.lock_tree_laws.proofs.Ordered.{flip}
use Rattle.lock_tree_laws.proofs.OwnLocks.{opened-same, asked-under}
use Rattle.lock_tree_laws.proofs.Brought.{excess-unasked}
use Rattle.lock_tree_laws.proofs.Leaving.{opened-unasked, opened-up, weaker-owed, above-granted}
use Rattle.lock_tree_laws.proofs.Exactness.{HasNoExclusiveAbove, below-allowed, needed-allowed, intents-kept}
use Rattle.lock_tree_laws.proofs.LeastInWay.{shut-more, beside-exclusive}
use Rattle.lock_tree_laws.proofs.WayMade.{way-none, way-own}

-- what is kept grows with what was opened
kept-opened : (held more : Holding) (ws : List Need) (o q : Option OpenWant) (x : Node) → at_most (opened_at held o x) (opened_at more q x) ≡ true → at_most (kept_at held (record { needs = ws; opened = o }) x) (kept_at more (record { needs = ws; opened = q }) x) ≡ true
kept-opened held more ws o q x h = join-more (opened_at held o x) (opened_at more q x) _ h

-- ---- a notice

-- the lock came down to what must be kept
pub stands-served : (old new : Table) (owner : ℕ) (n : Node) (keep : Mode) (p : Party) (needs : List Need) → IsKept old owner p → is_excess (granted_at old owner n) (kept_at (granted_at old owner) p n) ≡ true
    → MakesWay owner old new → BroughtDown owner n keep needs old new → StandsByNeeds old owner p → StandsByNeeds new owner p
stands-served old new owner n keep p needs k x way b =
    way-own owner old new way p p
    (λ y. subst (λ (m : Mode). at_most (kept_at (granted_at old owner) p y) (least_above m (least_above (below p.needs y) (needed_on p.needs y))) ≡ true)
    (sym (opened-same (granted_at old owner) (granted_at new owner) p.opened same y)) (at_most-refl (kept_at (granted_at old owner) p y)))
  where
    same : (w : OpenWant) (y : Node) → p.opened ≡ Some w → was_asked w y ≡ true → granted_at new owner y ≡ granted_at old owner y
    same w y e asked =
        let off : was_asked w n ≡ false = excess-unasked (granted_at old owner) (sought_at old owner) p n k x w e in
        elim (cases_Bool (same_node y n)) [
          | inl s ↦ absurd (false≢true (sym off ∙ subst (λ (z : Node). was_asked w z ≡ true) (same_node-true y n s) asked))
          | inr d ↦ b.lowered.elsewhere owner y d
              ∙ b.taken.elsewhere y
              (elim (cases_Bool (contains n y)) [
                | inr f ↦ f
                | inl c ↦ absurd (false≢true (sym (asked-under w n y off c) ∙ asked))
              ])
        ]

-- ---- a request that is cancelled

pub stands-cancelled : (old new : Table) (owner : ℕ) (ws : List Need) (w : OpenWant) → MakesWay owner old new → at_most (mode_for w.need w.here) (granted_at old owner w.here) ≡ false → StandsByNeeds old owner (wanting ws w) → StandsByNeeds new owner (wanting ws (unasked w))
stands-cancelled old new owner ws w way asleep =
    way-own owner old new way (wanting ws w) (wanting ws (unasked w))
    (λ x. kept-opened (granted_at old owner) (granted_at new owner) ws (Some w) (Some (unasked w)) x
    (subst (λ (y : Mode). at_most (opened_at (granted_at old owner) (Some w) x) y ≡ true) (sym (opened-unasked (granted_at new owner) w x))
    (by_test (λ (y : Mode). at_most y (if contains x w.here then mode_for w.need x else NL) ≡ true) (has_granted (granted_at old owner) w x) (mode_for w.need x) NL
    (λ g. elim (or_cases (contains x w.here) (same_node x w.here && (w.is_asked && at_most (mode_for w.need x) (granted_at old owner x))) g) [
      | inl c ↦ subst (λ (b : Bool). at_most (mode_for w.need x) (if b then mode_for w.need x else NL) ≡ true) (sym c) (at_most-refl (mode_for w.need x))
      | inr s ↦
          let p = and_parts (same_node x w.here) (w.is_asked && at_most (mode_for w.need x) (granted_at old owner x)) s in
          absurd (false≢true (sym asleep ∙ subst (λ (z : Node). at_most (mode_for w.need z) (granted_at old owner z) ≡ true) (same_node-true x w.here p.0) (and_parts w.is_asked (at_most (mode_for w.need x) (granted_at old owner x)) p.1).1))
    ])
    (λ g. nothing (if contains x w.here then mode_for w.need x else NL)))))

-- ---- a node that a want leaves

-- elsewhere nothing that was opened is lost
elsewhere-opened : (held more : Holding) (w : OpenWant) (x : Node) → same_node x w.here ≡ false → at_most (opened_at held (Some w) x) (opened_at more (Some (unasked w)) x) ≡ true
elsewhere-opened held more w x d =
    subst (λ (y : Mode). at_most (opened_at held (Some w) x) y ≡ true) (sym (opened-unasked more w x))
    (by_test (λ (y : Mode). at_most y (if contains x w.here then mode_for w.need x else NL) ≡ true) (has_granted held w x) (mode_for w.need x) NL
    (λ g. elim (or_cases (contains x w.here) (same_node x w.here && (w.is_asked && at_most (mode_for w.need x) (held x))) g) [
      | inl c ↦ subst (λ (b : Bool). at_most (mode_for w.need x) (if b then mode_for w.need x else NL) ≡ true) (sym c) (at_most-refl (mode_for w.need x))
      | inr s ↦ absurd (false≢true (sym d ∙ (and_parts (same_node x w.here) (w.is_asked && at_most (mode_for w.need x) (held x)) s).0))
    ])
    (λ g. nothing (if contains x w.here then mode_for w.need x else NL)))

-- what stood in the way elsewhere does so still
module _ (old new : Table) (owner : ℕ) (ws : List Need) (w : OpenWant) (way : MakesWay owner old new) where
  stands-elsewhere : (a : ℕ) (x : Node) → (owner == a) ≡ false → same_node x w.here ≡ false → may_share (granted_at new owner x) (sought_at new a x) ≡ false → StandsByNeeds old owner (wanting ws w) → may_share (kept_at (granted_at new owner) (wanting ws (unasked w)) x) (sought_at new a x) ≡ false
  stands-elsewhere a x d f shut least =
      subst (λ (y : Mode). may_share (kept_at (granted_at new owner) (wanting ws (unasked w)) x) y ≡ false) (sym (way.sought a x (flip owner a d)))
      (shut-more (kept_at (granted_at old owner) (wanting ws w) x) (kept_at (granted_at new owner) (wanting ws (unasked w)) x) (sought_at old a x)
      (kept-opened (granted_at old owner) (granted_at new owner) ws (Some w) (Some (unasked w)) x (elsewhere-opened (granted_at old owner) (granted_at new owner) w x f))
      (least a x d (way.bars a x d shut)))

  -- where at the node no more is held than is kept, or nothing is in the way
  stands-here : ((a : ℕ) → (owner == a) ≡ false → may_share (granted_at new owner w.here) (sought_at new a w.here) ≡ false → at_most (granted_at new owner w.here) (kept_at (granted_at new owner) (wanting ws (unasked w)) w.here) ≡ true) → StandsByNeeds old owner (wanting ws w) → StandsByNeeds new owner (wanting ws (unasked w))
  stands-here here least a x d shut = elim (cases_Bool (same_node x w.here)) [
    | inr f ↦ stands-elsewhere a x d f shut least
    | inl s ↦
        let there : x ≡ w.here = same_node-true x w.here s in
        let now : may_share (granted_at new owner w.here) (sought_at new a w.here) ≡ false = subst (λ (z : Node). may_share (granted_at new owner z) (sought_at new a z) ≡ false) there shut in
        subst (λ (z : Node). may_share (kept_at (granted_at new owner) (wanting ws (unasked w)) z) (sought_at new a z) ≡ false) (sym there)
        (shut-more (granted_at new owner w.here) (kept_at (granted_at new owner) (wanting ws (unasked w)) w.here) (sought_at new a w.here) (here a d now) now)
  ]

-- what the needs ask of a node is kept
after-kept : (held more : Holding) (ws : List Need) (o : Option OpenWant) (n : Node) → at_most (after_want held ws n) (kept_at more (record { needs = ws; opened = o }) n) ≡ true
after-kept held more ws o n =
    let needed : Mode = least_above (below ws n) (needed_on ws n) in
    at_most-trans (after_want held ws n) needed (kept_at more (record { needs = ws; opened = o }) n)
    (at_most-join (below ws n) (needed_uncovered held ws n) needed
    ∙ and_from (at_most (below ws n) needed) (at_most (needed_uncovered held ws n) needed) (join-left (below ws n) (needed_on ws n))
    (uncovered-most held n needed ws (join-right (below ws n) (needed_on ws n))))
    (join-right (opened_at more o n) needed)

pub stands-left : (old new : Table) (owner : ℕ) (ws : List Need) (w : OpenWant) (keep : Mode) → keep ≡ after_want (granted_at old owner) ws w.here → MakesWay owner old new → BroughtDown owner w.here keep ws old new
    → StandsByNeeds old owner (wanting ws w) → StandsByNeeds new owner (wanting ws (unasked w))
stands-left old new owner ws w keep is way b =
    stands-here old new owner ws w way
    (λ a d f. subst (λ (y : Mode). at_most y (kept_at (granted_at new owner) (wanting ws (unasked w)) w.here) ≡ true) (sym (b.lowered.own ∙ is))
    (after-kept (granted_at old owner) (granted_at new owner) ws (Some (unasked w)) w.here))

no-read : (h : Mode) → at_most PR h ≡ false → at_most h (intent h) ≡ true
no-read h f = from_implies (not (at_most PR h)) (at_most h (intent h)) (all_modes-at (λ h. implies (not (at_most PR h)) (at_most h (intent h))) refl h) (not_from_false (at_most PR h) f)

no-intent : (m : Mode) → at_most (intent m) NL ≡ true → at_most m NL ≡ true
no-intent m h = from_implies (at_most (intent m) NL) (at_most m NL) (all_modes-at (λ m. implies (at_most (intent m) NL) (at_most m NL)) refl m) h

-- the lock isn't as strong as what the needs ask
module _ (t : Table) (owner : ℕ) (ws : List Need) (w : OpenWant) (live : IsLive (queues_at t)) (intents : HasIntents t) (k : IsKept t owner (wanting ws w)) (weak : at_most (after_want (granted_at t owner) ws w.here) (granted_at t owner w.here) ≡ false) where
  -- above what is asked no other has an exclusive lock
  none-over : (a : ℕ) → (owner == a) ≡ false → may_share (granted_at t owner w.here) (sought_at t a w.here) ≡ false → HasNoExclusiveAbove (granted_at t owner) w.here
  none-over a d shut y c = elim (cases_Bool (at_most EX (granted_at t owner y))) [
    | inr f ↦ f
    | inl e ↦
        let less : at_most (intent (sought_at t a w.here)) NL ≡ true =
        at_most-trans (intent (sought_at t a w.here)) (granted_at t a y) NL (intents.sought a y w.here c) (beside-exclusive (granted_at t owner y) (granted_at t a y) e (shares-live t t owner w.here live owner a (flip owner a d) y)) in
        absurd (false≢true
        (sym shut
        ∙ (may_share-comm (granted_at t owner w.here) (sought_at t a w.here)
        ∙ at_most-shares (sought_at t a w.here) NL (granted_at t owner w.here) (no-intent (sought_at t a w.here) less) (nothing-shares (granted_at t owner w.here)))))
  ]

  skipped-here : (a : ℕ) → (owner == a) ≡ false → may_share (granted_at t owner w.here) (sought_at t a w.here) ≡ false → at_most (granted_at t owner w.here) (kept_at (granted_at t owner) (wanting ws (unasked w)) w.here) ≡ true
  skipped-here a d shut =
      let held : Holding = granted_at t owner in
      let kept : Mode = kept_at (granted_at t owner) (wanting ws (unasked w)) w.here in
      let needed : Mode = least_above (below ws w.here) (needed_on ws w.here) in
      let opened : Mode = opened_at (granted_at t owner) (Some (unasked w)) w.here in
      elim (cases_Bool (at_most PR (granted_at t owner w.here))) [
        | inl reads ↦
            let none = none-over a d shut in
            absurd (false≢true
            (sym weak
            ∙ (at_most-join (below ws w.here) (needed_uncovered (granted_at t owner) ws w.here) (granted_at t owner w.here)
            ∙ and_from (at_most (below ws w.here) (granted_at t owner w.here)) (at_most (needed_uncovered (granted_at t owner) ws w.here) (granted_at t owner w.here))
            (below-allowed (granted_at t owner) w.here (intents.granted owner) none reads ws k.covered)
            (uncovered-most (granted_at t owner) w.here (granted_at t owner w.here) ws (needed-allowed (granted_at t owner) w.here (intents.granted owner) none reads ws k.covered)))))
        | inr f ↦
            at_most-trans (granted_at t owner w.here) (intent (granted_at t owner w.here)) kept (no-read (granted_at t owner w.here) f)
            (at_most-trans (intent (granted_at t owner w.here)) (intents_on ws w.here) kept (owed.0)
            (intents-kept w.here kept ws
            (at_most-trans (below ws w.here) needed kept (join-left (below ws w.here) (needed_on ws w.here)) (join-right opened needed))
            (at_most-trans (needed_on ws w.here) needed kept (join-right (below ws w.here) (needed_on ws w.here)) (join-right opened needed))))
      ]
    where
      owed : (at_most (intent (granted_at t owner w.here)) (intents_on ws w.here) ≡ true) × (is_needed ws w.here ≡ true)
      owed = weaker-owed (granted_at t owner) ws w.here k.covered weak

pub stands-skipped : (t : Table) (owner : ℕ) (ws : List Need) (w : OpenWant) → IsLive (queues_at t) → HasIntents t → IsKept t owner (wanting ws w) → (keep : Mode) → keep ≡ after_want (granted_at t owner) ws w.here → at_most keep (granted_at t owner w.here) ≡ false
    → StandsByNeeds t owner (wanting ws w) → StandsByNeeds t owner (wanting ws (unasked w))
stands-skipped t owner ws w live intents k keep is weak =
    stands-here t t owner ws w (way-none owner t)
    (skipped-here t owner ws w live intents k (subst (λ (y : Mode). at_most y (granted_at t owner w.here) ≡ false) is weak))

-- the owner holds nothing there
pub stands-none : (t : Table) (owner : ℕ) (ws : List Need) (w : OpenWant) → at_most (granted_at t owner w.here) NL ≡ true → StandsByNeeds t owner (wanting ws w) → StandsByNeeds t owner (wanting ws (unasked w))
stands-none t owner ws w h =
    stands-here t t owner ws w (way-none owner t)
    (λ a d f. at_most-trans (granted_at t owner w.here) NL (kept_at (granted_at t owner) (wanting ws (unasked w)) w.here) h (nothing (kept_at (granted_at t owner) (wanting ws (unasked w)) w.here)))

-- the node above it
pub stands-climbed : (t : Table) (owner : ℕ) (ws : List Need) (w : OpenWant) (up : Node) → above_of w.here ≡ Some up → IsKept t owner (wanting ws (unasked w)) → StandsByNeeds t owner (wanting ws (unasked w)) → StandsByNeeds t owner (wanting ws (asked_at w up))
stands-climbed t owner ws w up e k =
    way-own owner t t (way-none owner t) (wanting ws (unasked w)) (wanting ws (asked_at w up))
    (λ x. kept-opened (granted_at t owner) (granted_at t owner) ws (Some (unasked w)) (Some (asked_at w up)) x
    (subst (λ (y : Mode). at_most y (opened_at (granted_at t owner) (Some (asked_at w up)) x) ≡ true)
    (opened-up (granted_at t owner) w up e (above-granted (granted_at t owner) (sought_at t owner) ws w up e k) x) (at_most-refl (opened_at (granted_at t owner) (Some (asked_at w up)) x))))

-- and at the top nothing is left of the want
pub stands-closed : (t : Table) (owner : ℕ) (ws : List Need) (w : OpenWant) → above_of w.here ≡ None → StandsByNeeds t owner (wanting ws (unasked w)) → StandsByNeeds t owner (resting ws)
stands-closed t owner ws w e =
    way-own owner t t (way-none owner t) (wanting ws (unasked w)) (resting ws)
    (λ x. kept-opened (granted_at t owner) (granted_at t owner) ws (Some (unasked w)) None x
    (subst (λ (y : Mode). at_most y NL ≡ true) (sym (opened-unasked (granted_at t owner) w x ∙ ap (λ (c : Bool). if c then mode_for w.need x else NL) (top-alone w.here x e))) refl))
