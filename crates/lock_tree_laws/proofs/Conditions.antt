-- A mode that is free and bars nobody is granted at once and adds no wait.
use Rattle.std.proofs.Common.{◌≡◌, ℕ, inl, inr, [], Bool, true, false, refl, ◌∙◌, sym, ap, subst}
use Rattle.std.specs.Prelude.{◌==◌, not, ◌&&◌, if◌then◌else◌, Some, None, Option, unwrap_or}
use Rattle.std.proofs.lemmas.Bool.{false≢true, ne_eqb, and_from, or_parts, or_cases, or_left, or_right, not_from_false}
use Rattle.rdb_types.specs.declared.node.Node.{Node}
use Rattle.vms_queues.specs.declared.lock_mode.Mode.{Mode}
use Rattle.vms_queues.specs.declared.lock_mode.Mode.TheVariants.{NL}
use Rattle.vms_queues.specs.Modes.{may_share, at_most}
use Rattle.vms_queues.specs.Queues.{Queues, IsSound, has_owner, mode_in, is_absent, is_queued, is_grantable, fits, with_mode, with_conversion, after_weaken, after_convert, after_raise}
use Rattle.vms_queues.specs.Waits.{conversion_waits, request_waits}
use Rattle.vms_queues.proofs.ModeLaws.{may_share-comm}
use Rattle.vms_queues.proofs.PassEdges.{waits-converts_not}
use Rattle.vms_queues.proofs.Raised.{after_convert-raises}
use Rattle.vms_locks.specs.Table.{Table, queues_at, ChangesAt, AddsNoWait, IsLive}
use Rattle.vms_locks.specs.Answers.{Request, Answers, asking}
use Rattle.vms_locks.specs.declared.answer.Enq.{Enq}
use Rattle.vms_locks.specs.declared.answer.Enq.TheVariants.{Granted, Asleep, NotQueued, Deadlock}
use Rattle.lock_tree_laws.specs.LockTable.{granted_in, sought_in, granted_at, IsFree, BarsNobody, RaisedAt}
use Rattle.lock_tree_laws.specs.Inner.Answering.{was_granted}
use Rattle.lock_tree_laws.proofs.QueueModes.{mode-absent}
use Rattle.lock_tree_laws.proofs.HeldModes.{nothing-shares, fits-modes, each-held, BlocksNoMoreOf, blocked-kept, conversion_waits-kept, request_waits-kept, mode-has_owner, no-mode_absent, raises-mode}
use Rattle.lock_tree_laws.proofs.Changes.{changed-lock, changed-mode, raised-at}

-- what an owner converts to, or waits for, is what it asks
sought-converting : (u : ℕ) (q : Queues) (k : Mode) → mode_in u q.converting ≡ Some k → sought_in u q ≡ k
sought-converting u q k e = ap (λ (x : Option Mode). unwrap_or x (unwrap_or (mode_in u q.waiting) (granted_in u q))) e

sought-waiting : (u : ℕ) (q : Queues) (k : Mode) → IsSound q → mode_in u q.waiting ≡ Some k → sought_in u q ≡ k
sought-waiting u q k s e =
    ap (λ (x : Option Mode). unwrap_or x (unwrap_or (mode_in u q.waiting) (granted_in u q))) (mode-absent u q.converting (waits-converts_not q u s (mode-has_owner u q.waiting k e)))
    ∙ ap (λ (x : Option Mode). unwrap_or x (granted_in u q)) e

module _ (t : Table) (owner : ℕ) (n : Node) (mode : Mode) (live : IsLive (queues_at t)) (free : IsFree t owner n mode) (bars : BarsNobody t owner n mode) where
  pub fits-free : fits owner mode (queues_at t n).granted ≡ true
  fits-free =
      fits-modes owner mode (queues_at t n).granted (live.sound n).granted_once
      (λ u k d e. may_share-comm k mode ∙ subst (λ (y : Mode). may_share mode y ≡ true) (ap (λ (x : Option Mode). unwrap_or x NL) e) (free u d))

  pub grantable-free : granted_at t owner n ≡ NL → is_grantable (queues_at t n) owner mode ≡ true
  grantable-free none =
      let q : Queues = queues_at t n in
      let asked : (u : ℕ) → (u == owner) ≡ false → may_share mode (sought_in u q) ≡ true =
      λ u d. bars u d (subst (λ (y : Mode). may_share y (sought_in u q) ≡ true) (sym none) (nothing-shares (sought_in u q))) in
      and_from (fits owner mode q.granted) (fits owner mode q.converting && fits owner mode q.waiting) fits-free
      (and_from (fits owner mode q.converting) (fits owner mode q.waiting)
      (fits-modes owner mode q.converting (live.sound n).converting_once (λ u k d e. may_share-comm k mode ∙ subst (λ (y : Mode). may_share mode y ≡ true) (sought-converting u q k e) (asked u d)))
      (fits-modes owner mode q.waiting (live.sound n).waiting_once (λ u k d e. may_share-comm k mode ∙ subst (λ (y : Mode). may_share mode y ≡ true) (sought-waiting u q k (live.sound n) e) (asked u d))))

  blocks-kept : (a : ℕ) (k : Mode) → sought_in a (queues_at t n) ≡ k → BlocksNoMoreOf (queues_at t n).granted owner mode a k
  blocks-kept a k e b =
      let q : Queues = queues_at t n in
      blocked-kept owner b a mode k q.granted (live.sound n).granted_once
      (λ y has apart s.
      subst (λ (z : Mode). may_share mode z ≡ true) e
      (bars a (ne_eqb a owner apart)
      (subst (λ (z : Mode). may_share (granted_in owner q) z ≡ true) (sym e) (subst (λ (z : Mode). may_share z k ≡ true) (sym (ap (λ (x : Option Mode). unwrap_or x NL) has)) s))))

  pub no-wait_free : AddsNoWait (queues_at t n) owner mode
  no-wait_free a b h =
      let q : Queues = queues_at t n in
      let more = with_mode owner mode q.granted in
      elim (or_cases (conversion_waits more a b q.converting) (request_waits more q.converting a b [] q.waiting) h) [
        | inl w ↦ or_left (conversion_waits q.granted a b q.converting) (request_waits q.granted q.converting a b [] q.waiting)
            (conversion_waits-kept q.granted owner mode a b q.converting
            (each-held (BlocksNoMoreOf q.granted owner mode) q.converting (live.sound n).converting_once (λ u k e. blocks-kept u k (sought-converting u q k e))) w)
        | inr w ↦ or_right (conversion_waits q.granted a b q.converting) (request_waits q.granted q.converting a b [] q.waiting)
            (request_waits-kept q.granted q.converting owner mode a b [] q.waiting
            (each-held (BlocksNoMoreOf q.granted owner mode) q.waiting (live.sound n).waiting_once (λ u k e. blocks-kept u k (sought-waiting u q k (live.sound n) e))) w)
      ]

-- what a request that is grantable is answered
pub granted-only : (old new : Table) (owner : ℕ) (n : Node) (wait : Bool) (request : Request) (answer : Enq) → request.grantable ≡ true → Answers old new owner n wait request answer → ChangesAt old new n request.granted
granted-only old new owner n wait request Granted g h = h.1
granted-only old new owner n wait request Asleep g h = absurd (false≢true (sym h.0 ∙ g))
granted-only old new owner n wait request (NotQueued b) g h = absurd (false≢true (sym h.0 ∙ g))
granted-only old new owner n wait request (Deadlock c) g h = absurd (false≢true (sym h.0 ∙ g))

pub grantable-granted : (old new : Table) (owner : ℕ) (n : Node) (wait : Bool) (request : Request) (answer : Enq) → request.grantable ≡ true → Answers old new owner n wait request answer → was_granted answer ≡ true
grantable-granted old new owner n wait request Granted g h = refl
grantable-granted old new owner n wait request Asleep g h = absurd (false≢true (sym h.0 ∙ g))
grantable-granted old new owner n wait request (NotQueued b) g h = absurd (false≢true (sym h.0 ∙ g))
grantable-granted old new owner n wait request (Deadlock c) g h = absurd (false≢true (sym h.0 ∙ g))

module _ (old new : Table) (owner : ℕ) (n : Node) (mode : Mode) (live : IsLive (queues_at old)) (quiet : is_queued owner (queues_at old n) ≡ false) where
  pub absent-quiet : mode_in owner (queues_at old n).granted ≡ None → is_absent owner (queues_at old n) ≡ true
  absent-quiet none =
      let q : Queues = queues_at old n in
      let p = or_parts (has_owner owner q.converting) (has_owner owner q.waiting) quiet in
      and_from (not (has_owner owner q.granted)) (not (has_owner owner q.converting) && not (has_owner owner q.waiting)) (not_from_false (has_owner owner q.granted) (no-mode_absent owner q.granted none))
      (and_from (not (has_owner owner q.converting)) (not (has_owner owner q.waiting)) (not_from_false (has_owner owner q.converting) p.0) (not_from_false (has_owner owner q.waiting) p.1))

  pub asked-law : mode_in owner (queues_at old n).granted ≡ None → ChangesAt old new n (asking (queues_at old n) owner mode).granted → RaisedAt old new owner n mode
  asked-law none changes = raised-at old new owner n (asking (queues_at old n) owner mode).granted changes mode (changed-lock (queues_at old n) owner mode (absent-quiet none))

  pub converted-law : (held : Mode) → mode_in owner (queues_at old n).granted ≡ Some held → at_most held mode ≡ true → fits owner mode (queues_at old n).granted ≡ true → ChangesAt old new n (after_weaken (queues_at old n) owner mode) → RaisedAt old new owner n mode
  converted-law held has ascends fit changes =
      let q : Queues = queues_at old n in
      let r : Queues = record q { granted = with_mode owner mode q.granted } in
      let p = or_parts (has_owner owner q.converting) (has_owner owner q.waiting) quiet in
      let e : after_convert q owner mode ≡ after_raise q owner mode = after_convert-raises q owner mode (live.sound n) (live.settled n) p.0 (raises-mode owner q.granted held mode has ascends) in
      let a : after_convert q owner mode ≡ after_weaken q owner mode = ap (λ (b : Bool). if b then after_weaken q owner mode else with_conversion q owner mode) fit in
      let b : after_raise q owner mode ≡ r = ap (λ (b : Bool). if b then r else with_conversion q owner mode) fit in
      let same : after_weaken q owner mode ≡ r = sym a ∙ (e ∙ b) in
      raised-at old new owner n r (subst (λ (z : Queues). ChangesAt old new n z) same changes) mode (changed-mode q owner mode (mode-has_owner owner q.granted held has) quiet)
