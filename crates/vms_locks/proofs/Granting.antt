-- The table stays live with each request.
use Rattle.std.proofs.Common.{◌≡◌, ℕ, ◌⊎◌, inl, inr, Bool, true, false, ◌∙◌, sym, subst}
use Rattle.std.specs.Prelude.{not, ◌==◌, if◌then◌else◌}
use Rattle.std.proofs.lemmas.Bool.{false≢true, or_from}
use Rattle.rdb_types.specs.declared.node.Node.{Node}
use Rattle.vms_queues.specs.declared.lock_mode.Mode.{Mode}
use Rattle.vms_queues.specs.Queues.{Queues, is_queued, has_owner, is_absent, is_grantable, fits, covers, with_mode, without, considered, with_lock, with_request, with_conversion, after_weaken, after_release, after_cancel}
use Rattle.vms_queues.proofs.Entries.{fits-from_covers}
use Rattle.vms_queues.proofs.Settled.{settled-lock, settled-request, settled-conversion}
use Rattle.vms_queues.proofs.Soundness.{sound-granted, sound-queued, sound-with_mode, sound-converting, sound-unqueued, sound-gone}
use Rattle.vms_queues.proofs.RequestEdges.{granted-edges, queued-edges, strengthened-edges, converting-edges, weakened-edges, gone-edges, unqueued-edges}
use Rattle.vms_locks.specs.Walks.{IsOnNoCycle}
use Rattle.vms_locks.specs.Table.{Table, queues_at, queues_with, WaitsIn, IsAwake, AddsNoWait, IsLive, ChangesAt}
use Rattle.vms_locks.specs.Answers.{Answers, asking, converting}
use Rattle.vms_locks.specs.declared.answer.Enq.{Enq}
use Rattle.vms_locks.specs.declared.answer.Enq.TheVariants.{Granted, Asleep, NotQueued, Deadlock}
use Rattle.vms_locks.proofs.Changes.{live-agree, live-less, live-queued, live-considered}
use Rattle.vms_locks.proofs.Queued.{queued-without, request-cases, conversion-cases}

module _ (at : Node → Queues) (node : Node) (owner : ℕ) (mode : Mode) (live : IsLive at) where
  live-lock : is_absent owner (at node) ≡ true → is_grantable (at node) owner mode ≡ true → IsLive (queues_with at node (with_lock (at node) owner mode))
  live-lock absent free =
      live-less at node (with_lock (at node) owner mode) (λ a b h. inl (granted-edges (at node) owner mode absent free a b h)) (λ o not_queued. not_queued)
      (sound-granted (at node) owner mode (live.sound node) absent free) (settled-lock (at node) owner mode (live.settled node)) live

  live-request : IsAwake at owner → is_absent owner (at node) ≡ true → is_grantable (at node) owner mode ≡ false → IsOnNoCycle (WaitsIn (queues_with at node (with_request (at node) owner mode))) owner → IsLive (queues_with at node (with_request (at node) owner mode))
  live-request awake absent busy none =
      live-queued owner at node (with_request (at node) owner mode) awake
      (λ a b h. elim (queued-edges (at node) owner mode a b h) [ inl w ↦ inl w | inr e ↦ inr (inl e) ])
      (request-cases (at node) owner mode) none
      (sound-queued (at node) owner mode (live.sound node) absent) (settled-request (at node) owner mode (live.settled node) busy) live

  -- another mode that fits at once
  live-mode : fits owner mode (at node).granted ≡ true → IsAwake at owner ⊎ AddsNoWait (at node) owner mode → IsLive (queues_with at node (after_weaken (at node) owner mode))
  live-mode free awake =
      live-considered at node (record (at node) { granted = with_mode owner mode (at node).granted })
      (sound-with_mode (at node) owner mode (live.sound node) free)
      (λ a b h. elim awake [
        | inl quiet ↦ elim (strengthened-edges (at node) owner mode a b h) [ inl w ↦ inl w | inr e ↦ inr (subst (λ (k : ℕ). IsAwake at k) (sym e) quiet) ]
        | inr none ↦ inl (none a b h)
      ]) (λ o not_queued. not_queued) live

  live-conversion : IsAwake at owner → has_owner owner (at node).granted ≡ true → has_owner owner (at node).converting ≡ false → fits owner mode (at node).granted ≡ false → IsOnNoCycle (WaitsIn (queues_with at node (with_conversion (at node) owner mode))) owner → IsLive (queues_with at node (with_conversion (at node) owner mode))
  live-conversion awake granted once busy none =
      live-queued owner at node (with_conversion (at node) owner mode) awake (converting-edges (at node) owner mode)
      (conversion-cases (at node) owner mode) none
      (sound-converting (at node) owner mode (live.sound node) granted once) (settled-conversion (at node) owner mode (live.settled node) busy) live

  live-weakened : covers owner mode (at node).granted ≡ true → IsLive (queues_with at node (after_weaken (at node) owner mode))
  live-weakened less =
      let sound = live.sound node in
      live-mode (fits-from_covers owner mode (at node).granted sound.shares sound.granted_once less)
      (inr (weakened-edges (at node) owner mode less sound.granted_once))

module _ (at : Node → Queues) (node : Node) (owner : ℕ) (live : IsLive at) where
  live-released : IsLive (queues_with at node (after_release (at node) owner))
  live-released =
      let q : Queues = at node in
      live-considered at node (record { granted = without owner q.granted; converting = without owner q.converting; waiting = without owner q.waiting })
      (sound-gone q owner (live.sound node)) (λ a b h. inl (gone-edges (λ x. not (x.owner == owner)) q a b h))
      (λ o not_queued. let p = queued-without owner o q not_queued in or_from (has_owner o (without owner q.converting)) (has_owner o (without owner q.waiting)) p.0 p.1) live

  live-cancelled : IsLive (queues_with at node (after_cancel (at node) owner))
  live-cancelled =
      let q : Queues = at node in
      let rest : Queues = record q { converting = without owner q.converting; waiting = without owner q.waiting } in
      elim (is_queued owner q) as (λ t. IsLive (queues_with at node (if t then considered rest else q))) [
        | true ↦ live-considered at node rest (sound-unqueued q owner (live.sound node)) (λ a b h. inl (unqueued-edges (λ x. not (x.owner == owner)) q a b h))
            (λ o not_queued. let p = queued-without owner o q not_queued in or_from (has_owner o (without owner q.converting)) (has_owner o (without owner q.waiting)) p.0 p.1) live
        | false ↦ live-less at node q (λ a b h. inl h) (λ o not_queued. not_queued) (live.sound node) (live.settled node) live
      ]

-- the table after each call

pub live-after_deq : (old new : Table) (node : Node) (owner : ℕ) → IsLive (queues_at old) → ChangesAt old new node (after_release (queues_at old node) owner) → IsLive (queues_at new)
live-after_deq old new node owner live changes =
    live-agree (queues_at new) (queues_with (queues_at old) node (after_release (queues_at old node) owner)) changes (live-released (queues_at old) node owner live)

pub live-after_cancel : (old new : Table) (node : Node) (owner : ℕ) → IsLive (queues_at old) → ChangesAt old new node (after_cancel (queues_at old node) owner) → IsLive (queues_at new)
live-after_cancel old new node owner live changes =
    live-agree (queues_at new) (queues_with (queues_at old) node (after_cancel (queues_at old node) owner)) changes (live-cancelled (queues_at old) node owner live)

pub live-after_weaken : (old new : Table) (node : Node) (owner : ℕ) (mode : Mode) → covers owner mode (queues_at old node).granted ≡ true → IsLive (queues_at old) → ChangesAt old new node (after_weaken (queues_at old node) owner mode) → IsLive (queues_at new)
live-after_weaken old new node owner mode less live changes =
    live-agree (queues_at new) (queues_with (queues_at old) node (after_weaken (queues_at old node) owner mode)) changes (live-weakened (queues_at old) node owner mode live less)

unless-free : {P Q : Type 0} (free : Bool) → P ⊎ ((free ≡ true) × Q) → free ≡ false → P
unless-free free (inl p) busy = p
unless-free free (inr k) busy = absurd (false≢true (sym busy ∙ k.0))

pub live-after_enq : (old new : Table) (owner : ℕ) (node : Node) (mode : Mode) (wait : Bool) (answer : Enq) → is_absent owner (queues_at old node) ≡ true → IsAwake (queues_at old) owner ⊎ (is_grantable (queues_at old node) owner mode ≡ true) → IsLive (queues_at old) → Answers old new owner node wait (asking (queues_at old node) owner mode) answer → IsLive (queues_at new)
live-after_enq old new owner node mode wait Granted absent awake live h =
    live-agree (queues_at new) (queues_with (queues_at old) node (with_lock (queues_at old node) owner mode)) h.1 (live-lock (queues_at old) node owner mode live absent h.0)
live-after_enq old new owner node mode wait Asleep absent awake live h =
    let quiet : IsAwake (queues_at old) owner = elim awake [ inl p ↦ p | inr free ↦ absurd (false≢true (sym h.0 ∙ free)) ] in
    live-agree (queues_at new) (queues_with (queues_at old) node (with_request (queues_at old node) owner mode)) h.3 (live-request (queues_at old) node owner mode live quiet absent h.0 h.2)
live-after_enq old new owner node mode wait (NotQueued blocker) absent awake live h =
    subst (λ (t : Table). IsLive (queues_at t)) (sym h.3) live
live-after_enq old new owner node mode wait (Deadlock cycle) absent awake live h =
    subst (λ (t : Table). IsLive (queues_at t)) (sym h.3) live

pub live-after_convert : (old new : Table) (owner : ℕ) (node : Node) (mode : Mode) (wait : Bool) (answer : Enq) → has_owner owner (queues_at old node).granted ≡ true → has_owner owner (queues_at old node).converting ≡ false → IsAwake (queues_at old) owner ⊎ ((fits owner mode (queues_at old node).granted ≡ true) × AddsNoWait (queues_at old node) owner mode) → IsLive (queues_at old) → Answers old new owner node wait (converting (queues_at old node) owner mode) answer → IsLive (queues_at new)
live-after_convert old new owner node mode wait Granted granted once awake live h =
    let quiet : IsAwake (queues_at old) owner ⊎ AddsNoWait (queues_at old node) owner mode = elim awake [ inl p ↦ inl p | inr k ↦ inr k.1 ] in
    live-agree (queues_at new) (queues_with (queues_at old) node (after_weaken (queues_at old node) owner mode)) h.1 (live-mode (queues_at old) node owner mode live h.0 quiet)
live-after_convert old new owner node mode wait Asleep granted once awake live h =
    let quiet : IsAwake (queues_at old) owner = unless-free (fits owner mode (queues_at old node).granted) awake h.0 in
    live-agree (queues_at new) (queues_with (queues_at old) node (with_conversion (queues_at old node) owner mode)) h.3 (live-conversion (queues_at old) node owner mode live quiet granted once h.0 h.2)
live-after_convert old new owner node mode wait (NotQueued blocker) granted once awake live h =
    subst (λ (t : Table). IsLive (queues_at t)) (sym h.3) live
live-after_convert old new owner node mode wait (Deadlock cycle) granted once awake live h =
    subst (λ (t : Table). IsLive (queues_at t)) (sym h.3) live
