-- The queues of one node change: what stays true of all nodes.
use Rattle.std.proofs.Common.{◌≡◌, ℕ, ◌⊎◌, inl, inr, true, false, refl, ◌∙◌, sym, subst}
use Rattle.std.specs.Prelude.{if◌then◌else◌}
use Rattle.std.proofs.lemmas.Bool.{false≢true, cases_Bool}
use Rattle.rdb_types.specs.declared.node.Node.{Node}
use Rattle.vms_queues.specs.Queues.{Queues, IsSound, is_settled, is_queued, considered}
use Rattle.vms_queues.specs.Waits.{waits}
use Rattle.vms_queues.proofs.Settled.{is_settled-considered}
use Rattle.vms_queues.proofs.Soundness.{considered-sound}
use Rattle.vms_queues.proofs.PassEdges.{considered-edges, considered-queued}
use Rattle.vms_locks.specs.Walks.{IsOnNoCycle}
use Rattle.vms_locks.specs.Table.{same_node, queues_with, WaitsIn, IsAwake, SleepsOnce, IsLive}
use Rattle.vms_locks.proofs.Nodes.{same_node-true, not-same}
use Rattle.vms_locks.proofs.Walks.{WaitsForNone, acyclic-ends, acyclic-at}
use Rattle.vms_locks.proofs.Queued.{waits-queued}

-- nodes with the same queues

pub live-agree : (new old : Node → Queues) → ((n : Node) → new n ≡ old n) → IsLive old → IsLive new
live-agree new old same live = subst (λ (at : Node → Queues). IsLive at) (λ i. λ n. sym (same n) i) live

module _ (at : Node → Queues) (node : Node) (q : Queues) where
  -- what holds of some node's queues holds of the new ones at the node or of the old ones elsewhere
  split : (P : Queues → Type 0) (n : Node) → P (queues_with at node q n) → ((node ≡ n) × P q) ⊎ P (at n)
  split P n h =
      elim (same_node node n) as (λ b. same_node node n ≡ b → P (if b then q else at n) → ((node ≡ n) × P q) ⊎ P (at n)) [
        | true ↦ λ e k. inl (same_node-true node n e, k)
        | false ↦ λ e k. inr k
      ] refl h

  each : (P : Queues → Type 0) → P q → ((n : Node) → P (at n)) → (n : Node) → P (queues_with at node q n)
  each P here there n =
      elim (same_node node n) as (λ b. P (if b then q else at n)) [ true ↦ here | false ↦ there n ]

  -- who was queued at the node and no longer is sleeps nowhere
  left-awake : (b : ℕ) → SleepsOnce at b → is_queued b (at node) ≡ true → is_queued b q ≡ false → IsAwake (queues_with at node q) b
  left-awake b once was gone n =
      elim (same_node node n) as (λ t. same_node node n ≡ t → is_queued b (if t then q else at n) ≡ false) [
        | true ↦ λ e. gone
        | false ↦ λ e. elim (cases_Bool (is_queued b (at n))) [ inl y ↦ absurd (not-same node n e (once node n was y)) | inr not_queued ↦ not_queued ]
      ] refl

  stays-awake : (b : ℕ) → IsAwake at b → is_queued b q ≡ false → IsAwake (queues_with at node q) b
  stays-awake b awake gone = each (λ r. is_queued b r ≡ false) gone awake

awake-waits : (at : Node → Queues) (b : ℕ) → IsAwake at b → WaitsForNone (WaitsIn at) b
awake-waits at b awake z h = false≢true (sym (awake h.0) ∙ waits-queued (at h.0) b z h.1)

-- New waits are for those alone who are awake afterwards, and nobody is queued anew.
pub live-less : (at : Node → Queues) (node : Node) (q : Queues) → ((a b : ℕ) → waits q a b ≡ true → (waits (at node) a b ≡ true) ⊎ IsAwake (queues_with at node q) b) → ((o : ℕ) → is_queued o (at node) ≡ false → is_queued o q ≡ false) → IsSound q → is_settled q ≡ true → IsLive at → IsLive (queues_with at node q)
live-less at node q edges unqueued sound settled live =
    let was : (o : ℕ) (n : Node) → is_queued o (queues_with at node q n) ≡ true → is_queued o (at n) ≡ true = λ o n h.
    elim (split at node q (λ r. is_queued o r ≡ true) n h) [
      | inl p ↦ subst (λ (m : Node). is_queued o (at m) ≡ true) p.0 (elim (cases_Bool (is_queued o (at node))) [ inl y ↦ y | inr not_queued ↦ absurd (false≢true (sym (unqueued o not_queued) ∙ p.1)) ])
      | inr k ↦ k
    ]
    in
    record {
      acyclic =
          acyclic-ends (WaitsIn at) (WaitsIn (queues_with at node q)) (λ a b h.
          elim (split at node q (λ r. waits r a b ≡ true) h.0 h.1) [
            | inl p ↦ elim (edges a b p.1) [ inl w ↦ inl (node, w) | inr awake ↦ inr (awake-waits (queues_with at node q) b awake) ]
            | inr k ↦ inl (h.0, k)
          ]) live.acyclic;
      once = λ o m n hm hn. live.once o m n (was o m hm) (was o n hn);
      sound = each at node q (λ r. IsSound r) sound live.sound;
      settled = each at node q (λ r. is_settled r ≡ true) settled live.settled;
    }

-- The owner's request is queued, and closes no cycle.
pub live-queued : (owner : ℕ) (at : Node → Queues) (node : Node) (q : Queues) → IsAwake at owner → ((a b : ℕ) → waits q a b ≡ true → (waits (at node) a b ≡ true) ⊎ ((a ≡ owner) ⊎ (b ≡ owner))) → ((o : ℕ) → is_queued o q ≡ true → (is_queued o (at node) ≡ true) ⊎ (o ≡ owner)) → IsOnNoCycle (WaitsIn (queues_with at node q)) owner → IsSound q → is_settled q ≡ true → IsLive at → IsLive (queues_with at node q)
live-queued owner at node q awake edges queued none sound settled live =
    let was : (o : ℕ) (n : Node) → is_queued o (queues_with at node q n) ≡ true → (is_queued o (at n) ≡ true) ⊎ ((o ≡ owner) × (node ≡ n)) = λ o n h.
    elim (split at node q (λ r. is_queued o r ≡ true) n h) [
      | inl p ↦ elim (queued o p.1) [ inl y ↦ inl (subst (λ (m : Node). is_queued o (at m) ≡ true) p.0 y) | inr e ↦ inr (e, p.0) ]
      | inr k ↦ inl k
    ]
    in
    let asleep : (o : ℕ) (n : Node) → o ≡ owner → is_queued o (at n) ≡ true → ⊥ = λ o n e y. false≢true (sym (awake n) ∙ subst (λ (k : ℕ). is_queued k (at n) ≡ true) e y) in
    record {
      acyclic =
          acyclic-at owner (WaitsIn at) (WaitsIn (queues_with at node q)) (λ a b h.
          elim (split at node q (λ r. waits r a b ≡ true) h.0 h.1) [
            | inl p ↦ elim (edges a b p.1) [ inl w ↦ inl (node, w) | inr k ↦ inr k ]
            | inr k ↦ inl (h.0, k)
          ]) live.acyclic none;
      once =
          λ o m n hm hn. elim (was o m hm) [
            | inl y ↦ elim (was o n hn) [ inl z ↦ live.once o m n y z | inr z ↦ absurd (asleep o m z.0 y) ]
            | inr y ↦ elim (was o n hn) [ inl z ↦ absurd (asleep o n y.0 z) | inr z ↦ sym y.1 ∙ z.1 ]
          ];
      sound = each at node q (λ r. IsSound r) sound live.sound;
      settled = each at node q (λ r. is_settled r ≡ true) settled live.settled;
    }

-- The node's queues are changed to r, and then considered.
pub live-considered : (at : Node → Queues) (node : Node) (r : Queues) → IsSound r → ((a b : ℕ) → waits r a b ≡ true → (waits (at node) a b ≡ true) ⊎ IsAwake at b) → ((o : ℕ) → is_queued o (at node) ≡ false → is_queued o r ≡ false) → IsLive at → IsLive (queues_with at node (considered r))
live-considered at node r sound edges unqueued live =
    let q : Queues = considered r in
    live-less at node q (λ a b h.
    elim (considered-edges r sound a b h) [
      | inl w ↦ elim (edges a b w) [
        | inl k ↦ inl k
        | inr awake ↦ inr (stays-awake at node q b awake (considered-queued r b (unqueued b (awake node))))
      ]
      | inr left ↦ elim (cases_Bool (is_queued b (at node))) [
        | inl y ↦ inr (left-awake at node q b (live.once b) y left.1)
        | inr not_queued ↦ absurd (false≢true (sym (unqueued b not_queued) ∙ left.0))
      ]
    ])
    (λ o not_queued. considered-queued r o (unqueued o not_queued)) (considered-sound r sound) (is_settled-considered r) live
