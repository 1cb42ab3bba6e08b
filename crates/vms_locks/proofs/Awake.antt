-- What callers know of a table that was changed: its queues, and who is awake.
use Rattle.std.proofs.Common.{◌≡◌, ℕ, Bool, true, false, ◌∙◌, ap}
use Rattle.std.specs.Prelude.{◌==◌, if◌then◌else◌}
use Rattle.std.proofs.lemmas.Bool.{or_parts, or_from}
use Rattle.rdb_types.specs.declared.node.Node.{Node}
use Rattle.vms_queues.specs.declared.lock_mode.Mode.{Mode}
use Rattle.vms_queues.specs.Queues.{Queues, is_queued, has_owner, entry, with_mode, with_lock, with_request, with_conversion, after_weaken}
use Rattle.vms_queues.proofs.Entries.{has_owner-push}
use Rattle.vms_queues.proofs.PassEdges.{considered-queued}
use Rattle.vms_locks.specs.Table.{Table, same_node, queues_at, IsAwake, ChangesAt}
use Rattle.vms_locks.proofs.Nodes.{same_node-refl}

module _ (old new : Table) (node : Node) where
  pub changed-here : (q : Queues) → ChangesAt old new node q → queues_at new node ≡ q
  changed-here q changes =
      changes node ∙ ap (λ (b : Bool). if b then q else queues_at old node) (same_node-refl node)

  pub changed-elsewhere : (q : Queues) (n : Node) → ChangesAt old new node q → same_node node n ≡ false → queues_at new n ≡ queues_at old n
  changed-elsewhere q n changes other =
      changes n ∙ ap (λ (b : Bool). if b then q else queues_at old n) other

  -- who is awake and isn't queued at the node afterwards stays awake
  pub awake-changed : (q : Queues) (o : ℕ) → ChangesAt old new node q → IsAwake (queues_at old) o → is_queued o q ≡ false → IsAwake (queues_at new) o
  awake-changed q o changes awake there n =
      ap (λ (r : Queues). is_queued o r) (changes n)
      ∙ (elim (same_node node n) as (λ b. is_queued o (if b then q else queues_at old n) ≡ false) [ true ↦ there | false ↦ awake n ])

  pub awake-locked : (p : ℕ) (m : Mode) (o : ℕ) → ChangesAt old new node (with_lock (queues_at old node) p m) → IsAwake (queues_at old) o → IsAwake (queues_at new) o
  awake-locked p m o changes awake = awake-changed (with_lock (queues_at old node) p m) o changes awake (awake node)

  pub awake-requested : (p : ℕ) (m : Mode) (o : ℕ) → (p == o) ≡ false → ChangesAt old new node (with_request (queues_at old node) p m) → IsAwake (queues_at old) o → IsAwake (queues_at new) o
  awake-requested p m o other changes awake =
      let q : Queues = queues_at old node in
      let w = or_parts (has_owner o q.converting) (has_owner o q.waiting) (awake node) in
      awake-changed (with_request q p m) o changes awake
      (or_from (has_owner o q.converting) _ w.0 (has_owner-push o q.waiting (entry p m) ∙ or_from (has_owner o q.waiting) (p == o) w.1 other))

  pub awake-converting : (p : ℕ) (m : Mode) (o : ℕ) → (p == o) ≡ false → ChangesAt old new node (with_conversion (queues_at old node) p m) → IsAwake (queues_at old) o → IsAwake (queues_at new) o
  awake-converting p m o other changes awake =
      let q : Queues = queues_at old node in
      let w = or_parts (has_owner o q.converting) (has_owner o q.waiting) (awake node) in
      awake-changed (with_conversion q p m) o changes awake
      (or_from _ (has_owner o q.waiting) (has_owner-push o q.converting (entry p m) ∙ or_from (has_owner o q.converting) (p == o) w.0 other) w.1)

  pub awake-weakened : (p : ℕ) (m : Mode) (o : ℕ) → ChangesAt old new node (after_weaken (queues_at old node) p m) → IsAwake (queues_at old) o → IsAwake (queues_at new) o
  awake-weakened p m o changes awake =
      let q : Queues = queues_at old node in
      awake-changed (after_weaken q p m) o changes awake
      (considered-queued (record q { granted = with_mode p m q.granted }) o (awake node))
