-- Who is at no such node, while others ask.
use Rattle.std.proofs.Common.{◌≡◌, ℕ, [], inl, inr, Bool, true, ◌≤◌, ◌∙◌, sym, ap, subst}
use Rattle.std.specs.Prelude.{not, ◌&&◌, nat_le}
use Rattle.std.proofs.lemmas.Bool.{and_from, le-leb}
use Rattle.rdb_types.specs.declared.node.Node.{Node}
use Rattle.vms_queues.specs.declared.lock_mode.Mode.{Mode}
use Rattle.vms_queues.specs.Queues.{Queues, is_absent, has_owner, with_lock, with_request}
use Rattle.vms_queues.specs.Owners.{is_owner}
use Rattle.vms_locks.specs.Table.{Table, queues_at, ChangesAt}
use Rattle.vms_locks.proofs.Nodes.{node-cases}
use Rattle.vms_locks.proofs.Awake.{changed-here, changed-elsewhere}
use Rattle.vms_locks.proofs.Queued.{push-other}
use Rattle.vms_locks.proofs.Empty.{queues-empty}

-- the owner has no entry at any such node
abbrev pub IsOut : (Node → Type 0) → Table → ℕ → Type 0
IsOut P t o = (n : Node) → P n → is_absent o (queues_at t n) ≡ true

pub out-empty : (P : Node → Type 0) (t : Table) (o : ℕ) → t.entries ≡ [] → IsOut P t o
out-empty P t o e n such = ap (λ (q : Queues). is_absent o q) (queues-empty t e n)

pub owner-in_range : (o : ℕ) → 1 ≤ o → o ≤ 16 → is_owner o ≡ true
owner-in_range o p q = and_from (nat_le 1 o) (nat_le o 16) (le-leb 1 o p) (le-leb o 16 q)

module _ (P : Node → Type 0) (old new : Table) (node : Node) (p : ℕ) (m : Mode) (o : ℕ) where
  keeps-out : (q : Queues) → ChangesAt old new node q → is_absent o q ≡ is_absent o (queues_at old node) → IsOut P old o → IsOut P new o
  keeps-out q changes same out n such =
      elim (node-cases node n) [
        | inl here ↦
            ap (λ (k : Node). is_absent o (queues_at new k)) (sym here)
            ∙ (ap (λ (r : Queues). is_absent o r) (changed-here old new node q changes)
            ∙ (same ∙ (ap (λ (k : Node). is_absent o (queues_at old k)) here ∙ out n such)))
        | inr there ↦ ap (λ (r : Queues). is_absent o r) (changed-elsewhere old new node q n changes there) ∙ out n such
      ]

  pub out-locked : (o ≡ p → ⊥) → ChangesAt old new node (with_lock (queues_at old node) p m) → IsOut P old o → IsOut P new o
  out-locked other changes out =
      let q : Queues = queues_at old node in
      keeps-out (with_lock q p m) changes (ap (λ (b : Bool). not b && (not (has_owner o q.converting) && not (has_owner o q.waiting))) (push-other o q.granted p m other)) out

  pub out-requested : (o ≡ p → ⊥) → ChangesAt old new node (with_request (queues_at old node) p m) → IsOut P old o → IsOut P new o
  out-requested other changes out =
      let q : Queues = queues_at old node in
      keeps-out (with_request q p m) changes (ap (λ (b : Bool). not (has_owner o q.granted) && (not (has_owner o q.converting) && not b)) (push-other o q.waiting p m other)) out

  -- a change at another node
  pub out-elsewhere : (q : Queues) → (P node → ⊥) → ChangesAt old new node q → IsOut P old o → IsOut P new o
  out-elsewhere q none changes out n such =
      elim (node-cases node n) [
        | inl here ↦ absurd (none (subst (λ (k : Node). P k) (sym here) such))
        | inr there ↦ ap (λ (r : Queues). is_absent o r) (changed-elsewhere old new node q n changes there) ∙ out n such
      ]
