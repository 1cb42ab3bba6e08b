-- Which nodes a table lists after each change.
use Rattle.std.proofs.Common.{◌≡◌, ℕ, ◌⊎◌, inl, inr, Bool, true, false, None, Some, refl, ◌∙◌, sym, ap, subst}
use Rattle.std.specs.Prelude.{is_some, unwrap_or}
use Rattle.std.specs.Map.{lookup}
use Rattle.std.proofs.lemmas.Bool.{false≢true, cases_Bool}
use Rattle.rdb_types.specs.declared.node.Node.{Node}
use Rattle.vms_queues.specs.Queues.{Queues, no_queues, has_owner}
use Rattle.vms_locks.specs.Table.{Table, same_node, queues_at, is_listed, ChangesAt, HasNoEmpty}
use Rattle.vms_locks.specs.Answers.{Request, Answers}
use Rattle.vms_locks.specs.declared.answer.Enq.{Enq}
use Rattle.vms_locks.specs.declared.answer.Enq.TheVariants.{Granted, Asleep, NotQueued, Deadlock}
use Rattle.vms_locks.proofs.Nodes.{node-cases}
use Rattle.vms_locks.proofs.Awake.{changed-here, changed-elsewhere}

-- a listed node is of some use
listed-used : (t : Table) (n : Node) → HasNoEmpty t → is_listed t n ≡ true → queues_at t n ≡ no_queues → ⊥
listed-used t n used h e =
    elim (lookup (same_node n) t.entries) as (λ o. lookup (same_node n) t.entries ≡ o → is_some o ≡ true → unwrap_or o no_queues ≡ no_queues → ⊥) [
      | None ↦ λ found k empty. false≢true k
      | Some q ↦ λ found k empty. used n (found ∙ ap (λ (r : Queues). Some r) empty)
    ] refl h e

-- a node that isn't listed has no queues
unlisted-empty : (t : Table) (n : Node) → is_listed t n ≡ false → queues_at t n ≡ no_queues
unlisted-empty t n h =
    elim (lookup (same_node n) t.entries) as (λ o. is_some o ≡ false → unwrap_or o no_queues ≡ no_queues) [
      | None ↦ λ k. refl
      | Some q ↦ λ k. absurd (false≢true (sym k))
    ] h

module _ (old new : Table) (node : Node) (q : Queues) (changes : ChangesAt old new node q) (used : HasNoEmpty new) where
  -- a change lists the node at most
  pub listed-changed : (n : Node) → is_listed new n ≡ true → (is_listed old n ≡ true) ⊎ (n ≡ node)
  listed-changed n h =
      elim (node-cases node n) [
        | inl here ↦ inr (sym here)
        | inr other ↦ elim (cases_Bool (is_listed old n)) [
          | inl y ↦ inl y
          | inr none ↦ absurd (listed-used new n used h (changed-elsewhere old new node q n changes other ∙ unlisted-empty old n none))
        ]
      ]

  -- and not even that where an empty node stays empty
  pub listed-kept : (queues_at old node ≡ no_queues → q ≡ no_queues) → (n : Node) → is_listed new n ≡ true → is_listed old n ≡ true
  listed-kept stays n h =
      elim (cases_Bool (is_listed old n)) [
        | inl y ↦ y
        | inr none ↦ elim (listed-changed n h) [
          | inl y ↦ y
          | inr here ↦
              let empty : queues_at old node ≡ no_queues = ap (λ (m : Node). queues_at old m) (sym here) ∙ unlisted-empty old n none in
              absurd (listed-used new n used h (ap (λ (m : Node). queues_at new m) here ∙ (changed-here old new node q changes ∙ stays empty)))
        ]
      ]

-- what each answer lists

pub listed-answered : (old new : Table) (owner : ℕ) (node : Node) (wait : Bool) (request : Request) (answer : Enq) → Answers old new owner node wait request answer → HasNoEmpty new → (n : Node) → is_listed new n ≡ true → (is_listed old n ≡ true) ⊎ (n ≡ node)
listed-answered old new owner node wait request Granted a used n h = listed-changed old new node request.granted a.1 used n h
listed-answered old new owner node wait request Asleep a used n h = listed-changed old new node request.queued a.3 used n h
listed-answered old new owner node wait request (NotQueued blocker) a used n h = inl (subst (λ (t : Table). is_listed t n ≡ true) a.3 h)
listed-answered old new owner node wait request (Deadlock cycle) a used n h = inl (subst (λ (t : Table). is_listed t n ≡ true) a.3 h)

-- a node with a lock is listed
pub listed-held : (t : Table) (node : Node) (o : ℕ) → has_owner o (queues_at t node).granted ≡ true → is_listed t node ≡ true
listed-held t node o h =
    elim (cases_Bool (is_listed t node)) [
      | inl y ↦ y
      | inr none ↦ absurd (false≢true (sym (ap (λ (q : Queues). has_owner o q.granted) (unlisted-empty t node none)) ∙ h))
    ]

-- where the node was listed, the others are all that can be new
pub listed-before : (old : Table) (node : Node) → is_listed old node ≡ true → (n : Node) → (is_listed old n ≡ true) ⊎ (n ≡ node) → is_listed old n ≡ true
listed-before old node h n (inl y) = y
listed-before old node h n (inr e) = subst (λ (m : Node). is_listed old m ≡ true) (sym e) h
