-- What the lock table answers, by the modes that owners hold and ask.
use Rattle.std.proofs.Common.{◌≡◌, ℕ, Bool, true, false, sym, ap, subst}
use Rattle.std.specs.Prelude.{if◌then◌else◌, Some, None}
use Rattle.std.proofs.lemmas.Bool.{or_parts}
use Rattle.rdb_types.specs.declared.node.Node.{Node}
use Rattle.vms_queues.specs.declared.lock_mode.Mode.{Mode}
use Rattle.vms_queues.specs.Modes.{at_most}
use Rattle.vms_queues.specs.Queues.{has_owner, mode_in, is_queued}
use Rattle.vms_locks.specs.Table.{Table, queues_at, IsLive, IsAwake}
use Rattle.vms_locks.specs.Answers.{Answers, asking, converting}
use Rattle.vms_locks.specs.declared.answer.Enq.{Enq}
use Rattle.vms_locks.specs.declared.answer.Enq.TheVariants.{Granted, Asleep, NotQueued, Deadlock}
use Rattle.lock_tree_laws.specs.Inner.Releasing.{IsQuiet}
use Rattle.lock_needs.specs.declared.party.OpenWant.{OpenWant}
use Rattle.lock_tree_laws.specs.Forest.{Parties}
use Rattle.lock_tree_laws.specs.Inner.Answering.{AsksAt}
use Rattle.lock_tree_laws.specs.Asking.{request_at, HasCause, AnswersAt}
use Rattle.lock_tree_laws.proofs.Changes.{quiet-at, queued-at, changed-request, changed-conversion}
use Rattle.lock_tree_laws.proofs.Conditions.{absent-quiet, asked-law, converted-law}

-- who asks nowhere more than it holds is awake
pub quiet-awake : (t : Table) (owner : ℕ) → IsLive (queues_at t) → IsQuiet t owner → IsAwake (queues_at t) owner
quiet-awake t owner live quiet x = quiet-at t t owner x live (quiet x)

module _ (old new : Table) (owner : ℕ) (n : Node) (mode : Mode) (wait : Bool) (live : IsLive (queues_at old)) (quiet : IsQuiet old owner) where
  unqueued-here : is_queued owner (queues_at old n) ≡ false
  unqueued-here = quiet-at old old owner n live (quiet n)

  pub request-answered : mode_in owner (queues_at old n).granted ≡ None → (answer : Enq) → Answers old new owner n wait (asking (queues_at old n) owner mode) answer → AnswersAt old new owner n mode wait answer
  request-answered none Granted h = asked-law old new owner n mode live unqueued-here none h.1
  request-answered none Asleep h = (
    h.1,
    queued-at old new owner n (asking (queues_at old n) owner mode).queued h.3 mode
        (changed-request (queues_at old n) owner mode (absent-quiet old new owner n mode live unqueued-here none)),
  )
  request-answered none (NotQueued b) h = (h.1, h.3)
  request-answered none (Deadlock c) h = (h.1, h.3)

  pub conversion-answered : (held : Mode) → mode_in owner (queues_at old n).granted ≡ Some held → at_most held mode ≡ true → (answer : Enq) → Answers old new owner n wait (converting (queues_at old n) owner mode) answer → AnswersAt old new owner n mode wait answer
  conversion-answered held has ascends Granted h = converted-law old new owner n mode live unqueued-here held has ascends h.0 h.1
  conversion-answered held has ascends Asleep h = (
    h.1,
    queued-at old new owner n (converting (queues_at old n) owner mode).queued h.3 mode
        (changed-conversion (queues_at old n) owner mode (or_parts (has_owner owner (queues_at old n).converting) (has_owner owner (queues_at old n).waiting) unqueued-here).0),
  )
  conversion-answered held has ascends (NotQueued b) h = (h.1, h.3)
  conversion-answered held has ascends (Deadlock c) h = (h.1, h.3)

-- ---- the request as it is put

pub request-converts : (t : Table) (owner : ℕ) (n : Node) (mode : Mode) → has_owner owner (queues_at t n).granted ≡ true → request_at t owner n mode ≡ converting (queues_at t n) owner mode
request-converts t owner n mode h = ap (λ (b : Bool). if b then converting (queues_at t n) owner mode else asking (queues_at t n) owner mode) h

pub request-asks : (t : Table) (owner : ℕ) (n : Node) (mode : Mode) → has_owner owner (queues_at t n).granted ≡ false → request_at t owner n mode ≡ asking (queues_at t n) owner mode
request-asks t owner n mode h = ap (λ (b : Bool). if b then converting (queues_at t n) owner mode else asking (queues_at t n) owner mode) h

-- a refusal by its cause
pub cause-of : (ps : Parties) (owner : ℕ) (w : OpenWant) (wait : Bool) (old new : Table) (answer : Enq) → AsksAt ps owner w wait old new answer → HasCause new ps owner w answer
cause-of ps owner w wait old new Granted a = tt
cause-of ps owner w wait old new Asleep a = tt
cause-of ps owner w wait old new (NotQueued b) a = subst (λ (t : Table). HasCause t ps owner w (NotQueued b)) (sym a.exact.3) (a.exact.2, a.none_due)
cause-of ps owner w wait old new (Deadlock c) a = subst (λ (t : Table). HasCause t ps owner w (Deadlock c)) (sym a.exact.3) (a.exact.2, a.none_due)
