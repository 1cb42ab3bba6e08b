-- What an owner that asks a mode at a node is answered.
use Rattle.std.specs.Prelude.{◌≡◌, ◌==◌, ℕ, Bool, true, false, if◌then◌else◌, Option, Some, None, List, [], ◌∷◌}
use Rattle.rdb_types.specs.declared.node.Node.{Node}
use Rattle.vms_queues.specs.declared.lock_mode.Mode.{Mode}
use Rattle.vms_queues.specs.Modes.{may_share, least_above}
use Rattle.vms_queues.specs.Queues.{first_of, blockers}
use Rattle.vms_locks.specs.Table.{Table, queues_at}
use Rattle.vms_locks.specs.Answers.{Request, WaitsQueued}
use Rattle.vms_locks.specs.Walks.{IsCycle}
use Rattle.vms_locks.specs.declared.answer.Enq.{Enq}
use Rattle.vms_locks.specs.declared.answer.Enq.TheVariants.{Granted, Asleep, NotQueued, Deadlock}
use Rattle.lock_needs.specs.declared.party.OpenWant.{OpenWant}
use Rattle.lock_needs.specs.Wants.{mode_for, kept_at}
use Rattle.lock_needs.specs.Keeping.{is_excess}
use Rattle.lock_tree_laws.specs.Forest.{Parties, party_of}
use Rattle.lock_tree_laws.specs.LockTable.{granted_at, RaisedAt, QueuedAt}
use Rattle.lock_tree_laws.specs.Order.{requesting}

-- each answer with what it leaves
abbrev pub AnswersAt : Table → Table → ℕ → Node → Mode → Bool → Enq → Type 0
AnswersAt old new owner n mode wait Granted = RaisedAt old new owner n mode
AnswersAt old new owner n mode wait Asleep = (wait ≡ true) × QueuedAt old new owner n mode
AnswersAt old new owner n mode wait (NotQueued blocker) = (wait ≡ false) × (new ≡ old)
AnswersAt old new owner n mode wait (Deadlock cycle) = (wait ≡ true) × (new ≡ old)

-- the owner's request for the mode at the node: for another mode of its lock, where it holds one there
abbrev pub request_at : Table → ℕ → Node → Mode → Request
request_at t owner n mode = requesting (queues_at t n) owner mode

-- the owner's lock at the node is stronger than it has to be
abbrev pub exceeds_at : Table → Parties → Node → ℕ → Bool
exceeds_at t ps n u = is_excess (granted_at t u n) (kept_at (granted_at t u) (party_of ps u) n)

-- the first of these owners whose lock at the node is stronger than it has to be
abbrev pub first_excess : Table → Parties → Node → List ℕ → Option ℕ
first_excess t ps n [] = None
first_excess t ps n (u ∷ us) = if exceeds_at t ps n u then Some u else first_excess t ps n us

-- the least mode that joins the owner's lock at the node of its want and what the want takes there
abbrev pub asked_mode : Table → ℕ → OpenWant → Mode
asked_mode t owner w = least_above (granted_at t owner w.here) (mode_for w.need w.here)

-- nobody's lock at the want's node is in the way of what the want asks there and stronger than it has to be
abbrev pub NoneIsDue : Table → Parties → ℕ → OpenWant → Type 0
NoneIsDue t ps owner w = first_excess t ps w.here (blockers owner (asked_mode t owner w) (queues_at t w.here).granted) ≡ None

-- Why the owner's want was refused at its node, by the grant rule: this owner is the first in its way; once queued it would be on
-- this cycle. No notice is due.
abbrev pub HasCause : Table → Parties → ℕ → OpenWant → Enq → Type 0
HasCause t ps owner w (NotQueued blocker) = (first_of (request_at t owner w.here (asked_mode t owner w)).in_way ≡ Some blocker) × NoneIsDue t ps owner w
HasCause t ps owner w (Deadlock cycle) = IsCycle (WaitsQueued t w.here (request_at t owner w.here (asked_mode t owner w))) owner cycle × NoneIsDue t ps owner w
HasCause t ps owner w answer = Unit {0}

-- the least mode that joins the owner's lock at the node of its want and the whole need
abbrev pub whole_mode : Table → ℕ → OpenWant → Mode
whole_mode t owner w = least_above (granted_at t owner w.here) w.need.mode

-- The lock of u at the want's node is in the way of the mode that the want asks there, and stronger than it has to be; it is the
-- first of those.
pub record IsDue (t : Table) (ps : Parties) (owner : ℕ) (w : OpenWant) (u : ℕ) (mode : Mode) : Type 0 where
  pub asks : mode ≡ asked_mode t owner w
  pub other : (u == owner) ≡ false
  pub in_way : may_share (granted_at t u w.here) mode ≡ false
  pub excess : exceeds_at t ps w.here u ≡ true
  pub first : first_excess t ps w.here (blockers owner mode (queues_at t w.here).granted) ≡ Some u
