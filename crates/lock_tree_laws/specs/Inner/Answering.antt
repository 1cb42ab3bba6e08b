-- How a request is answered at one node, and what it leaves.
use Rattle.std.specs.Prelude.{◌≡◌, ℕ, Bool, true, false, List, [], ◌∷◌, ◌++◌}
use Rattle.vms_queues.specs.Modes.{at_most}
use Rattle.vms_locks.specs.Table.{Table, queues_at, IsLive}
use Rattle.lock_needs.specs.declared.need.Need.{Need}
use Rattle.lock_needs.specs.declared.party.OpenWant.{OpenWant}
use Rattle.lock_needs.specs.Party.{Party}
use Rattle.lock_needs.specs.Wants.{mode_for, kept_at}
use Rattle.lock_tree_laws.specs.LockTable.{granted_at, sought_at, RaisedAt, HasIntents}
use Rattle.vms_locks.specs.Answers.{Answers}
use Rattle.vms_locks.specs.declared.answer.Enq.{Enq}
use Rattle.vms_locks.specs.declared.answer.Enq.TheVariants.{Granted, Asleep, NotQueued, Deadlock}
use Rattle.lock_tree_laws.specs.Forest.{Parties, party_of}
use Rattle.lock_tree_laws.specs.Parties.{IsKept, wanting, resting, unasked, asked_at, KeepsOthers}
use Rattle.lock_tree_laws.specs.Asking.{AnswersAt, request_at, asked_mode, NoneIsDue, whole_mode}
use Rattle.lock_tree_laws.specs.Progress.{IsServedAt}
use Rattle.lock_tree_laws.specs.Order.{StandsByNeeds, MakesWay}

-- whatever needs the owner has, it now has the second want open in place of the first, and has nothing queued at its node
abbrev pub StandsStill : ℕ → OpenWant → OpenWant → Table → Table → Type 0
StandsStill owner w v old new = (ws : List Need) → IsKept old owner (wanting ws w) → IsKept new owner (wanting ws v) × (sought_at new owner v.here ≡ granted_at new owner v.here)

abbrev pub was_granted : Enq → Bool
was_granted Granted = true
was_granted answer = false

-- each answer with what it leaves of the owner that asked for its want, of which it has these needs
abbrev pub TakesAnswer : Table → ℕ → List Need → OpenWant → Bool → Enq → Type 0
TakesAnswer new owner ws w wait Granted = IsKept new owner (wanting ws (asked_at w w.here)) × (at_most (mode_for w.need w.here) (granted_at new owner w.here) ≡ true)
TakesAnswer new owner ws w wait Asleep = IsKept new owner (wanting ws (asked_at w w.here)) × (wait ≡ true)
TakesAnswer new owner ws w wait (NotQueued blocker) = IsKept new owner (wanting ws (unasked w)) × (wait ≡ false)
TakesAnswer new owner ws w wait (Deadlock cycle) = IsKept new owner (wanting ws (unasked w)) × (wait ≡ true)

-- The owner, of which this is the party, made way, and stands in the way by its needs if it did before.
pub record ComesDown (owner : ℕ) (p : Party) (old new : Table) : Type 0 where
  pub way : MakesWay owner old new
  pub stands : StandsByNeeds old owner p → StandsByNeeds new owner p
  pub kept : IsKept new owner p
  pub intents : HasIntents new
  pub others : KeepsOthers owner old new

-- The owner's want asked its mode at its node, over the table to which the owner had come down, where its own lock was no stronger
-- than it had to be and no notice was due.
pub record AsksAt (ps : Parties) (owner : ℕ) (w : OpenWant) (wait : Bool) (old new : Table) (answer : Enq) : Type 0 where
  pub before : Table
  pub down : ComesDown owner (party_of ps owner) old before
  pub least : at_most (granted_at before owner w.here) (kept_at (granted_at before owner) (party_of ps owner) w.here) ≡ true
  pub none_due : NoneIsDue before ps owner w
  pub exact : Answers before new owner w.here wait (request_at before owner w.here (asked_mode before owner w)) answer
  pub left : AnswersAt before new owner w.here (asked_mode before owner w) wait answer
  pub served : IsServedAt owner (party_of ps owner) w.here old before
  pub live : IsLive (queues_at new)

-- whatever needs the owner has, it has got the need of its want, and nothing is open
abbrev pub TakesWhole : ℕ → OpenWant → Table → Table → Type 0
TakesWhole owner w old new = (ws : List Need) → IsKept old owner (wanting ws (unasked w)) → IsKept new owner (resting (ws ++ w.need ∷ []))

-- The owner's lock at the node of its want was raised to the least mode that joins it and the want's whole need, at a moment when
-- the queues were sound and settled.
pub record HasTakenWhole (owner : ℕ) (w : OpenWant) (old new : Table) : Type 0 where
  pub live : IsLive (queues_at old)
  pub live_after : IsLive (queues_at new)
  pub exact : Answers old new owner w.here false (request_at old owner w.here (whole_mode old owner w)) Granted
  pub raised : RaisedAt old new owner w.here (whole_mode old owner w)
