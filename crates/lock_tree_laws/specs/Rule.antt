-- The rule by which a want goes down: at each node it takes its whole need where that can be granted at once, else it asks its mode.
use Rattle.std.specs.Prelude.{◌≡◌, ℕ, Bool, true, false, List, [], ◌∷◌, ◌++◌, map, ◌⊎◌}
use Rattle.std.specs.List.{AllByRecursion}
use Rattle.rdb_types.specs.declared.node.Node.{Node}
use Rattle.vms_queues.specs.Modes.{at_most}
use Rattle.vms_locks.specs.Table.{Table}
use Rattle.vms_locks.specs.Answers.{Answers}
use Rattle.vms_locks.specs.declared.answer.Enq.{Enq}
use Rattle.lock_needs.specs.declared.need.Need.{Need}
use Rattle.lock_needs.specs.declared.party.OpenWant.{OpenWant}
use Rattle.lock_needs.specs.Nodes.{is_on}
use Rattle.lock_needs.specs.Needs.{is_covered}
use Rattle.lock_needs.specs.Wants.{kept_at}
use Rattle.lock_tree_laws.specs.LockTable.{granted_at, RaisedAt}
use Rattle.lock_tree_laws.specs.Parties.{IsKept, wanting}
use Rattle.lock_tree_laws.specs.Forest.{State}
use Rattle.lock_tree_laws.specs.Asking.{AnswersAt, request_at, asked_mode, whole_mode}
use Rattle.lock_tree_laws.specs.Order.{MakesWay}
use Rattle.lock_tree_laws.specs.Wanted.{MayTakeWhole, asks_for, needs_of, trail_of_want}
use Rattle.lock_tree_laws.specs.declared.answer.Want.{Want}
use Rattle.lock_tree_laws.specs.declared.answer.Want.TheVariants.{NoticeTo, Conflict, Deadlock}

-- The want took its whole need at its node, where nothing was queued and the need could be granted at once.
pub record TookWhole (owner : ℕ) (w : OpenWant) (old new : Table) : Type 0 where
  pub may : MayTakeWhole old owner w
  pub raised : RaisedAt old new owner w.here (whole_mode old owner w)

-- The want asked its mode at its node, where the whole need couldn't be granted at once. Before that its owner's lock there had come
-- down to what must be kept, at the node and below it alone.
pub record AskedMode (owner : ℕ) (ws : List Need) (w : OpenWant) (wait : Bool) (old new : Table) : Type 0 where
  pub not_whole : MayTakeWhole old owner w → ⊥
  pub before : Table
  pub way : MakesWay owner old before
  pub elsewhere : (x : Node) → is_on w.here x ≡ false → granted_at before owner x ≡ granted_at old owner x
  pub kept : IsKept before owner (wanting ws w)
  pub least : at_most (granted_at before owner w.here) (kept_at (granted_at before owner) (wanting ws w) w.here) ≡ true
  pub answer : Enq
  pub exact : Answers before new owner w.here wait (request_at before owner w.here (asked_mode before owner w)) answer
  pub left : AnswersAt before new owner w.here (asked_mode before owner w) wait answer

-- what a want with these needs of its owner, which no lock of it covers, does at its node
pub record IsByRule (owner : ℕ) (ws : List Need) (w : OpenWant) (wait : Bool) (old new : Table) : Type 0 where
  pub uncovered : is_covered (granted_at old owner) w.need ≡ false
  pub asked : TookWhole owner w old new ⊎ AskedMode owner ws w wait old new

-- a node at which a want was asked, and the table that this left
pub record Visit : Type 0 where
  pub node : Node
  pub left : Table

-- the want of the need at the node, where it wasn't asked yet
abbrev pub come_to : Need → Node → OpenWant
come_to need n = record { need = need; here = n; is_asked = false }

-- each of the visits, one after the other, was by the rule, and they lead from the one table to the other
abbrev pub AreByRule : ℕ → List Need → Need → Bool → List Visit → Table → Table → Type 0
AreByRule owner ws need wait [] old new = new.entries ≡ old.entries
AreByRule owner ws need wait (v ∷ vs) old new = IsByRule owner ws (come_to need v.node) wait old v.left × AreByRule owner ws need wait vs v.left new

-- How the table changed behind the last visit: where the need was got or the want sleeps it didn't, else locks of the owner came down.
abbrev pub Finishes : ℕ → Want → Table → Table → Type 0
Finishes owner (NoticeTo t n mode) last new = MakesWay owner last new
Finishes owner (Conflict t) last new = MakesWay owner last new
Finishes owner (Deadlock cycle) last new = MakesWay owner last new
Finishes owner answer last new = new.entries ≡ last.entries

-- The owner's want went down by the rule. Behind what the trail was it was asked at the nodes that it visited, in this order, each on
-- the way to the need's node.
pub record GoesDown (owner : ℕ) (need : Need) (wait : Bool) (ends : Table → Table → Type 0) (s r : State) : Type 0 where
  pub visits : List Visit
  pub trail : r.trail ≡ s.trail ++ asks_for owner (map (λ v. v.node) visits)
  pub way : AllByRecursion (λ n. is_on n need.node ≡ true) (map (λ v. v.node) visits)
  pub last : Table
  pub by_rule : AreByRule owner (needs_of s owner) need wait visits s.table last
  pub finish : ends last r.table

-- the state as the owner's want is open: one that opens was asked nowhere yet
abbrev pub entered : State → ℕ → State
entered s owner = record { table = s.table; parties = s.parties; trail = trail_of_want s owner }
