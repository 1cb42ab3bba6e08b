-- Where nothing is queued, and the whole need shares with what others hold, it is granted at once.
use Rattle.std.proofs.Common.{◌≡◌, ℕ, inl, inr, true, false, Bool, refl, ◌∙◌, sym, ap, subst}
use Rattle.std.specs.Prelude.{Option, Some, None, unwrap_or, nat_eq, if◌then◌else◌, ◌&&◌}
use Rattle.std.specs.List.{list_any, IsDistinct}
use Rattle.std.proofs.lemmas.Bool.{false≢true, cases_Bool, and_parts, eq-eqb}
use Rattle.std.proofs.lemmas.Cmp.{nat_eq_equiv}
use Rattle.std.proofs.lemmas.List.Folds.{Any-from_list_any}
use Rattle.std.proofs.lemmas.Map.Views.{lookup-from_Contains}
use Rattle.std.specs.Map.{keys_of}
use Rattle.rdb_types.specs.declared.node.Node.{Node}
use Rattle.vms_queues.specs.declared.lock_mode.Mode.{Mode}
use Rattle.vms_queues.specs.declared.lock_mode.Mode.TheVariants.{NL}
use Rattle.vms_queues.specs.Modes.{may_share}
use Rattle.vms_queues.specs.Queues.{Queues, has_owner, is_queued}
use Rattle.vms_locks.specs.Table.{Table, queues_at, IsLive}
use Rattle.vms_locks.specs.Answers.{Request, Answers}
use Rattle.vms_locks.specs.declared.answer.Enq.{Enq}
use Rattle.lock_needs.specs.declared.party.OpenWant.{OpenWant}
use Rattle.lock_needs.specs.Party.{Party}
use Rattle.lock_needs.specs.Wants.{sleeps_at}
use Rattle.lock_needs.proofs.NodeLaws.{same_node-true, same_node-refl}
use Rattle.lock_needs.specs.Nodes.{same_node}
use Rattle.lock_tree_laws.specs.LockTable.{granted_at, IsFree, BarsNobody, RaisedAt}
use Rattle.lock_tree_laws.specs.Parties.{IsKept}
use Rattle.lock_tree_laws.specs.Forest.{Parties, idle, party_of}
use Rattle.lock_tree_laws.specs.Inner.Answering.{was_granted}
use Rattle.lock_tree_laws.specs.Asking.{request_at, whole_mode}
use Rattle.lock_tree_laws.specs.Wanted.{IsClear, MayTakeWhole, someone_sleeps}
use Rattle.lock_tree_laws.proofs.QueueModes.{mode-absent}
use Rattle.lock_tree_laws.proofs.Changes.{sought-unqueued, shares-live}
use Rattle.lock_tree_laws.proofs.Conditions.{fits-free, grantable-free, grantable-granted}
use Rattle.lock_tree_laws.proofs.Answered.{request-converts, request-asks}
use Rattle.lock_tree_laws.proofs.Sleepers.{sleeping-queued}

-- what shares with all that others hold is grantable where nothing is queued
clear-grantable : (t : Table) (owner : ℕ) (n : Node) (mode : Mode) → IsLive (queues_at t) → IsClear t n → IsFree t owner n mode → (request_at t owner n mode).grantable ≡ true
clear-grantable t owner n mode live clear free =
    let q : Queues = queues_at t n in
    let bars : BarsNobody t owner n mode = λ u d s. subst (λ (y : Mode). may_share mode y ≡ true) (sym (sought-unqueued u q (clear u))) (free u d) in
    elim (cases_Bool (has_owner owner q.granted)) [
      | inl has ↦ ap (λ (r : Request). r.grantable) (request-converts t owner n mode has) ∙ fits-free t owner n mode live free bars
      | inr none ↦ ap (λ (r : Request). r.grantable) (request-asks t owner n mode none)
          ∙ grantable-free t owner n mode live free bars (ap (λ (x : Option Mode). unwrap_or x NL) (mode-absent owner q.granted none))
    ]

-- the whole need is granted where it may be taken
pub whole-granted : (old new : Table) (owner : ℕ) (w : OpenWant) (mode : Mode) → mode ≡ whole_mode old owner w → IsLive (queues_at old) → MayTakeWhole old owner w → (answer : Enq) → Answers old new owner w.here false (request_at old owner w.here mode) answer → was_granted answer ≡ true
whole-granted old new owner w mode is live may answer h =
    grantable-granted old new owner w.here false (request_at old owner w.here mode) answer
    (clear-grantable old owner w.here mode live may.clear (subst (IsFree old owner w.here) (sym is) may.free)) h

-- an owner of which an entry is true, where each has one entry
entry-true : (f : ℕ → Party → Bool) (ps : Parties) → IsDistinct nat_eq (keys_of ps) → list_any (λ e. f e.0 e.1) ps ≡ true → (u : ℕ) × (f u (party_of ps u) ≡ true)
entry-true f ps distinct h =
    let a = Any-from_list_any (λ (e : ℕ × Party). f e.0 e.1) ps h in
    let e : ℕ × Party = a.1 in
    (e.0, subst (λ (o : Option Party). f e.0 (unwrap_or o idle) ≡ true) (sym (lookup-from_Contains nat_eq_equiv e.0 e.1 ps distinct (a.0, a.2, a.3))) a.4)

-- where somebody sleeps something is queued
pub crowded-queued : (t : Table) (ps : Parties) → IsDistinct nat_eq (keys_of ps) → ((u : ℕ) → IsKept t u (party_of ps u)) → (n : Node) → someone_sleeps t n ps ≡ true → (u : ℕ) × (is_queued u (queues_at t n) ≡ true)
crowded-queued t ps distinct kept n h =
    let found = entry-true (λ u p. sleeps_at (granted_at t u) p.opened n) ps distinct h in
    (found.0, sleeper found.0 (party_of ps found.0) (kept found.0) (party_of ps found.0).opened refl found.1)
  where
    sleeper : (u : ℕ) (p : Party) → IsKept t u p → (o : Option OpenWant) → p.opened ≡ o → sleeps_at (granted_at t u) o n ≡ true → is_queued u (queues_at t n) ≡ true
    sleeper u p k None e s = absurd (false≢true s)
    sleeper u p k (Some w) e s =
        let at : n ≡ w.here = same_node-true n w.here (and_parts _ _ s).0 in
        subst (λ (x : Node). is_queued u (queues_at t x) ≡ true) (sym at) (sleeping-queued t u p w k e (subst (λ (x : Node). sleeps_at (granted_at t u) (Some w) x ≡ true) at s))

-- what was raised shares with all that others hold
pub whole-free : (old new : Table) (owner : ℕ) (n : Node) (mode : Mode) → IsLive (queues_at new) → RaisedAt old new owner n mode → IsFree old owner n mode
whole-free old new owner n mode live r u d =
    let held = granted_at old owner n in
    let own : granted_at new owner n ≡ mode =
    r.granted owner n ∙ (ap (λ (b : Bool). if b && same_node n n then mode else held) (eq-eqb owner owner refl) ∙ ap (λ (b : Bool). if b then mode else held) (same_node-refl n)) in
    let other : granted_at new u n ≡ granted_at old u n = r.granted u n ∙ ap (λ (b : Bool). if b && same_node n n then mode else granted_at old u n) d in
    subst (λ (m : Mode). may_share m (granted_at old u n) ≡ true) own
    (subst (λ (m : Mode). may_share (granted_at new owner n) m ≡ true) other (shares-live new new owner n live owner u d n))
