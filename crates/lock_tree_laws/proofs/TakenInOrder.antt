-- A whole need that is granted where nothing is queued keeps the order.
use Rattle.std.proofs.Common.{◌≡◌, ℕ, ◌++◌, ◌∷◌, [], false, refl, subst}
use Rattle.vms_queues.specs.Modes.{least_above}
use Rattle.vms_locks.specs.Table.{Table, queues_at}
use Rattle.lock_needs.specs.declared.party.OpenWant.{OpenWant}
use Rattle.lock_needs.specs.Needs.{is_covered}
use Rattle.lock_needs.proofs.ModeTables.{join-left}
use Rattle.lock_tree_laws.specs.LockTable.{granted_at}
use Rattle.std.specs.Prelude.{Some}
use Rattle.lock_tree_laws.specs.Parties.{resting, unasked}
use Rattle.lock_tree_laws.specs.Forest.{State, IsWhole, party_of, opened_of}
use Rattle.lock_tree_laws.specs.Inner.Answering.{HasTakenWhole}
use Rattle.lock_tree_laws.specs.Wanted.{IsClear, needs_of}
use Rattle.lock_tree_laws.specs.Order.{MakesWay, StandsByNeeds}
use Rattle.lock_tree_laws.proofs.Changes.{sought-unqueued}
use Rattle.lock_tree_laws.proofs.WayMade.{taken-used}
use Rattle.lock_tree_laws.proofs.StepsInOrder.{stands-got}
use Rattle.lock_tree_laws.proofs.AnsweredInOrder.{whole-way}
use Rattle.lock_tree_laws.proofs.Whole.{live-of, least-of}
use Rattle.lock_tree_laws.proofs.Opened.{as-open, kept-open}

module _ (s : State) (new : Table) (owner : ℕ) (w : OpenWant) (whole : IsWhole s) where
  module _ (bare : is_covered (granted_at s.table owner) w.need ≡ false) (taken : HasTakenWhole owner w s.table new) (clear : IsClear s.table w.here) where
    pub taken-way : MakesWay owner s.table new
    taken-way =
        let held = granted_at s.table owner w.here in
        whole-way s.table new owner w.here (least_above held w.need.mode) (live-of s whole) (λ u. sought-unqueued u (queues_at s.table w.here) (clear u))
        (taken-used (granted_at s.table owner) w.need held (least_above held w.need.mode) bare refl) (join-left held w.need.mode) taken.exact.0 taken.exact.1 taken.live_after

  pub taken-stands : opened_of s owner ≡ Some (unasked w) → is_covered (granted_at s.table owner) w.need ≡ false → HasTakenWhole owner w s.table new → IsClear s.table w.here → StandsByNeeds new owner (resting (needs_of s owner ++ w.need ∷ []))
  taken-stands opened bare taken clear =
      stands-got s.table new owner (needs_of s owner) (unasked w) (taken-way bare taken clear) (kept-open s owner (unasked w) whole opened).way
      (subst (StandsByNeeds s.table owner) (as-open (party_of s.parties owner) (unasked w) opened) (least-of s owner whole))
