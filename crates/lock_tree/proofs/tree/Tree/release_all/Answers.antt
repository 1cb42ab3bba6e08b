use Rattle.std.proofs.Common.{◌≡◌, refl, sym, ◌∙◌, ap, subst, true, arith}
use Rattle.std.proofs.lemmas.Bool.{false≢true}
use Rattle.std.specs.Prelude.{is_some}
use Rattle.vms_queues.specs.declared.lock_mode.Mode.{Mode}
use Rattle.vms_queues.specs.Modes.{may_share}
use Rattle.lock_needs.specs.Party.{Party}
use Rattle.lock_tree_laws.specs.LockTable.{sought_at, KeepsLocks}
use Rattle.lock_tree_laws.specs.Forest.{State, idle, opened_of, party_of}
use Rattle.lock_tree_laws.specs.Progress.{Falls, LeavesLocks}
use Rattle.lock_tree_laws.proofs.ByRule.{keeps-way}
use Rattle.lock_tree_laws.proofs.HeldModes.{nothing-shares}
use Rattle.lock_tree_laws.proofs.KeptPlaces.{places-closed}
use Rattle.lock_tree_laws.proofs.MeasureFalls.{way-leaves, closed-falls}
use Rattle.lock_tree_laws.proofs.OpenAsks.{opened-ended}
use Rattle.lock_tree_laws.proofs.Whole.{whole-ended}
use Rattle.lock_tree.proofs.tree.Tree.release_all.Goals as goal

pub invariant_of-self : goal.invariant_of-self
invariant_of-self c =
    let s : State = record { table = c.self.inside.parts.locks; parties = c.self.inside.parts.parties.entries; trail = c.self.inside.parts.trail.items } in
    let r : State = record { table = c.release_owner.new.locks; parties = c.forget.new.parties.entries; trail = c.self.inside.parts.trail.items } in
    whole-ended s r c.args.owner idle
    c.self.invariant c.release_owner.ensures.intents c.release_owner.ensures.others c.forget.ensures.own c.release_owner.ensures.kept c.forget.ensures.others tt (λ u n d. refl)
    c.release_owner.ensures.way
    (λ a n d f. absurd (false≢true (sym f ∙ (ap (λ (m : Mode). may_share m (sought_at r.table a n)) (c.release_owner.ensures.none n) ∙ nothing-shares (sought_at r.table a n)))))
    refl
    (opened-ended (party_of s.parties) (party_of r.parties) c.args.owner c.forget.ensures.others (ap (λ (p : Party). is_some p.opened) c.forget.ensures.own) s.trail)
    (omega (arith, places-closed c.args.owner s.parties r.parties c.forget.ensures.others (ap (λ (p : Party). p.opened) c.forget.ensures.own), c.self.invariant.room, c.release_owner.ensures.spare))

pub returns-in-Some-clause-falls : goal.returns-in-Some-clause-falls
returns-in-Some-clause-falls c =
    let s : State = record { table = c.self.inside.parts.locks; parties = c.self.inside.parts.parties.entries; trail = c.self.inside.parts.trail.items } in
    let r : State = record { table = c.release_owner.new.locks; parties = c.forget.new.parties.entries; trail = c.self.inside.parts.trail.items } in
    subst (λ (z : State). is_some (opened_of z c.args.owner) ≡ true → Falls c.args.owner z r) c.self.view_is
    (λ open_. closed-falls s r c.args.owner
    (record { parties = c.forget.ensures.others; locks = way-leaves s.table r.table c.args.owner c.self.invariant.intents c.release_owner.ensures.way })
    open_ (ap (λ (p : Party). p.opened) c.forget.ensures.own))

pub returns-in-Some-clause-locks : goal.returns-in-Some-clause-locks
returns-in-Some-clause-locks c =
    let new = c.release_owner.new.locks in
    subst (λ (s : State). KeepsLocks c.args.owner s.table new) c.self.view_is (keeps-way c.args.owner c.self.inside.parts.locks new c.release_owner.ensures.way)

pub returns-in-Some-clause-no_weaker : goal.returns-in-Some-clause-no_weaker
returns-in-Some-clause-no_weaker c =
    let old = c.self.inside.parts.locks in
    let new = c.release_owner.new.locks in
    subst (λ (s : State). LeavesLocks c.args.owner s.table new) c.self.view_is (way-leaves old new c.args.owner c.self.invariant.intents c.release_owner.ensures.way)
