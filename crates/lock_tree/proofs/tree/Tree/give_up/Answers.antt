use Rattle.std.proofs.Common.{◌≡◌, ◌∙◌, ap, subst, true}
use Rattle.std.specs.Prelude.{is_some}
use Rattle.lock_needs.specs.Party.{Party}
use Rattle.lock_tree_laws.specs.Forest.{State, opened_of, party_of}
use Rattle.lock_tree.specs.States.{state_of}
use Rattle.lock_tree_laws.specs.Progress.{Falls, LeavesLocks}
use Rattle.lock_tree_laws.specs.LockTable.{KeepsLocks}
use Rattle.lock_tree_laws.proofs.ByRule.{keeps-way}
use Rattle.lock_tree_laws.proofs.MeasureFalls.{closed-falls}
use Rattle.lock_tree.proofs.tree.Tree.give_up.Goals as goal

pub returns-in-Some-clause-others : goal.returns-in-Some-clause-others
returns-in-Some-clause-others c = λ u d. c.close_want.ensures.others u d ∙ ap (λ (s : State). party_of s.parties u) c.self.view_is

pub returns-in-Some-clause-falls : goal.returns-in-Some-clause-falls
returns-in-Some-clause-falls c =
    let s : State = state_of c.self.inside.parts in
    let r : State = state_of c.close_want.new.self in
    subst (λ (z : State). is_some (opened_of z c.args.owner) ≡ true → Falls c.args.owner z r) c.self.view_is
    (λ open_. closed-falls s r c.args.owner (record { parties = c.close_want.ensures.others; locks = c.close_want.ensures.locks }) open_ (ap (λ (p : Party). p.opened) c.close_want.ensures.ended))

pub returns-in-Some-clause-locks : goal.returns-in-Some-clause-locks
returns-in-Some-clause-locks c =
    let new = c.close_want.new.self.locks in
    subst (λ (s : State). KeepsLocks c.args.owner s.table new) c.self.view_is (keeps-way c.args.owner c.self.inside.parts.locks new c.close_want.ensures.way)

pub returns-in-Some-clause-no_weaker : goal.returns-in-Some-clause-no_weaker
returns-in-Some-clause-no_weaker c = subst (λ (s : State). LeavesLocks c.args.owner s.table c.close_want.new.self.locks) c.self.view_is c.close_want.ensures.locks
