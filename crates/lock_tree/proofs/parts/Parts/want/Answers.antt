use Rattle.std.proofs.Common.{◌≡◌, ◌∙◌, ap, sym, subst, true, false, List}
use Rattle.std.specs.Prelude.{IfOk, is_some}
use Rattle.rdb_types.specs.declared.node.Node.{Node}
use Rattle.vms_queues.specs.Queues.{Queues}
use Rattle.lock_needs.specs.declared.need.Need.{Need}
use Rattle.lock_needs.specs.Needs.{is_covered}
use Rattle.lock_tree_laws.specs.LockTable.{granted_at}
use Rattle.lock_needs.specs.Party.{Party}
use Rattle.lock_tree.specs.States.{state_of}
use Rattle.lock_tree_laws.specs.Wanted.{IsOf, IsLooking, Answered}
use Rattle.lock_tree_laws.proofs.Outcomes.{on_err-any, on_err-more}
use Rattle.lock_tree_laws.proofs.Respared.{whole-room}
use Rattle.lock_tree.proofs.RoomKept.{before-then}
use Rattle.lock_tree_laws.proofs.MeasureFalls.{same-never, never-calls}
use Rattle.lock_tree.proofs.AtOnce.{got-roomy, whole-roomy, went-roomy, went-adds, went-keeps, went-leaves}
use Rattle.lock_tree_laws.specs.Forest.{State}
use Rattle.lock_tree.proofs.parts.Parts.want.Goals as goal

pub returns-in_err-make_room-clause-whole : goal.returns-in_err-make_room-clause-whole
returns-in_err-make_room-clause-whole c = whole-room (state_of c.args.self.now) (state_of c.make_room.new.self) c.make_room.ensures.same.table c.make_room.ensures.spare (ap (λ m. m.entries) c.make_room.ensures.parties) c.make_room.ensures.same.trail c.requires.whole

pub returns-in_err-make_room-clause-err : goal.returns-in_err-make_room-clause-err
returns-in_err-make_room-clause-err c = on_err-any _ c.from_residual.result c.make_room.ensures.same

pub returns-in_err-make_room-clause-others : goal.returns-in_err-make_room-clause-others
returns-in_err-make_room-clause-others c = λ u d. c.make_room.ensures.same.parties u

pub want_in_room-requires-clause-whole : goal.want_in_room-requires-clause-whole
want_in_room-requires-clause-whole c = whole-room (state_of c.args.self.now) (state_of c.make_room.new.self) c.make_room.ensures.same.table c.make_room.ensures.spare (ap (λ m. m.entries) c.make_room.ensures.parties) c.make_room.ensures.same.trail c.requires.whole

pub want_in_room-requires-clause-same : goal.want_in_room-requires-clause-same
want_in_room-requires-clause-same c = subst (λ (p : Party). IsOf c.args.need p.opened) (sym (c.make_room.ensures.same.parties c.args.owner)) c.requires.same

pub returns-clause-answer : goal.returns-clause-answer
returns-clause-answer c =
    subst (λ (ws : List Need). IfOk c.want_in_room.result (Answered ws (state_of c.want_in_room.new.self) c.args.owner c.args.need c.args.wait)) (ap (λ (p : Party). p.needs) (c.make_room.ensures.same.parties c.args.owner)) c.want_in_room.ensures.answer

pub returns-clause-err : goal.returns-clause-err
returns-clause-err c = on_err-more _ _ c.want_in_room.result c.want_in_room.ensures.err (λ after. before-then (state_of c.args.self.now) (state_of c.make_room.new.self) (state_of c.want_in_room.new.self) c.make_room.ensures.same after)

pub returns-clause-others : goal.returns-clause-others
returns-clause-others c = λ u d. c.want_in_room.ensures.others u d ∙ c.make_room.ensures.same.parties u

pub returns-clause-progress : goal.returns-clause-progress
returns-clause-progress c = λ open_.
    never-calls (state_of c.args.self.now) (state_of c.make_room.new.self) (state_of c.want_in_room.new.self) c.args.owner
    (same-never (state_of c.args.self.now) (state_of c.make_room.new.self) c.args.owner c.make_room.ensures.same.table c.make_room.ensures.same.parties)
    c.want_in_room.result (c.want_in_room.ensures.progress (ap (λ (p : Party). is_some p.opened) (c.make_room.ensures.same.parties c.args.owner) ∙ open_))

pub returns-clause-covered : goal.returns-clause-covered
returns-clause-covered c = λ h looking.
    got-roomy (state_of c.args.self.now) (state_of c.make_room.new.self) (state_of c.want_in_room.new.self) c.args.owner c.make_room.ensures.same c.want_in_room.result
    (c.want_in_room.ensures.covered
    (subst (λ (es : List (Node × Queues)). is_covered (granted_at (record { entries = es; spare = c.make_room.new.self.locks.spare }) c.args.owner) c.args.need ≡ true) (sym c.make_room.ensures.same.table) h)
    (subst (λ (p : Party). IsLooking p.opened) (sym (c.make_room.ensures.same.parties c.args.owner)) looking))

pub returns-clause-strong : goal.returns-clause-strong
returns-clause-strong c = λ bare looking.
    whole-roomy (state_of c.args.self.now) (state_of c.make_room.new.self) (state_of c.want_in_room.new.self) c.args.owner c.args.need c.make_room.ensures.same c.want_in_room.result
    (c.want_in_room.ensures.strong
    (subst (λ (es : List (Node × Queues)). is_covered (granted_at (record { entries = es; spare = c.make_room.new.self.locks.spare }) c.args.owner) c.args.need ≡ false) (sym c.make_room.ensures.same.table) bare)
    (subst (λ (p : Party). IsLooking p.opened) (sym (c.make_room.ensures.same.parties c.args.owner)) looking))

pub returns-clause-went : goal.returns-clause-went
returns-clause-went c = went-roomy (state_of c.args.self.now) (state_of c.make_room.new.self) (state_of c.want_in_room.new.self) c.args.owner c.args.need c.args.wait c.make_room.ensures.same c.want_in_room.result c.want_in_room.ensures.went

pub returns-clause-trail : goal.returns-clause-trail
returns-clause-trail c =
    went-adds (state_of c.args.self.now) (state_of c.want_in_room.new.self) c.args.owner c.args.need c.args.wait c.want_in_room.result
    (went-roomy (state_of c.args.self.now) (state_of c.make_room.new.self) (state_of c.want_in_room.new.self) c.args.owner c.args.need c.args.wait c.make_room.ensures.same c.want_in_room.result c.want_in_room.ensures.went)

pub returns-clause-locks : goal.returns-clause-locks
returns-clause-locks c =
    went-keeps (state_of c.args.self.now) (state_of c.want_in_room.new.self) c.args.owner c.args.need c.args.wait c.want_in_room.result
    (went-roomy (state_of c.args.self.now) (state_of c.make_room.new.self) (state_of c.want_in_room.new.self) c.args.owner c.args.need c.args.wait c.make_room.ensures.same c.want_in_room.result c.want_in_room.ensures.went)

pub returns-clause-no_weaker : goal.returns-clause-no_weaker
returns-clause-no_weaker c =
    let s : State = state_of c.args.self.now in
    let r : State = state_of c.want_in_room.new.self in
    went-leaves s r c.args.owner c.requires.whole c.want_in_room.result
    (went-keeps s r c.args.owner c.args.need c.args.wait c.want_in_room.result
    (went-roomy (state_of c.args.self.now) (state_of c.make_room.new.self) (state_of c.want_in_room.new.self) c.args.owner c.args.need c.args.wait c.make_room.ensures.same c.want_in_room.result c.want_in_room.ensures.went))
