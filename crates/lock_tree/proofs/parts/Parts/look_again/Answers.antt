use Rattle.std.proofs.Common.{◌∙◌, ap, subst}
use Rattle.lock_needs.specs.declared.need.Need.{Need}
use Rattle.lock_needs.specs.Party.{Party}
use Rattle.lock_tree_laws.specs.Forest.{State}
use Rattle.lock_tree_laws.specs.Rule.{Finishes, GoesDown}
use Rattle.lock_tree_laws.proofs.ByRule.{goes-none, goes-then}
use Rattle.lock_tree.proofs.RoomKept.{room-start}
use Rattle.lock_tree.specs.States.{state_of}
use Rattle.lock_tree_laws.proofs.MeasureFalls.{never-moves}
use Rattle.lock_tree.proofs.parts.Parts.look_again.Goals as goal

pub go_down-requires-clause-room : goal.go_down-requires-clause-room
go_down-requires-clause-room c = room-start c.args.owner c.stand.new.self c.in-Down.next.here.level (c.in-Down.ensures.room 4 c.requires.room)

pub returns-in-Down-clause-progress : goal.returns-in-Down-clause-progress
returns-in-Down-clause-progress c =
    never-moves (state_of c.args.self.now) (state_of c.stand.new.self) (state_of c.go_down.new.self) c.args.owner c.in-Down.ensures.progress c.go_down.result c.go_down.ensures.progress

pub returns-in-Down-clause-others : goal.returns-in-Down-clause-others
returns-in-Down-clause-others c = λ u d. c.go_down.ensures.others u d ∙ c.stand.ensures.others u d

pub returns-in-Down-clause-went : goal.returns-in-Down-clause-went
returns-in-Down-clause-went c =
    let s : State = state_of c.args.self.now in
    let step = c.in-Down.ensures.step in
    goes-then c.args.owner c.args.want.need c.args.wait _ s (state_of c.stand.new.self) (state_of c.go_down.new.self) (ap (λ (p : Party). p.needs) step.0)
    (goes-none c.args.owner c.args.want.need c.args.wait _ s (state_of c.stand.new.self) (ap (λ v. v.items) c.stand.ensures.trail) c.in-Down.ensures.finish)
    (subst (λ (n : Need). GoesDown c.args.owner n c.args.wait (Finishes c.args.owner c.go_down.result) (state_of c.stand.new.self) (state_of c.go_down.new.self)) step.2 c.go_down.ensures.went)

pub returns-in-Ends-clause-went : goal.returns-in-Ends-clause-went
returns-in-Ends-clause-went c =
    goes-none c.args.owner c.args.want.need c.args.wait _ (state_of c.args.self.now) (state_of c.stand.new.self) (ap (λ v. v.items) c.stand.ensures.trail) c.in-Ends.ensures.finish
