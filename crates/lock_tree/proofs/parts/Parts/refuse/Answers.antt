use Rattle.std.proofs.Common.{refl, subst}
use Rattle.lock_tree_laws.specs.Parties.{IsKept}
use Rattle.lock_tree_laws.specs.Forest.{State}
use Rattle.lock_tree.specs.States.{state_of}
use Rattle.lock_tree_laws.specs.Wanted.{needs_of}
use Rattle.lock_tree_laws.specs.Order.{StandsByNeeds}
use Rattle.lock_tree_laws.proofs.WayMade.{way-none}
use Rattle.lock_tree_laws.proofs.Whole.{least-of}
use Rattle.lock_tree_laws.proofs.Opened.{whole-noted}
use Rattle.lock_tree.proofs.parts.Parts.refuse.Goals as goal

pub returns-clause-whole : goal.returns-clause-whole
returns-clause-whole c =
    let s : State = state_of c.close_want.new.self in
    let r : State = record { table = c.close_want.new.self.locks; parties = c.close_want.new.self.parties.entries; trail = c.note_ask.new.trail.items } in
    whole-noted s r c.args.owner c.args.want.here (needs_of (state_of c.args.self.now) c.args.owner) c.close_want.ensures.whole c.close_want.ensures.whole.intents (λ u q d k. k)
    (subst (IsKept c.close_want.new.self.locks c.args.owner) c.close_want.ensures.ended (c.close_want.ensures.whole.kept c.args.owner)) c.close_want.ensures.ended (λ u d. refl) c.note_ask.ensures.trail
    (way-none c.args.owner c.close_want.new.self.locks) (subst (StandsByNeeds c.close_want.new.self.locks c.args.owner) c.close_want.ensures.ended (least-of s c.args.owner c.close_want.ensures.whole))
    c.close_want.ensures.whole.room
