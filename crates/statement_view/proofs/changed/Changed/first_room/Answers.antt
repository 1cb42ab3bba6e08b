use Rattle.std.proofs.Common.{ℕ, List, refl, sym, subst}
use Rattle.line_view.specs.declared.need.Room.{Room}
use Rattle.line_view.specs.Held.{knows}
use Rattle.statement_view.specs.Over.{Over, AreRoomsWritten, ArePassed, room_at}
use Rattle.statement_view.proofs.Steps.{more_passed}
use Rattle.statement_view.proofs.changed.Changed.first_room.Goals as goal

pub invariant_of-self : goal.invariant_of-self
invariant_of-self c = subst (λ (notes : List (Room × ℕ)). ArePassed (knows c.self.inside.known.now) c.self.inside.lines.entries notes) (sym c.in_err-_before.ensures.err) c.self.invariant

pub invariant_of-self-2 : goal.invariant_of-self-2
invariant_of-self-2 c =
    more_passed (knows c.self.inside.known.now) c.self.inside.lines.entries c.self.inside.passed.entries c.insert.new.self.entries (room_at c.args.area c.args.class 0) c.in-Some.nth c.self.invariant
    (subst (λ (o : Over). AreRoomsWritten (knows o.base) o.lines c.args.area c.args.class c.in-Some.nth) (sym c.self.view_is) (c.in-Some.ensures.first refl)) c.in_ok-_before.ensures.entries
