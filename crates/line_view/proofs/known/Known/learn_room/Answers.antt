use Rattle.std.proofs.Common.{sym, ap, subst, ◌∙◌}
use Rattle.std.specs.FinMap.Entries.{find}
use Rattle.line_view.specs.Knowledge.{Agrees}
use Rattle.line_view.specs.Held.{AreRooms, knows, room_order}
use Rattle.line_view.proofs.Agreements.{room_agrees}
use Rattle.line_view.proofs.Steps.{room_learnt, are_rooms}
use Rattle.line_view.proofs.known.Known.learn_room.Goals as goal

pub invariant_of-self-2 : goal.invariant_of-self-2
invariant_of-self-2 c = are_rooms c.self.inside.rooms.entries c.insert.new.self.entries c.args.room c.args.key c.self.invariant c.in_ok-_before.ensures.entries c.requires.within
    (λ other found. c.requires.apart other (ap (λ h. find room_order other h.rooms) (sym c.self.view_is) ∙ found))

pub returns-clause-ok : goal.returns-clause-ok
returns-clause-ok c = room_learnt _ _ c.self.inside.rooms.entries c.insert.new.self.entries c.args.self.now c.args.room c.args.key c.self.view_is c.in_ok-_before.ensures.entries

pub returns-clause-agrees : goal.returns-clause-agrees
returns-clause-agrees c = λ all agrees none.
    subst (λ h. Agrees (knows h) all) (sym (returns-clause-ok c))
    (room_agrees c.args.self.now c.args.room c.args.key (subst (λ h. AreRooms h.rooms) (returns-clause-ok c) (invariant_of-self-2 c)) all agrees none)
