use Rattle.std.proofs.Common.{◌∙◌, sym, subst}
use Rattle.line_view.specs.Held.{Held, knows}
use Rattle.kept_apart.specs.Alike.{IsGuarded}
use Rattle.given_rooms.proofs.Learning.{room-guarded}
use Rattle.given_rooms.proofs.rooms.learn_one.Goals as goal

pub returns-in_ok-learn_room-clause-guarded : goal.returns-in_ok-learn_room-clause-guarded
returns-in_ok-learn_room-clause-guarded c got guarded =
    subst (λ (h : Held). IsGuarded got (knows h)) (sym c.in_ok-learn_room.ensures.ok) (room-guarded got c.args.known.now c.args.room c.args.key (sym c.is_known_absent.ensures ∙ c.if-is_known_absent.true) guarded)
