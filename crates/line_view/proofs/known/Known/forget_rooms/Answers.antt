use Rattle.std.proofs.Common.{subst, sym, rules}
use Rattle.line_view.specs.Knowledge.{Agrees}
use Rattle.line_view.specs.Held.{knows, without_rooms}
use Rattle.line_view.proofs.Agreements.{no_room_agrees}
use Rattle.line_view.proofs.known.Known.forget_rooms.Goals as goal

pub returns-clause-agrees : goal.returns-clause-agrees
returns-clause-agrees c = λ all agrees. subst (λ h. Agrees (knows h) all) {x = without_rooms c.args.self.now} (sym (search rules)) (no_room_agrees c.args.self.now all agrees)
