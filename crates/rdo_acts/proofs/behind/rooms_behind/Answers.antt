use Rattle.std.proofs.Common.{List, ap, subst}
use Rattle.line_view.specs.declared.need.Need.{Need}
use Rattle.rdo_bind.specs.Acting.{act_of}
use Rattle.index_ahead.specs.Added.{AddsOnly}
use Rattle.rdo_acts.specs.Looking.{IsRoomWithin}
use Rattle.rdo_acts.proofs.WantedBehind.{rooms_wanted}
use Rattle.rdo_acts.proofs.behind.rooms_behind.Goals as goal

pub returns-clause-wanted : goal.returns-clause-wanted
returns-clause-wanted c ta shown bound =
    rooms_wanted ta c.args.sight.sources.now.entries (act_of c.args.action.now) c.args.room c.rows_ahead-more.result (λ n less. c.rows_ahead-more.ensures ta n shown bound less) c.add_rooms.new.self.needs
    (subst (λ (ns : List Need). AddsOnly (IsRoomWithin c.args.room c.rows_ahead-more.result) ns c.add_rooms.new.self.needs) (ap (λ b. b.needs) c.new-batch.ensures) c.in_ok-add_rooms.ensures.only)
