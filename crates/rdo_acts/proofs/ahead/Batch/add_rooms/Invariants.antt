use Rattle.line_view.specs.declared.need.Need.{Need}
use Rattle.line_view.specs.Held.{knows}
use Rattle.rdo_acts.specs.Ahead.{AreAheadTo}
use Rattle.index_ahead.specs.Added.{AddsOnly}
use Rattle.rdo_acts.specs.Looking.{IsRoomWithin}
use Rattle.rdo_acts.proofs.ahead.Batch.add_rooms.Given as goal

abbrev pub invariant-loop-step : goal.invariant-loop-step
invariant-loop-step l = record {
  ahead : (first : Need) → AreAheadTo (knows l.known) first l.fn.self.needs l.fn.self.last → AreAheadTo (knows l.known) first l.self.needs l.self.last;
  only : AddsOnly (IsRoomWithin l.room l.more) l.fn.self.needs l.self.needs;
}
