use Rattle.std.proofs.Common.{◌≡◌, ◌-◌}
use Rattle.std.specs.Prelude.{slice_get}
use Rattle.line_view.specs.Held.{knows}
use Rattle.statement_view.specs.Over.{rooms_left, AreRoomsWritten}
use Rattle.statement_view.proofs.Steps.{left_from}
use Rattle.statement_view.proofs.changed.Changed.known_number.Given as goal

abbrev pub invariant-loop-nth : goal.invariant-loop-nth
invariant-loop-nth l = record {
  left : slice_get (left_from (4294967295 - l.nth) (knows l.self.base) l.self.lines l.room.area l.room.class l.nth) l.left ≡ slice_get (rooms_left (knows l.self.base) l.self.lines l.room.area l.room.class) l.room.nth;
  first : l.room.nth ≡ 0 → (l.left ≡ 0) × AreRoomsWritten (knows l.self.base) l.self.lines l.room.area l.room.class l.nth;
}
