use Rattle.line_view.specs.Held.{knows}
use Rattle.statement_view.specs.Over.{AreRoomsKnown}
use Rattle.statement_view.proofs.changed.Changed.lacks.Given as goal

abbrev pub invariant-loop-nth : goal.invariant-loop-nth
invariant-loop-nth l = AreRoomsKnown (knows l.self.base) l.area l.class l.nth
