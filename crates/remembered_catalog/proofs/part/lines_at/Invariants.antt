use Rattle.line_view.specs.Held.{knows}
use Rattle.remembered_catalog.specs.Part.{AreKnown}
use Rattle.remembered_catalog.proofs.part.lines_at.Given as goal

abbrev pub invariant-loop-key : goal.invariant-loop-key
invariant-loop-key l = AreKnown (knows l.known) l.lines
