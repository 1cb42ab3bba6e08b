use Rattle.std.proofs.Common.{drop}
use Rattle.line_view.specs.Held.{knows}
use Rattle.remembered_catalog.specs.Part.{AreKnown}
use Rattle.remembered_catalog.proofs.part.are_known.Given as goal

-- if what is left is known, all is
abbrev pub invariant-loop-key : goal.invariant-loop-key
invariant-loop-key l = AreKnown (knows l.known) (drop l.key-index l.lines) → AreKnown (knows l.known) l.lines
