use Rattle.index_rows.proofs.InTurn.{AreRead}
use Rattle.index_rows.proofs.reading.rows_at.Given as goal

abbrev pub invariant-loop-key : goal.invariant-loop-key
invariant-loop-key g l = AreRead (g.V.View.knows l.view) l.relation l.initial.key-iterator l.key-iterator l.rows
