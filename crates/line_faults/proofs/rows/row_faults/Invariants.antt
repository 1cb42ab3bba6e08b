use Rattle.line_faults.proofs.Sifted.{Sifts}
use Rattle.line_faults.proofs.rows.row_faults.Given as goal

abbrev pub invariant-loop-key : goal.invariant-loop-key
invariant-loop-key g l = Sifts (g.V.View.knows l.view) l.relation l.fn.faults l.initial.key-iterator l.key-iterator l.faults
