use Rattle.sound_lines.proofs.RowsRead.{Reads}
use Rattle.sound_lines.proofs.rows.read_rows.Given as goal

abbrev pub invariant-loop-key : goal.invariant-loop-key
invariant-loop-key g l = Reads (g.V.View.knows l.view) l.relation l.initial.key-iterator l.key-iterator l.rows
