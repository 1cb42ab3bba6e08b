use Rattle.index_ahead.specs.Added.{AddsOnly, IsIn}
use Rattle.rdo_acts.proofs.looking.add_rows.Given as goal

abbrev pub invariant-loop-row : goal.invariant-loop-row
invariant-loop-row l = AddsOnly (IsIn l.rows) l.fn.keys.keys l.keys.keys
