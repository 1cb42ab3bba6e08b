use Rattle.std.proofs.Common.{◌≡◌, ◌++◌, drop}
use Rattle.rdo_select.specs.Ordered.{reduced_row}
use Rattle.rdo_select.proofs.reducing.values_of.Given as goal

abbrev pub invariant-loop-clause : goal.invariant-loop-clause
invariant-loop-clause l = reduced_row l.clauses l.row ≡ l.values ++ reduced_row (drop l.clause-index l.clauses) l.row
