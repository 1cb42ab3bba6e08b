use Rattle.std.proofs.Common.{◌≡◌, drop, map}
use Rattle.rdb_meaning.specs.Selecting.{is_reduced}
use Rattle.rdo_values.specs.Selections.{written_clause}
use Rattle.rdo_select.proofs.reducing.is_reduced.Given as goal

abbrev pub invariant-loop-clause : goal.invariant-loop-clause
invariant-loop-clause l = is_reduced (map written_clause l.clauses) ≡ is_reduced (map written_clause (drop l.clause-index l.clauses))
