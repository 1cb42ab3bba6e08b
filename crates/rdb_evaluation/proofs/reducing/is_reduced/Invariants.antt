use Rattle.std.proofs.Common.{◌≡◌, drop}
use Rattle.rdb_meaning.specs.Selecting.{is_reduced}
use Rattle.rdb_evaluation.proofs.reducing.is_reduced.Given as goal

abbrev pub invariant-loop-clause : goal.invariant-loop-clause
invariant-loop-clause l = is_reduced l.clauses ≡ is_reduced (drop l.clause-index l.clauses)
