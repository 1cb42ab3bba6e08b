use Rattle.std.proofs.Common.{◌≡◌, drop}
use Rattle.rdb_meaning.specs.Checks.{first_refusal, clause_names}
use Rattle.rdb_checks.proofs.action_names.check_clauses_names.Given as goal

abbrev pub invariant-loop-clause : goal.invariant-loop-clause
invariant-loop-clause l =
    first_refusal (λ c. clause_names c l.tables l.scope) l.clauses
    ≡ first_refusal (λ c. clause_names c l.tables l.scope) (drop l.clause-index l.clauses)
