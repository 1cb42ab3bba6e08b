use Rattle.std.proofs.Common.{◌≡◌, map, take, drop}
use Rattle.std.specs.List.{All}
use Rattle.rdb_meaning.specs.Checks.{first_refusal, clause_names}
use Rattle.rdo_values.specs.Rows.{variables_of}
use Rattle.rdo_values.specs.Selections.{written_clause, IsBoundClause}
use Rattle.rdo_bind.proofs.selection.bind_clauses.Given as goal

abbrev pub invariant-loop-clause : goal.invariant-loop-clause
invariant-loop-clause l = record {
  names : first_refusal (λ c. clause_names c l.tables l.scope) l.clauses ≡ first_refusal (λ c. clause_names c l.tables l.scope) (drop l.clause-index l.clauses);
  written : map written_clause l.bound ≡ take l.clause-index l.clauses;
  bound : All (IsBoundClause l.tables (variables_of l.scope)) l.bound;
}
