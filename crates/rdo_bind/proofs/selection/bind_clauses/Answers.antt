use Rattle.std.proofs.Common.{◌∙◌, sym, ap, subst, map, refl}
use Rattle.std.specs.List.{All}
use Rattle.rdb_meaning.specs.Checks.{first_refusal, clause_names}
use Rattle.rdo_values.specs.Rows.{variables_of}
use Rattle.rdo_values.specs.Selections.{written_clause, IsBoundClause}
use Rattle.rdo_bind.proofs.Lists.{names_more, written_same, all_more}
use Rattle.rdo_bind.proofs.selection.bind_clauses.Goals as goal

pub loop-clause-preserved : goal.loop-clause-preserved
loop-clause-preserved c =
    let inv = c.loop-clause.invariant in
    let i = c.loop-clause.clause-index in
    let y = c.clause-item.result in
    let ys = c.args.clauses.now in
    let tables = c.args.tables.now in
    let scope = c.args.scope.now in
    let pushed = c.in_ok-push.ensures.ok in
    record {
      names = names_more (first_refusal (λ c. clause_names c tables scope)) ys i y _ _ c.loop-clause-test.true c.clause-item.is inv.names refl c.in_ok-bind_clause.ensures.names;
      written = ap (map written_clause) pushed ∙ written_same written_clause _ _ ys i y inv.written c.loop-clause-test.true c.clause-item.is c.in_ok-bind_clause.ensures.written;
      bound = subst (All (IsBoundClause tables (variables_of scope))) (sym pushed) (all_more (IsBoundClause tables (variables_of scope)) _ _ inv.bound c.in_ok-bind_clause.ensures.bound);
    }
