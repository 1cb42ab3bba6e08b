use Rattle.std.proofs.Common.{◌∙◌, ◌++◌, ap, subst}
use Rattle.std.specs.List.{All}
use Rattle.rdo_values.specs.Rows.{variables_of}
use Rattle.rdo_values.specs.Selections.{IsBoundClause}
use Rattle.rdo_bind.proofs.Lists.{variables_behind, ranges_written}
use Rattle.rdo_bind.proofs.selection.bind_selection.Goals as goal

pub returns-clause-bound : goal.returns-clause-bound
returns-clause-bound c =
    let scope = c.args.scope.now in
    let ranges = c.as_slice.ensures ∙ ranges_written _ c.args.selection.now.inner c.in_ok-inner.ensures.written in
    let variables = ap variables_of (c.as_slice-2.ensures ∙ c.in_ok-within.ensures) ∙ variables_behind _ scope ∙ ap (λ ss. variables_of scope ++ ss) ranges in (
      c.in_ok-inner.ensures.bound,
      subst (λ vs. All (IsBoundClause c.args.tables.now vs) c.in_ok-clauses.clauses) variables c.in_ok-clauses.ensures.bound,
    )
