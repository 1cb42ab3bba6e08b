use Rattle.std.proofs.Common.{◌≡◌, ◌∙◌, cond, sym, ap, subst}
use Rattle.std.specs.Result.{IfOk}
use Rattle.rdb_meaning.specs.Selecting.{without_repeats, agree, reduced_fields, reads_of}
use Rattle.rdo_arithmetic.specs.Reducing.{read_alike}
use Rattle.rdo_arithmetic.proofs.Repeats.{read_alike_is}
use Rattle.rdb_evaluation.proofs.reducing.reduced.Goals as goal

pub returns-then-is_reduced : goal.returns-then-is_reduced
returns-then-is_reduced c =
    let cs = c.args.clauses.now in
    let ss = c.args.ranges.now in
    let t = c.args.tables.now in
    let scope = c.args.scope.now in
    let tuples = c.args.tuples in
    let left = without_repeats (λ k l. agree (reduced_fields cs) (reads_of ss t scope k) (reads_of ss t scope l)) tuples in
    subst (λ ts. IfOk c.without_repeats.result (λ kept. kept ≡ ts))
    (ap (without_repeats (read_alike cs ss t scope)) c.as_slice.ensures ∙ read_alike_is cs ss t scope tuples
    ∙ ap (λ b. cond b left tuples) (sym c.if-is_reduced.true ∙ c.is_reduced.ensures))
    c.without_repeats.ensures
