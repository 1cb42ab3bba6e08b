use Rattle.std.proofs.Common.{rules, ◌≡◌, subst}
use Rattle.rdo_ast.specs.Tree.{said, start_read_write}
use Rattle.rdo_ast.specs.Views.{uttered_of}
use Rattle.line_view.specs.Held.{knows}
use Rattle.reserved_locks.specs.declared.locks.Unnamed.{Unnamed}
use Rattle.reserved_locks.specs.declared.locks.Unnamed.TheVariants.{Lacking}
use Rattle.reserved_locks.specs.Reserved.{IsUnnamed}
use Rattle.job_steps.proofs.Kept.{reserved-of, lacks-one}
use Rattle.job_steps.proofs.reserving.locks_of.Goals as goal

pub returns-in-Ok-clause-reserved : goal.returns-in-Ok-clause-reserved
returns-in-Ok-clause-reserved g c =
    let begins : uttered_of c.args.item.now ≡ said (start_read_write c.in-Statement-StartReadWrite.field-0-0 c.as_slice.result.now) = search rules in
    reserved-of g.S.Statements.stands g.met.S.Statements.orderly c.args.terms.now c.args.item.now _ _ c.in-Ok.locks begins (c.is_begun.ensures c.if-not-is_begun.false) c.in-Ok.ensures.locks c.in-Ok.ensures.areas

pub returns-in-Err-clause-lacking : goal.returns-in-Err-clause-lacking
returns-in-Err-clause-lacking g c = λ need is.
    let begins : uttered_of c.args.item.now ≡ said (start_read_write c.in-Statement-StartReadWrite.field-0-0 c.as_slice.result.now) = search rules in
    let why : c.in-Err.why ≡ Lacking need = cc in
    lacks-one g.S.Statements.stands g.met.S.Statements.orderly c.args.terms.now c.args.item.now _ c.as_slice.result.now need begins (c.is_begun.ensures c.if-not-is_begun.false) (subst (λ (w : Unnamed). IsUnnamed g.S.Statements.stands (knows c.args.terms.now.known) c.as_slice.result.now w) why c.in-Err.ensures.cause)
