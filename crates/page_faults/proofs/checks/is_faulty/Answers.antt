use Rattle.std.proofs.Common.{◌≡◌, false, IfOk, IsTrue, sym, subst}
use Rattle.page_faults.specs.declared.checks.PageCheck.{PageCheck}
use Rattle.page_faults.specs.Checks.{IsFine}
use Rattle.page_faults.proofs.checks.is_faulty.Goals as goal

pub returns-else-is_space_page-clause-no : goal.returns-else-is_space_page-clause-no
returns-else-is_space_page-clause-no g c =
    let old = g.D.Disk.view c.args.disk.now in
    subst (λ (asked : PageCheck). IfOk c.is_misowned.result (λ faulty. IsTrue old.tells → faulty ≡ false → IsFine old.content asked c.args.file c.args.page)) (sym c.in-Owned.is) c.is_misowned.ensures.no
