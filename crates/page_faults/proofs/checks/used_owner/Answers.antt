use Rattle.std.proofs.Common.{Option, IfSome, subst}
use Rattle.rdb_page.specs.declared.head.Head.{Head}
use Rattle.rdb_page.specs.Page.{StandsAs}
use Rattle.page_faults.proofs.Reading.{has_owner}
use Rattle.page_faults.proofs.checks.used_owner.Goals as goal

pub returns-in-Ok-clause-some : goal.returns-in-Ok-clause-some
returns-in-Ok-clause-some c =
    let bytes = c.args.bytes.now in
    let stands : StandsAs bytes c.args.file c.args.page c.in-Ok-Some.head = subst (λ (o : Option Head). IfSome o (StandsAs bytes c.args.file c.args.page)) c.in-Ok-Some.field-0-is c.in-Ok-Some.ensures.found in
    has_owner c.args.file c.args.page bytes c.in-Ok-Some.head c.in-Ok.ensures.whole stands
