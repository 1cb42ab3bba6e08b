use Rattle.std.proofs.Common.{◌∙◌, ap, Ok}
use Rattle.rdb_page.proofs.Checking.{refused}
use Rattle.rdb_page.proofs.whole.check_page.Goals as goal

pub returns-else-has_lines-clause-refused : goal.returns-else-has_lines-clause-refused
returns-else-has_lines-clause-refused c = refused c.args.page.now c.args.file c.args.number c.read_head.result c.in-Some.head (c.in_ok-head.was ∙ ap Ok c.in-Some.is) c.read_head.ensures.unused.1 c.read_head.ensures.again (c.has_lines.ensures.no c.if-has_lines.false)
