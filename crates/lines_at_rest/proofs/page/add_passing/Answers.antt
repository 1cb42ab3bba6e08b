use Rattle.lines_at_rest.proofs.Left.{adds_nothing}
use Rattle.lines_at_rest.proofs.page.add_passing.Goals as goal

pub returns-else-is_of : goal.returns-else-is_of
returns-else-is_of c = adds_nothing c.args.held.now c.args.page.now c.args.file c.args.area c.args.number c.args.found.now (c.is_of.ensures.no c.if-is_of.false)
