use Rattle.page_table.proofs.Fitting.{first_of_all}
use Rattle.page_table.proofs.table.PageTable.next_line.Goals as goal

pub returns-in-Some-clause-found : goal.returns-in-Some-clause-found
returns-in-Some-clause-found c = first_of_all c.args.self.now c.loop-page.page c.args.area c.args.sought c.args.from c.in-Some.key c.loop-page.invariant.1 c.in-Some.ensures.found
