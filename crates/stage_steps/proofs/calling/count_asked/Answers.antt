use Rattle.std.proofs.Common.{◌∙◌}
use Rattle.stage_steps.proofs.Asked.{none-asked, some-asked}
use Rattle.stage_steps.proofs.calling.count_asked.Goals as goal

pub returns-in-Some : goal.returns-in-Some
returns-in-Some c = c.count_asks.ensures ∙ some-asked c.args.tree.now c.args.s.number c.in-Some.field-0 c.in-Some.ensures

pub returns-in-None : goal.returns-in-None
returns-in-None c = none-asked c.args.tree.now c.args.s.number c.in-None.ensures
