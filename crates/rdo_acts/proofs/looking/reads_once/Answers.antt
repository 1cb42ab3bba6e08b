use Rattle.std.proofs.Common.{sym, ◌∙◌}
use Rattle.rdo_select.proofs.ReadOnce.{once_is}
use Rattle.rdo_acts.proofs.looking.reads_once.Goals as goal

pub returns-else-is_empty : goal.returns-else-is_empty
returns-else-is_empty c = c.is_empty-else-is_empty.ensures ∙ once_is c.args.source.now.indexes.now c.args.tests.now (sym c.is_empty.ensures ∙ c.if-is_empty.false)
