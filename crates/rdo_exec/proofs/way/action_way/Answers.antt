use Rattle.std.proofs.Common.{sym, ◌∙◌}
use Rattle.rdo_exec.proofs.way.action_way.Goals as goal

pub returns-else-names_relation : goal.returns-else-names_relation
returns-else-names_relation c = c.names_relation.ensures.ranges c.if-names_relation.false (sym c.is_bare.ensures ∙ c.if-is_bare.false)
