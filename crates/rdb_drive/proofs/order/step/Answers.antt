use Rattle.std.proofs.Common.{arith}
use Rattle.rdb_drive.proofs.Steps.{computed, said, went, mourns_came}
use Rattle.rdb_drive.proofs.order.step.Goals as goal

pub returns-in-Compute : goal.returns-in-Compute
returns-in-Compute g c = computed _ _ _ _ _ c.in-Compute.ensures

pub returns-then-before-answered : goal.returns-then-before-answered
returns-then-before-answered g c = said _ _ _ _ c.in-Moved.ensures (omega (arith, c.answered-before.ensures, c.answered.ensures, c.if-before-answered.true))

pub returns-else-before-answered : goal.returns-else-before-answered
returns-else-before-answered g c = went _ _ _ _ c.in-Moved.ensures (omega (arith, c.answered-before.ensures, c.answered.ensures, c.if-before-answered.false))

pub returns-in-Frozen : goal.returns-in-Frozen
returns-in-Frozen g c = mourns_came _ _ _ _ _ _ c.in-Frozen.ensures c.recover.ensures
