use Rattle.std.proofs.Common.{arith}
use Rattle.std.proofs.lemmas.Grind.{common_steps}
use Rattle.rdo_acts.proofs.RowsStored.{stores_more_by}
use Rattle.rdo_acts.proofs.looking.stores_into.Goals as goal

pub loop-action-preserved : goal.loop-action-preserved
loop-action-preserved c =
    let more = stores_more_by c.args.body.now c.loop-action.action-index c.action-item.result c.args.area c.loop-action-test.true c.action-item.is in
    grind (arith, common_steps)
