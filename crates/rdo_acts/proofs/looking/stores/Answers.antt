use Rattle.rdo_acts.proofs.RowsStored.{stores_so}
use Rattle.rdo_acts.proofs.looking.stores.Goals as goal

pub returns-in-Store : goal.returns-in-Store
returns-in-Store c same = stores_so c.args.action.now c.in-Store.range c.in-Store.field-1 c.args.area c.in-Store.is same
