use Rattle.std.specs.BTreeSet.{IsFromIterResult}
use Rattle.std.proofs.lemmas.Iterator.{YieldsList-from_slice}
use Rattle.std.proofs.lemmas.Iterator.Adapters.{fact_from_collect}
use Rattle.std.proofs.lemmas.Iterator.Consumers.{YieldsList-from_copied}
use Rattle.rdb_types.specs.Order.{dbkey_order}
use Rattle.index_rows.proofs.reading.in_order.Goals as goal

pub returns : goal.returns
returns c = fact_from_collect (IsFromIterResult dbkey_order) c.collect.result c.collect.ensures.ran (YieldsList-from_copied (YieldsList-from_slice c.args.found.now cc))
