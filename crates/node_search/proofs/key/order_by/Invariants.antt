use Rattle.std.proofs.Common.{drop, List}
use Rattle.rdb_types.specs.declared.values.Value.{Value}
use Rattle.node_search.specs.Entries.{ShowsKey}
use Rattle.node_search.proofs.Keys.{IsLeft}
use Rattle.node_search.proofs.key.order_by.Given as goal

abbrev pub invariant-loop-other : goal.invariant-loop-other
invariant-loop-other l = (values : List Value) → ShowsKey l.key values → IsLeft l.more l.key.bytes.now l.at values l.others (drop l.other-index l.others)
