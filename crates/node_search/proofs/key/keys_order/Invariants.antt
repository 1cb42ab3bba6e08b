use Rattle.std.proofs.Common.{length, ◌-◌, List}
use Rattle.rdb_types.specs.declared.values.Value.{Value}
use Rattle.node_search.specs.Entries.{ShowsKey}
use Rattle.node_search.proofs.Keys.{AreLeft}
use Rattle.node_search.proofs.key.keys_order.Given as goal

abbrev pub invariant-loop-found : goal.invariant-loop-found
invariant-loop-found l = (values others : List Value) → ShowsKey l.a values → ShowsKey l.b others → AreLeft l.a.bytes.now l.b.bytes.now l.at l.other_at values others

abbrev pub decreases-loop-found : goal.decreases-loop-found
decreases-loop-found l = length l.a.bytes.now - l.at
