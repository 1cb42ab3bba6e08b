use Rattle.node_search.proofs.Entries.{begins}
use Rattle.node_search.proofs.Nodes.{listed}
use Rattle.node_search.proofs.node.first_entry.Goals as goal

pub returns : goal.returns
returns c = λ shown holds. begins c.args.node.level c.args.node.bytes.now 4 c.entry_at.result shown.entries c.entry_at.ensures.found c.entry_at.ensures.none (listed c.args.node shown holds)
