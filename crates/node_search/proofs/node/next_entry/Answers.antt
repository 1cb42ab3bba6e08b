use Rattle.node_search.proofs.Entries.{begins}
use Rattle.node_search.proofs.node.next_entry.Goals as goal

pub returns-clause-further : goal.returns-clause-further
returns-clause-further c = λ entry entries begin. begins c.args.node.level c.args.node.bytes.now c.args.found.end c.entry_at.result entries c.entry_at.ensures.found c.entry_at.ensures.none begin.1
