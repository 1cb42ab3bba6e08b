use Rattle.std.proofs.Common.{◌∙◌, ap}
use Rattle.vms_queues.specs.Modes.{least_above}
use Rattle.lock_needs.specs.declared.index.Asks.{Asks}
use Rattle.lock_needs.proofs.Indexing.{put-on}
use Rattle.lock_needs.proofs.index.add_on.Goals as goal

pub returns-clause-adds : goal.returns-clause-adds
returns-clause-adds c =
    put-on c.args.index.now.entries c.put.new.index.entries c.args.node _ c.put.ensures.here c.put.ensures.elsewhere c.args.mode (ap (λ (a : Asks). a.below) c.asks_of-asks.ensures)
    (c.join.ensures.table ∙ ap (λ (a : Asks). least_above a.on c.args.mode) c.asks_of-asks.ensures)
