use Rattle.std.proofs.Common.{Bool, ◌∙◌, ap, sym}
use Rattle.std.specs.Prelude.{◌&&◌}
use Rattle.rdb_types.specs.declared.node.Node.{Node}
use Rattle.vms_queues.specs.Modes.{least_above}
use Rattle.lock_needs.specs.declared.index.Asks.{Asks}
use Rattle.lock_needs.specs.Nodes.{same_node, on_way}
use Rattle.lock_needs.proofs.Indexing.{put-below, is_over}
use Rattle.lock_needs.proofs.index.add_above.Goals as goal

pub returns-then-is_above-clause-adds : goal.returns-then-is_above-clause-adds
returns-then-is_above-clause-adds c =
    put-below c.args.index.now.entries c.put.new.index.entries c.on_way-at.result _ c.put.ensures.here c.put.ensures.elsewhere c.args.mode (is_over c.args.level c.args.node)
    (λ n. ap (λ (b : Bool). b && same_node n (on_way c.args.level c.args.node)) (sym c.is_above.ensures ∙ c.if-is_above.true) ∙ ap (λ (x : Node). same_node n x) (sym c.on_way-at.ensures))
    (c.join.ensures.table ∙ ap (λ (a : Asks). least_above a.below c.args.mode) c.asks_of-asks.ensures) (ap (λ (a : Asks). a.on) c.asks_of-asks.ensures)
