use Rattle.std.proofs.Common.{subst}
use Rattle.vms_queues.specs.declared.lock_mode.Mode.{Mode}
use Rattle.rdb_types.specs.declared.node.Level.TheVariants.{Area, Range, Page}
use Rattle.lock_needs.specs.Index.{AddsBelow}
use Rattle.lock_needs.proofs.Indexing.{index-added, is_over}
use Rattle.lock_needs.proofs.index.add_need.Goals as goal

pub returns : goal.returns
returns c = λ needs index.
    index-added needs c.args.need c.args.index.now.entries c.add_on.new.index.entries c.add_above.new.index.entries c.add_above-2.new.index.entries c.add_above-3.new.index.entries
    c.add_on.ensures.adds
    (subst (λ (m : Mode). AddsBelow c.add_on.new.index.entries c.add_above.new.index.entries (is_over Area c.args.need.node) m) c.intent.ensures c.add_above.ensures.adds)
    (subst (λ (m : Mode). AddsBelow c.add_above.new.index.entries c.add_above-2.new.index.entries (is_over Range c.args.need.node) m) c.intent-2.ensures c.add_above-2.ensures.adds)
    (subst (λ (m : Mode). AddsBelow c.add_above-2.new.index.entries c.add_above-3.new.index.entries (is_over Page c.args.need.node) m) c.intent-3.ensures c.add_above-3.ensures.adds)
    index
