use Rattle.std.proofs.Common.{List, ap, sym, ◌∙◌, take}
use Rattle.line_view.specs.declared.writes.Write.{Write}
use Rattle.line_view.specs.Knowledge.{Lines}
use Rattle.line_view.specs.Writes.{laid_all}
use Rattle.member_memory.specs.Memory.{writes_in}
use Rattle.memory_store.specs.Landed.{landed_on}
use Rattle.memory_store.proofs.Laying.{one-landed-more}
use Rattle.memory_store.proofs.committed.lay_landed.Goals as goal

pub loop-batch-preserved : goal.loop-batch-preserved
loop-batch-preserved c =
    let before = landed_on (take c.loop-batch.batch-index c.args.landed.now) c.args.lines.now in
    c.in_ok-lay.ensures.ok
    ∙ (ap (λ (ls : Lines). laid_all (writes_in c.lines.result.now) ls) c.loop-batch.invariant
    ∙ (ap (λ (ws : List Write). laid_all ws before) (ap writes_in c.lines.ensures.value ∙ c.batch.view_is)
    ∙ sym (one-landed-more c.args.landed.now c.loop-batch.batch-index c.batch-item.result c.args.lines.now c.loop-batch-test.true c.batch-item.is)))
