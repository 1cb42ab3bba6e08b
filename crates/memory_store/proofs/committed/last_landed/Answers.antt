use Rattle.std.proofs.Common.{List, ap, sym, ◌∙◌, take}
use Rattle.line_view.specs.declared.writes.Write.{Write}
use Rattle.line_view.specs.Knowledge.{Lines, line_in}
use Rattle.line_view.specs.Writes.{laid_all}
use Rattle.memory_store.specs.Landed.{landed_on}
use Rattle.memory_store.proofs.Laying.{one-landed-more}
use Rattle.memory_store.proofs.committed.last_landed.Goals as goal

pub loop-batch-preserved : goal.loop-batch-preserved
loop-batch-preserved c all before =
    let earlier = landed_on (take c.loop-batch.batch-index c.args.landed.now) all in
    c.last_image-image.ensures earlier (c.loop-batch.invariant all before)
    ∙ (ap (λ (ws : List Write). line_in c.args.key (laid_all ws earlier)) c.batch.view_is
    ∙ ap (λ (ls : Lines). line_in c.args.key ls) (sym (one-landed-more c.args.landed.now c.loop-batch.batch-index c.batch-item.result all c.loop-batch-test.true c.batch-item.is)))
