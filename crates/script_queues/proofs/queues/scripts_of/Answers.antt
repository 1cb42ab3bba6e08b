use Rattle.script_queues.proofs.Fewness.{few-more}
use Rattle.script_queues.proofs.Growing.{said-more}
use Rattle.script_queues.proofs.queues.scripts_of.Goals as goal

pub loop-text-preserved : goal.loop-text-preserved
loop-text-preserved c =
    let inv = c.loop-text.invariant in
    let old = c.loop-text.scripts.items in
    let new = c.push.new.self.items in
    let x = c.in_ok-script_of.field-0 in record {
      scripts = said-more new old x c.args.texts.now c.text-item.result c.as_slice.result.now c.loop-text.text-index c.in_ok-push.ensures.items inv.scripts
          c.in_ok-script_of.ensures.script c.as_slice.ensures c.loop-text-test.true c.text-item.is;
      few = few-more new old x c.in_ok-push.ensures.items inv.few c.in_ok-script_of.ensures.few;
    }
