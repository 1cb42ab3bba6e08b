use Rattle.std.proofs.Common.{rules, Some, None}
use Rattle.memory_store.proofs.Laying.{laid-one}
use Rattle.memory_store.proofs.lines.lay.Goals as goal
use Rattle.memory_store.proofs.lines.lay.Goals.{in-Some+in_ok-put-in-Some, in-None}

pub loop-key-preserved : goal.loop-key-preserved
loop-key-preserved c = elim c.match-shown_image.branch [
  | in-Some+in_ok-put-in-Some w ↦ laid-one c.args.own.now c.loop-key.key-index c.loop-key-item.result c.args.lines.now c.loop-key.lines _ (Some w.in-Some.image) c.loop-key-test.true c.loop-key-item.is c.loop-key.invariant (search rules) (search rules)
  | in-None w ↦ laid-one c.args.own.now c.loop-key.key-index c.loop-key-item.result c.args.lines.now c.loop-key.lines _ None c.loop-key-test.true c.loop-key-item.is c.loop-key.invariant (search rules) (search rules)
]
