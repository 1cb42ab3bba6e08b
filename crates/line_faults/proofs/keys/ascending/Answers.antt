use Rattle.std.proofs.Common.{refl}
use Rattle.line_faults.proofs.Learnt.{one_ordered}
use Rattle.line_faults.proofs.keys.ascending.Goals as goal

pub loop-key-preserved : goal.loop-key-preserved
loop-key-preserved c = one_ordered c.args.keys.now c.loop-key.set.keys c.insert.new.self.keys c.loop-key.key-index _ _ c.loop-key-test.true refl c.in_ok-_is_new.ensures.keys c.loop-key.invariant
