use Rattle.stored_rows.proofs.OneKey.{same_on}
use Rattle.stored_rows.proofs.keys.have_one_key.Goals as goal

pub loop-position-preserved : goal.loop-position-preserved
loop-position-preserved c = same_on c.args.positions.now c.args.one.now c.args.other.now c.loop-position.position-index c.is_same_at.result _ c.loop-position-test.true c.is_same_at.ensures c.if-not-is_same_at.false c.loop-position.invariant
