use Rattle.catalog_lines.proofs.Positions.{positions_more, length_more}
use Rattle.catalog_lines.proofs.parts.positions_at.Goals as goal

pub loop-n-preserved : goal.loop-n-preserved
loop-n-preserved c =
    let l = c.loop-n in
    rw c.in_ok-push.ensures.ok (record {
      count = length_more l.positions c.u16_at.result l.n l.invariant.count;
      stand = positions_more c.args.at l.n l.positions c.u16_at.result c.args.bytes.now l.invariant.count l.invariant.stand c.u16_at.ensures;
    })
