use Rattle.std.proofs.Common.{arith, ◌∙◌}
use Rattle.script_streams.proofs.Writing.{more_written, still_within}
use Rattle.script_streams.proofs.write.write_all.Goals as goal

pub loop-at-preserved : goal.loop-at-preserved
loop-at-preserved g c =
    let told = c.loop-at.invariant.1 in (
      still_within c.args.bytes.now c.loop-at.at c.in-Ok.count c.loop-at.invariant.0 c.in-Ok.ensures.bound,
      c.in-Ok.ensures.told ∙ told,
      (λ h. more_written c.args.bytes.now _ _ _ c.loop-at.at c.in-Ok.count (c.loop-at.invariant.2 h) (c.in-Ok.ensures.added (told ∙ h))),
      omega (arith, c.in-Ok.ensures.later),
    )
