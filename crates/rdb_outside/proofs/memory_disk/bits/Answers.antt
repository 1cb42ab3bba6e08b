use Rattle.std.proofs.Common.{arith, ◌∙◌}
use Rattle.std.proofs.lemmas.List.{length-set}
use Rattle.rdb_outside.proofs.Bits.{bits_step}
use Rattle.rdb_outside.proofs.memory_disk.bits.Goals as goal

pub loop-j-preserved : goal.loop-j-preserved
loop-j-preserved c = record {
  all = length-set c.loop-j.bits c.loop-j.j _ ∙ c.loop-j.invariant.all;
  each = bits_step c.args.pick c.loop-j.bits c.loop-j.j c.loop-j-test.true (omega (arith, c.loop-j-test.true, c.loop-j.invariant.all)) c.loop-j.invariant.each;
}
