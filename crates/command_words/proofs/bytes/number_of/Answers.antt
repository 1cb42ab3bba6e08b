use Rattle.std.proofs.Common.{arith}
use Rattle.std.proofs.lemmas.Grind.{common_steps}
use Rattle.command_words.proofs.Digits.{too_large}
use Rattle.command_words.proofs.bytes.number_of.Goals as goal

pub returns-then-next-ge9223372036854775808-clause-none :
    goal.returns-then-next-ge9223372036854775808-clause-none
returns-then-next-ge9223372036854775808-clause-none c =
    too_large c.args.digits.now c.loop-d.d-index c.loop-d.value 9223372036854775808
    (omega arith) c.loop-d.invariant.1 (grind (arith, common_steps))
