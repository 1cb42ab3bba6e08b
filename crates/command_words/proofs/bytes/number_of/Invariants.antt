use Rattle.std.proofs.Common.{◌≡◌, ◌<◌, ◌^◌, drop}
use Rattle.command_words.specs.Bytes.{digits_from}
use Rattle.command_words.proofs.bytes.number_of.Given as goal

abbrev pub invariant-loop-d : goal.invariant-loop-d
invariant-loop-d l = (l.value < 2 ^ 63) × (digits_from l.value (drop l.d-index l.digits) ≡ digits_from 0 l.digits)
