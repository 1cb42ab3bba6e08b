use Rattle.std.proofs.Common.{◌≡◌, ◌+◌, length, false}
use Rattle.rdo_tokens.specs.Lex.{closing}
use Rattle.rdo_tokens.proofs.lex.closing.Given as goal

abbrev pub invariant-loop-text : goal.invariant-loop-text
invariant-loop-text l = (closing l.quote l.is_second l.at l.text ≡ closing l.quote false 1 l.initial.text) × (l.at + length l.text ≡ length l.initial.text + 1)

abbrev pub decreases-loop-text : goal.decreases-loop-text
decreases-loop-text l = length l.text
