use Rattle.std.proofs.Common.{◌≡◌, ◌≤◌, length}
use Rattle.rdo_tokens.specs.Lex.{skip_from}
use Rattle.rdo_tokens.proofs.lex.skip.Given as goal

abbrev pub invariant-loop-text : goal.invariant-loop-text
invariant-loop-text l = (skip_from 0 l.text ≡ skip_from 0 l.initial.text) × (length l.text ≤ length l.initial.text)

abbrev pub decreases-loop-text : goal.decreases-loop-text
decreases-loop-text l = length l.text
