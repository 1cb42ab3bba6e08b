use Rattle.std.proofs.Common.{◌≡◌, ◌+◌, length}
use Rattle.rdo_parser.specs.Places.{line_len}
use Rattle.rdo_parser.proofs.place.line_len.Given as goal

abbrev pub invariant-loop-text : goal.invariant-loop-text
invariant-loop-text l = (l.len + line_len l.text ≡ line_len l.initial.text) × (l.len + length l.text ≡ length l.initial.text)

abbrev pub decreases-loop-text : goal.decreases-loop-text
decreases-loop-text l = length l.text
