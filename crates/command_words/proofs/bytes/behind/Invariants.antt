use Rattle.std.proofs.Common.{◌≡◌, length}
use Rattle.command_words.specs.Bytes.{behind}
use Rattle.command_words.proofs.bytes.behind.Given as goal

abbrev pub invariant-loop-name : goal.invariant-loop-name
invariant-loop-name l = behind l.name l.rest ≡ behind l.fn.name l.fn.word

abbrev pub decreases-loop-name : goal.decreases-loop-name
decreases-loop-name l = length l.name
