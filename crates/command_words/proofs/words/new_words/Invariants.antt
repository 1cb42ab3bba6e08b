use Rattle.std.proofs.Common.{◌≡◌, length}
use Rattle.command_words.specs.Words.{new_words}
use Rattle.command_words.specs.Options.{nothing_asked, IsAsked}
use Rattle.command_words.proofs.words.new_words.Given as goal

abbrev pub invariant-loop-rest : goal.invariant-loop-rest
invariant-loop-rest l = (new_words l.asked l.rest ≡ new_words nothing_asked l.fn.words) × IsAsked l.asked

abbrev pub decreases-loop-rest : goal.decreases-loop-rest
decreases-loop-rest l = length l.rest
