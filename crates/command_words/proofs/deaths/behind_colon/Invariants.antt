use Rattle.std.proofs.Common.{◌≡◌, ◌≤◌, length}
use Rattle.command_words.specs.Deaths.{behind_colon}
use Rattle.command_words.proofs.deaths.behind_colon.Given as goal

abbrev pub invariant-loop-rest : goal.invariant-loop-rest
invariant-loop-rest l = (behind_colon l.rest ≡ behind_colon l.fn.text) × (length l.rest ≤ length l.fn.text)

abbrev pub decreases-loop-rest : goal.decreases-loop-rest
decreases-loop-rest l = length l.rest
