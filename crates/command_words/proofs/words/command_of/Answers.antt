use Rattle.std.proofs.Common.{ap, sym, ◌∙◌}
use Rattle.command_words.specs.Words.{rdo_words}
use Rattle.command_words.proofs.LastWords.{are_last, all_behind}
use Rattle.command_words.proofs.words.command_of.Goals as goal

pub returns-in-Some-clause-allowed : goal.returns-in-Some-clause-allowed
returns-in-Some-clause-allowed c =
    are_last c.args.words.now c.in-Some.scripts c.in-len1-up.len_at_least
    (ap rdo_words (sym (all_behind c.args.words.now)) ∙ sym c.rdo_words.ensures ∙ c.in-Some.is)

pub returns-else-is_new-clause-allowed : goal.returns-else-is_new-clause-allowed
returns-else-is_new-clause-allowed c = c.other_command.ensures.allowed c.args.words.now
