use Rattle.std.proofs.Common.{rules, tests, Ok, ◌∙◌}
use Rattle.std.proofs.lemmas.Iterator.{items_from_collect, YieldsList-from_slice}
use Rattle.std.proofs.lemmas.Iterator.Consumers.{YieldsList-from_filter_map, YieldsList-at}
use Rattle.command_words.specs.Options.{number_in}
use Rattle.command_words.proofs.copies.numbers_of.Goals as goal

pub returns-clause-value : goal.returns-clause-value
returns-clause-value c =
    c.from_vec.ensures
    ∙ items_from_collect {E = Unit {0}} (Ok c.in_ok-numbers.numbers) c.in_ok-numbers.ensures.ran
    (YieldsList-from_filter_map _ (number_in 1 9)
    (YieldsList-at c.filter_map.ensures.source (YieldsList-from_slice c.args.words.now (search (rules, tests))))
    c.filter_map.ensures.closure (λ x r q k. search (rules, tests)))
