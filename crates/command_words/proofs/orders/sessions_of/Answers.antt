use Rattle.std.proofs.Common.{rules, tests, Ok, ◌==◌, ◌∙◌}
use Rattle.std.proofs.lemmas.Iterator.{items_from_collect}
use Rattle.std.proofs.lemmas.Iterator.Consumers.{YieldsList-from_filter_map, YieldsList-at}
use Rattle.std.proofs.lemmas.Iterator.Splits.{YieldsList-from_slice_split}
use Rattle.command_words.specs.Options.{number_in}
use Rattle.command_words.proofs.orders.sessions_of.Goals as goal

pub returns-clause-value : goal.returns-clause-value
returns-clause-value c =
    c.from_vec.ensures
    ∙ items_from_collect {E = Unit {0}} (Ok c.in_ok-order.order) c.in_ok-order.ensures.ran
    (YieldsList-from_filter_map _ (number_in 1 c.args.sessions)
    (YieldsList-at c.filter_map.ensures.source (YieldsList-from_slice_split _ (λ b. b == 44) c.args.list.now c.split.ensures.rest c.split.ensures.done c.split.ensures.closure (λ x r q k. search (rules, tests))))
    c.filter_map.ensures.closure (λ x r q k. search (rules, tests)))
