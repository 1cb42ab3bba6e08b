use Rattle.std.proofs.Common.{rules, tests, ◌&&◌, ◌∙◌, nat_lt}
use Rattle.std.proofs.lemmas.Iterator.Consumers.{YieldsList-from_enumerate, YieldsList-at}
use Rattle.std.proofs.lemmas.Iterator.Search.{all_from_yields_List}
use Rattle.std.proofs.lemmas.Iterator.Splits.{YieldsList-from_slice_split}
use Rattle.command_words.specs.Orders.{is_session, parts_of}
use Rattle.command_words.proofs.Numbered.{all_numbered}
use Rattle.command_words.proofs.orders.is_order.Goals as goal

pub returns : goal.returns
returns c =
    all_from_yields_List (λ p. nat_lt p.0 1000 && is_session c.args.sessions p.1) _ _ _ c.all.ensures.ran
    (YieldsList-from_enumerate (YieldsList-at c.enumerate.ensures.source (YieldsList-from_slice_split _ _ c.args.list.now c.split.ensures.rest c.split.ensures.done c.split.ensures.closure (λ x r q k. search (rules, tests)))) c.enumerate.ensures.count)
    (λ x b q k. search (rules, tests))
    ∙ all_numbered (is_session c.args.sessions) 1000 (parts_of c.args.list.now)
