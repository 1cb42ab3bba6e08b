use Rattle.std.proofs.Common.{rules, subst}
use Rattle.std.specs.Prelude.{Option, IfSome}
use Rattle.line_store.specs.rdb_page.declared.head.Head.{Head}
use Rattle.line_store.specs.rdb_page.Page.{StandsAs}
use Rattle.line_moves.proofs.Placed.{placed, placed_is}
use Rattle.line_moves.proofs.Spots.{unused_place, no_used}
use Rattle.line_moves.proofs.pages.put_on.Goals as goal

pub returns-clause-puts : goal.returns-clause-puts
returns-clause-puts c = λ is.
    let found : StandsAs c.args.page.now c.args.place.file c.args.place.page c.in-Some.head = subst (λ (o : Option Head). IfSome o (StandsAs c.args.page.now c.args.place.file c.args.place.page)) c.in-Some.is c.in-Ok.ensures.found in
    placed c.args.key c.args.place c.args.page.now c.put_line.new.page c.args.value.now c.in-Some.head c.requires.place is found (search rules) (search rules)
    (record { here = c.put_line.ensures.here; others = c.put_line.ensures.others; before = c.put_line.ensures.before; behind = c.put_line.ensures.behind })

pub returns-clause-here : goal.returns-clause-here
returns-clause-here c = λ is.
    let found : StandsAs c.args.page.now c.args.place.file c.args.place.page c.in-Some.head = subst (λ (o : Option Head). IfSome o (StandsAs c.args.page.now c.args.place.file c.args.place.page)) c.in-Some.is c.in-Ok.ensures.found in
    placed_is c.args.key c.args.place c.args.page.now c.put_line.new.page c.args.value.now c.in-Some.head c.requires.place is found (search rules) (search rules)
    (record { here = c.put_line.ensures.here; others = c.put_line.ensures.others; before = c.put_line.ensures.before; behind = c.put_line.ensures.behind })

pub returns-in_default-clause-refused : goal.returns-in_default-clause-refused
returns-in_default-clause-refused c = λ is fits. no_used c.args.page.now c.args.place.file c.args.place.page c.args.key is fits.placed (λ head stands. c.in_default.ensures.none head stands)

pub returns-in_default-found-clause-refused : goal.returns-in_default-found-clause-refused
returns-in_default-found-clause-refused c = λ is fits. unused_place c.args.key c.args.page.now (c.in-Ok.ensures.unused.0 (cc)) fits.placed
