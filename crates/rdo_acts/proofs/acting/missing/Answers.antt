use Rattle.line_view.specs.Held.{knows}
use Rattle.rdo_bind.specs.Acting.{act_of}
use Rattle.rdo_acts.proofs.LookedThrough.{if_given}
use Rattle.rdo_acts.proofs.WantedBehind.{wanted_so, told_behind}
use Rattle.rdo_acts.proofs.acting.missing.Goals as goal

pub returns-clause-behind : goal.returns-clause-behind
returns-clause-behind c =
    let a = act_of c.args.action.now in
    let known = knows c.args.known.now in
    let given = c.args.given.now in
    if_given c.lacking.result _ _
    (λ o is. told_behind a known given o c.args.first c.in_ok-behind.behind is (wanted_so given c.requires.together a c.requires.bound known c.args.first c.in_ok-behind.behind c.in_ok-behind.ensures.wanted))
    c.lacking.ensures
