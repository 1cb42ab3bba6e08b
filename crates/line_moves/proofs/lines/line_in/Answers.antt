use Rattle.std.specs.Prelude.{Option, IfSome}
use Rattle.std.proofs.Common.{rules, ◌∙◌, sym, subst}
use Rattle.line_store.specs.rdb_page.declared.head.Head.{Head}
use Rattle.line_store.specs.rdb_page.Page.{StandsAs}
use Rattle.stable_lines.proofs.Never.{nothing_on, zeros_owner}
use Rattle.line_moves.proofs.Reading.{line_is}
use Rattle.line_moves.proofs.Spots.{place_has, never_elsewhere, no_line}
use Rattle.line_moves.proofs.Runs.{on_err}
use Rattle.line_moves.proofs.lines.line_in.Goals as goal

pub returns-in_default-clause-line : goal.returns-in_default-clause-line
returns-in_default-clause-line c = c.never.ensures ∙ sym (nothing_on c.args.key c.args.page.now (zeros_owner c.args.page.now (c.in_ok-head.ensures.unused.0 (cc))))

pub returns-then-head-key-clause-line : goal.returns-then-head-key-clause-line
returns-then-head-key-clause-line c =
    let found : StandsAs c.args.page.now c.args.place.file c.args.place.page c.in-Some.head = subst (λ (o : Option Head). IfSome o (StandsAs c.args.page.now c.args.place.file c.args.place.page)) c.in-Some.is c.in_ok-head.ensures.found in
    c.never-then-head-key.ensures ∙ sym (never_elsewhere c.args.key c.args.page.now c.in-Some.head found.head (search rules))

pub returns-clause-line : goal.returns-clause-line
returns-clause-line c =
    let found : StandsAs c.args.page.now c.args.place.file c.args.place.page c.in-Some.head = subst (λ (o : Option Head). IfSome o (StandsAs c.args.page.now c.args.place.file c.args.place.page)) c.in-Some.is c.in_ok-head.ensures.found in
    sym (line_is c.args.key c.args.page.now c.in_ok-line.line (place_has c.args.key c.args.place c.args.page.now c.in-Some.head c.requires.place found.head (search rules) (search rules)) c.in_ok-line.ensures.found)

pub returns-in_err-line-clause-refused : goal.returns-in_err-line-clause-refused
returns-in_err-line-clause-refused c =
    let found : StandsAs c.args.page.now c.args.place.file c.args.place.page c.in-Some.head = subst (λ (o : Option Head). IfSome o (StandsAs c.args.page.now c.args.place.file c.args.place.page)) c.in-Some.is c.in_ok-head.ensures.found in
    on_err _ c.from_residual-in_err-line.result (no_line c.args.page.now c.args.place.file c.args.place.page c.in-Some.head c.args.key.line found (search rules) (λ value is. c.in_err-line.ensures.none value is))
