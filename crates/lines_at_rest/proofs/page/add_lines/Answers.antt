use Rattle.std.proofs.Common.{rules, ◌≡◌, ◌≤◌, ◌<◌, ◌∙◌, ℕ, subst, arith}
use Rattle.rdb_page.specs.Page.{lines_of}
use Rattle.line_moves.proofs.Spots.{no_line}
use Rattle.lines_at_rest.specs.Area.{HoldsTo}
use Rattle.lines_at_rest.proofs.Pages.{line_more}
use Rattle.lines_at_rest.proofs.page.add_lines.Goals as goal

pub returns-in_default-clause-bad : goal.returns-in_default-clause-bad
returns-in_default-clause-bad c =
    let less : c.loop-line.line < lines_of c.args.head.class = subst (λ (n : ℕ). c.loop-line.line < n) c.lines_of-line-end.ensures c.loop-line-test.true in
    λ none is. no_line c.args.page.now c.args.file c.args.head.page c.args.head c.loop-line.line c.requires.stands less (λ value read. c.in_default.ensures.none value read) is

pub loop-line-preserved : goal.loop-line-preserved
loop-line-preserved c =
    let less : c.loop-line.line < lines_of c.args.head.class = subst (λ (n : ℕ). c.loop-line.line < n) c.lines_of-line-end.ensures c.loop-line-test.true in
    λ image there was. line_more image c.args.held.now c.args.file c.args.head c.args.page.now c.requires.stands there c.requires.data c.loop-line.line c.in-Ok.stood c.line_before.result c.loop-line.found c.add_present.new.found less c.in-Ok.ensures.found c.line_before.ensures c.in_ok-add_present.ensures (c.loop-line.invariant image there was)

pub returns-clause-lines : goal.returns-clause-lines
returns-clause-lines c = λ whole image there was.
    let last : c.loop-line.line ≤ c.lines_of-line-end.result = search rules in
    let past : c.lines_of-line-end.result ≤ c.loop-line.line = search rules in
    let at : c.loop-line.line ≡ c.lines_of-line-end.result = omega (arith, last, past) in
    subst (λ (n : ℕ). HoldsTo image c.args.held.now c.args.head.owner c.args.head.page n c.loop-line.found) (at ∙ c.lines_of-line-end.ensures) (c.loop-line.invariant image there was)
