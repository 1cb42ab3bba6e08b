use Rattle.std.proofs.Common.{rules, ◌≡◌, true, false, ◌++◌, take}
use Rattle.laid_groups.proofs.Stepping.{lent}
use Rattle.fitted_groups.proofs.Looking.{none_fitted, next_fitted, all_fitted, this_fits}
use Rattle.fitted_groups.proofs.lines.fit_lines.Goals as goal

pub loop-line-init : goal.loop-line-init
loop-line-init c = λ image pages before allowed are. none_fitted image pages before c.args.lines.now c.args.claims.now are

pub returns-then-not-fit_line-clause-unfit : goal.returns-then-not-fit_line-clause-unfit
returns-then-not-fit_line-clause-unfit c = λ key is image pages before behind allowed are fit.
    let i = c.loop-line.line-index in let line = c.line-item.result in let lines = c.args.lines.now in
    let got = lent lines i line c.loop-line-test.true c.line-item.is in
    let no : c.fit_line.result ≡ false = search rules in
    c.fit_line.ensures.unfit no image pages (before ++ take i lines) (c.loop-line.invariant image pages before allowed are)
    (this_fits image pages before lines behind i line got fit)

pub loop-line-preserved : goal.loop-line-preserved
loop-line-preserved c = λ image pages before allowed are.
    let i = c.loop-line.line-index in let line = c.line-item.result in let lines = c.args.lines.now in
    let got = lent lines i line c.loop-line-test.true c.line-item.is in
    let yes : c.fit_line.result ≡ true = search rules in
    next_fitted image pages before lines c.fit_line.new.claims i line got
    (c.fit_line.ensures.fitted yes image pages (before ++ take i lines) (allowed i line got) (c.loop-line.invariant image pages before allowed are))

pub returns-clause-fitted : goal.returns-clause-fitted
returns-clause-fitted c = λ is image pages before allowed are.
    all_fitted image pages before c.args.lines.now c.loop-line.claims c.loop-line.line-index c.loop-line-test.false (c.loop-line.invariant image pages before allowed are)
