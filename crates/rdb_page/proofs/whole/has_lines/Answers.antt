use Rattle.std.proofs.Common.{◌<◌, sym, subst}
use Rattle.rdb_page.specs.Lines.{IsLine}
use Rattle.rdb_page.proofs.Checking.{one_more}
use Rattle.rdb_page.proofs.whole.has_lines.Goals as goal

pub returns-in-Err-clause-no : goal.returns-in-Err-clause-no
returns-in-Err-clause-no c = λ same all.
    let there = all c.loop-line.line (subst (λ n. c.loop-line.line < n) c.lines_of-line-end.ensures c.loop-line-test.true) in
    c.in-Err.ensures.none there.0 (subst (λ n. IsLine c.args.page.now n c.loop-line.line there.0) (sym c.requires.same) there.1)

pub loop-line-preserved : goal.loop-line-preserved
loop-line-preserved c = record {
  lines = one_more c.args.page.now c.args.class c.loop-line.line c.in-Ok.field-0 c.loop-line.invariant.lines (subst (λ n. IsLine c.args.page.now n c.loop-line.line c.in-Ok.field-0) c.requires.same c.in-Ok.ensures.found);
}
