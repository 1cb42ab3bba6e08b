use Rattle.std.proofs.Common.{rules}
use Rattle.catalog_definitions.proofs.LaidLines.{written_more, lacks_at}
use Rattle.catalog_definitions.proofs.writing.write_lines.Goals as goal

pub returns-in_err-write_line-clause-stop : goal.returns-in_err-write_line-clause-stop
returns-in_err-write_line-clause-stop g c =
    let l = c.loop-nth in
    let why = lacks_at (g.V.View.knows c.args.view.now) c.args.lines.now l.nth l.writes c.index-lines-nth.result c.in_err-write_line.field-0.0 c.loop-nth-test.true l.invariant c.in_err-write_line.ensures.stop in
    search (rules, why)

pub loop-nth-preserved : goal.loop-nth-preserved
loop-nth-preserved g c =
    let l = c.loop-nth in
    rw c.in_ok-push.ensures.ok (written_more (g.V.View.knows c.args.view.now) c.args.lines.now l.nth l.writes c.index-lines-nth.result c.in_ok-write_line.field-0 c.loop-nth-test.true c.index-lines-nth.is l.invariant c.in_ok-write_line.ensures.room c.in_ok-write_line.ensures.line)
