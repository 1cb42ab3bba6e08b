use Rattle.std.proofs.Common.{◌∙◌, sym, arith}
use Rattle.line_store.specs.declared.answers.Fault.TheVariants.{Bad}
use Rattle.seen_lines.proofs.of_member_steps.Journals.{page_there}
use Rattle.seen_lines.proofs.of_committed_lines.Bearing.{told_on}
use Rattle.reader_lines.proofs.Unseen.{unseen_nowhere}
use Rattle.reader_lines.proofs.lines.reader_line.Goals as goal

pub returns-in_default-clause-seen : goal.returns-in_default-clause-seen
returns-in_default-clause-seen g c = let v = g.D.Disk.view c.args.disk.now in λ t ledger lines is.
    sym (unseen_nowhere v (g.met.D.Disk.content_left c.args.disk.now v.moment t (omega arith)) ledger c.args.limit c.args.reader.now lines is c.args.key c.in_default.ensures.none)

pub returns-in-Ok-clause-seen : goal.returns-in-Ok-clause-seen
returns-in-Ok-clause-seen g c = λ t ledger lines is.
    c.bytes_of.ensures ∙ c.in-Ok.ensures.committed t ledger.base is.course is.session is.reading is.versions is.goes is.kept ∙ is.shows c.args.key

pub returns-in-Err-clause-bad : goal.returns-in-Err-clause-bad
returns-in-Err-clause-bad g c = let v = g.D.Disk.view c.args.disk.now in λ f s is t ledger was.
    let left = g.met.D.Disk.content_left c.args.disk.now v.moment t (omega arith) in
    c.in-Err.ensures.bad f s (told_on c.in-Err.fault (Bad f s) is) t (page_there v ledger left was c.args.key c.in-Some.place c.in-Some.ensures.found)
