use Rattle.rdb_account.specs.Places.{place}
use Rattle.line_runs.proofs.Later.{later, opens-later}
use Rattle.line_runs.proofs.laws.a_run_leaves_what_opens.Goals as goal

pub returns-clause-now : goal.returns-clause-now
returns-clause-now g c = λ o events holds left.
    let v = g.D.Disk.view c.args.after.now in
    let M = g.S.Statements.stands in
    let it = holds.now v.content left in
    (later M v c.requires.tells o it.lines it.opens (place o events) it.stands, opens-later M v c.requires.tells o it.lines it.opens (place o events) it.stands, it.stands.among)

pub returns-clause-since : goal.returns-clause-since
returns-clause-since g c = λ o events holds left.
    let v = g.D.Disk.view c.args.after.now in
    let M = g.S.Statements.stands in
    let to = holds.openable v.content left in
    let from = holds.opening v.content left to.0 to.1.has in
    (later M v c.requires.tells o to.0 to.1 (place o from.before) from.stood, opens-later M v c.requires.tells o to.0 to.1 (place o from.before) from.stood, from.before, from.behind, from.is, from.stood.among)
