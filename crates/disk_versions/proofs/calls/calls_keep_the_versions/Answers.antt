use Rattle.std.proofs.Common.{inl}
use Rattle.line_opening.proofs.of_line_moves.OnlyPut.{keeps_lines, lines_beside}
use Rattle.disk_versions.proofs.Moves.{versions_move, kept_by_reads, kept_aside, kept_in_slot, lines_in_slot, put_moves, back_moves}
use Rattle.disk_versions.proofs.calls.calls_keep_the_versions.Goals as goal

pub returns-clause-reads : goal.returns-clause-reads
returns-clause-reads g c = let v = g.D.Disk.view c.args.before.now in let w = g.D.Disk.view c.args.after.now in let t = c.requires.tells in
    λ now limit course reads was. versions_move v w now limit course (kept_by_reads v w course.followed t reads) (λ key. inl (keeps_lines v.content w.content (reads.keeps t).content key)) was

pub returns-clause-aside : goal.returns-clause-aside
returns-clause-aside g c = let v = g.D.Disk.view c.args.before.now in let w = g.D.Disk.view c.args.after.now in let t = c.requires.tells in
    λ now limit course file slot other area writes was. versions_move v w now limit course (kept_aside v w course.followed file slot t other writes) (λ key. inl (lines_beside v w file slot t area writes key)) was

pub returns-clause-slot : goal.returns-clause-slot
returns-clause-slot g c = let v = g.D.Disk.view c.args.before.now in let w = g.D.Disk.view c.args.after.now in let t = c.requires.tells in
    λ now limit course number slot free writes was. versions_move v w now limit course (kept_in_slot v w course.followed number slot t free writes) (λ key. inl (lines_in_slot v w number slot t writes key)) was

pub returns-clause-entered : goal.returns-clause-entered
returns-clause-entered g c = let v = g.D.Disk.view c.args.before.now in let w = g.D.Disk.view c.args.after.now in let t = c.requires.tells in
    λ now limit course file slot other writes lines was. versions_move v w now limit course (kept_aside v w course.followed file slot t other writes) (λ key. inl (lines key)) was

pub returns-clause-put : goal.returns-clause-put
returns-clause-put g c = let v = g.D.Disk.view c.args.before.now in let w = g.D.Disk.view c.args.after.now in let t = c.requires.tells in
    λ now limit course file slot other tsn all lines writes puts seat was.
    let kept = kept_aside v w course.followed file slot t other writes in
    versions_move v w now limit course kept (put_moves v w course tsn all lines kept seat puts) was

pub returns-clause-back : goal.returns-clause-back
returns-clause-back g c = let v = g.D.Disk.view c.args.before.now in let w = g.D.Disk.view c.args.after.now in let t = c.requires.tells in
    λ now limit course file slot other member transaction is writes puts was.
    versions_move v w now limit course (kept_aside v w course.followed file slot t other writes) (back_moves v w now limit course member transaction was is puts) was
