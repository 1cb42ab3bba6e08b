use Rattle.std.proofs.Common.{◌∙◌, refl, arith}
use Rattle.stable_lines.specs.Progress.{begun_anew}
use Rattle.new_database.specs.Maker.{aij_file}
use Rattle.line_moves.proofs.Runs.{on_ok, still_tells}
use Rattle.database_opening.proofs.Others.{file_apart}
use Rattle.journal_anew.proofs.Begun.{closed_written, written_leaves, anew_leaves, anew_settles, closed_anew, file_anew}
use Rattle.journal_anew.proofs.anew.begin_anew.Goals as goal

pub returns-in_err-write_header-clause-told : goal.returns-in_err-write_header-clause-told
returns-in_err-write_header-clause-told g c = c.write_header.ensures.counts.told

pub returns-in_err-write_header-clause-no_fewer : goal.returns-in_err-write_header-clause-no_fewer
returns-in_err-write_header-clause-no_fewer g c = c.write_header.ensures.counts.no_fewer

pub returns-in_err-write_header-clause-closed : goal.returns-in_err-write_header-clause-closed
returns-in_err-write_header-clause-closed g c = let v = g.D.Disk.view in λ t closed.
    closed_written (v c.args.disk.now) (v c.write_header.new.disk) t c.write_header.ensures.writes closed

pub returns-in_err-write_header-clause-stands : goal.returns-in_err-write_header-clause-stands
returns-in_err-write_header-clause-stands g c = let v = g.D.Disk.view in let old = v c.args.disk.now in λ t now may.
    let left = g.met.D.Disk.content_left c.args.disk.now old.moment t (omega arith) in
    written_leaves old (v c.write_header.new.disk) t c.write_header.ensures.writes now c.args.first left may (c.write_header.ensures.keeps t (begun_anew c.args.first now) refl)

pub returns-in_err-write_header-clause-others : goal.returns-in_err-write_header-clause-others
returns-in_err-write_header-clause-others g c = let v = g.D.Disk.view in λ file apart t.
    file_apart (v c.args.disk.now) (v c.write_header.new.disk) aij_file 0 c.write_header.ensures.writes t file apart

pub returns-clause-told : goal.returns-clause-told
returns-clause-told g c = c.make_stable.ensures.counts.told ∙ c.write_header.ensures.counts.told

pub returns-clause-no_fewer : goal.returns-clause-no_fewer
returns-clause-no_fewer g c = let one = c.write_header.ensures.counts.no_fewer in let two = c.make_stable.ensures.counts.no_fewer in omega (arith, one, two)

pub returns-clause-begun : goal.returns-clause-begun
returns-clause-begun g c = let v = g.D.Disk.view in let old = v c.args.disk.now in let mid = v c.write_header.new.disk in
    on_ok _ _ c.make_stable.result (λ stable t now may.
    let left = g.met.D.Disk.content_left c.args.disk.now old.moment t (omega arith) in
    anew_settles old mid t c.write_header.ensures.writes now c.args.first left may (c.write_header.ensures.keeps t (begun_anew c.args.first now) refl) (v c.make_stable.new.disk) c.make_stable.ensures.reads
    (stable (still_tells old mid c.write_header.ensures.writes.told t)) (c.in_ok-write_header.ensures.header t)) c.make_stable.ensures.stable

pub returns-clause-closed : goal.returns-clause-closed
returns-clause-closed g c = let v = g.D.Disk.view in λ t closed.
    closed_anew (v c.args.disk.now) (v c.write_header.new.disk) t c.write_header.ensures.writes (v c.make_stable.new.disk) c.make_stable.ensures.reads closed

pub returns-clause-stands : goal.returns-clause-stands
returns-clause-stands g c = let v = g.D.Disk.view in let old = v c.args.disk.now in λ t now may.
    let left = g.met.D.Disk.content_left c.args.disk.now old.moment t (omega arith) in
    anew_leaves old (v c.write_header.new.disk) t c.write_header.ensures.writes now c.args.first left may (c.write_header.ensures.keeps t (begun_anew c.args.first now) refl) (v c.make_stable.new.disk) c.make_stable.ensures.reads

pub returns-clause-others : goal.returns-clause-others
returns-clause-others g c = let v = g.D.Disk.view in λ file apart t.
    file_anew (v c.args.disk.now) (v c.write_header.new.disk) t c.write_header.ensures.writes (v c.make_stable.new.disk) c.make_stable.ensures.reads file apart
