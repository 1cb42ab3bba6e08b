use Rattle.std.proofs.Common.{◌+◌, ◌∙◌, ap, refl}
use Rattle.line_store.specs.rdb_outside.Disk.{Pending}
use Rattle.line_store.specs.rdb_outside.Runs.{no_calls}
use Rattle.stable_lines.specs.journal_scan.Standing.{what_stands}
use Rattle.stable_lines.specs.new_database.Maker.{aij_file}
use Rattle.line_moves.proofs.Runs.{writes_now, more_behind, here_at, on_ok}
use Rattle.line_moves.proofs.Commits.{commits, commit_stands}
use Rattle.line_moves.proofs.images.write_commit.Goals as goal

pub returns-clause-writes : goal.returns-clause-writes
returns-clause-writes g c = let v = g.D.Disk.view in let at = c.args.slot + c.args.lines in
    writes_now (v c.args.disk.now) (v c.write.new.self) c.aij_file.result aij_file at at c.put_slot.new.slot c.write.result c.aij_file.ensures refl c.write.ensures.counts c.write.ensures.pending c.write.ensures.written c.write.ensures.failed

pub returns-clause-stands : goal.returns-clause-stands
returns-clause-stands g c = let new = g.D.Disk.view c.write.new.self in let at = c.args.slot + c.args.lines in
    on_ok _ _ c.write.result (λ put t now flight is.
    ap what_stands (here_at new c.aij_file.result aij_file at at c.put_slot.new.slot c.aij_file.ensures refl (put t).here) ∙ commit_stands now flight c.args.slot c.args.number c.args.lines c.args.tsn c.put_slot.new.slot is c.put_slot.ensures) c.write.ensures.written

pub returns-clause-keeps : goal.returns-clause-keeps
returns-clause-keeps g c = let v = g.D.Disk.view in λ t now flight was is.
    let old = v c.args.disk.now in let new = v c.write.new.self in let at = c.args.slot + c.args.lines in
    let more = more_behind old old new c.aij_file.result aij_file at at c.put_slot.new.slot c.aij_file.ensures refl t (no_calls old) (c.write.ensures.pending t) in
    commits (Pending old) (Pending new) now flight c.args.slot c.args.number c.args.lines c.args.tsn c.put_slot.new.slot more was is c.put_slot.ensures
