use Rattle.std.proofs.Common.{refl}
use Rattle.line_moves.proofs.Runs.{writes_now, here_at, on_ok}
use Rattle.journal_backup.specs.Copied.{copy_named}
use Rattle.journal_backup.proofs.copying.blank.Goals as goal

pub returns-clause-writes : goal.returns-clause-writes
returns-clause-writes g c = let v = g.D.Disk.view in
    writes_now (v c.args.disk.now) (v c.write.new.self) c.copy_file.result (copy_named c.args.number) c.args.slot c.args.slot _ c.write.result c.copy_file.ensures refl c.write.ensures.counts c.write.ensures.pending c.write.ensures.written c.write.ensures.failed

pub returns-clause-blanked : goal.returns-clause-blanked
returns-clause-blanked g c = let v = g.D.Disk.view in
    on_ok _ _ c.write.result (λ puts t.
    here_at (v c.write.new.self) c.copy_file.result (copy_named c.args.number) c.args.slot c.args.slot _ c.copy_file.ensures refl (puts t).here) c.write.ensures.written
