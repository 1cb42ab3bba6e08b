use Rattle.std.proofs.Common.{◌∙◌, IsTrue, refl}
use Rattle.rdb_outside.specs.Disk.{SameContent, Puts}
use Rattle.line_moves.proofs.Runs.{reads_once, writes_none, writes_one, here_at, on_ok, still_tells}
use Rattle.journal_backup.specs.Copied.{copy_named}
use Rattle.journal_backup.proofs.Calls.{either_way}
use Rattle.journal_backup.proofs.copying.copy_slot.Goals as goal

pub returns-in_err-read-clause-writes : goal.returns-in_err-read-clause-writes
returns-in_err-read-clause-writes g c = let v = g.D.Disk.view in let old = v c.args.disk.now in let mid = v c.read.new.self in
    writes_none (copy_named c.args.number) c.args.slot old mid (reads_once old mid c.read.result c.read.ensures.counts c.read.ensures.kept)

pub returns-clause-writes : goal.returns-clause-writes
returns-clause-writes g c = let v = g.D.Disk.view in let old = v c.args.disk.now in let mid = v c.read.new.self in let new = v c.write.new.self in
    writes_one old mid new c.copy_file.result (copy_named c.args.number) c.args.slot c.args.slot c.read.new.into c.write.result c.copy_file.ensures refl
    (reads_once old mid c.read.result c.read.ensures.counts c.read.ensures.kept) c.write.ensures.counts c.write.ensures.pending
    (either_way (IsTrue mid.tells) (SameContent mid.content new.content) (Puts c.copy_file.result c.args.slot c.read.new.into mid.content new.content) c.write.result c.write.ensures.written c.write.ensures.failed)

pub returns-clause-copied : goal.returns-clause-copied
returns-clause-copied g c = let v = g.D.Disk.view in let old = v c.args.disk.now in let mid = v c.read.new.self in let new = v c.write.new.self in
    on_ok _ _ c.write.result (λ puts t.
    here_at new c.copy_file.result (copy_named c.args.number) c.args.slot c.args.slot c.read.new.into c.copy_file.ensures refl (puts (still_tells old mid c.read.ensures.counts.told t)).here
    ∙ c.in_ok-read.ensures.bytes t ∙ (λ i. old.content (c.aij_file.ensures i) c.args.slot)) c.write.ensures.written
