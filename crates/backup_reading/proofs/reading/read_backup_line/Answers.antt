use Rattle.std.proofs.Common.{◌≡◌, ◌∙◌, List, ℕ, sym, subst}
use Rattle.line_moves.proofs.Runs.{reads_once}
use Rattle.backup_file.specs.Line.{IsBackupLine}
use Rattle.backup_making.specs.Making.{file_of}
use Rattle.backup_reading.proofs.reading.read_backup_line.Goals as goal

pub returns-in_default-clause-bad : goal.returns-in_default-clause-bad
returns-in_default-clause-bad g c = let old = g.D.Disk.view c.args.disk.now in λ file at is t line there.
    let here : c.read.new.into ≡ old.content (file_of c.args.number) c.args.slot = c.in_ok-read.ensures.bytes t ∙ (λ i. old.content (c.backup_file-file.ensures i) c.args.slot) in
    c.in_default.ensures.none c.args.slot line (subst (λ (b : List ℕ). IsBackupLine b c.args.slot line) (sym here) there)

pub returns-then-found-slot-clause-reads : goal.returns-then-found-slot-clause-reads
returns-then-found-slot-clause-reads g c = let v = g.D.Disk.view in reads_once (v c.args.disk.now) (v c.read.new.self) c.read.result c.read.ensures.counts c.read.ensures.kept

pub returns-clause-reads : goal.returns-clause-reads
returns-clause-reads g c = let v = g.D.Disk.view in reads_once (v c.args.disk.now) (v c.read.new.self) c.read.result c.read.ensures.counts c.read.ensures.kept
