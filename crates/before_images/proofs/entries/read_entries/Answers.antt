use Rattle.std.proofs.Common.{◌≡◌, ◌∙◌, subst}
use Rattle.rdb_types.specs.declared.file.FileId.{FileId}
use Rattle.rdb_outside.specs.Disk.{Image, zeros}
use Rattle.rdb_outside.specs.Runs.{then_reads}
use Rattle.journal_reading.specs.Journal.{EndsBy}
use Rattle.stable_lines.specs.Slots.{ruj_file}
use Rattle.line_moves.proofs.Runs.{reads_once, still_tells}
use Rattle.line_opening.proofs.Counted.{if_ok}
use Rattle.line_opening.proofs.Passed.{image_same}
use Rattle.before_images.specs.Before.{HoldsBefore}
use Rattle.before_images.proofs.entries.read_entries.Goals as goal

pub returns-in_err-end-clause-reads : goal.returns-in_err-end-clause-reads
returns-in_err-end-clause-reads g c = let v = g.D.Disk.view in reads_once (v c.args.disk.now) (v c.length.new.self) c.length.result c.length.ensures.counts c.length.ensures.kept

pub returns-clause-reads : goal.returns-clause-reads
returns-clause-reads g c = let v = g.D.Disk.view in
    then_reads (v c.args.disk.now) (v c.length.new.self) (v c.read_to.new.disk) (reads_once (v c.args.disk.now) (v c.length.new.self) c.length.result c.length.ensures.counts c.length.ensures.kept) c.read_to.ensures.reads

pub returns-clause-before : goal.returns-clause-before
returns-clause-before g c = let v = g.D.Disk.view in
    let old = v c.args.disk.now in let mid = v c.length.new.self in let file = ruj_file c.args.member in
    let reads = reads_once old mid c.length.result c.length.ensures.counts c.length.ensures.kept in
    if_ok _ _ c.read_to.result (λ held holds t.
    let ends : EndsBy mid.content file c.in_ok-end.end = λ slot le. (reads.keeps t).content file slot ∙ subst (λ (k : FileId). old.content k slot ≡ zeros k) c.ruj_file.ensures (c.in_ok-end.ensures.zeros t slot le) in
    subst (λ (image : Image). HoldsBefore image c.args.member c.args.tsn held) (image_same old mid reads t) (holds (still_tells old mid reads.told t) ends)) c.read_to.ensures.before
