use Rattle.std.proofs.Common.{◌≡◌, ◌∙◌, subst}
use Rattle.rdb_types.specs.declared.file.FileId.{FileId}
use Rattle.rdb_outside.specs.Disk.{zeros}
use Rattle.rdb_outside.specs.Runs.{then_reads}
use Rattle.journal_passing.specs.journal_reading.Journal.{EndsBy}
use Rattle.line_moves.specs.stable_lines.Slots.{ruj_file}
use Rattle.line_moves.proofs.Runs.{reads_once, still_tells}
use Rattle.line_opening.proofs.Counted.{if_ok, count_same}
use Rattle.line_opening.proofs.counting.count_entries.Goals as goal

pub returns-in_err-length-clause-reads : goal.returns-in_err-length-clause-reads
returns-in_err-length-clause-reads g c = let v = g.D.Disk.view in reads_once (v c.args.disk.now) (v c.length.new.self) c.length.result c.length.ensures.counts c.length.ensures.kept

pub returns-clause-reads : goal.returns-clause-reads
returns-clause-reads g c = let v = g.D.Disk.view in
    then_reads (v c.args.disk.now) (v c.length.new.self) (v c.count_within.new.disk) (reads_once (v c.args.disk.now) (v c.length.new.self) c.length.result c.length.ensures.counts c.length.ensures.kept) c.count_within.ensures.reads

pub returns-clause-entries : goal.returns-clause-entries
returns-clause-entries g c = let v = g.D.Disk.view in
    let old = v c.args.disk.now in let mid = v c.length.new.self in let file = ruj_file c.args.member in
    let reads = reads_once old mid c.length.result c.length.ensures.counts c.length.ensures.kept in
    if_ok _ _ c.count_within.result (λ count has t.
    let ends : EndsBy mid.content file c.in_ok-length.length = λ slot le. (reads.keeps t).content file slot ∙ subst (λ (k : FileId). old.content k slot ≡ zeros k) c.ruj_file.ensures (c.in_ok-length.ensures.zeros t slot le) in
    count_same mid.content old.content c.args.member c.args.tsn count (λ i. (reads.keeps t).content file i) (has (still_tells old mid reads.told t) ends)) c.count_within.ensures.entries
