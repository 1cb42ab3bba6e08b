use Rattle.std.proofs.Common.{rules, ◌∙◌, sym, subst}
use Rattle.rdb_outside.specs.Disk.{Image}
use Rattle.aij_journal.specs.Header.{IsHeader}
use Rattle.rdb_outside.specs.Runs.{one_call, then_reads}
use Rattle.stable_lines.specs.Journal.{IsJournalOf}
use Rattle.line_moves.proofs.Runs.{still_tells}
use Rattle.new_database.specs.Maker.{aij_file}
use Rattle.line_opening.proofs.Counted.{if_ok}
use Rattle.line_opening.proofs.Passed.{image_same, ends_there}
use Rattle.rmu_restore.proofs.journal.greatest_of_groups.Goals as goal

pub returns-in_err-first-clause-bad : goal.returns-in_err-first-clause-bad
returns-in_err-first-clause-bad g c = λ file slot bad t journal is. c.first_number.ensures.bad file slot (search rules) t journal.first is.header

pub returns-in_err-end-clause-reads : goal.returns-in_err-end-clause-reads
returns-in_err-end-clause-reads g c = let v = g.D.Disk.view in one_call (v c.args.disk.now) (v c.first_number.new.disk) (v c.length.new.self) c.length.result c.first_number.ensures.reads c.length.ensures.counts c.length.ensures.kept

pub returns-clause-reads : goal.returns-clause-reads
returns-clause-reads g c = let v = g.D.Disk.view in let old = v c.args.disk.now in let mid = v c.length.new.self in
    let reads = one_call old (v c.first_number.new.disk) mid c.length.result c.first_number.ensures.reads c.length.ensures.counts c.length.ensures.kept in
    then_reads old mid (v c.greatest_behind.new.disk) reads c.greatest_behind.ensures.reads

pub returns-clause-bad : goal.returns-clause-bad
returns-clause-bad g c = let v = g.D.Disk.view in let old = v c.args.disk.now in let mid = v c.length.new.self in
    let reads = one_call old (v c.first_number.new.disk) mid c.length.result c.first_number.ensures.reads c.length.ensures.counts c.length.ensures.kept in
    λ file slot bad t journal is. c.greatest_behind.ensures.bad file slot bad (still_tells old mid reads.told t)

pub returns-clause-greatest : goal.returns-clause-greatest
returns-clause-greatest g c = let v = g.D.Disk.view in let old = v c.args.disk.now in let read = v c.first_number.new.disk in let mid = v c.length.new.self in
    let reads = one_call old read mid c.length.result c.first_number.ensures.reads c.length.ensures.counts c.length.ensures.kept in
    if_ok _ _ c.greatest_behind.result (λ greatest up_to t journal is.
    up_to (still_tells old mid reads.told t)
    (ends_there read.content mid.content c.aij_file.result c.in_ok-end.end (image_same old read c.first_number.ensures.reads t ∙ sym (image_same old mid reads t)) c.aij_file.ensures (c.in_ok-end.ensures.zeros (still_tells old read c.first_number.ensures.reads.told t)))
    (subst (λ (m : Image). IsHeader (m aij_file 0) c.in_ok-first.first) (sym (image_same old mid reads t)) (c.in_ok-first.ensures.header t))
    journal (subst (λ (m : Image). IsJournalOf m journal) (sym (image_same old mid reads t)) is)) c.greatest_behind.ensures.greatest
