use Rattle.std.proofs.Common.{rules, ◌∙◌, sym, subst}
use Rattle.rdb_outside.specs.Disk.{Image}
use Rattle.journal_passing.specs.aij_journal.Header.{IsHeader}
use Rattle.rdb_outside.specs.Runs.{one_call, then_reads}
use Rattle.line_moves.specs.stable_lines.Journal.{IsJournalOf}
use Rattle.line_moves.proofs.Runs.{still_tells, on_ok}
use Rattle.line_moves.specs.new_database.Maker.{aij_file}
use Rattle.line_opening.proofs.Counted.{if_ok}
use Rattle.line_opening.proofs.Passed.{image_same, ends_there}
use Rattle.line_opening.proofs.groups.find_open.Goals as goal

pub returns-in_err-first-clause-bad : goal.returns-in_err-first-clause-bad
returns-in_err-first-clause-bad g c = λ file slot bad t journal is. c.first_number.ensures.bad file slot (search rules) t journal.first is.header

pub returns-in_err-end-clause-reads : goal.returns-in_err-end-clause-reads
returns-in_err-end-clause-reads g c = let v = g.D.Disk.view in one_call (v c.args.disk.now) (v c.first_number.new.disk) (v c.length.new.self) c.length.result c.first_number.ensures.reads c.length.ensures.counts c.length.ensures.kept

pub returns-clause-reads : goal.returns-clause-reads
returns-clause-reads g c = let v = g.D.Disk.view in let old = v c.args.disk.now in let mid = v c.length.new.self in
    let reads = one_call old (v c.first_number.new.disk) mid c.length.result c.first_number.ensures.reads c.length.ensures.counts c.length.ensures.kept in
    then_reads old mid (v c.pass_groups.new.disk) reads c.pass_groups.ensures.reads

pub returns-clause-open : goal.returns-clause-open
returns-clause-open g c = let v = g.D.Disk.view in let old = v c.args.disk.now in let read = v c.first_number.new.disk in let mid = v c.length.new.self in
    let reads = one_call old read mid c.length.result c.first_number.ensures.reads c.length.ensures.counts c.length.ensures.kept in
    on_ok _ _ c.pass_groups.result (λ left t journal is.
    left (still_tells old mid reads.told t)
    (ends_there read.content mid.content c.aij_file.result c.in_ok-end.end (image_same old read c.first_number.ensures.reads t ∙ sym (image_same old mid reads t)) c.aij_file.ensures (c.in_ok-end.ensures.zeros (still_tells old read c.first_number.ensures.reads.told t)))
    (subst (λ (m : Image). IsHeader (m aij_file 0) c.in_ok-first.first) (sym (image_same old mid reads t)) (c.in_ok-first.ensures.header t))
    journal (subst (λ (m : Image). IsJournalOf m journal) (sym (image_same old mid reads t)) is)) c.pass_groups.ensures.open

pub returns-clause-next : goal.returns-clause-next
returns-clause-next g c = let v = g.D.Disk.view in let old = v c.args.disk.now in let read = v c.first_number.new.disk in let mid = v c.length.new.self in
    let reads = one_call old read mid c.length.result c.first_number.ensures.reads c.length.ensures.counts c.length.ensures.kept in
    if_ok _ _ c.pass_groups.result (λ next is_next t journal is.
    is_next (still_tells old mid reads.told t)
    (ends_there read.content mid.content c.aij_file.result c.in_ok-end.end (image_same old read c.first_number.ensures.reads t ∙ sym (image_same old mid reads t)) c.aij_file.ensures (c.in_ok-end.ensures.zeros (still_tells old read c.first_number.ensures.reads.told t)))
    (subst (λ (m : Image). IsHeader (m aij_file 0) c.in_ok-first.first) (sym (image_same old mid reads t)) (c.in_ok-first.ensures.header t))
    journal (subst (λ (m : Image). IsJournalOf m journal) (sym (image_same old mid reads t)) is)) c.pass_groups.ensures.next
