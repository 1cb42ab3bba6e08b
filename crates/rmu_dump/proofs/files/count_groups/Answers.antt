use Rattle.std.proofs.Common.{rules, ◌≡◌, ◌+◌, ◌-◌, length, sym, subst, arith}
use Rattle.rdb_types.specs.declared.file.FileId.{FileId}
use Rattle.rdb_outside.specs.Disk.{Image}
use Rattle.rdb_outside.specs.Runs.{then_reads}
use Rattle.aij_journal.specs.Header.{IsHeader}
use Rattle.stable_lines.specs.Journal.{IsJournalOf}
use Rattle.line_moves.proofs.Runs.{still_tells}
use Rattle.page_faults.proofs.Reading.{image_same}
use Rattle.rmu_dump.proofs.files.count_groups.Goals as goal

pub returns-in_err-first-clause-bad : goal.returns-in_err-first-clause-bad
returns-in_err-first-clause-bad g c = let old = g.D.Disk.view c.args.disk.now in λ file slot bad t journal is.
    c.first_number.ensures.bad_header (search rules) t journal.first (subst (λ (f : FileId). IsHeader (old.content f 0) journal.first) (sym c.aij_file.ensures) is.header)

pub returns-in_err-next-clause-reads : goal.returns-in_err-next-clause-reads
returns-in_err-next-clause-reads g c = let v = g.D.Disk.view in then_reads (v c.args.disk.now) (v c.first_number.new.disk) (v c.find_open.new.disk) c.first_number.ensures.reads c.find_open.ensures.reads

pub returns-in_err-next-clause-bad : goal.returns-in_err-next-clause-bad
returns-in_err-next-clause-bad g c = let v = g.D.Disk.view in let old = v c.args.disk.now in let mid = v c.first_number.new.disk in let reads = c.first_number.ensures.reads in
    λ file slot bad t journal is.
    c.find_open.ensures.bad file slot (search rules) (still_tells old mid reads.told t) journal (subst (λ (m : Image). IsJournalOf m journal) (sym (image_same old mid reads t)) is)

pub returns-clause-reads : goal.returns-clause-reads
returns-clause-reads g c = let v = g.D.Disk.view in then_reads (v c.args.disk.now) (v c.first_number.new.disk) (v c.find_open.new.disk) c.first_number.ensures.reads c.find_open.ensures.reads

pub returns-clause-count : goal.returns-clause-count
returns-clause-count g c = let v = g.D.Disk.view in let old = v c.args.disk.now in let mid = v c.first_number.new.disk in let reads = c.first_number.ensures.reads in
    λ t journal is.
    let numbered : c.in_ok-next.next.number ≡ journal.first + length journal.groups = (c.in_ok-next.ensures.next (still_tells old mid reads.told t) journal (subst (λ (m : Image). IsJournalOf m journal) (sym (image_same old mid reads t)) is)).numbered in
    let first : journal.first ≡ c.in_ok-first.first = c.in_ok-first.ensures.only t journal.first (subst (λ (f : FileId). IsHeader (old.content f 0) journal.first) (sym c.aij_file.ensures) is.header) in
    let less : c.saturating_sub.result ≡ c.in_ok-next.next.number - c.in_ok-first.first = c.saturating_sub.ensures in
    omega (arith, less, numbered, first)
