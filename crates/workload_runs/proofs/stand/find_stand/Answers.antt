use Rattle.std.proofs.Common.{rules, sym, subst, ap}
use Rattle.rdb_outside.specs.Disk.{Image}
use Rattle.rdb_outside.specs.Runs.{then_reads}
use Rattle.root_file.specs.declared.Root.{Root}
use Rattle.root_file.proofs.Readings.{one_root}
use Rattle.new_database.specs.Maker.{root_file}
use Rattle.stable_lines.specs.Journal.{IsJournalOf}
use Rattle.line_moves.proofs.Runs.{still_tells}
use Rattle.line_runs.specs.opened_store.Opened.{AreUsedUp}
use Rattle.page_faults.proofs.Reading.{image_same}
use Rattle.workload_runs.proofs.stand.find_stand.Goals as goal

pub returns-in_err-root-clause-bad : goal.returns-in_err-root-clause-bad
returns-in_err-root-clause-bad g c = λ file slot bad t root is journal journal_is. absurd (c.root_of.ensures.bad file slot (search rules) t root is)

pub returns-in_err-next-clause-reads : goal.returns-in_err-next-clause-reads
returns-in_err-next-clause-reads g c = let v = g.D.Disk.view in then_reads (v c.args.disk.now) (v c.root_of.new.disk) (v c.find_open.new.disk) c.root_of.ensures.reads c.find_open.ensures.reads

pub returns-in_err-next-clause-bad : goal.returns-in_err-next-clause-bad
returns-in_err-next-clause-bad g c = let v = g.D.Disk.view in let old = v c.args.disk.now in let mid = v c.root_of.new.disk in let reads = c.root_of.ensures.reads in
    λ file slot bad t root is journal journal_is.
    absurd (c.find_open.ensures.bad file slot (search rules) (still_tells old mid reads.told t) journal (subst (λ (m : Image). IsJournalOf m journal) (sym (image_same old mid reads t)) journal_is))

-- the numbers are used up
pub returns-then-are_used_up-clause-reads : goal.returns-then-are_used_up-clause-reads
returns-then-are_used_up-clause-reads g c = let v = g.D.Disk.view in then_reads (v c.args.disk.now) (v c.root_of.new.disk) (v c.find_open.new.disk) c.root_of.ensures.reads c.find_open.ensures.reads

pub returns-then-are_used_up-clause-bad : goal.returns-then-are_used_up-clause-bad
returns-then-are_used_up-clause-bad g c = let v = g.D.Disk.view in let old = v c.args.disk.now in let mid = v c.root_of.new.disk in let reads = c.root_of.ensures.reads in
    λ file slot bad t root is journal journal_is.
    subst (λ (r : Root). AreUsedUp journal r) (one_root (old.content root_file 0) c.in_ok-root.root root (c.in_ok-root.ensures.root t) is)
    (c.are_used_up.ensures.yes journal (c.in_ok-next.ensures.next (still_tells old mid reads.told t) journal (subst (λ (m : Image). IsJournalOf m journal) (sym (image_same old mid reads t)) journal_is)) c.if-are_used_up.true)

pub returns-clause-numbers : goal.returns-clause-numbers
returns-clause-numbers g c = let v = g.D.Disk.view in let old = v c.args.disk.now in let mid = v c.root_of.new.disk in let reads = c.root_of.ensures.reads in
    λ t root is journal journal_is spent.
    c.are_used_up.ensures.no journal (c.in_ok-next.ensures.next (still_tells old mid reads.told t) journal (subst (λ (m : Image). IsJournalOf m journal) (sym (image_same old mid reads t)) journal_is)) c.if-are_used_up.false
    (subst (λ (r : Root). AreUsedUp journal r) (sym (one_root (old.content root_file 0) c.in_ok-root.root root (c.in_ok-root.ensures.root t) is)) spent)

pub returns-clause-reads : goal.returns-clause-reads
returns-clause-reads g c = let v = g.D.Disk.view in then_reads (v c.args.disk.now) (v c.root_of.new.disk) (v c.find_open.new.disk) c.root_of.ensures.reads c.find_open.ensures.reads

pub returns-clause-limits : goal.returns-clause-limits
returns-clause-limits g c = let old = g.D.Disk.view c.args.disk.now in
    λ t root is. ap (λ (r : Root). r.limits) (one_root (old.content root_file 0) c.in_ok-root.root root (c.in_ok-root.ensures.root t) is)

pub returns-clause-next : goal.returns-clause-next
returns-clause-next g c = let v = g.D.Disk.view in let old = v c.args.disk.now in let mid = v c.root_of.new.disk in let reads = c.root_of.ensures.reads in
    λ t journal is. (c.in_ok-next.ensures.next (still_tells old mid reads.told t) journal (subst (λ (m : Image). IsJournalOf m journal) (sym (image_same old mid reads t)) is)).in_slot
