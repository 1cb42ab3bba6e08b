use Rattle.std.proofs.Common.{◌≡◌, sym, subst, map}
use Rattle.rdb_outside.specs.Disk.{Image}
use Rattle.rdb_outside.specs.Runs.{then_reads}
use Rattle.stable_lines.specs.Journal.{IsJournalOf}
use Rattle.line_moves.proofs.Runs.{still_tells}
use Rattle.line_opening.specs.Headers.{open_in}
use Rattle.line_opening.proofs.Passed.{image_same}
use Rattle.before_images.proofs.Numbers.{are_open}
use Rattle.before_images.proofs.open.read_open.Goals as goal

pub returns-in_err-_next-clause-reads : goal.returns-in_err-_next-clause-reads
returns-in_err-_next-clause-reads g c = let v = g.D.Disk.view in then_reads (v c.args.disk.now) (v c.all_named.new.disk) (v c.find_open.new.disk) c.all_named.ensures.reads c.find_open.ensures.reads

pub returns-clause-reads : goal.returns-clause-reads
returns-clause-reads g c = let v = g.D.Disk.view in then_reads (v c.args.disk.now) (v c.all_named.new.disk) (v c.find_open.new.disk) c.all_named.ensures.reads c.find_open.ensures.reads

pub returns-clause-open : goal.returns-clause-open
returns-clause-open g c = let v = g.D.Disk.view in let old = v c.args.disk.now in let mid = v c.all_named.new.disk in let reads = c.all_named.ensures.reads in
    λ t journal is.
    let left : c.find_open.new.numbers ≡ map (open_in journal.groups) c.in_ok-numbers.numbers = c.in_ok-_next.ensures.open (still_tells old mid reads.told t) journal (subst (λ (m : Image). IsJournalOf m journal) (sym (image_same old mid reads t)) is) in
    are_open old.content journal.groups c.in_ok-numbers.numbers c.find_open.new.numbers (c.in_ok-numbers.ensures.names t) left
