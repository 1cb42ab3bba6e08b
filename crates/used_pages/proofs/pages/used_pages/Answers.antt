use Rattle.std.proofs.Common.{rules, sym, subst, arith}
use Rattle.rdb_outside.specs.Disk.{Image}
use Rattle.rdb_outside.specs.Runs.{then_reads}
use Rattle.line_moves.proofs.Runs.{still_tells}
use Rattle.line_opening.proofs.Passed.{image_same}
use Rattle.used_pages.specs.Pages.{HasUsedTo, AreWhole}
use Rattle.used_pages.proofs.Sets.{none_placed}
use Rattle.used_pages.proofs.Used.{still_used, three_files}
use Rattle.used_pages.proofs.pages.used_pages.Goals as goal

pub returns-in_err-read_file-2-clause-bad : goal.returns-in_err-read_file-2-clause-bad
returns-in_err-read_file-2-clause-bad g c = let v = g.D.Disk.view in let old = v c.args.disk.now in let one = v c.read_file.new.disk in let reads = c.read_file.ensures.reads in
    λ f slot is t whole. c.read_file-2.ensures.bad f slot (search rules) (still_tells old one reads.told t) (record { first = omega arith; last = omega arith }) (subst AreWhole (sym (image_same old one reads t)) whole)

pub returns-in_err-read_file-2-clause-reads : goal.returns-in_err-read_file-2-clause-reads
returns-in_err-read_file-2-clause-reads g c = let v = g.D.Disk.view in then_reads (v c.args.disk.now) (v c.read_file.new.disk) (v c.read_file-2.new.disk) c.read_file.ensures.reads c.read_file-2.ensures.reads

pub returns-in_err-read_file-3-clause-bad : goal.returns-in_err-read_file-3-clause-bad
returns-in_err-read_file-3-clause-bad g c = let v = g.D.Disk.view in let old = v c.args.disk.now in let two = v c.read_file-2.new.disk in
    let reads = then_reads old (v c.read_file.new.disk) two c.read_file.ensures.reads c.read_file-2.ensures.reads in
    λ f slot is t whole. c.read_file-3.ensures.bad f slot (search rules) (still_tells old two reads.told t) (record { first = omega arith; last = omega arith }) (subst AreWhole (sym (image_same old two reads t)) whole)

pub returns-in_err-read_file-3-clause-reads : goal.returns-in_err-read_file-3-clause-reads
returns-in_err-read_file-3-clause-reads g c = let v = g.D.Disk.view in let old = v c.args.disk.now in let two = v c.read_file-2.new.disk in
    then_reads old two (v c.read_file-3.new.disk) (then_reads old (v c.read_file.new.disk) two c.read_file.ensures.reads c.read_file-2.ensures.reads) c.read_file-3.ensures.reads

pub returns-clause-reads : goal.returns-clause-reads
returns-clause-reads g c = let v = g.D.Disk.view in let old = v c.args.disk.now in let two = v c.read_file-2.new.disk in
    then_reads old two (v c.read_file-3.new.disk) (then_reads old (v c.read_file.new.disk) two c.read_file.ensures.reads c.read_file-2.ensures.reads) c.read_file-3.ensures.reads

pub returns-clause-placed : goal.returns-clause-placed
returns-clause-placed g c =
    c.in_ok-read_file-3.ensures.placed (c.in_ok-read_file-2.ensures.placed (c.in_ok-read_file.ensures.placed (none_placed c.new-pages.result c.new-pages.ensures.empty)))

pub returns-clause-used : goal.returns-clause-used
returns-clause-used g c = let v = g.D.Disk.view in let old = v c.args.disk.now in let one = v c.read_file.new.disk in let two = v c.read_file-2.new.disk in
    λ t.
    let first = c.read_file.ensures.reads in
    let second = then_reads old one two first c.read_file-2.ensures.reads in
    let image = old.content in
    three_files image c.read_file-3.new.pages
    (still_used image 1 65536 c.read_file-2.new.pages c.read_file-3.new.pages c.in_ok-read_file-3.ensures.kept
    (still_used image 1 65536 c.read_file.new.pages c.read_file-2.new.pages c.in_ok-read_file-2.ensures.kept (c.in_ok-read_file.ensures.used t)))
    (still_used image 2 65536 c.read_file-2.new.pages c.read_file-3.new.pages c.in_ok-read_file-3.ensures.kept
    (subst (λ (m : Image). HasUsedTo m 2 65536 c.read_file-2.new.pages) (image_same old one first t) (c.in_ok-read_file-2.ensures.used (still_tells old one first.told t))))
    (subst (λ (m : Image). HasUsedTo m 3 65536 c.read_file-3.new.pages) (image_same old two second t) (c.in_ok-read_file-3.ensures.used (still_tells old two second.told t)))
