use Rattle.std.proofs.Common.{ℕ, List, subst}
use Rattle.std.proofs.lemmas.Result.{on_ok_weaker}
use Rattle.rdb_outside.specs.Disk.{Image}
use Rattle.rdb_outside.specs.Runs.{then_reads}
use Rattle.page_faults.specs.Listing.{Grows, Lists}
use Rattle.page_faults.proofs.Reading.{image_same, told_on}
use Rattle.page_faults.proofs.Listed.{grows_all}
use Rattle.page_faults.proofs.pages.check_pages.Goals as goal

pub returns-in_err-check_file-2-clause-reads : goal.returns-in_err-check_file-2-clause-reads
returns-in_err-check_file-2-clause-reads g c =
    let v = g.D.Disk.view in
    then_reads (v c.args.disk.now) (v c.check_file.new.disk) (v c.check_file-2.new.disk) c.check_file.ensures.reads c.check_file-2.ensures.reads

pub returns-clause-reads : goal.returns-clause-reads
returns-clause-reads g c =
    let v = g.D.Disk.view in
    let old = v c.args.disk.now in
    let two = then_reads old (v c.check_file.new.disk) (v c.check_file-2.new.disk) c.check_file.ensures.reads c.check_file-2.ensures.reads in
    then_reads old (v c.check_file-2.new.disk) (v c.check_file-3.new.disk) two c.check_file-3.ensures.reads

pub returns-clause-listed : goal.returns-clause-listed
returns-clause-listed g c =
    let v = g.D.Disk.view in
    let old = v c.args.disk.now in
    let one = v c.check_file.new.disk in
    let two = v c.check_file-2.new.disk in
    let asked = c.args.asked in
    let first = c.check_file.ensures.reads in
    let both = then_reads old one two first c.check_file-2.ensures.reads in
    on_ok_weaker c.check_file-3.result (λ third t.
    grows_all old.content asked c.args.faults.now c.check_file.new.faults c.check_file-2.new.faults c.check_file-3.new.faults
    (c.in_ok-check_file.ensures.listed t)
    (subst (λ (m : Image). Grows (Lists m asked 2 65536) c.check_file.new.faults c.check_file-2.new.faults) (image_same old one first t) (c.in_ok-check_file-2.ensures.listed (told_on old one first t)))
    (subst (λ (m : Image). Grows (Lists m asked 3 65536) c.check_file-2.new.faults c.check_file-3.new.faults) (image_same old two both t) (third (told_on old two both t)))) c.check_file-3.ensures.listed
