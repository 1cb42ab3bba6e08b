use Rattle.std.proofs.Common.{subst}
use Rattle.std.proofs.lemmas.Result.{on_ok_weaker}
use Rattle.rdb_outside.specs.Disk.{Image}
use Rattle.rdb_outside.specs.Runs.{then_reads}
use Rattle.page_faults.specs.declared.checks.PageCheck.TheVariants.{Owned}
use Rattle.page_faults.specs.Listing.{Grows, ListsAll}
use Rattle.page_faults.proofs.Reading.{image_same, told_on}
use Rattle.page_faults.proofs.Listed.{grows_pages}
use Rattle.page_faults.proofs.pages.verify_pages.Goals as goal

pub returns-clause-reads : goal.returns-clause-reads
returns-clause-reads g c =
    let v = g.D.Disk.view in
    then_reads (v c.args.disk.now) (v c.check_pages.new.disk) (v c.check_pages-2.new.disk) c.check_pages.ensures.reads c.check_pages-2.ensures.reads

pub returns-clause-listed : goal.returns-clause-listed
returns-clause-listed g c =
    let v = g.D.Disk.view in
    let old = v c.args.disk.now in
    let one = v c.check_pages.new.disk in
    let first = c.check_pages.ensures.reads in
    on_ok_weaker c.check_pages-2.result (λ second t.
    grows_pages old.content c.args.faults.now c.check_pages.new.faults c.check_pages-2.new.faults (c.in_ok-check_pages.ensures.listed t)
    (subst (λ (m : Image). Grows (ListsAll m Owned) c.check_pages.new.faults c.check_pages-2.new.faults) (image_same old one first t) (second (told_on old one first t)))) c.check_pages-2.ensures.listed
