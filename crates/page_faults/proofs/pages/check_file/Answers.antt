use Rattle.std.proofs.Common.{◌-◌, subst}
use Rattle.std.proofs.lemmas.Result.{on_ok_weaker}
use Rattle.rdb_outside.specs.Disk.{Image}
use Rattle.rdb_outside.specs.Runs.{no_calls, one_call, then_reads}
use Rattle.page_faults.specs.Listing.{Grows, Lists}
use Rattle.page_faults.proofs.Reading.{image_same, told_on, zeros_fine}
use Rattle.page_faults.proofs.Listed.{grows_rest}
use Rattle.page_faults.proofs.pages.check_file.Goals as goal

pub returns-clause-reads : goal.returns-clause-reads
returns-clause-reads g c =
    let v = g.D.Disk.view in
    let old = v c.args.disk.now in
    let mid = v c.length.new.self in
    let first = one_call old old mid c.length.result (no_calls old) c.length.ensures.counts c.length.ensures.kept in
    then_reads old mid (v c.check_to.new.disk) first c.check_to.ensures.reads

pub returns-clause-listed : goal.returns-clause-listed
returns-clause-listed g c =
    let v = g.D.Disk.view in
    let old = v c.args.disk.now in
    let mid = v c.length.new.self in
    let asked = c.args.asked in
    let file = c.args.file in
    let first = one_call old old mid c.length.result (no_calls old) c.length.ensures.counts c.length.ensures.kept in
    on_ok_weaker c.check_to.result (λ listed t.
    grows_rest old.content asked file c.pages_within.result 65536 c.args.faults.now c.check_to.new.faults c.pages_within.ensures.few
    (λ page after most. zeros_fine old.content asked c.area_file.result file page c.area_file.ensures (c.in_ok-length.ensures.zeros t (page - 1) (c.pages_within.ensures.rest page after most)))
    (subst (λ (m : Image). Grows (Lists m asked file c.pages_within.result) c.args.faults.now c.check_to.new.faults) (image_same old mid first t) (listed (told_on old mid first t)))) c.check_to.ensures.listed
