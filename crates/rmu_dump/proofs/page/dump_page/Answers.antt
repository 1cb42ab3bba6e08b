use Rattle.std.proofs.Common.{◌≡◌, ◌-◌, ◌++◌, ◌∙◌, refl}
use Rattle.rdb_outside.specs.Runs.{no_calls, one_call}
use Rattle.rmu_texts.specs.Page.{page_text}
use Rattle.page_faults.specs.Checks.{page_at}
use Rattle.page_faults.proofs.Reading.{read_there}
use Rattle.rmu_dump.proofs.page.dump_page.Goals as goal

pub returns-in_err-page_text-clause-reads : goal.returns-in_err-page_text-clause-reads
returns-in_err-page_text-clause-reads g c =
    let v = g.D.Disk.view in
    let old = v c.args.disk.now in
    one_call old old (v c.read.new.self) c.read.result (no_calls old) c.read.ensures.counts c.read.ensures.kept

pub returns-clause-reads : goal.returns-clause-reads
returns-clause-reads g c =
    let v = g.D.Disk.view in
    let old = v c.args.disk.now in
    one_call old old (v c.read.new.self) c.read.result (no_calls old) c.read.ensures.counts c.read.ensures.kept

pub returns-clause-text : goal.returns-clause-text
returns-clause-text g c = λ t.
    let old = g.D.Disk.view c.args.disk.now in
    let here : c.read.new.into ≡ page_at old.content c.args.area c.args.page = read_there old.content c.area_file.result (c.args.page - 1) c.args.area c.args.page c.read.new.into (c.in_ok-read.ensures.bytes t) c.area_file.ensures refl in
    c.in_ok-page_text.ensures ∙ (λ i. c.args.out.now ++ page_text (here i))
