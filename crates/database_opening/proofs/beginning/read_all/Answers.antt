use Rattle.std.proofs.Common.{rules, ◌≡◌, ◌∙◌, List, ℕ, sym, subst}
use Rattle.rdb_outside.specs.Disk.{Image}
use Rattle.rdb_outside.specs.Runs.{then_reads}
use Rattle.new_database.specs.Maker.{root_file}
use Rattle.line_opening.specs.stable_lines.Slots.{ruj_file}
use Rattle.line_opening.specs.stable_lines.Journal.{IsJournalOf}
use Rattle.line_opening.specs.stable_lines.Kept.{IsRujHeader, Kept}
use Rattle.line_opening.proofs.of_line_moves.Runs.{still_tells}
use Rattle.line_opening.specs.Headers.{AreNamed}
use Rattle.line_opening.proofs.Passed.{image_same}
use Rattle.database_opening.specs.Reading.{IsOpenedRoot, AreCounted}
use Rattle.database_opening.proofs.Begun.{stable_read, first_is_stage, begun}
use Rattle.database_opening.proofs.beginning.read_all.Goals as goal

pub returns-in_err-named-clause-reads : goal.returns-in_err-named-clause-reads
returns-in_err-named-clause-reads g c = let v = g.D.Disk.view in
    then_reads (v c.args.disk.now) (v c.opened_root.new.disk) (v c.all_named.new.disk) c.opened_root.ensures.reads c.all_named.ensures.reads

pub returns-in_err-next-clause-reads : goal.returns-in_err-next-clause-reads
returns-in_err-next-clause-reads g c = let v = g.D.Disk.view in let old = v c.args.disk.now in let one = v c.opened_root.new.disk in let two = v c.all_named.new.disk in
    then_reads old two (v c.find_open.new.disk) (then_reads old one two c.opened_root.ensures.reads c.all_named.ensures.reads) c.find_open.ensures.reads

pub returns-in_err-counts-clause-reads : goal.returns-in_err-counts-clause-reads
returns-in_err-counts-clause-reads g c = let v = g.D.Disk.view in let old = v c.args.disk.now in let one = v c.opened_root.new.disk in let two = v c.all_named.new.disk in let three = v c.find_open.new.disk in
    then_reads old three (v c.count_all.new.disk) (then_reads old two three (then_reads old one two c.opened_root.ensures.reads c.all_named.ensures.reads) c.find_open.ensures.reads) c.count_all.ensures.reads

pub returns-clause-reads : goal.returns-clause-reads
returns-clause-reads g c = let v = g.D.Disk.view in let old = v c.args.disk.now in let one = v c.opened_root.new.disk in let two = v c.all_named.new.disk in let three = v c.find_open.new.disk in
    then_reads old three (v c.count_all.new.disk) (then_reads old two three (then_reads old one two c.opened_root.ensures.reads c.all_named.ensures.reads) c.find_open.ensures.reads) c.count_all.ensures.reads

pub returns-in_err-root-clause-bad : goal.returns-in_err-root-clause-bad
returns-in_err-root-clause-bad g c = λ file slot is t classes lines journal kept.
    c.opened_root.ensures.bad file slot (search rules) t kept.root (record { is = kept.is_root.is; state = kept.is_root.state })

pub returns-in_err-named-clause-bad : goal.returns-in_err-named-clause-bad
returns-in_err-named-clause-bad g c = let v = g.D.Disk.view in let old = v c.args.disk.now in let one = v c.opened_root.new.disk in let reads = c.opened_root.ensures.reads in
    λ file slot is t classes lines journal kept.
    c.all_named.ensures.bad file slot (search rules) (still_tells old one reads.told t)
    (λ member is_member. subst (λ (b : List ℕ). IsRujHeader b) (sym ((reads.keeps t).content (ruj_file member) 0)) (kept.well_formed.header member is_member))

pub returns-in_err-next-clause-bad : goal.returns-in_err-next-clause-bad
returns-in_err-next-clause-bad g c = let v = g.D.Disk.view in let old = v c.args.disk.now in let one = v c.opened_root.new.disk in let two = v c.all_named.new.disk in
    let reads = then_reads old one two c.opened_root.ensures.reads c.all_named.ensures.reads in
    λ file slot is t classes lines journal kept.
    c.find_open.ensures.bad file slot (search rules) (still_tells old two reads.told t) journal (subst (λ (image : Image). IsJournalOf image journal) (sym (image_same old two reads t)) kept.journal)

pub returns-in_err-counts-clause-bad : goal.returns-in_err-counts-clause-bad
returns-in_err-counts-clause-bad g c = λ file slot is t classes lines journal kept. c.count_all.ensures.bad file slot (search rules)

pub returns-clause-stage : goal.returns-clause-stage
returns-clause-stage g c = first_is_stage c.in_ok-named.named c.in_ok-counts.counts c.first_stage-stage.result c.first_stage-stage.ensures

pub returns-clause-found : goal.returns-clause-found
returns-clause-found g c = let v = g.D.Disk.view in let old = v c.args.disk.now in let one = v c.opened_root.new.disk in let two = v c.all_named.new.disk in let three = v c.find_open.new.disk in let new = v c.count_all.new.disk in
    let reads1 = c.opened_root.ensures.reads in
    let reads2 = then_reads old one two reads1 c.all_named.ensures.reads in
    let reads3 = then_reads old two three reads2 c.find_open.ensures.reads in
    let reads = then_reads old three new reads3 c.count_all.ensures.reads in
    λ t stable classes lines journal kept.
    let back : old.content ≡ new.content = sym (image_same old new reads t) in
    let from1 : one.content ≡ new.content = image_same old one reads1 t ∙ back in
    let from2 : two.content ≡ new.content = image_same old two reads2 t ∙ back in
    let from3 : three.content ≡ new.content = image_same old three reads3 t ∙ back in
    let journal_is = subst (λ (image : Image). IsJournalOf image journal) (sym (image_same old two reads2 t)) kept.journal in
    let told2 = still_tells old two reads2.told t in
    begun classes lines journal new (subst (λ (image : Image). Kept classes lines journal image) back kept) (stable_read old new reads t stable)
    c.in_ok-root.root c.in_ok-named.named c.find_open.new.numbers c.in_ok-counts.counts c.in_ok-next.next
    (subst (λ (image : Image). IsOpenedRoot (image root_file 0) c.in_ok-root.root) back (c.in_ok-root.ensures.found t))
    (subst (λ (image : Image). AreNamed image c.in_ok-named.named) from1 (c.in_ok-named.ensures.names (still_tells old one reads1.told t)))
    (c.in_ok-next.ensures.open told2 journal journal_is)
    (subst (λ (image : Image). AreCounted image c.find_open.new.numbers c.in_ok-counts.counts) from3 (c.in_ok-counts.ensures.counts (still_tells old three reads3.told t)))
    (c.in_ok-next.ensures.next told2 journal journal_is)
    c.first_stage-stage.result c.first_stage-stage.ensures

pub returns-clause-its_root : goal.returns-clause-its_root
returns-clause-its_root g c = λ t. (c.in_ok-root.ensures.found t).is
