use Rattle.std.proofs.Common.{rules, ◌∙◌, ◌<◌, ◌^◌, sym, subst}
use Rattle.std.proofs.lemmas.Option.{same_Some}
use Rattle.rdb_outside.specs.Disk.{Image}
use Rattle.rdb_outside.specs.Runs.{one_call, then_reads}
use Rattle.line_moves.proofs.Runs.{still_tells}
use Rattle.stable_lines.specs.Journal.{IsJournalOf}
use Rattle.laid_groups.specs.declared.passing.Reached.{Reached}
use Rattle.laid_groups.proofs.Walking.{seen_same}
use Rattle.laid_groups.proofs.passing.pass_journal.Goals as goal

pub returns-in_err-first-clause-bad : goal.returns-in_err-first-clause-bad
returns-in_err-first-clause-bad g c = λ named at is t journal has. c.first_number.ensures.bad named at (search rules) t journal.first has.header

pub returns-in_err-end-clause-reads : goal.returns-in_err-end-clause-reads
returns-in_err-end-clause-reads g c = let v = g.D.Disk.view in one_call (v c.args.disk.now) (v c.first_number.new.disk) (v c.length.new.self) c.length.result c.first_number.ensures.reads c.length.ensures.counts c.length.ensures.kept

pub returns-in_err-reached-clause-reads : goal.returns-in_err-reached-clause-reads
returns-in_err-reached-clause-reads g c = let v = g.D.Disk.view in let old = v c.args.disk.now in let mid = v c.length.new.self in
    let reads = one_call old (v c.first_number.new.disk) mid c.length.result c.first_number.ensures.reads c.length.ensures.counts c.length.ensures.kept in
    then_reads old mid (v c.pass_groups.new.disk) reads c.pass_groups.ensures.reads

pub returns-clause-reads : goal.returns-clause-reads
returns-clause-reads g c = let v = g.D.Disk.view in let old = v c.args.disk.now in let mid = v c.length.new.self in
    let reads = one_call old (v c.first_number.new.disk) mid c.length.result c.first_number.ensures.reads c.length.ensures.counts c.length.ensures.kept in
    then_reads old mid (v c.pass_groups.new.disk) reads c.pass_groups.ensures.reads

pub returns-clause-last : goal.returns-clause-last
returns-clause-last g c = λ reached is. subst (λ (r : Reached). r.last < 2 ^ 63) (same_Some _ _ is) c.in_ok-reached.ensures.last

pub returns-clause-reached : goal.returns-clause-reached
returns-clause-reached g c = let v = g.D.Disk.view in let old = v c.args.disk.now in let first = v c.first_number.new.disk in let mid = v c.length.new.self in
    let reads = one_call old first mid c.length.result c.first_number.ensures.reads c.length.ensures.counts c.length.ensures.kept in
    λ t journal has reached is.
    let told = still_tells old first c.first_number.ensures.reads.told t in
    sym (same_Some _ _ is)
    ∙ c.in_ok-reached.ensures.reached (still_tells old mid reads.told t) journal
    (subst (λ (m : Image). IsJournalOf m journal) (sym (seen_same old.content mid.content c.args.file (λ s. (reads.keeps t).content c.args.file s))) has)
    (sym (c.in_ok-first.ensures.header t).fields.1.0 ∙ has.header.fields.1.0)
    (λ s le. (c.length.ensures.kept told).content c.args.file s ∙ c.in_ok-end.ensures.zeros told s le)
