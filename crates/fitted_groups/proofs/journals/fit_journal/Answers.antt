use Rattle.std.proofs.Common.{rules, ◌∙◌, sym, subst}
use Rattle.rdb_outside.specs.Disk.{Image}
use Rattle.rdb_outside.specs.Runs.{then_reads}
use Rattle.stable_lines.specs.Journal.{IsJournalOf}
use Rattle.line_moves.proofs.Runs.{still_tells}
use Rattle.line_opening.proofs.Counted.{if_ok}
use Rattle.laid_groups.proofs.Walking.{seen_same}
use Rattle.fitted_groups.proofs.journals.fit_journal.Goals as goal

pub returns-in_err-first-clause-bad : goal.returns-in_err-first-clause-bad
returns-in_err-first-clause-bad g c = λ named at is t journal has. c.first_number.ensures.bad named at (search rules) t journal.first has.header

pub returns-clause-reads : goal.returns-clause-reads
returns-clause-reads g c = let v = g.D.Disk.view in then_reads (v c.args.disk.now) (v c.first_number.new.disk) (v c.fit_groups.new.disk) c.first_number.ensures.reads c.fit_groups.ensures.reads

pub returns-clause-bad : goal.returns-clause-bad
returns-clause-bad g c = λ named at is t journal has. c.fit_groups.ensures.bad named at is

pub returns-clause-behind : goal.returns-clause-behind
returns-clause-behind g c = let v = g.D.Disk.view in let old = v c.args.disk.now in let mid = v c.first_number.new.disk in let reads = c.first_number.ensures.reads in
    if_ok _ _ c.fit_groups.result (λ found so reached is t journal has.
    let here = subst (λ (m : Image). IsJournalOf m journal) (sym (seen_same old.content mid.content c.args.file (λ s. (reads.keeps t).content c.args.file s))) has in
    let starts = sym (c.in_ok-first.ensures.header t).fields.1.0 ∙ has.header.fields.1.0 in
    so reached is (still_tells old mid reads.told t) journal here starts) c.fit_groups.ensures.behind

pub returns-clause-fitted : goal.returns-clause-fitted
returns-clause-fitted g c = let v = g.D.Disk.view in let old = v c.args.disk.now in let mid = v c.first_number.new.disk in let reads = c.first_number.ensures.reads in
    if_ok _ _ c.fit_groups.result (λ found so reached is t journal has.
    let here = subst (λ (m : Image). IsJournalOf m journal) (sym (seen_same old.content mid.content c.args.file (λ s. (reads.keeps t).content c.args.file s))) has in
    let starts = sym (c.in_ok-first.ensures.header t).fields.1.0 ∙ has.header.fields.1.0 in
    so reached is (still_tells old mid reads.told t) journal here starts) c.fit_groups.ensures.fitted

pub returns-clause-unfit : goal.returns-clause-unfit
returns-clause-unfit g c = let v = g.D.Disk.view in let old = v c.args.disk.now in let mid = v c.first_number.new.disk in let reads = c.first_number.ensures.reads in
    if_ok _ _ c.fit_groups.result (λ found so key is t journal has.
    let here = subst (λ (m : Image). IsJournalOf m journal) (sym (seen_same old.content mid.content c.args.file (λ s. (reads.keeps t).content c.args.file s))) has in
    let starts = sym (c.in_ok-first.ensures.header t).fields.1.0 ∙ has.header.fields.1.0 in
    so key is (still_tells old mid reads.told t) journal here starts) c.fit_groups.ensures.unfit
