use Rattle.std.proofs.Common.{◌≡◌, ◌∙◌, Some, Err, sym, ap, subst}
use Rattle.std.proofs.lemmas.Result.{err_from_is_err_and}
use Rattle.rdb_types.specs.declared.keys.Dbkey.{Dbkey}
use Rattle.line_view.specs.Knowledge.{line_in}
use Rattle.line_store.specs.declared.answers.Fault.{Fault}
use Rattle.next_lines.specs.partial_backup.Partial.{IsNext}
use Rattle.backup_steps.proofs.Counting.{few_lines, never_unfit}
use Rattle.backup_steps.proofs.Reading.{err_keeps, err_same}
use Rattle.backup_steps.proofs.Runs.{read_on, still_tells}
use Rattle.backup_steps.proofs.steps.copy_line.Goals as goal

pub returns-in_err-version-clause-not_copied : goal.returns-in_err-version-clause-not_copied
returns-in_err-version-clause-not_copied g c = let old = g.D.Disk.view c.args.disk.now in let mid = g.D.Disk.view c.version_seen.new.disk in
    err_keeps c.from_residual.result old mid c.args.copying.now (λ t former classes lines was. read_on former classes lines old mid c.args.copying.now c.version_seen.ensures.reads t was)

pub returns-in_err-version-clause-bad : goal.returns-in_err-version-clause-bad
returns-in_err-version-clause-bad g c = λ f s is t former classes ledger lines reader ordered may leads was.
    let p = err_from_is_err_and c.from_residual.result c.from_residual.ensures.1 in
    c.version_seen.ensures.bad f s (c.in_err-version.was ∙ ap (λ (x : Fault). Err x) (sym p.2 ∙ err_same _ _ (sym p.1 ∙ is))) t ledger reader.facts

pub returns-in_err-put-in-Present-clause-not_copied : goal.returns-in_err-put-in-Present-clause-not_copied
returns-in_err-put-in-Present-clause-not_copied g c = let old = g.D.Disk.view c.args.disk.now in let mid = g.D.Disk.view c.version_seen.new.disk in let new = g.D.Disk.view c.put.new.disk in let reads = c.version_seen.ensures.reads in
    err_keeps c.from_residual-in_err-put-in-Present.result old new c.args.copying.now
    (λ t former classes lines was. c.in_err-put-in-Present.ensures.not_copied (still_tells old mid reads.told t) former classes lines (read_on former classes lines old mid c.args.copying.now reads t was))

pub returns-in-Absent-clause-copied : goal.returns-in-Absent-clause-copied
returns-in-Absent-clause-copied g c = let old = g.D.Disk.view c.args.disk.now in let mid = g.D.Disk.view c.version_seen.new.disk in let reads = c.version_seen.ensures.reads in
    λ t former classes ledger lines reader leads was.
    c.pass.ensures.reaches former classes lines c.requires.is_open leads.0 (sym (c.in_ok-version.ensures.seen t ledger lines reader) ∙ c.in-Absent.ensures)
    (read_on former classes lines old mid c.args.copying.now reads t was)

pub returns-in_ok-put-in-Present-clause-copied : goal.returns-in_ok-put-in-Present-clause-copied
returns-in_ok-put-in-Present-clause-copied g c = let old = g.D.Disk.view c.args.disk.now in let mid = g.D.Disk.view c.version_seen.new.disk in let reads = c.version_seen.ensures.reads in let copy = c.in-Present.ensures in
    λ t former classes ledger lines reader leads was.
    let there : line_in c.args.next.key lines ≡ Some c.in-Present.line.image = sym (c.in_ok-version.ensures.seen t ledger lines reader) ∙ copy.image in
    c.in_ok-put-in-Present.ensures.copied (still_tells old mid reads.told t) former classes lines
    (subst (λ (k : Dbkey). IsNext lines c.args.copying.now.from k) (sym copy.key) leads.0)
    (ap (λ (k : Dbkey). line_in k lines) copy.key ∙ there)
    (copy.class ∙ leads.1 c.in-Present.line.image there ∙ ap (λ (k : Dbkey). classes k.area) (sym copy.key))
    (read_on former classes lines old mid c.args.copying.now reads t was)

pub returns-in-Unfit-clause-not_copied : goal.returns-in-Unfit-clause-not_copied
returns-in-Unfit-clause-not_copied g c = let old = g.D.Disk.view c.args.disk.now in let mid = g.D.Disk.view c.version_seen.new.disk in
    λ t former classes lines was. read_on former classes lines old mid c.args.copying.now c.version_seen.ensures.reads t was

pub returns-in-Unfit-clause-bad : goal.returns-in-Unfit-clause-bad
returns-in-Unfit-clause-bad g c = let old = g.D.Disk.view c.args.disk.now in
    λ f s is t former classes ledger lines reader ordered may leads was.
    never_unfit classes lines c.args.reader.now c.args.copying.now.from c.args.next c.args.copying.now.backup.lines c.in_ok-version.version may leads
    (c.in_ok-version.ensures.seen t ledger lines reader) (λ line same. c.in_ok-version.ensures.ended line same)
    (few_lines former classes lines old c.args.copying.now ordered c.requires.is_open was) c.in-Unfit.ensures
