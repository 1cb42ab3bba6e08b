use Rattle.std.proofs.Common.{rules, ◌≡◌, ◌≢◌, ◌∙◌, ℕ, true, refl, sym, ap, subst, arith}
use Rattle.rdb_outside.specs.Disk.{LeavesOnly}
use Rattle.rdb_outside.specs.Runs.{no_calls}
use Rattle.backup_making.specs.declared.making.Backup.{Backup}
use Rattle.backup_making.specs.Making.{file_of, Former}
use Rattle.line_moves.proofs.Runs.{still_tells}
use Rattle.line_opening.proofs.Standing.{leaves_on}
use Rattle.database_opening.proofs.Others.{file_unused, file_read, file_on}
use Rattle.database_opening.specs.Start.{beginning_with}
use Rattle.copied_lines.specs.Copying.{IsStopped}
use Rattle.whole_backup.specs.BackedUp.{WithinBackup}
use Rattle.whole_backup.proofs.Started.{pages_whole, copying_begins}
use Rattle.whole_backup.proofs.Run.{told_read, facts_then, same_read, might_then, within_read, within_begun, within_copied, ending_leaves, ended_run}
use Rattle.whole_backup.proofs.whole.back_up.Goals as goal

pub returns-in_default-clause-bad : goal.returns-in_default-clause-bad
returns-in_default-clause-bad g c = λ file slot is t classes lines journal begins numbered. c.in_default.ensures.none numbered

pub returns-in_default-clause-within : goal.returns-in_default-clause-within
returns-in_default-clause-within g c = let old = g.D.Disk.view c.args.disk.now in λ t classes lines journal begins former might.
    let content = g.met.D.Disk.content_left c.args.disk.now old.moment t (omega arith) in
    within_read classes lines journal c.args.start.now old old t content begins (no_calls old) former c.args.number might

pub returns-in_err-pages-clause-bad : goal.returns-in_err-pages-clause-bad
returns-in_err-pages-clause-bad g c = let old = g.D.Disk.view c.args.disk.now in λ file slot is t classes lines journal begins numbered.
    let content = g.met.D.Disk.content_left c.args.disk.now old.moment t (omega arith) in
    c.used_pages.ensures.bad file slot (search rules) t (pages_whole old (beginning_with classes lines journal c.args.start.now) content begins.facts)

pub returns-in_err-pages-clause-within : goal.returns-in_err-pages-clause-within
returns-in_err-pages-clause-within g c = let v = g.D.Disk.view in let old = v c.args.disk.now in λ t classes lines journal begins former might.
    let content = g.met.D.Disk.content_left c.args.disk.now old.moment t (omega arith) in
    within_read classes lines journal c.args.start.now old (v c.used_pages.new.disk) t content begins c.used_pages.ensures.reads former c.args.number might

pub returns-in_err-backup-clause-within : goal.returns-in_err-backup-clause-within
returns-in_err-backup-clause-within g c = let v = g.D.Disk.view in let old = v c.args.disk.now in let read = v c.used_pages.new.disk in let start = c.args.start.now in let number = c.args.number in let reads = c.used_pages.ensures.reads in
    λ t classes lines journal begins former might.
    let content = g.met.D.Disk.content_left c.args.disk.now old.moment t (omega arith) in
    within_begun classes lines journal start old read t content begins reads former number might (v c.begin_backup.new.disk)
    (c.begin_backup.ensures.beginning (told_read classes lines journal start old read t content begins reads) (beginning_with classes lines journal start) former
    (facts_then classes lines journal start old read t content begins reads) (might_then classes lines journal start old read t content begins reads former number might))

pub returns-in_err-copy_all-clause-bad : goal.returns-in_err-copy_all-clause-bad
returns-in_err-copy_all-clause-bad g c = let v = g.D.Disk.view in let old = v c.args.disk.now in let read = v c.used_pages.new.disk in let begun = v c.begin_backup.new.disk in let start = c.args.start.now in let reads = c.used_pages.ensures.reads in
    λ file slot is t classes lines journal begins numbered.
    let content = g.met.D.Disk.content_left c.args.disk.now old.moment t (omega arith) in
    let now = beginning_with classes lines journal start in
    let former : Former = λ at bytes. true in
    let told = told_read classes lines journal start old read t content begins reads in
    let facts = c.begin_backup.ensures.keeps told now (facts_then classes lines journal start old read t content begins reads) in
    let copying = copying_begins old now content begins.facts former c.in_ok-backup.backup c.in_ok-pages.pages begun (c.in_ok-pages.ensures.used t) (c.in_ok-backup.ensures.begun told former (λ at bytes p. refl)) facts
    (c.begin_backup.ensures.same told old.content (same_read classes lines journal start old read t content begins reads)) in
    c.copy_all.ensures.bad file slot (search rules) (still_tells read begun c.begin_backup.ensures.told told) former old.content now copying

pub returns-in_err-copy_all-clause-within : goal.returns-in_err-copy_all-clause-within
returns-in_err-copy_all-clause-within g c = let v = g.D.Disk.view in let old = v c.args.disk.now in let read = v c.used_pages.new.disk in let begun = v c.begin_backup.new.disk in let copied = v c.copy_all.new.disk in let start = c.args.start.now in let number = c.args.number in let reads = c.used_pages.ensures.reads in
    λ t classes lines journal begins former might.
    let content = g.met.D.Disk.content_left c.args.disk.now old.moment t (omega arith) in
    let now = beginning_with classes lines journal start in
    let told = told_read classes lines journal start old read t content begins reads in
    let then_might = might_then classes lines journal start old read t content begins reads former number might in
    let before = facts_then classes lines journal start old read t content begins reads in
    let facts = c.begin_backup.ensures.keeps told now before in
    let copying = copying_begins old now content begins.facts former c.in_ok-backup.backup c.in_ok-pages.pages begun (c.in_ok-pages.ensures.used t) (c.in_ok-backup.ensures.begun told former then_might) facts
    (c.begin_backup.ensures.same told old.content (same_read classes lines journal start old read t content begins reads)) in
    let its : c.in_ok-backup.backup.number ≡ number = ap (λ (b : Backup). b.number) c.in_ok-backup.ensures.opened in
    within_copied classes lines journal start old read t content begins reads former number might begun (c.begin_backup.ensures.beginning told now former before then_might) copied
    (subst (λ (n : ℕ). LeavesOnly begun copied (IsStopped now n)) its (c.copy_all.ensures.stopped (still_tells read begun c.begin_backup.ensures.told told) former old.content now copying))

pub returns-in_err-end_backup-clause-within : goal.returns-in_err-end_backup-clause-within
returns-in_err-end_backup-clause-within g c = let v = g.D.Disk.view in let old = v c.args.disk.now in let read = v c.used_pages.new.disk in let begun = v c.begin_backup.new.disk in let copied = v c.copy_all.new.disk in let new = v c.end_backup.new.disk in let start = c.args.start.now in let number = c.args.number in let reads = c.used_pages.ensures.reads in
    λ t classes lines journal begins former might.
    let content = g.met.D.Disk.content_left c.args.disk.now old.moment t (omega arith) in
    let now = beginning_with classes lines journal start in
    let told = told_read classes lines journal start old read t content begins reads in
    let then_might = might_then classes lines journal start old read t content begins reads former number might in
    let before = facts_then classes lines journal start old read t content begins reads in
    let facts = c.begin_backup.ensures.keeps told now before in
    let copying = copying_begins old now content begins.facts former c.in_ok-backup.backup c.in_ok-pages.pages begun (c.in_ok-pages.ensures.used t) (c.in_ok-backup.ensures.begun told former then_might) facts
    (c.begin_backup.ensures.same told old.content (same_read classes lines journal start old read t content begins reads)) in
    let its : c.in_ok-backup.backup.number ≡ number = ap (λ (b : Backup). b.number) c.in_ok-backup.ensures.opened in
    let told_begun = still_tells read begun c.begin_backup.ensures.told told in
    let all = c.in_ok-copy_all.ensures.copied told_begun former old.content now copying in
    let b = c.copy_all.new.backup in
    let with_lines : Backup → Backup = λ x. record x { lines = b.lines } in
    leaves_on old copied new (WithinBackup classes lines former number)
    (within_copied classes lines journal start old read t content begins reads former number might begun (c.begin_backup.ensures.beginning told now former before then_might) copied
    (subst (λ (n : ℕ). LeavesOnly begun copied (IsStopped now n)) its (c.copy_all.ensures.stopped told_begun former old.content now copying)))
    (ending_leaves classes lines journal start old t content begins former number c.in-Some.last c.in-Some.ensures.next copied b (c.in_ok-copy_all.ensures.grown.same ∙ ap with_lines c.in_ok-backup.ensures.opened) all new
    (c.end_backup.ensures.ending (still_tells begun copied c.copy_all.ensures.told told_begun) now former all.lines all.facts all.at))

pub returns-clause-within : goal.returns-clause-within
returns-clause-within g c = let v = g.D.Disk.view in let old = v c.args.disk.now in let read = v c.used_pages.new.disk in let begun = v c.begin_backup.new.disk in let copied = v c.copy_all.new.disk in let new = v c.end_backup.new.disk in let start = c.args.start.now in let number = c.args.number in let reads = c.used_pages.ensures.reads in
    λ t classes lines journal begins former might.
    let content = g.met.D.Disk.content_left c.args.disk.now old.moment t (omega arith) in
    let now = beginning_with classes lines journal start in
    let told = told_read classes lines journal start old read t content begins reads in
    let then_might = might_then classes lines journal start old read t content begins reads former number might in
    let before = facts_then classes lines journal start old read t content begins reads in
    let facts = c.begin_backup.ensures.keeps told now before in
    let copying = copying_begins old now content begins.facts former c.in_ok-backup.backup c.in_ok-pages.pages begun (c.in_ok-pages.ensures.used t) (c.in_ok-backup.ensures.begun told former then_might) facts
    (c.begin_backup.ensures.same told old.content (same_read classes lines journal start old read t content begins reads)) in
    let its : c.in_ok-backup.backup.number ≡ number = ap (λ (b : Backup). b.number) c.in_ok-backup.ensures.opened in
    let told_begun = still_tells read begun c.begin_backup.ensures.told told in
    let all = c.in_ok-copy_all.ensures.copied told_begun former old.content now copying in
    let b = c.copy_all.new.backup in
    let with_lines : Backup → Backup = λ x. record x { lines = b.lines } in
    leaves_on old copied new (WithinBackup classes lines former number)
    (within_copied classes lines journal start old read t content begins reads former number might begun (c.begin_backup.ensures.beginning told now former before then_might) copied
    (subst (λ (n : ℕ). LeavesOnly begun copied (IsStopped now n)) its (c.copy_all.ensures.stopped told_begun former old.content now copying)))
    (ending_leaves classes lines journal start old t content begins former number c.in-Some.last c.in-Some.ensures.next copied b (c.in_ok-copy_all.ensures.grown.same ∙ ap with_lines c.in_ok-backup.ensures.opened) all new
    (c.end_backup.ensures.ending (still_tells begun copied c.copy_all.ensures.told told_begun) now former all.lines all.facts all.at))

pub returns-clause-backed_up : goal.returns-clause-backed_up
returns-clause-backed_up g c = let v = g.D.Disk.view in let old = v c.args.disk.now in let read = v c.used_pages.new.disk in let begun = v c.begin_backup.new.disk in let copied = v c.copy_all.new.disk in let new = v c.end_backup.new.disk in let start = c.args.start.now in let number = c.args.number in let reads = c.used_pages.ensures.reads in
    λ t classes lines journal begins image left.
    let content = g.met.D.Disk.content_left c.args.disk.now old.moment t (omega arith) in
    let now = beginning_with classes lines journal start in
    let former : Former = λ at bytes. true in
    let told = told_read classes lines journal start old read t content begins reads in
    let facts = c.begin_backup.ensures.keeps told now (facts_then classes lines journal start old read t content begins reads) in
    let copying = copying_begins old now content begins.facts former c.in_ok-backup.backup c.in_ok-pages.pages begun (c.in_ok-pages.ensures.used t) (c.in_ok-backup.ensures.begun told former (λ at bytes p. refl)) facts
    (c.begin_backup.ensures.same told old.content (same_read classes lines journal start old read t content begins reads)) in
    let told_begun = still_tells read begun c.begin_backup.ensures.told told in
    let told_copied = still_tells begun copied c.copy_all.ensures.told told_begun in
    let all = c.in_ok-copy_all.ensures.copied told_begun former old.content now copying in
    let b = c.copy_all.new.backup in
    let with_lines : Backup → Backup = λ x. record x { lines = b.lines } in
    ended_run classes lines journal start old t content begins former number c.in-Some.last c.in-Some.ensures.next copied b (c.in_ok-copy_all.ensures.grown.same ∙ ap with_lines c.in_ok-backup.ensures.opened) all new
    (c.end_backup.ensures.keeps told_copied now all.facts) (c.in_ok-end_backup.ensures.ended told_copied former all.lines all.at) image left

pub returns-in_default-clause-others : goal.returns-in_default-clause-others
returns-in_default-clause-others g c = λ t file apart. file_unused (g.D.Disk.view c.args.disk.now) t file

pub returns-in_err-pages-clause-others : goal.returns-in_err-pages-clause-others
returns-in_err-pages-clause-others g c = let v = g.D.Disk.view in λ t file apart. file_read (v c.args.disk.now) (v c.used_pages.new.disk) c.used_pages.ensures.reads t file

pub returns-in_err-backup-clause-others : goal.returns-in_err-backup-clause-others
returns-in_err-backup-clause-others g c = let v = g.D.Disk.view in let old = v c.args.disk.now in let read = v c.used_pages.new.disk in let reads = c.used_pages.ensures.reads in
    λ t file apart. file_on old read (v c.begin_backup.new.disk) file (file_read old read reads t file) (c.begin_backup.ensures.others (still_tells old read reads.told t) file apart)

pub returns-in_err-copy_all-clause-others : goal.returns-in_err-copy_all-clause-others
returns-in_err-copy_all-clause-others g c = let v = g.D.Disk.view in let old = v c.args.disk.now in let read = v c.used_pages.new.disk in let begun = v c.begin_backup.new.disk in let reads = c.used_pages.ensures.reads in
    λ t file apart.
    let told = still_tells old read reads.told t in
    let its : c.in_ok-backup.backup.number ≡ c.args.number = ap (λ (b : Backup). b.number) c.in_ok-backup.ensures.opened in
    file_on old begun (v c.copy_all.new.disk) file
    (file_on old read begun file (file_read old read reads t file) (c.begin_backup.ensures.others told file apart))
    (c.copy_all.ensures.others (still_tells read begun c.begin_backup.ensures.told told) file (subst (λ (n : ℕ). file ≢ file_of n) (sym its) apart))

pub returns-in_err-end_backup-clause-others : goal.returns-in_err-end_backup-clause-others
returns-in_err-end_backup-clause-others g c = let v = g.D.Disk.view in let old = v c.args.disk.now in let read = v c.used_pages.new.disk in let begun = v c.begin_backup.new.disk in let copied = v c.copy_all.new.disk in let reads = c.used_pages.ensures.reads in
    λ t file apart.
    let told = still_tells old read reads.told t in
    let told_begun = still_tells read begun c.begin_backup.ensures.told told in
    let its : c.in_ok-backup.backup.number ≡ c.args.number = ap (λ (b : Backup). b.number) c.in_ok-backup.ensures.opened in
    let still : c.copy_all.new.backup.number ≡ c.args.number = ap (λ (b : Backup). b.number) c.in_ok-copy_all.ensures.grown.same ∙ its in
    file_on old copied (v c.end_backup.new.disk) file
    (file_on old begun copied file
    (file_on old read begun file (file_read old read reads t file) (c.begin_backup.ensures.others told file apart))
    (c.copy_all.ensures.others told_begun file (subst (λ (n : ℕ). file ≢ file_of n) (sym its) apart)))
    (c.end_backup.ensures.others (still_tells begun copied c.copy_all.ensures.told told_begun) file (subst (λ (n : ℕ). file ≢ file_of n) (sym still) apart))

pub returns-clause-others : goal.returns-clause-others
returns-clause-others g c = let v = g.D.Disk.view in let old = v c.args.disk.now in let read = v c.used_pages.new.disk in let begun = v c.begin_backup.new.disk in let copied = v c.copy_all.new.disk in let reads = c.used_pages.ensures.reads in
    λ t file apart.
    let told = still_tells old read reads.told t in
    let told_begun = still_tells read begun c.begin_backup.ensures.told told in
    let its : c.in_ok-backup.backup.number ≡ c.args.number = ap (λ (b : Backup). b.number) c.in_ok-backup.ensures.opened in
    let still : c.copy_all.new.backup.number ≡ c.args.number = ap (λ (b : Backup). b.number) c.in_ok-copy_all.ensures.grown.same ∙ its in
    file_on old copied (v c.end_backup.new.disk) file
    (file_on old begun copied file
    (file_on old read begun file (file_read old read reads t file) (c.begin_backup.ensures.others told file apart))
    (c.copy_all.ensures.others told_begun file (subst (λ (n : ℕ). file ≢ file_of n) (sym its) apart)))
    (c.end_backup.ensures.others (still_tells begun copied c.copy_all.ensures.told told_begun) file (subst (λ (n : ℕ). file ≢ file_of n) (sym still) apart))
