use Rattle.std.proofs.Common.{◌≡◌, ◌≢◌, ◌∙◌, ◌⊎◌, ⊎_elim, ℕ, true, Some, ap, map, refl, subst, sym}
use Rattle.std.proofs.lemmas.Bool.{false≢true}
use Rattle.backup_making.specs.Making.{file_of}
use Rattle.journal_backup.specs.Copied.{copy_named}
use Rattle.rmu_keeping.specs.Keeping.{BacksUp, BacksUpWithin, CopiesJournal, CopiesJournalWithin, Restores, RestoresWithin}
use Rattle.rmu_keeping.specs.Rolling.{HasRolled, TellsGroups}
use Rattle.rdb_account.specs.Events.{event_of}
use Rattle.rdb_account.specs.Legal.{IsLegal}
use Rattle.workload_runs.specs.line_cluster.Sound.{is_over_slot}
use Rattle.workload_runs.specs.line_cluster.Turned.{HaveAllEnded}
use Rattle.workload_runs.specs.line_drive.Turns.{KeepsTurns}
use Rattle.workload_runs.specs.line_runs.Openings.{said_to}
use Rattle.command_words.specs.declared.words.Scripts.{Scripts}
use Rattle.command_words.specs.Words.{word_of, order_in}
use Rattle.rdb_top.specs.Deaths.{letting}
use Rattle.rdb_top.specs.Runs.{scripts_of, IsRun, OfSomeScripts}
use Rattle.sound_maps.specs.Maps.{IsSoundWith}
use Rattle.workload_runs.proofs.Faultless.{standing-lists-none}
use Rattle.workload_runs.proofs.Opening.{opens-has-root}
use Rattle.rdb_top.specs.Workloads.{AreWorkloadRuns, LeavesAll, LeavesRuns}
use Rattle.rdb_top.proofs.Givens.{same-given, same-backup, same-copy, same-restore, same-workload}
use Rattle.rdb_top.proofs.Saying.{prefix-of-given, backups-of-given, before-of-given, all-of-given}
use Rattle.rdb_top.proofs.top.run.Goals as goal

pub returns-in-Some-Rdo-clause-legal : goal.returns-in-Some-Rdo-clause-legal
returns-in-Some-Rdo-clause-legal g c given row told tells =
    subst (λ n. IsLegal (said_to (letting n.death g.O.Origin.opening) (word_of c.args.words.now) (scripts_of (g.S.Source.left c.args.scripts.now) n.count)) (map event_of c.run_rdo.result.events))
    (same-given c.in-Some-Rdo.given given _ (ap Some (sym c.in-Some-Rdo.field-0-is) ∙ c.in-Some-Rdo.ensures.row) row) (c.run_rdo.ensures.legal told tells)

pub returns-in-Some-Rdo-clause-harmed : goal.returns-in-Some-Rdo-clause-harmed
returns-in-Some-Rdo-clause-harmed g c given row told = c.run_rdo.ensures.harmed told

pub returns-in-Some-Rdo-clause-stopped : goal.returns-in-Some-Rdo-clause-stopped
returns-in-Some-Rdo-clause-stopped g c given row told is = c.run_rdo.ensures.stopped told is

pub returns-in-Some-Rdo-clause-whole : goal.returns-in-Some-Rdo-clause-whole
returns-in-Some-Rdo-clause-whole g c given row told tells whole =
    subst (λ n. HaveAllEnded (said_to (letting n.death g.O.Origin.opening) (word_of c.args.words.now) (scripts_of (g.S.Source.left c.args.scripts.now) n.count)) n.count (map event_of c.run_rdo.result.events))
    (same-given c.in-Some-Rdo.given given _ (ap Some (sym c.in-Some-Rdo.field-0-is) ∙ c.in-Some-Rdo.ensures.row) row) (c.run_rdo.ensures.whole told tells whole)

pub returns-in-Some-Rdo-clause-order : goal.returns-in-Some-Rdo-clause-order
returns-in-Some-Rdo-clause-order g c given row has_order told tells whole =
    subst (λ n. KeepsTurns (said_to (letting n.death g.O.Origin.opening) (word_of c.args.words.now) (scripts_of (g.S.Source.left c.args.scripts.now) n.count)) n.count (order_in c.args.words.now) c.run_rdo.result.events)
    (same-given c.in-Some-Rdo.given given _ (ap Some (sym c.in-Some-Rdo.field-0-is) ∙ c.in-Some-Rdo.ensures.row) row)
    (c.run_rdo.ensures.order (ap (λ (n : Scripts). n.has_order) (same-given c.in-Some-Rdo.given given _ (ap Some (sym c.in-Some-Rdo.field-0-is) ∙ c.in-Some-Rdo.ensures.row) row) ∙ has_order) told tells whole)

pub returns-in-Some-Rdo-clause-front : goal.returns-in-Some-Rdo-clause-front
returns-in-Some-Rdo-clause-front g c writes rolls works tells =
    rw (sym c.in-Some-Rdo.ensures.row) (rw c.in-Some-Rdo.field-0-is (c.run_rdo.ensures.front tells))

pub returns-in-Some-Rdo-clause-account : goal.returns-in-Some-Rdo-clause-account
returns-in-Some-Rdo-clause-account g c given row told =
    subst (λ n. OfSomeScripts n.count (g.S.Source.tells c.args.scripts.now ≡ true) (scripts_of (g.S.Source.left c.args.scripts.now) n.count)
    (IsRun g.O.Origin.opening (word_of c.args.words.now) n (order_in c.args.words.now) c.run_rdo.result.status c.run_rdo.result.events))
    (same-given c.in-Some-Rdo.given given _ (ap Some (sym c.in-Some-Rdo.field-0-is) ∙ c.in-Some-Rdo.ensures.row) row) (c.run_rdo.ensures.account told)

pub returns-in-Some-Rdo-clause-images : goal.returns-in-Some-Rdo-clause-images
returns-in-Some-Rdo-clause-images g c given row told tells some =
    prefix-of-given _ (g.D.Disk.view c.run_rdo.result.disk) g.O.Origin.opening (map event_of c.run_rdo.result.events) (word_of c.args.words.now) (g.S.Source.left c.args.scripts.now) c.in-Some-Rdo.given given
    (same-given c.in-Some-Rdo.given given _ (ap Some (sym c.in-Some-Rdo.field-0-is) ∙ c.in-Some-Rdo.ensures.row) row) (c.run_rdo.ensures.images told tells some)

pub returns-in-Some-Rdo-clause-backups : goal.returns-in-Some-Rdo-clause-backups
returns-in-Some-Rdo-clause-backups g c given row told tells some =
    backups-of-given _ (g.D.Disk.view c.run_rdo.result.disk) g.O.Origin.opening (map event_of c.run_rdo.result.events) (word_of c.args.words.now) (g.S.Source.left c.args.scripts.now) c.in-Some-Rdo.given given
    (same-given c.in-Some-Rdo.given given _ (ap Some (sym c.in-Some-Rdo.field-0-is) ∙ c.in-Some-Rdo.ensures.row) row) (c.run_rdo.ensures.backups told tells some)

pub returns-in-Some-Rdo-clause-left : goal.returns-in-Some-Rdo-clause-left
returns-in-Some-Rdo-clause-left g c given row told tells whole =
    all-of-given _ (g.D.Disk.view c.run_rdo.result.disk) g.O.Origin.opening (map event_of c.run_rdo.result.events) (word_of c.args.words.now) (g.S.Source.left c.args.scripts.now) c.in-Some-Rdo.given given
    (same-given c.in-Some-Rdo.given given _ (ap Some (sym c.in-Some-Rdo.field-0-is) ∙ c.in-Some-Rdo.ensures.row) row) (c.run_rdo.ensures.left told tells whole)

pub returns-in-Some-Verify-clause-faultless : goal.returns-in-Some-Verify-clause-faultless
returns-in-Some-Verify-clause-faultless g c row told tables stands seven =
    standing-lists-none (g.D.Disk.view c.args.disk) tables c.verify_command-status.result _ _ _ stands told c.verify_command-status.ensures.verifies (sym c.unsaid-in-Some-Verify.ensures.status ∙ seven)

pub returns-in-Some-Backup-clause-backed_up : goal.returns-in-Some-Backup-clause-backed_up
returns-in-Some-Backup-clause-backed_up g c number row is told =
    let v = g.D.Disk.view in let old = v c.args.disk in let new = v c.backup_command-status.new.disk in
    rw c.unsaid-in-Some-Backup.ensures.disk (subst (BacksUp old new) (same-backup c.in-Some-Backup.number number _ (ap Some (sym c.in-Some-Backup.field-0-is) ∙ c.in-Some-Backup.ensures.row) row) (c.backup_command-status.ensures.backed_up (sym c.unsaid-in-Some-Backup.ensures.status ∙ is) told))

pub returns-in-Some-Backup-clause-backing : goal.returns-in-Some-Backup-clause-backing
returns-in-Some-Backup-clause-backing g c number row told =
    let v = g.D.Disk.view in let old = v c.args.disk in let new = v c.backup_command-status.new.disk in
    rw c.unsaid-in-Some-Backup.ensures.disk (subst (BacksUpWithin old new) (same-backup c.in-Some-Backup.number number _ (ap Some (sym c.in-Some-Backup.field-0-is) ∙ c.in-Some-Backup.ensures.row) row) (c.backup_command-status.ensures.within told))

pub returns-in-Some-Backup-clause-beside_backup : goal.returns-in-Some-Backup-clause-beside_backup
returns-in-Some-Backup-clause-beside_backup g c number row told file kept apart =
    let v = g.D.Disk.view in let old = v c.args.disk in let new = v c.backup_command-status.new.disk in
    rw c.unsaid-in-Some-Backup.ensures.disk (c.backup_command-status.ensures.others told file kept (subst (λ (n : ℕ). file ≢ file_of n) (sym (same-backup c.in-Some-Backup.number number _ (ap Some (sym c.in-Some-Backup.field-0-is) ∙ c.in-Some-Backup.ensures.row) row)) apart))

pub returns-in-Some-BackupJournal-clause-copied : goal.returns-in-Some-BackupJournal-clause-copied
returns-in-Some-BackupJournal-clause-copied g c number row is told =
    let v = g.D.Disk.view in let old = v c.args.disk in let new = v c.journal_command-status.new.disk in
    rw c.unsaid-in-Some-BackupJournal.ensures.disk (subst (CopiesJournal old new) (same-copy c.in-Some-BackupJournal.number number _ (ap Some (sym c.in-Some-BackupJournal.field-0-is) ∙ c.in-Some-BackupJournal.ensures.row) row) (c.journal_command-status.ensures.copied (sym c.unsaid-in-Some-BackupJournal.ensures.status ∙ is) told))

pub returns-in-Some-BackupJournal-clause-copying : goal.returns-in-Some-BackupJournal-clause-copying
returns-in-Some-BackupJournal-clause-copying g c number row told =
    let v = g.D.Disk.view in let old = v c.args.disk in let new = v c.journal_command-status.new.disk in
    rw c.unsaid-in-Some-BackupJournal.ensures.disk (subst (CopiesJournalWithin old new) (same-copy c.in-Some-BackupJournal.number number _ (ap Some (sym c.in-Some-BackupJournal.field-0-is) ∙ c.in-Some-BackupJournal.ensures.row) row) (c.journal_command-status.ensures.within told))

pub returns-in-Some-BackupJournal-clause-beside_copy : goal.returns-in-Some-BackupJournal-clause-beside_copy
returns-in-Some-BackupJournal-clause-beside_copy g c number row told file kept apart =
    let v = g.D.Disk.view in let old = v c.args.disk in let new = v c.journal_command-status.new.disk in
    rw c.unsaid-in-Some-BackupJournal.ensures.disk (c.journal_command-status.ensures.others told file kept (subst (λ (n : ℕ). file ≢ copy_named n) (sym (same-copy c.in-Some-BackupJournal.number number _ (ap Some (sym c.in-Some-BackupJournal.field-0-is) ∙ c.in-Some-BackupJournal.ensures.row) row)) apart))

pub returns-in-Some-Restore-clause-restored : goal.returns-in-Some-Restore-clause-restored
returns-in-Some-Restore-clause-restored g c number row is told =
    let v = g.D.Disk.view in let old = v c.args.disk in let new = v c.restore_command-status.new.disk in
    rw c.unsaid-in-Some-Restore.ensures.disk (subst (Restores old new) (same-restore c.in-Some-Restore.number number _ (ap Some (sym c.in-Some-Restore.field-0-is) ∙ c.in-Some-Restore.ensures.row) row) (c.restore_command-status.ensures.restored (sym c.unsaid-in-Some-Restore.ensures.status ∙ is) told))

pub returns-in-Some-Restore-clause-restoring : goal.returns-in-Some-Restore-clause-restoring
returns-in-Some-Restore-clause-restoring g c number row told =
    let v = g.D.Disk.view in let old = v c.args.disk in let new = v c.restore_command-status.new.disk in
    rw c.unsaid-in-Some-Restore.ensures.disk (subst (RestoresWithin old new) (same-restore c.in-Some-Restore.number number _ (ap Some (sym c.in-Some-Restore.field-0-is) ∙ c.in-Some-Restore.ensures.row) row) (c.restore_command-status.ensures.within told))

pub returns-in-Some-Restore-clause-beside_restore : goal.returns-in-Some-Restore-clause-beside_restore
returns-in-Some-Restore-clause-beside_restore g c number row told file other =
    let v = g.D.Disk.view in let old = v c.args.disk in let new = v c.restore_command-status.new.disk in
    rw c.unsaid-in-Some-Restore.ensures.disk (c.restore_command-status.ensures.others told file other)

pub returns-in-Some-Recover-clause-rolled : goal.returns-in-Some-Recover-clause-rolled
returns-in-Some-Recover-clause-rolled g c rolls has told =
    rw c.unsaid-in-Some-Recover.ensures.disk (c.run_recover-status.ensures.rolled (subst HasRolled c.unsaid-in-Some-Recover.ensures.status has) told)

pub returns-in-Some-Recover-clause-rolling : goal.returns-in-Some-Recover-clause-rolling
returns-in-Some-Recover-clause-rolling g c rolls told = rw c.unsaid-in-Some-Recover.ensures.disk (c.run_recover-status.ensures.within told)

pub returns-in-Some-Recover-clause-counts : goal.returns-in-Some-Recover-clause-counts
returns-in-Some-Recover-clause-counts g c rolls = rw c.unsaid-in-Some-Recover.ensures.status c.run_recover-status.ensures.tells

pub returns-in-Some-Recover-clause-beside_roll : goal.returns-in-Some-Recover-clause-beside_roll
returns-in-Some-Recover-clause-beside_roll g c rolls told file other = rw c.unsaid-in-Some-Recover.ensures.disk (c.run_recover-status.ensures.others told file other)

pub returns-in-Some-Recover-clause-no_roll : goal.returns-in-Some-Recover-clause-no_roll
returns-in-Some-Recover-clause-no_roll g c rolls is told either =
    let four = sym c.unsaid-in-Some-Recover.ensures.status ∙ is in
    ⊎_elim (λ may. c.run_recover-status.ensures.refused four told may) (λ used. c.run_recover-status.ensures.taken four told used) either

pub returns-in-Some-Recover-clause-lacking : goal.returns-in-Some-Recover-clause-lacking
returns-in-Some-Recover-clause-lacking g c rolls told lacks =
    let gap = c.run_recover-status.ensures.gap told lacks in
    (λ has. gap.0 (subst HasRolled c.unsaid-in-Some-Recover.ensures.status has), rw c.unsaid-in-Some-Recover.ensures.disk gap.1)

pub returns-in-Some-Recover-clause-unfitting : goal.returns-in-Some-Recover-clause-unfitting
returns-in-Some-Recover-clause-unfitting g c rolls told has =
    let unfit = c.run_recover-status.ensures.unfitting told has in
    (λ rolled. unfit.0 (subst HasRolled c.unsaid-in-Some-Recover.ensures.status rolled), rw c.unsaid-in-Some-Recover.ensures.disk unfit.1)

pub returns-in-Some-Recover-clause-rolled_before : goal.returns-in-Some-Recover-clause-rolled_before
returns-in-Some-Recover-clause-rolled_before g c rolls told used = rw c.unsaid-in-Some-Recover.ensures.disk (c.run_recover-status.ensures.in_use told used)

pub returns-in-Some-Workload-clause-workload_runs : goal.returns-in-Some-Workload-clause-workload_runs
returns-in-Some-Workload-clause-workload_runs g c accounts row told unmade =
    subst (λ (n : ℕ). AreWorkloadRuns c.args.words.now (g.G.Gate.mortals c.args.gate.now) n c.run_workload.result.status c.run_workload.result.earlier c.run_workload.result.events)
    (same-workload c.in-Some-Workload.accounts accounts _ (ap Some (sym c.in-Some-Workload.field-0-is) ∙ c.in-Some-Workload.ensures.row) row)
    (c.run_workload.ensures.runs told unmade)

pub returns-in-Some-Workload-clause-workload_images : goal.returns-in-Some-Workload-clause-workload_images
returns-in-Some-Workload-clause-workload_images g c accounts row told unmade =
    let v = g.D.Disk.view in
    subst (λ (n : ℕ). LeavesRuns IsSoundWith c.args.words.now (g.G.Gate.mortals c.args.gate.now) n (v c.args.disk) (v c.run_workload.result.disk) c.run_workload.result.status c.run_workload.result.earlier c.run_workload.result.events)
    (same-workload c.in-Some-Workload.accounts accounts _ (ap Some (sym c.in-Some-Workload.field-0-is) ∙ c.in-Some-Workload.ensures.row) row)
    (c.run_workload.ensures.images told unmade)

pub returns-in-Some-Workload-clause-workload_left : goal.returns-in-Some-Workload-clause-workload_left
returns-in-Some-Workload-clause-workload_left g c accounts row told unmade =
    let v = g.D.Disk.view in
    subst (λ (n : ℕ). LeavesAll IsSoundWith c.args.words.now (g.G.Gate.mortals c.args.gate.now) n (v c.run_workload.result.disk) c.run_workload.result.status c.run_workload.result.earlier c.run_workload.result.events)
    (same-workload c.in-Some-Workload.accounts accounts _ (ap Some (sym c.in-Some-Workload.field-0-is) ∙ c.in-Some-Workload.ensures.row) row)
    (c.run_workload.ensures.left told unmade)

-- over a database that there is no session is stopped, since none is begun
pub returns-in-Some-Workload-clause-agrees : goal.returns-in-Some-Workload-clause-agrees
returns-in-Some-Workload-clause-agrees g c told =
    let opens = c.requires.opens told in
    rw (c.run_workload.ensures.idle opens.tells (opens-has-root _ (g.D.Disk.view c.args.disk) g.O.Origin.opening opens)) refl

pub returns-in-Some-Workload-clause-used_up : goal.returns-in-Some-Workload-clause-used_up
returns-in-Some-Workload-clause-used_up g c told over =
    let opens = c.requires.opens told in
    absurd (false≢true (ap is_over_slot (sym (c.run_workload.ensures.idle opens.tells (opens-has-root _ (g.D.Disk.view c.args.disk) g.O.Origin.opening opens))) ∙ over))

pub returns-in-Some-Rdo-clause-backups_before : goal.returns-in-Some-Rdo-clause-backups_before
returns-in-Some-Rdo-clause-backups_before g c given row told tells some =
    before-of-given (g.D.Disk.view c.args.disk) (g.D.Disk.view c.run_rdo.result.disk) g.O.Origin.opening (map event_of c.run_rdo.result.events) (word_of c.args.words.now) (g.S.Source.left c.args.scripts.now) c.in-Some-Rdo.given given
    (same-given c.in-Some-Rdo.given given _ (ap Some (sym c.in-Some-Rdo.field-0-is) ∙ c.in-Some-Rdo.ensures.row) row) (c.run_rdo.ensures.backups_before told tells some)
