use Rattle.std.proofs.Common.{refl}
use Rattle.stable_lines.specs.Slots.{ruj_file}
use Rattle.rmu_restore.specs.Laying.{IsJournal}
use Rattle.guarded_root.proofs.Sweeping.{run_on}
use Rattle.rmu_restore.proofs.Blanked.{blanks_none, blanks_more, file_run, one_journal_file}
use Rattle.rmu_restore.proofs.blanking.blank_journals.Goals as goal

pub loop-member-init : goal.loop-member-init
loop-member-init g c = record { blanks = blanks_none IsJournal ruj_file (g.D.Disk.view c.args.disk.now) }

pub returns-in_err-blank_file-clause-runs : goal.returns-in_err-blank_file-clause-runs
returns-in_err-blank_file-clause-runs g c = let v = g.D.Disk.view in let mid = v c.loop-member.disk in let new = v c.blank_file.new.disk in
    run_on IsJournal (v c.args.disk.now) mid new c.loop-member.invariant.blanks.runs (file_run IsJournal ruj_file c.loop-member.member c.ruj_file.result mid mid new c.ruj_file.ensures one_journal_file (λ k. refl) c.blank_file.ensures.runs)

pub loop-member-preserved : goal.loop-member-preserved
loop-member-preserved g c = let v = g.D.Disk.view in let mid = v c.loop-member.disk in let new = v c.blank_file.new.disk in
    record { blanks = blanks_more IsJournal ruj_file c.loop-member.member c.ruj_file.result (v c.args.disk.now) mid new c.ruj_file.ensures one_journal_file (λ k. refl) c.blank_file.ensures.runs c.loop-member.invariant.blanks c.in_ok-blank_file.ensures.zeros }
