use Rattle.std.proofs.Common.{inl, inr}
use Rattle.line_moves.proofs.Runs.{on_ok, still_tells}
use Rattle.guarded_lines.specs.Laying.{IsArea}
use Rattle.guarded_root.proofs.Sweeping.{run_on, wider_run}
use Rattle.rmu_restore.specs.Laying.{IsJournal, IsSnapshot, IsWritten}
use Rattle.rmu_restore.proofs.Blanked.{is_blank}
use Rattle.rmu_restore.proofs.blanking.blank_all.Goals as goal

pub returns-in_err-blank_snapshots-clause-runs : goal.returns-in_err-blank_snapshots-clause-runs
returns-in_err-blank_snapshots-clause-runs g c = let v = g.D.Disk.view in
    wider_run IsSnapshot IsWritten (v c.args.disk.now) (v c.blank_snapshots.new.disk) (λ file is. inr (inr is)) c.blank_snapshots.ensures.runs

pub returns-in_err-blank_areas-clause-runs : goal.returns-in_err-blank_areas-clause-runs
returns-in_err-blank_areas-clause-runs g c = let v = g.D.Disk.view in let old = v c.args.disk.now in let snaps = v c.blank_snapshots.new.disk in let mid = v c.blank_areas.new.disk in
    run_on IsWritten old snaps mid (wider_run IsSnapshot IsWritten old snaps (λ file is. inr (inr is)) c.blank_snapshots.ensures.runs) (wider_run IsArea IsWritten snaps mid (λ file is. inl is) c.blank_areas.ensures.runs)

pub returns-clause-runs : goal.returns-clause-runs
returns-clause-runs g c = let v = g.D.Disk.view in let old = v c.args.disk.now in let snaps = v c.blank_snapshots.new.disk in let mid = v c.blank_areas.new.disk in let new = v c.blank_journals.new.disk in
    run_on IsWritten old mid new
    (run_on IsWritten old snaps mid (wider_run IsSnapshot IsWritten old snaps (λ file is. inr (inr is)) c.blank_snapshots.ensures.runs) (wider_run IsArea IsWritten snaps mid (λ file is. inl is) c.blank_areas.ensures.runs))
    (wider_run IsJournal IsWritten mid new (λ file is. inr (inl is)) c.blank_journals.ensures.runs)

pub returns-clause-blank : goal.returns-clause-blank
returns-clause-blank g c = let v = g.D.Disk.view in let old = v c.args.disk.now in let snaps = v c.blank_snapshots.new.disk in let mid = v c.blank_areas.new.disk in let new = v c.blank_journals.new.disk in
    on_ok _ _ c.blank_journals.result (λ journals t. let first = still_tells old snaps c.blank_snapshots.ensures.runs.told t in let told = still_tells snaps mid c.blank_areas.ensures.runs.told first in
    is_blank snaps mid new first told (c.in_ok-blank_areas.ensures.blank first) c.blank_journals.ensures.runs (journals told)) c.blank_journals.ensures.blank
