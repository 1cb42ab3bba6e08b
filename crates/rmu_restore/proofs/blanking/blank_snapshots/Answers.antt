use Rattle.std.proofs.Common.{ap, ◌∙◌}
use Rattle.rdb_types.specs.declared.file.FileId.{FileId}
use Rattle.guarded_root.specs.Guarded.{IsFile}
use Rattle.guarded_root.proofs.Sweeping.{no_run, run_on, wider_run}
use Rattle.rmu_restore.specs.Laying.{IsSnapshot}
use Rattle.rmu_restore.proofs.blanking.blank_snapshots.Goals as goal

pub loop-file-init : goal.loop-file-init
loop-file-init g c = record { runs = no_run IsSnapshot (g.D.Disk.view c.args.disk.now) }

pub returns-in_err-write_guarded-clause-runs : goal.returns-in_err-write_guarded-clause-runs
returns-in_err-write_guarded-clause-runs g c = let v = g.D.Disk.view in let mid = v c.loop-file.disk in let new = v c.write_guarded.new.disk in
    run_on IsSnapshot (v c.args.disk.now) mid new c.loop-file.invariant.runs
    (wider_run (IsFile c.snap_file.result) IsSnapshot mid new (λ file same. ap (λ (f : FileId). f.kind) (same ∙ c.snap_file.ensures)) c.write_guarded.ensures.runs)

pub loop-file-preserved : goal.loop-file-preserved
loop-file-preserved g c = let v = g.D.Disk.view in let mid = v c.loop-file.disk in let new = v c.write_guarded.new.disk in record {
  runs = run_on IsSnapshot (v c.args.disk.now) mid new c.loop-file.invariant.runs
      (wider_run (IsFile c.snap_file.result) IsSnapshot mid new (λ file same. ap (λ (f : FileId). f.kind) (same ∙ c.snap_file.ensures)) c.write_guarded.ensures.runs);
}
