use Rattle.line_moves.proofs.Runs.{on_ok, still_tells}
use Rattle.guarded_root.specs.Guarded.{IsFile}
use Rattle.guarded_root.proofs.Sweeping.{run_on}
use Rattle.rmu_restore.proofs.blanking.blank_file.Goals as goal

pub returns-clause-runs : goal.returns-clause-runs
returns-clause-runs g c = let v = g.D.Disk.view in
    run_on (IsFile c.args.file) (v c.args.disk.now) (v c.write_guarded.new.disk) (v c.sweep.new.disk) c.write_guarded.ensures.runs c.sweep.ensures.runs

pub returns-clause-zeros : goal.returns-clause-zeros
returns-clause-zeros g c = let v = g.D.Disk.view in
    on_ok _ _ c.sweep.result (λ all t. all (still_tells (v c.args.disk.now) (v c.write_guarded.new.disk) c.write_guarded.ensures.runs.told t)) c.sweep.ensures.zeros
