use Rattle.std.proofs.Common.{ap, refl, sym}
use Rattle.rdb_outside.specs.Disk.{zeros}
use Rattle.stable_lines.specs.Slots.{area_file}
use Rattle.guarded_lines.specs.Laying.{IsArea}
use Rattle.guarded_root.proofs.Sweeping.{run_on}
use Rattle.rmu_restore.proofs.Blanked.{blanks_none, blanks_more, file_run, one_area}
use Rattle.rmu_restore.proofs.blanking.blank_areas.Goals as goal

pub blank_file-requires-clause-blank : goal.blank_file-requires-clause-blank
blank_file-requires-clause-blank g c = ap zeros (sym c.area_file.ensures)

pub loop-file-init : goal.loop-file-init
loop-file-init g c = record { blanks = blanks_none IsArea area_file (g.D.Disk.view c.args.disk.now) }

pub returns-in_err-blank_file-clause-runs : goal.returns-in_err-blank_file-clause-runs
returns-in_err-blank_file-clause-runs g c = let v = g.D.Disk.view in let mid = v c.loop-file.disk in let new = v c.blank_file.new.disk in
    run_on IsArea (v c.args.disk.now) mid new c.loop-file.invariant.blanks.runs (file_run IsArea area_file c.loop-file.file c.area_file.result mid mid new c.area_file.ensures one_area (λ k. refl) c.blank_file.ensures.runs)

pub loop-file-preserved : goal.loop-file-preserved
loop-file-preserved g c = let v = g.D.Disk.view in let mid = v c.loop-file.disk in let new = v c.blank_file.new.disk in
    record { blanks = blanks_more IsArea area_file c.loop-file.file c.area_file.result (v c.args.disk.now) mid new c.area_file.ensures one_area (λ k. refl) c.blank_file.ensures.runs c.loop-file.invariant.blanks c.in_ok-blank_file.ensures.zeros }
