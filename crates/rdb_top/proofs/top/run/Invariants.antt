use Rattle.rdb_top.proofs.top.run.Given as goal

-- the disk is watched from now on
abbrev pub ghosts-run_workload : goal.ghosts-run_workload
ghosts-run_workload g a = record { faults = (g.D.Disk.view a.disk).faults }
