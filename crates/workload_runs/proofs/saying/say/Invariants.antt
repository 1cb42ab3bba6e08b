use Rattle.workload_runs.proofs.saying.say.Given as goal

-- nothing is asked of earlier backups
abbrev pub ghosts-say_in_threads : goal.ghosts-say_in_threads
ghosts-say_in_threads g a = record { former = g.D.Disk.view a.disk }
