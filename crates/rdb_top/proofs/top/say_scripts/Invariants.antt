use Rattle.std.proofs.Common.{length}
use Rattle.workload_runs.specs.line_runs.Openings.{said_to}
use Rattle.rdb_top.specs.Deaths.{letting}
use Rattle.rdb_top.proofs.top.say_scripts.Given as goal

abbrev pub ghosts-run_of-O-Origin : goal.ghosts-run_of-O-Origin
ghosts-run_of-O-Origin g a = record {
  opening = said_to (letting a.given.death g.O.Origin.opening) a.said.word a.said.scripts.items;
  sessions = length a.said.scripts.items;
  faults = (g.D.Disk.view a.disk).faults;
  told = g.O.Origin.told;
}

-- the desk that was just opened
abbrev pub ghosts-run_of-O-Naming : goal.ghosts-run_of-O-Naming
ghosts-run_of-O-Naming g a = record { book = a.said.desk }

abbrev pub ghosts-run_of-B-Beginning : goal.ghosts-run_of-B-Beginning
ghosts-run_of-B-Beginning g a = record { faults = (g.D.Disk.view a.disk).faults }

-- what stood before these sessions
abbrev pub ghosts-run_of-B-FormerDisk : goal.ghosts-run_of-B-FormerDisk
ghosts-run_of-B-FormerDisk g a = record { former = g.D.Disk.view a.disk }
