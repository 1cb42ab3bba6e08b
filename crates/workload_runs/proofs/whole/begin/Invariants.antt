use Rattle.std.proofs.Common.{length, IsTrue}
use Rattle.rdb_meaning.specs.Contents.{no_tables}
use Rattle.new_database.specs.New.{IsNewDatabase}
use Rattle.line_runs.specs.Openings.{said_to}
use Rattle.workload_runs.specs.Among.{may_die_by}
use Rattle.workload_runs.specs.Runs.{opening_on}
use Rattle.workload_runs.proofs.whole.begin.Given as goal

-- the first run begins with the tables of a new database, which the disk tells that it is
abbrev pub ghosts-run_first-O-Origin : goal.ghosts-run_first-O-Origin
ghosts-run_first-O-Origin g a = record {
  opening = said_to (opening_on (g.D.Disk.view a.disk).content a.ready.prepared.stand no_tables (may_die_by (g.G.Gate.mortals a.gate.now))) a.ready.prepared.said.word a.ready.prepared.said.scripts.items;
  sessions = length a.ready.prepared.said.scripts.items;
  faults = (g.D.Disk.view a.disk).faults;
  told = IsTrue (g.D.Disk.view a.disk).tells × IsNewDatabase a.ready.plan.now.limits (g.D.Disk.view a.disk).content;
}

abbrev pub ghosts-run_first-O-Naming : goal.ghosts-run_first-O-Naming
ghosts-run_first-O-Naming g a = record { book = a.ready.prepared.said.desk }
