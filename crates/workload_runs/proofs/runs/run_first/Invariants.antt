use Rattle.std.proofs.Common.{length, map}
use Rattle.rdb_account.specs.Events.{event_of}
use Rattle.rdb_account.specs.Places.{place}
use Rattle.line_runs.specs.Openings.{said_to}
use Rattle.workload_runs.specs.Runs.{opening_on}
use Rattle.workload_runs.proofs.runs.run_first.Given as goal

-- the next run begins with what this one has committed
abbrev pub ghosts-run_transfers-O-Origin : goal.ghosts-run_transfers-O-Origin
ghosts-run_transfers-O-Origin g a = record {
  opening = said_to (opening_on (g.D.Disk.view a.disk).content a.ready.prepared.stand (place g.O.Origin.opening (map event_of a.ready.before.now)).tables g.O.Origin.opening.may_die) a.ready.prepared.said.word a.ready.prepared.said.scripts.items;
  sessions = length a.ready.prepared.said.scripts.items;
  faults = (g.D.Disk.view a.disk).faults;
  told = g.O.Origin.told;
}

abbrev pub ghosts-run_transfers-O-Naming : goal.ghosts-run_transfers-O-Naming
ghosts-run_transfers-O-Naming g a = record { book = a.ready.prepared.said.desk }
