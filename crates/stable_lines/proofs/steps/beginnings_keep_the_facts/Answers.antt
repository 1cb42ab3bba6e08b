use Rattle.journal_reading.specs.rdb_outside.Disk.{Pending}
use Rattle.stable_lines.proofs.Turns.{begins}
use Rattle.stable_lines.proofs.Anew.{begins_anew}
use Rattle.stable_lines.proofs.steps.beginnings_keep_the_facts.Goals as goal

pub returns-clause-transaction : goal.returns-clause-transaction
returns-clause-transaction g c = λ now was member is_member idle some room. begins (Pending (g.D.Disk.view c.args.disk.now)) now member is_member idle some was room

pub returns-clause-journal : goal.returns-clause-journal
returns-clause-journal g c = λ now was first above none headers former flight. begins_anew (Pending (g.D.Disk.view c.args.disk.now)) now was first above none headers former flight
