use Rattle.store_endings.proofs.of_disk_store.Growing.{grow-same}
use Rattle.recovery_steps.proofs.recovering.recover.Goals as goal

pub returns-in-Ending-clause-grows : goal.returns-in-Ending-clause-grows
returns-in-Ending-clause-grows g c = grow-same c.args.held.now.tables c.bury.new.held.tables c.bury.ensures.tables

pub returns-in-Undoing-clause-grows : goal.returns-in-Undoing-clause-grows
returns-in-Undoing-clause-grows g c = grow-same c.args.held.now.tables c.put_back.new.held.tables c.put_back.ensures.tables

pub returns-in-Restoring-clause-grows : goal.returns-in-Restoring-clause-grows
returns-in-Restoring-clause-grows g c = grow-same c.args.held.now.tables c.restore.new.held.tables c.restore.ensures.tables
