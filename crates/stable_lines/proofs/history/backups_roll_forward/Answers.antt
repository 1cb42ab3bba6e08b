use Rattle.journal_reading.specs.rdb_outside.Disk.{Pending}
use Rattle.journal_reading.specs.rdb_outside.Moments.{each_slot}
use Rattle.stable_lines.proofs.Stands.{stands}
use Rattle.stable_lines.proofs.Rolls as rolls
use Rattle.stable_lines.proofs.history.backups_roll_forward.Goals as goal

pub returns-clause-begins : goal.returns-clause-begins
returns-clause-begins g c = λ now last facts next. rolls.behind_begins (Pending (g.D.Disk.view c.args.disk.now)) now last facts next

pub returns-clause-lands : goal.returns-clause-lands
returns-clause-lands g c = λ now flight is facts base last was. rolls.behind_lands (Pending (g.D.Disk.view c.args.disk.now)) now flight is facts base last was

pub returns-clause-image : goal.returns-clause-image
returns-clause-image g c = λ now base last image facts former was left. rolls.image_rolls (Pending (g.D.Disk.view c.args.disk.now)) now base last image facts former was (stands (Pending (g.D.Disk.view c.args.disk.now)) now facts image (each_slot (g.D.Disk.view c.args.disk.now) image left))
