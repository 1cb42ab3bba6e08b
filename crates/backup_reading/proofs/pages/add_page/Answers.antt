use Rattle.backup_reading.proofs.Sets.{stays, only}
use Rattle.backup_reading.proofs.pages.add_page.Goals as goal

pub returns-in-Ok-true-clause-kept : goal.returns-in-Ok-true-clause-kept
returns-in-Ok-true-clause-kept c = λ it. stays c.args.pages.now c.insert.new.self c.args.page c.in-Ok-true.ensures.updates

pub returns-in-Ok-true-clause-only : goal.returns-in-Ok-true-clause-only
returns-in-Ok-true-clause-only c = λ it. only c.args.pages.now c.insert.new.self c.args.page c.in-Ok-true.ensures.updates
