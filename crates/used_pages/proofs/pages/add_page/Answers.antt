use Rattle.used_pages.proofs.Sets.{stays, only}
use Rattle.used_pages.proofs.pages.add_page.Goals as goal

pub returns-in-Ok-clause-kept : goal.returns-in-Ok-clause-kept
returns-in-Ok-clause-kept c = stays c.args.pages.now c.insert.new.self (record { area = c.args.area; page = c.args.page }) c.in-Ok.ensures.updates

pub returns-in-Ok-clause-only : goal.returns-in-Ok-clause-only
returns-in-Ok-clause-only c = only c.args.pages.now c.insert.new.self (record { area = c.args.area; page = c.args.page }) c.in-Ok.ensures.updates
