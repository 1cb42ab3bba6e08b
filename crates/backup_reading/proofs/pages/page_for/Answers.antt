use Rattle.std.proofs.Common.{refl}
use Rattle.backup_reading.proofs.pages.page_for.Goals as goal

pub returns-in_default-clause-none : goal.returns-in_default-clause-none
returns-in_default-clause-none c = λ has. c.in_default.ensures.none (record { file = has.area.0; page = c.args.line.now.key.page }) (record { owner = has.area.1; page = refl; is_data = has.page })
