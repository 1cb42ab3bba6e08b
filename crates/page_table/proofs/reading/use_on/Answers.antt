use Rattle.std.proofs.Common.{sym, subst}
use Rattle.page_table.specs.declared.uses.PageUse.{PageUse}
use Rattle.page_table.specs.Reading.{SaysUse}
use Rattle.page_table.proofs.Said.{unused_says}
use Rattle.page_table.proofs.reading.use_on.Goals as goal

pub returns-in-None-clause-says : goal.returns-in-None-clause-says
returns-in-None-clause-says c = subst (λ (u : PageUse). SaysUse c.args.number c.args.page.now u) (sym c.empty.ensures) (unused_says c.args.number c.args.page.now (c.in_ok-head.ensures.unused.0 (cc)))
