use Rattle.line_store.specs.declared.answers.Fault.TheVariants.{Bad}
use Rattle.seen_lines.proofs.Gathered.{told_on}
use Rattle.reader_lines.proofs.areas.gather.Goals as goal

pub returns-in-Err-clause-bad : goal.returns-in-Err-clause-bad
returns-in-Err-clause-bad g c = λ f s is t ledger was. c.in-Err.ensures.bad f s (told_on c.in-Err.fault (Bad f s) is) t ledger was
