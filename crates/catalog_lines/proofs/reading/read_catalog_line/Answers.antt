use Rattle.std.proofs.Common.{ap, Some}
use Rattle.catalog_lines.proofs.Lines as lines
use Rattle.catalog_lines.proofs.reading.read_catalog_line.Goals as goal

pub returns-in-Some-clause-again : goal.returns-in-Some-clause-again
returns-in-Some-clause-again c = λ line is. ap Some (lines.one_line c.args.bytes.now c.in-Some.line line (rw c.in-Some.is at c.in_ok-line.ensures.found) is)
