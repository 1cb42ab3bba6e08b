use Rattle.catalog_lines.proofs.Lines as lines
use Rattle.catalog_lines.proofs.reading.one_line.Goals as goal

pub returns : goal.returns
returns c = lines.one_line
