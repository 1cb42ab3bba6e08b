use Rattle.catalog_lines.proofs.Lines as lines
use Rattle.catalog_lines.proofs.writing.one_image.Goals as goal

pub returns : goal.returns
returns c = lines.one_image
