use Rattle.catalog_lines.proofs.Lengths.{short_line}
use Rattle.catalog_lines.proofs.laws.catalog_lines_fit_the_lesser_class.Goals as goal

pub returns : goal.returns
returns c = record { fits = short_line }
