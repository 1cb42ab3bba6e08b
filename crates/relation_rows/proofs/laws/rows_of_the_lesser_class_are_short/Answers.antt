use Rattle.relation_rows.proofs.Lengths.{short_row}
use Rattle.relation_rows.proofs.laws.rows_of_the_lesser_class_are_short.Goals as goal

pub returns : goal.returns
returns c = record { short = short_row }
