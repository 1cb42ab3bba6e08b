use Rattle.served_selections.proofs.Lacked.{selection_lacks, expression_lacks, condition_lacks}
use Rattle.served_selections.proofs.laws.needs_are_of_relations.Goals as goal

pub returns : goal.returns
returns c = record {
  selection = λ seen sources t scope r need shown bound lacks. selection_lacks seen sources t need shown scope r bound lacks;
  expression = λ seen sources t scope e need shown bound lacks. expression_lacks seen sources t need shown scope e bound lacks;
  condition = λ seen sources t scope c need shown bound lacks. condition_lacks seen sources t need shown scope c bound lacks;
}
