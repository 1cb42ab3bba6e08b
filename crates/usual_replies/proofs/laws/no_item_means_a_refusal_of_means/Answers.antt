use Rattle.usual_replies.proofs.UsualMeanings.{usual}
use Rattle.usual_replies.proofs.laws.no_item_means_a_refusal_of_means.Goals as goal

pub returns : goal.returns
returns c = usual
