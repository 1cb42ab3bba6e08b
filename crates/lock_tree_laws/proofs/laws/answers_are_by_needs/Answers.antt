use Rattle.lock_tree_laws.proofs.AnsweredInOrder.{answered-by_needs}
use Rattle.lock_tree_laws.proofs.laws.answers_are_by_needs.Goals as goal

pub returns : goal.returns
returns c = λ old new party next asks owner ws w wait answer m asked others live h. answered-by_needs old party asks owner ws w m next asked others new live wait answer h
