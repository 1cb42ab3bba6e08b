use Rattle.std.proofs.Common.{refl, sym, subst, List, []}
use Rattle.rdb_types.specs.declared.node.Node.{Node}
use Rattle.vms_queues.specs.Queues.{Queues}
use Rattle.lock_tree_laws.specs.Order.{IsInOrder}
use Rattle.lock_tree_laws.proofs.StepsInOrder.{empty-in_order, served-in_order, ended-in_order}
use Rattle.lock_tree_laws.proofs.laws.making_way_keeps_the_order.Goals as goal

pub returns-clause-start : goal.returns-clause-start
returns-clause-start c = λ t party e none. subst (λ (es : List (Node × Queues)). IsInOrder (record { entries = es; spare = t.spare }) party []) (sym e) (empty-in_order t.spare party none)

pub returns-clause-served : goal.returns-clause-served
returns-clause-served c = λ old new party asks owner way live kept after stands order.
    served-in_order old new party party asks owner way live kept after (λ u d. refl) stands order (λ n. refl) (λ n. refl)

pub returns-clause-ended : goal.returns-clause-ended
returns-clause-ended c = λ old new party next asks owner way live kept after others stands order closed.
    ended-in_order old new party next asks owner way live kept after others stands order closed
