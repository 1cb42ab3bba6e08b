use Rattle.std.proofs.Common.{sym, ◌∙◌}
use Rattle.sorted_index_laws.specs.Tree.{pairs}
use Rattle.sorted_index_laws.proofs.Ordered.{pairs_ascend, sorted}
use Rattle.sorted_index_laws.proofs.OneTree.{one_tree}
use Rattle.sorted_index_laws.proofs.laws.pairs_are_ordered.Goals as goal

pub returns : goal.returns
returns c = record {
  ascend = λ lines root level tree is. sorted (pairs level tree) (pairs_ascend lines root.area level tree is.stands);
  one = λ lines root level other a b x y. one_tree lines root.area level other a b x.stands y.stands (x.rooted ∙ sym y.rooted);
}
