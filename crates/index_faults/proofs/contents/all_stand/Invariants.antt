use Rattle.std.proofs.Common.{take}
use Rattle.std.specs.List.{AllByRecursion}
use Rattle.index_faults.specs.Contents.{IsPairAt}
use Rattle.index_faults.proofs.contents.all_stand.Given as goal

abbrev pub invariant-loop-pair : goal.invariant-loop-pair
invariant-loop-pair g l = AllByRecursion (IsPairAt (g.V.View.knows l.view) l.relation l.positions) (take l.pair-index l.pairs)
