use Rattle.std.proofs.Common.{◌≡◌, length}
use Rattle.rdb_meaning.specs.Evaluation.{extreme}
use Rattle.rdo_arithmetic.specs.Answers.{prefers}
use Rattle.rdo_arithmetic.proofs.Extremes.{best_before}
use Rattle.rdo_arithmetic.proofs.statistics.extreme.Given as goal

abbrev pub invariant-loop-value : goal.invariant-loop-value
invariant-loop-value l = best_before (prefers l.greatest) l.values l.best ≡ extreme (prefers l.greatest) l.initial.values

abbrev pub decreases-loop-value : goal.decreases-loop-value
decreases-loop-value l = length l.values
