use Rattle.std.proofs.Common.{drop}
use Rattle.rmu_verify.proofs.Found.{Noted}
use Rattle.rmu_verify.proofs.relations.version_of.Given as goal

abbrev pub invariant-loop-line : goal.invariant-loop-line
invariant-loop-line l = Noted l.name l.lines (drop l.line-index l.lines) l.version
