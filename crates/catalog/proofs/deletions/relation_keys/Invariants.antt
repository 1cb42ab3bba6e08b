use Rattle.std.proofs.Common.{◌≡◌, ◌++◌, drop}
use Rattle.catalog.specs.Deletions.{keys_where, is_of_relation}
use Rattle.catalog.proofs.deletions.relation_keys.Given as goal

abbrev pub invariant-loop-line : goal.invariant-loop-line
invariant-loop-line l = l.keys ++ keys_where (is_of_relation l.area) (drop l.line-index l.lines) ≡ keys_where (is_of_relation l.area) l.lines
