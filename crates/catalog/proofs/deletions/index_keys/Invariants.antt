use Rattle.std.proofs.Common.{◌≡◌, ◌++◌, drop}
use Rattle.catalog.specs.Deletions.{keys_where, is_index_named}
use Rattle.catalog.proofs.deletions.index_keys.Given as goal

abbrev pub invariant-loop-line : goal.invariant-loop-line
invariant-loop-line l = l.keys ++ keys_where (is_index_named l.name) (drop l.line-index l.lines) ≡ keys_where (is_index_named l.name) l.lines
