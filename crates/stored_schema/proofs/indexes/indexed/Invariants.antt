use Rattle.std.proofs.Common.{◌≡◌, drop}
use Rattle.stored_schema.specs.Indexes.{indexed_from, indexed_in}
use Rattle.stored_schema.proofs.indexes.indexed.Given as goal

abbrev pub invariant-loop-line : goal.invariant-loop-line
invariant-loop-line l = indexed_from l.held (drop l.line-index l.lines) ≡ indexed_in l.lines
