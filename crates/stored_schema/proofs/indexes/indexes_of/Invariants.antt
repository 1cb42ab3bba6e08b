use Rattle.std.proofs.Common.{◌≡◌, [], drop}
use Rattle.stored_schema.specs.Indexes.{both_from}
use Rattle.stored_schema.proofs.indexes.indexes_of.Given as goal

abbrev pub invariant-loop-area : goal.invariant-loop-area
invariant-loop-area l = both_from l.indexes (drop l.area-index l.area-items) ≡ both_from [] l.area-items
