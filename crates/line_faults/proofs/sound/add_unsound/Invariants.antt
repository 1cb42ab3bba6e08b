use Rattle.std.proofs.Common.{◌≡◌, ◌++◌, drop}
use Rattle.line_faults.specs.Catalog.{unsound_in, unsound}
use Rattle.line_faults.proofs.sound.add_unsound.Given as goal

abbrev pub invariant-loop-line : goal.invariant-loop-line
invariant-loop-line l = l.keys ++ unsound_in l.catalog.tables (drop l.line-index l.catalog.lines) ≡ l.fn.keys ++ unsound l.catalog
