use Rattle.std.proofs.Common.{◌≡◌, drop}
use Rattle.verified_lines.specs.Relations.{entry_in}
use Rattle.rmu_verify.proofs.relations.entry_in.Given as goal

abbrev pub invariant-loop-entry : goal.invariant-loop-entry
invariant-loop-entry l = entry_in l.area (drop l.entry-index l.entry-items) ≡ entry_in l.area l.tables.relations
