use Rattle.std.proofs.Common.{◌≡◌, false, drop}
use Rattle.std.specs.List.{AllByRecursion}
use Rattle.catalog.specs.declared.directory.PlacedLine.{PlacedLine}
use Rattle.catalog.specs.Deletions.{is_index_named}
use Rattle.schema_writes.proofs.deletions.index_nodes.Given as goal

-- of the lines before none is that of an index of this name
abbrev pub invariant-loop-line : goal.invariant-loop-line
invariant-loop-line l =
    AllByRecursion (λ (p : PlacedLine). is_index_named l.name p.line ≡ false) (drop l.line-index l.lines) → AllByRecursion (λ (p : PlacedLine). is_index_named l.name p.line ≡ false) l.lines
