use Rattle.std.proofs.Common.{◌≡◌, ◌++◌, drop}
use Rattle.std.specs.List.{AllByRecursion}
use Rattle.catalog.specs.declared.directory.PlacedLine.{PlacedLine}
use Rattle.statement_view.specs.Over.{knows_over}
use Rattle.schema_writes.specs.Deletions.{nodes_in, AreNodesKnown}
use Rattle.schema_writes.proofs.deletions.owned_keys.Given as goal

abbrev pub invariant-loop-line : goal.invariant-loop-line
invariant-loop-line l = record {
  known : AllByRecursion (λ (p : PlacedLine). AreNodesKnown (knows_over l.view) l.relation p.line) (drop l.line-index l.lines) → AllByRecursion (λ (p : PlacedLine). AreNodesKnown (knows_over l.view) l.relation p.line) l.lines;
  keys : l.keys ++ nodes_in (knows_over l.view) l.relation (drop l.line-index l.lines) ≡ l.initial.keys ++ nodes_in (knows_over l.view) l.relation l.lines;
}
