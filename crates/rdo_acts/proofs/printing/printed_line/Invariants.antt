use Rattle.std.proofs.Common.{◌≡◌}
use Rattle.std.specs.List.{All}
use Rattle.rdb_meaning.specs.declared.tables.Tables.{Tables}
use Rattle.rdb_meaning.specs.Evaluation.{Scope}
use Rattle.rdb_meaning.specs.Execution.{line, joined}
use Rattle.line_view.specs.Knowledge.{Lines}
use Rattle.row_writes.specs.Rows.{IsSoundView}
use Rattle.rdo_values.specs.Rows.{row_of, variables_of}
use Rattle.rdo_bind.specs.Acting.{IsBoundItem}
use Rattle.rdo_acts.proofs.PrintedValues.{whole, from}
use Rattle.rdo_acts.proofs.printing.printed_line.Given as goal

abbrev pub invariant-loop-item : goal.invariant-loop-item
invariant-loop-item l =
    (first : Lines) (t : Tables) (scope : Scope) → IsSoundView l.view l.given.schema.now t first → All (IsBoundItem t (variables_of scope)) l.items → row_of t scope ≡ l.values
    → whole l.items t scope ≡ joined (line l.line) (from l.items t scope l.item-index)
