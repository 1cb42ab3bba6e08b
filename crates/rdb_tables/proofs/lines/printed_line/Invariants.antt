use Rattle.std.proofs.Common.{◌≡◌, drop, map}
use Rattle.rdo_ast.specs.Views.{shown_of}
use Rattle.rdb_meaning.specs.Execution.{line, joined, printed}
use Rattle.rdb_tables.proofs.lines.printed_line.Given as goal

abbrev pub invariant-loop-item : goal.invariant-loop-item
invariant-loop-item l =
    printed (map shown_of l.items) l.tables l.scope ≡ joined (line l.values) (printed (map shown_of (drop l.item-index l.items)) l.tables l.scope)
