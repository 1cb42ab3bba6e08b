use Rattle.std.proofs.Common.{◌≡◌, drop, map}
use Rattle.rdo_ast.specs.Views.{assignment_of}
use Rattle.rdb_meaning.specs.Execution.{assign}
use Rattle.rdb_tables.proofs.assign.assign_all.Given as goal

abbrev pub invariant-loop-assignment : goal.invariant-loop-assignment
invariant-loop-assignment l =
    assign (map assignment_of l.assignments) l.fields l.tables l.scope l.fn.row
    ≡ assign (map assignment_of (drop l.assignment-index l.assignments)) l.fields l.tables l.scope l.row
