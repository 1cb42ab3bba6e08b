-- Bound assignments: what they were written as, and when they are bound.
use Rattle.std.specs.Prelude.{List}
use Rattle.rdo_ast.specs.declared.syntax.Range.{Range}
use Rattle.rdo_ast.specs.Tree.{Assignment}
use Rattle.rdb_meaning.specs.declared.tables.Tables.{Tables}
use Rattle.rdo_values.specs.Views.{expression_of}
use Rattle.rdo_values.specs.Named.{named}
use Rattle.rdo_values.specs.Places.{IsPlaced, IsBound}
use Rattle.rdo_bind.specs.declared.assign.BoundAssign.{BoundAssign}

abbrev pub written_assign : BoundAssign → Assignment
written_assign a = record { left = a.left.reference; right = named (expression_of a.right) }

abbrev pub IsBoundAssign : Tables → List Range → BoundAssign → Type 0
IsBoundAssign t vs a = IsPlaced a.left t vs × IsBound (expression_of a.right) t vs
