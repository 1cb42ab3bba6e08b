use Rattle.std.proofs.Common.{◌≡◌, drop}
use Rattle.rdo_select.specs.Ordered.{order_by}
use Rattle.rdo_select.proofs.sorting.rows_order.Given as goal

abbrev pub invariant-loop-clause : goal.invariant-loop-clause
invariant-loop-clause l = order_by l.clauses l.a l.b ≡ order_by (drop l.clause-index l.clauses) l.a l.b
