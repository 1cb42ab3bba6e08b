use Rattle.std.specs.List.{AllByRecursion}
use Rattle.line_view.specs.declared.need.Need.{Need}
use Rattle.line_view.specs.Held.{knows}
use Rattle.rdo_acts.specs.Ahead.{AreAheadTo}
use Rattle.index_ahead.specs.Added.{AddsOnly, IsIn}
use Rattle.rdo_acts.specs.Looking.{IsLineOf}
use Rattle.rdo_acts.proofs.ahead.Batch.add_lines.Given as goal

abbrev pub invariant-loop-key : goal.invariant-loop-key
invariant-loop-key l = record {
  ahead : (first : Need) → AreAheadTo (knows l.known) first l.fn.self.needs l.fn.self.last → AreAheadTo (knows l.known) first l.self.needs l.self.last;
  left : AllByRecursion (IsIn l.keys.keys) l.key-iterator;
  only : AddsOnly (IsLineOf l.keys.keys) l.fn.self.needs l.self.needs;
}
