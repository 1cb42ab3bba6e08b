use Rattle.std.proofs.Common.{◌≡◌}
use Rattle.statement_view.specs.Over.{writes_of}
use Rattle.statement_view.proofs.changed.listed.Given as goal

abbrev pub invariant-loop-key : goal.invariant-loop-key
invariant-loop-key l = l.writes.items ≡ writes_of l.yielded
