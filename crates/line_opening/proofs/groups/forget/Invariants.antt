use Rattle.std.proofs.Common.{◌≡◌, ◌++◌, drop, take, map}
use Rattle.line_opening.specs.Passing.{without}
use Rattle.line_opening.proofs.groups.forget.Given as goal

abbrev pub invariant-loop-number : goal.invariant-loop-number
invariant-loop-number l = l.numbers ≡ map (without l.tsn) (take l.number-index l.fn.numbers) ++ drop l.number-index l.fn.numbers
