use Rattle.std.proofs.Common.{◌≡◌, drop}
use Rattle.before_images.specs.Before.{held_of}
use Rattle.before_images.proofs.lines.line_before.Given as goal

abbrev pub invariant-loop-open : goal.invariant-loop-open
invariant-loop-open l = held_of l.line.tsn.number l.held ≡ held_of l.line.tsn.number (drop l.open-index l.held)
