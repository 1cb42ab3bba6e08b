use Rattle.std.proofs.Common.{◌≡◌, ◌-◌}
use Rattle.rdo_grammar.specs.Grammar.{level_at, sums_from, sums}
use Rattle.rdo_grammar.proofs.expr.Grammar.sums.Given as goal

abbrev pub invariant-loop-turn : goal.invariant-loop-turn
invariant-loop-turn g l = sums (level_at l.self.depth) l.plain l.fn.tokens ≡ sums_from (level_at l.self.depth) l.plain (l._turn-end - l._turn) l.found l.tokens
