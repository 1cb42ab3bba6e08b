use Rattle.std.proofs.Common.{◌≡◌, ◌-◌}
use Rattle.rdo_grammar.specs.Grammar.{level_at, products_from, products}
use Rattle.rdo_grammar.proofs.expr.Grammar.products.Given as goal

abbrev pub invariant-loop-turn : goal.invariant-loop-turn
invariant-loop-turn g l = products (level_at l.self.depth) l.plain l.fn.tokens ≡ products_from (level_at l.self.depth) l.plain (l._turn-end - l._turn) l.found l.tokens
