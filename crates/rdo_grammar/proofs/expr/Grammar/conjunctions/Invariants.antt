use Rattle.std.proofs.Common.{◌≡◌, ◌-◌}
use Rattle.rdo_tokens.specs.declared.token.Kind.TheVariants as k
use Rattle.rdo_tokens.specs.Input.{more_from, separated}
use Rattle.rdo_grammar.specs.Grammar.{level_at, conj, conjunctions}
use Rattle.rdo_grammar.proofs.expr.Grammar.conjunctions.Given as goal

abbrev pub invariant-loop-turn : goal.invariant-loop-turn
invariant-loop-turn g l = conjunctions (level_at l.self.depth) l.fn.tokens ≡ more_from k.Or (conj (level_at l.self.depth)) (l._turn-end - l._turn) l.found l.tokens
