use Rattle.std.proofs.Common.{◌≡◌, ◌-◌}
use Rattle.rdo_tokens.specs.declared.token.Kind.TheVariants as k
use Rattle.rdo_tokens.specs.Input.{more_from, separated}
use Rattle.rdo_grammar.specs.Grammar.{level_at, one_test, tests}
use Rattle.rdo_grammar.proofs.expr.Grammar.tests.Given as goal

abbrev pub invariant-loop-turn : goal.invariant-loop-turn
invariant-loop-turn g l = tests (level_at l.self.depth) l.fn.tokens ≡ more_from k.And (one_test (level_at l.self.depth)) (l._turn-end - l._turn) l.found l.tokens
