use Rattle.std.proofs.Common.{◌≡◌, ◌-◌, true}
use Rattle.rdo_grammar.specs.Grammar.{action_at, body_from, body, point}
use Rattle.rdo_grammar.proofs.action.Actions.body.Given as goal

abbrev pub invariant-loop-turn : goal.invariant-loop-turn
invariant-loop-turn g l = body l.self.depth (action_at l.self.depth true) l.fn.tokens ≡ body_from l.self.depth (action_at l.self.depth true) (l._turn-end - l._turn) l.found l.tokens
