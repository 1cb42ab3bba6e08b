use Rattle.std.proofs.Common.{◌≡◌, ◌-◌}
use Rattle.rdo_grammar.specs.Grammar.{assigns_from, assigns}
use Rattle.rdo_grammar.proofs.action.assigns.Given as goal

abbrev pub invariant-loop-turn : goal.invariant-loop-turn
invariant-loop-turn l = assigns l.depth l.fn.tokens ≡ assigns_from l.depth (l._turn-end - l._turn) l.found l.tokens
