use Rattle.std.proofs.Common.{◌≡◌, ◌-◌}
use Rattle.rdo_tokens.specs.declared.token.Kind.TheVariants as k
use Rattle.rdo_tokens.specs.Input.{more_from, separated}
use Rattle.rdo_grammar.specs.Grammar.{printed, printed_list}
use Rattle.rdo_grammar.proofs.action.printed_list.Given as goal

abbrev pub invariant-loop-turn : goal.invariant-loop-turn
invariant-loop-turn l = printed_list l.depth l.fn.tokens ≡ more_from k.Comma (printed l.depth) (l._turn-end - l._turn) l.found l.tokens
