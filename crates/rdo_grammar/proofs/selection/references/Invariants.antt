use Rattle.std.proofs.Common.{◌≡◌, ◌-◌}
use Rattle.rdo_tokens.specs.declared.token.Kind.TheVariants as k
use Rattle.rdo_tokens.specs.Input.{more_from, separated}
use Rattle.rdo_grammar.specs.Grammar.{reference, references}
use Rattle.rdo_grammar.proofs.selection.references.Given as goal

abbrev pub invariant-loop-turn : goal.invariant-loop-turn
invariant-loop-turn l = references l.fn.tokens ≡ more_from k.Comma reference (l._turn-end - l._turn) l.found l.tokens
