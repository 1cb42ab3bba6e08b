use Rattle.std.proofs.Common.{◌≡◌, ◌-◌}
use Rattle.rdo_tokens.specs.declared.token.Kind.TheVariants as k
use Rattle.rdo_tokens.specs.Input.{more_from}
use Rattle.rdo_parser.specs.Statements.{reservation, reservations}
use Rattle.rdo_parser.proofs.transaction.reservations.Given as goal

abbrev pub invariant-loop-turn : goal.invariant-loop-turn
invariant-loop-turn l = reservations l.fn.tokens ≡ more_from k.Comma reservation (l._turn-end - l._turn) l.found l.tokens
