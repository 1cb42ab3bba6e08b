use Rattle.std.proofs.Common.{◌≡◌, ◌-◌}
use Rattle.rdo_parser.specs.Statements.{fields_from, fields}
use Rattle.rdo_parser.proofs.definition.fields.Given as goal

abbrev pub invariant-loop-turn : goal.invariant-loop-turn
invariant-loop-turn l = fields l.fn.tokens ≡ fields_from (50 - l._turn) l.found l.tokens
