use Rattle.std.proofs.Common.{◌≡◌, ◌-◌}
use Rattle.rdo_parser.specs.Statements.{index_fields_from, index_fields}
use Rattle.rdo_parser.proofs.definition.index_fields.Given as goal

abbrev pub invariant-loop-turn : goal.invariant-loop-turn
invariant-loop-turn l = index_fields l.fn.tokens ≡ index_fields_from (8 - l._turn) l.found l.tokens
