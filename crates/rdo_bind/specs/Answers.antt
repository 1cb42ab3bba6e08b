-- What an answer says of a refusal, where want of memory says nothing, and what a bound form was written as.
use Rattle.std.specs.Prelude.{◌≡◌, Some}
use Rattle.rdb_meaning.specs.Checks.{Refusal}
use Rattle.rdb_checks.specs.declared.stop.Stop.{Stop}
use Rattle.rdb_checks.specs.declared.stop.Stop.TheVariants.{Refused, Memory}
use Rattle.rdo_ast.specs.declared.syntax.Range.{Range}
use Rattle.rdo_ast.specs.Tree.{Testing, Conjunction}
use Rattle.rdo_ast.specs.Views.{Applied}
use Rattle.rdo_values.specs.declared.bound.BoundRange.{BoundRange}
use Rattle.rdo_values.specs.declared.bound.BoundOperation.{BoundOperation}
use Rattle.rdo_values.specs.declared.bound.BoundTest.{BoundTest}
use Rattle.rdo_values.specs.declared.bound.BoundConjunction.{BoundConjunction}
use Rattle.rdo_values.specs.Views.{expression_of, testing_of, conjunction_of}
use Rattle.rdo_values.specs.Named.{named, named_testing, named_conjunction}
use Rattle.rdo_values.specs.Places.{Place}
use Rattle.rdo_bind.specs.declared.reference.ValuePlace.{ValuePlace}

-- the refusal of which an answer tells
abbrev pub Refuses : Stop → Refusal → Type 0
Refuses (Refused reply) refusal = refusal ≡ Some reply
Refuses Memory refusal = Unit {0}

abbrev pub place_of : ValuePlace → Place
place_of l = record { place = l.place; kind = l.kind }

abbrev pub written_range : BoundRange → Range
written_range s = s.range

abbrev pub written_operation : BoundOperation → Applied
written_operation o = record { operator = o.operator; operand = named (expression_of o.operand) }

abbrev pub written_test : BoundTest → Testing
written_test c = named_testing (testing_of c)

abbrev pub written_conjunction : BoundConjunction → Conjunction
written_conjunction c = named_conjunction (conjunction_of c)
