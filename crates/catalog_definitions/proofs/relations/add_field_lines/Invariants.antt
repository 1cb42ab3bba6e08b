use Rattle.std.proofs.Common.{◌≡◌, ◌++◌, drop}
use Rattle.catalog_definitions.specs.Written.{field_lines}
use Rattle.catalog_definitions.proofs.relations.add_field_lines.Given as goal

abbrev pub invariant-loop-position : goal.invariant-loop-position
invariant-loop-position l =
    l.lines ++ field_lines l.area l.position (drop l.position l.fields) ≡ l.initial.lines ++ field_lines l.area 0 l.fields
