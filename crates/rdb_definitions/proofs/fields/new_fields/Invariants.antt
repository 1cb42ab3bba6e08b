use Rattle.std.proofs.Common.{◌≡◌, map, take}
use Rattle.rdb_checks.specs.rdb_meaning.Defining.{new_field}
use Rattle.rdb_definitions.proofs.fields.new_fields.Given as goal

abbrev pub invariant-loop-definition : goal.invariant-loop-definition
invariant-loop-definition l = l.fields ≡ map (new_field l.tables) (take l.definition-index l.definitions)
