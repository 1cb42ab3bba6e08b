use Rattle.std.proofs.Common.{drop}
use Rattle.std.specs.List.{AllByRecursion}
use Rattle.catalog_definitions.specs.Written.{IsFieldDefinition}
use Rattle.catalog_definitions.proofs.allowed.are_field_definitions.Given as goal

abbrev pub invariant-loop-field : goal.invariant-loop-field
invariant-loop-field l = record {
  enough : AllByRecursion IsFieldDefinition (drop l.field-index l.fields) → AllByRecursion IsFieldDefinition l.fields;
  all : AllByRecursion IsFieldDefinition l.fields → AllByRecursion IsFieldDefinition (drop l.field-index l.fields);
}
