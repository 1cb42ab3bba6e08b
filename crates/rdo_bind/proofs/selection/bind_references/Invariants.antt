use Rattle.std.proofs.Common.{◌≡◌, map, take, drop}
use Rattle.std.specs.List.{All}
use Rattle.rdb_meaning.specs.Checks.{first_refusal, reference_names}
use Rattle.rdo_values.specs.Rows.{variables_of}
use Rattle.rdo_values.specs.Selections.{written_reference, IsPlacedReference}
use Rattle.rdo_bind.proofs.selection.bind_references.Given as goal

abbrev pub invariant-loop-reference : goal.invariant-loop-reference
invariant-loop-reference l = record {
  names : first_refusal (λ r. reference_names r l.tables l.scope) l.references ≡ first_refusal (λ r. reference_names r l.tables l.scope) (drop l.reference-index l.references);
  written : map written_reference l.bound ≡ take l.reference-index l.references;
  bound : All (IsPlacedReference l.tables (variables_of l.scope)) l.bound;
}
