use Rattle.std.proofs.Common.{◌≡◌, map, take, drop}
use Rattle.std.specs.List.{All}
use Rattle.rdb_meaning.specs.Checks.{first_refusal, reference_names}
use Rattle.rdo_values.specs.Rows.{variables_of}
use Rattle.rdo_values.specs.Selections.{written_key, IsPlacedKey}
use Rattle.rdo_bind.proofs.selection.bind_keys.Given as goal

abbrev pub invariant-loop-key : goal.invariant-loop-key
invariant-loop-key l = record {
  names : first_refusal (λ k. reference_names k.reference l.tables l.scope) l.keys ≡ first_refusal (λ k. reference_names k.reference l.tables l.scope) (drop l.key-index l.keys);
  written : map written_key l.bound ≡ take l.key-index l.keys;
  bound : All (IsPlacedKey l.tables (variables_of l.scope)) l.bound;
}
