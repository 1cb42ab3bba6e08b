-- The bound selection of a FOR: what it was written as, and when its references have the places and the types of their fields.
use Rattle.std.specs.Prelude.{List, ◌++◌, map}
use Rattle.std.specs.List.{All}
use Rattle.rdo_ast.specs.declared.syntax.Reference.{Reference}
use Rattle.rdo_ast.specs.declared.syntax.Range.{Range}
use Rattle.rdo_ast.specs.declared.syntax.SortKey.{SortKey}
use Rattle.rdo_ast.specs.declared.syntax.Clause.{Clause}
use Rattle.rdo_ast.specs.declared.syntax.Clause.TheVariants as clause
use Rattle.rdb_meaning.specs.declared.tables.Tables.{Tables}
use Rattle.rdo_values.specs.declared.bound.BoundReference.{BoundReference}
use Rattle.rdo_values.specs.declared.bound.BoundSortKey.{BoundSortKey}
use Rattle.rdo_values.specs.declared.bound.BoundClause.{BoundClause}
use Rattle.rdo_values.specs.declared.bound.BoundClause.TheVariants.{Sorted, Reduced}
use Rattle.rdo_values.specs.declared.bound.BoundSelection.{BoundSelection}
use Rattle.rdo_values.specs.Views.{ranging_of}
use Rattle.rdo_values.specs.Places.{IsPlaced, IsBoundRanging, ranges_in}

abbrev pub written_reference : BoundReference → Reference
written_reference r = r.reference

abbrev pub written_key : BoundSortKey → SortKey
written_key k = record { descending = k.descending; reference = k.reference.reference }

abbrev pub written_clause : BoundClause → Clause
written_clause (Sorted keys) = clause.Sorted (map written_key keys)
written_clause (Reduced refs) = clause.Reduced (map written_reference refs)

abbrev pub IsPlacedKey : Tables → List Range → BoundSortKey → Type 0
IsPlacedKey t vs k = IsPlaced k.reference t vs

abbrev pub IsPlacedReference : Tables → List Range → BoundReference → Type 0
IsPlacedReference t vs r = IsPlaced r t vs

abbrev pub IsBoundClause : Tables → List Range → BoundClause → Type 0
IsBoundClause t vs (Sorted keys) = All (IsPlacedKey t vs) keys
IsBoundClause t vs (Reduced refs) = All (IsPlacedReference t vs) refs

-- the variables outside are vs
abbrev pub IsBoundSelection : BoundSelection → Tables → List Range → Type 0
IsBoundSelection s t vs =
    IsBoundRanging (ranging_of s.inner) t vs × All (IsBoundClause t (vs ++ ranges_in (ranging_of s.inner))) s.clauses
