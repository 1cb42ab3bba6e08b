-- An assignment that ends all.
use Rattle.std.proofs.Common.{◌≡◌, ℕ, ◌+◌, ◌<◌, List, [], ◌∷◌, length, drop, get_or, map, sym, ap, ◌∙◌, subst, Err}
use Rattle.std.proofs.lemmas.List.{at_drop_more}
use Rattle.rdb_types.specs.declared.values.Field.{Field}
use Rattle.rdo_ast.specs.declared.syntax.Assign.{Assign}
use Rattle.rdo_ast.specs.Views.{assignment_of}
use Rattle.rdb_meaning.specs.declared.tables.Tables.{Tables}
use Rattle.rdb_meaning.specs.Contents.{Row}
use Rattle.rdb_meaning.specs.Evaluation.{Scope}
use Rattle.rdb_meaning.specs.Execution.{Assigned, assigned, unassigned, assigning_then, assign}
use Rattle.rdb_tables.specs.declared.stop.Stop.{Stop}
use Rattle.rdb_tables.specs.declared.stop.Stop.TheVariants as stop
use Rattle.rdb_tables.specs.Answers.{AssignsTo}

-- nothing follows what ends
assigning_ends : (cause : Stop) (first : Assigned) (row : Row) (next : Row → Assigned) → AssignsTo (Err cause) (assigning_then first (λ r. assigned r)) row → AssignsTo (Err cause) (assigning_then first next) row
assigning_ends cause (unassigned r) row next h = h
assigning_ends stop.Overflow (assigned r) row next h = absurd (cc)
assigning_ends stop.TooLong (assigned r) row next h = absurd (cc)
assigning_ends (stop.Duplicate index) (assigned r) row next h = h
assigning_ends stop.Memory (assigned r) row next h = h

module _ (as' : List Assign) (i : ℕ) (x : Assign) (fields : List Field) (t : Tables) (scope : Scope) (row : Row) (within : i < length as') (read : x ≡ get_or as' i x) where
  assign_head : assign (map assignment_of (drop i as')) fields t scope row ≡ assign (map assignment_of (x ∷ drop (i + 1) as')) fields t scope row
  assign_head =
      at_drop_more (λ l. assign (map assignment_of l) fields t scope row) as' i x within
      ∙ ap (λ y. assign (map assignment_of (y ∷ drop (i + 1) as')) fields t scope row) (sym read)

  pub assign_ends : (cause : Stop) (whole : Assigned) (row' : Row) → whole ≡ assign (map assignment_of (drop i as')) fields t scope row → AssignsTo (Err cause) (assign (assignment_of x ∷ []) fields t scope row) row' → AssignsTo (Err cause) whole row'
  assign_ends cause whole row' e h =
      subst (λ (a : Assigned). AssignsTo (Err cause) a row') (sym (e ∙ assign_head))
      (assigning_ends cause _ row' (assign (map assignment_of (drop (i + 1) as')) fields t scope) h)
