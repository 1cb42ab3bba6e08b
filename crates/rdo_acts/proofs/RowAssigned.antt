-- Assignments, one after another.
use Rattle.std.proofs.Common.{◌≡◌, ℕ, ◌+◌, ◌<◌, List, [], ◌∷◌, length, drop, get_or, map, Option, Some, None, Err, sym, ap, ◌∙◌, subst}
use Rattle.std.specs.Prelude.{slice_set}
use Rattle.std.proofs.lemmas.List.{at_drop_more}
use Rattle.rdb_types.specs.declared.values.Field.{Field}
use Rattle.rdb_types.specs.declared.values.Scaled.{Scaled}
use Rattle.rdb_types.specs.declared.values.Value.{Value}
use Rattle.rdo_ast.specs.declared.reply.Reply.{Reply}
use Rattle.rdb_meaning.specs.declared.tables.Tables.{Tables}
use Rattle.rdb_meaning.specs.Contents.{Row, place_of}
use Rattle.rdb_meaning.specs.Evaluation.{Scope, computed}
use Rattle.rdb_meaning.specs.Numbers.{Computed, is, overflow, Fitted, fitting, fitted}
use Rattle.rdb_meaning.specs.Execution.{Assigned, assigned, unassigned, assigning_then, put_fitted, put_computed, assign}
use Rattle.line_view.specs.Knowledge.{Knowledge}
use Rattle.line_view.specs.Stops.{Stops, Lacks}
use Rattle.rdo_arithmetic.specs.declared.stop.Misfit.{Misfit}
use Rattle.rdo_arithmetic.specs.declared.stop.Misfit.TheVariants as misfits
use Rattle.rdo_arithmetic.specs.Answers.{Fits}
use Rattle.rdo_values.specs.Views.{expression_of}
use Rattle.rdo_values.specs.Named.{named}
use Rattle.rdo_bind.specs.declared.assign.BoundAssign.{BoundAssign}
use Rattle.rdo_bind.specs.Assigning.{written_assign}
use Rattle.rdo_acts.specs.declared.stop.Refusal.TheVariants.{Overflow}
use Rattle.rdo_acts.specs.Ends.{reply_of, IsUnassigned}
use Rattle.rdo_acts.specs.Stops.{stop_of_misfit}

-- where the first assigns this row, the others go on from it
then_assigned : (first : Assigned) (row : Row) (next : Row → Assigned) → assigning_then first (λ x. assigned x) ≡ assigned row → assigning_then first next ≡ next row
then_assigned (assigned x) row next h = let same : x ≡ row = cc in ap next same
then_assigned (unassigned reply) row next h = let bad : ⊥ = cc in absurd bad

-- where the first is refused, so are all
then_unassigned : (reply : Option Reply) (first : Assigned) (next : Row → Assigned) → IsUnassigned reply (assigning_then first (λ x. assigned x)) → IsUnassigned reply (assigning_then first next)
then_unassigned None first next h = absurd h
then_unassigned (Some reply) (assigned x) next h = let bad : ⊥ = cc in absurd bad
then_unassigned (Some reply) (unassigned other) next h = h

-- ---- one assignment

module _ (a : BoundAssign) (fields : List Field) (t : Tables) (scope : Scope) (row : Row) where
  abbrev at_place : Option (ℕ × Field)
  at_place = place_of a.left.reference.field fields

  abbrev gives : Computed
  gives = computed (named (expression_of a.right)) t scope

  abbrev pub alone : Assigned
  alone = assign (written_assign a ∷ []) fields t scope row

  abbrev behind : Assigned → Assigned
  behind first = assigning_then first (assign [] fields t scope)

  pub not_assigned : None ≡ at_place → alone ≡ assigned row
  not_assigned none = ap (λ (o : Option (ℕ × Field)). behind (put_computed o gives row)) (sym none)

  module _ (p : ℕ × Field) (there : Some p ≡ at_place) where
    at : alone ≡ behind (put_computed (Some p) gives row)
    at = ap (λ (o : Option (ℕ × Field)). behind (put_computed o gives row)) (sym there)

    pub one_assigned : (v : Scaled) (kept : Value) (row' : Row) → gives ≡ is v → fitted p.1.kind v ≡ fitting kept → row' ≡ slice_set row p.0 kept → alone ≡ assigned row'
    one_assigned v kept row' value fits set =
        at ∙ ap (λ (c : Computed). behind (put_computed (Some p) c row)) value ∙ ap (λ (f : Fitted). behind (put_fitted p.0 f row)) fits ∙ ap (λ (x : Row). assigned x) (sym set)

    pub one_overflows : gives ≡ overflow → IsUnassigned (reply_of Overflow) alone
    one_overflows value = at ∙ ap (λ (c : Computed). behind (put_computed (Some p) c row)) value

    pub one_misfit : (known : Knowledge) (v : Scaled) (misfit : Misfit) → gives ≡ is v → Fits (Err misfit) (fitted p.1.kind v) → Stops (Lacks known) (λ key. ⊥) (λ refusal. IsUnassigned (reply_of refusal) alone) (stop_of_misfit misfit)
    one_misfit known v misfits.Overflow value fits = at ∙ ap (λ (c : Computed). behind (put_computed (Some p) c row)) value ∙ ap (λ (f : Fitted). behind (put_fitted p.0 f row)) fits
    one_misfit known v misfits.TooLong value fits = at ∙ ap (λ (c : Computed). behind (put_computed (Some p) c row)) value ∙ ap (λ (f : Fitted). behind (put_fitted p.0 f row)) fits
    one_misfit known v misfits.Memory value fits = tt

-- ---- one after another

module _ (as' : List BoundAssign) (i : ℕ) (x : BoundAssign) (fields : List Field) (t : Tables) (scope : Scope) (row : Row) (within : i < length as') (read : x ≡ get_or as' i x) where
  assign_head : assign (map written_assign (drop i as')) fields t scope row ≡ assign (map written_assign (x ∷ drop (i + 1) as')) fields t scope row
  assign_head =
      at_drop_more (λ l. assign (map written_assign l) fields t scope row) as' i x within
      ∙ ap (λ y. assign (map written_assign (y ∷ drop (i + 1) as')) fields t scope row) (sym read)

  pub assign_goes : (row' : Row) → assign (written_assign x ∷ []) fields t scope row ≡ assigned row' → assign (map written_assign (drop i as')) fields t scope row ≡ assign (map written_assign (drop (i + 1) as')) fields t scope row'
  assign_goes row' h = assign_head ∙ then_assigned (put_computed (place_of x.left.reference.field fields) (computed (written_assign x).right t scope) row) row' (assign (map written_assign (drop (i + 1) as')) fields t scope) h

  pub assign_ends : (reply : Option Reply) (whole : Assigned) → whole ≡ assign (map written_assign (drop i as')) fields t scope row → IsUnassigned reply (assign (written_assign x ∷ []) fields t scope row) → IsUnassigned reply whole
  assign_ends reply whole e h =
      subst (IsUnassigned reply) (sym (e ∙ assign_head))
      (then_unassigned reply (put_computed (place_of x.left.reference.field fields) (computed (written_assign x).right t scope) row) (assign (map written_assign (drop (i + 1) as')) fields t scope) h)
