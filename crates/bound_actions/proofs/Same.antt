-- An action that is bound in tables is bound in all tables of their schema.
use Rattle.std.proofs.Common.{◌≡◌, List, [], ◌∷◌, ◌++◌, length, Some, refl, sym, ◌∙◌, if◌then◌else◌}
use Rattle.std.specs.Prelude.{option_map}
use Rattle.std.specs.List.{All}
use Rattle.std.proofs.lemmas.List.Elements.{All-weaker}
use Rattle.rdo_ast.specs.declared.syntax.Range.{Range}
use Rattle.rdo_ast.specs.Tree.{Name}
use Rattle.rdb_meaning.specs.declared.tables.Tables.{Tables}
use Rattle.rdb_meaning.specs.Contents.{same_name}
use Rattle.rdo_values.specs.Views.{expression_of, ranging_of}
use Rattle.rdo_values.specs.Places.{behind, ranges_in}
use Rattle.rdo_bind.specs.declared.assign.BoundAssign.{BoundAssign}
use Rattle.rdo_bind.specs.declared.variable.BoundVariable.{BoundVariable}
use Rattle.rdo_bind.specs.declared.action.BoundPrintItem.{BoundPrintItem}
use Rattle.rdo_bind.specs.declared.action.BoundPrintItem.TheVariants.{Value, Fields}
use Rattle.rdo_bind.specs.Assigning.{IsBoundAssign}
use Rattle.rdo_bind.specs.Variables as variables
use Rattle.rdo_bind.specs.Variables.{IsVariable, located_variable, first_of}
use Rattle.rdo_bind.specs.Acting as acts
use Rattle.rdo_bind.specs.Acting.{IsBoundItem, IsBoundAct, AreBoundActs}
use Rattle.schema_alone.specs.Schema.{OneSchema}
use Rattle.schema_alone.proofs.Same.{fields_same}
use Rattle.bound_alone.proofs.Same.{placed, range, bound, selection_same}

module _ (t u : Tables) (one : OneSchema t u) where
  variable_same : (n : Name) (vs : List Range) → located_variable n t vs ≡ located_variable n u vs
  variable_same n [] = refl
  variable_same n (s ∷ ss) =
      λ i. if same_name n s.variable
      then Some (first_of (fields_same t u one s.relation i))
      else option_map (variables.behind 1 (length (fields_same t u one s.relation i))) (variable_same n ss i)

  variable : (v : BoundVariable) (vs : List Range) → IsVariable t vs v → IsVariable u vs v
  variable v vs is = sym (variable_same v.variable vs) ∙ is

  assign : (vs : List Range) (a : BoundAssign) → IsBoundAssign t vs a → IsBoundAssign u vs a
  assign vs a is = (placed t u one a.left vs is.0, bound t u one (expression_of a.right) vs is.1)

  assigns : (vs : List Range) (as' : List BoundAssign) → All (IsBoundAssign t vs) as' → All (IsBoundAssign u vs) as'
  assigns vs as' are = All-weaker (IsBoundAssign t vs) (IsBoundAssign u vs) (assign vs) as' are

  item : (vs : List Range) (i : BoundPrintItem) → IsBoundItem t vs i → IsBoundItem u vs i
  item vs (Value e) is = bound t u one (expression_of e) vs is
  item vs (Fields v) is = variable v vs is

  mutual
    pub act_same : (a : acts.Act) (vs : List Range) → IsBoundAct a t vs → IsBoundAct a u vs
    act_same (acts.store s as') vs is = (range t u one s s.range.relation is.0, assigns (vs ++ s.range ∷ []) as' is.1)
    act_same (acts.for_each s body) vs is = (selection_same t u one s vs is.0, acts_same body (vs ++ ranges_in (ranging_of s.inner)) is.1)
    act_same (acts.print items) vs is = All-weaker (IsBoundItem t vs) (IsBoundItem u vs) (item vs) items is
    act_same (acts.modify v as') vs is = (variable v vs is.0, assigns vs as' is.1)
    act_same (acts.erase v) vs is = variable v vs is

    pub acts_same : (as' : acts.Acts) (vs : List Range) → AreBoundActs as' t vs → AreBoundActs as' u vs
    acts_same acts.no_act vs is = tt
    acts_same (acts.act a rest) vs is = (act_same a vs is.0, acts_same rest vs is.1)
