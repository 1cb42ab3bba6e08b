-- Bound actions: the tree that one stands for, what it was written as, and when it is bound.
use Rattle.std.specs.Prelude.{List, [], ◌∷◌, ◌++◌, map}
use Rattle.std.specs.List.{All}
use Rattle.rdo_ast.specs.declared.syntax.Range.{Range}
use Rattle.rdo_ast.specs.Tree as tree
use Rattle.rdb_meaning.specs.declared.tables.Tables.{Tables}
use Rattle.rdb_meaning.specs.Contents.{relation_named}
use Rattle.rdo_values.specs.declared.bound.BoundRange.{BoundRange}
use Rattle.rdo_values.specs.declared.bound.BoundSelection.{BoundSelection}
use Rattle.rdo_values.specs.Views.{expression_of, ranging_of}
use Rattle.rdo_values.specs.Named.{named, named_ranging}
use Rattle.rdo_values.specs.Places.{IsRangeOf, IsBound, ranges_in}
use Rattle.rdo_values.specs.Selections.{written_clause, IsBoundSelection}
use Rattle.rdo_bind.specs.declared.assign.BoundAssign.{BoundAssign}
use Rattle.rdo_bind.specs.declared.variable.BoundVariable.{BoundVariable}
use Rattle.rdo_bind.specs.declared.action.BoundPrintItem.{BoundPrintItem}
use Rattle.rdo_bind.specs.declared.action.BoundPrintItem.TheVariants.{Value, Fields}
use Rattle.rdo_bind.specs.declared.action.BoundAction.{BoundAction, fold-BoundAction}
use Rattle.rdo_bind.specs.declared.action.BoundAction.TheOpen.{BoundAction-F}
use Rattle.rdo_bind.specs.Assigning.{written_assign, IsBoundAssign}
use Rattle.rdo_bind.specs.Variables.{IsVariable}

-- ---- an action as a tree, with no boxes

mutual
  pub data Act : Type 0 where
    store : BoundRange → List BoundAssign → Act
    for_each : BoundSelection → Acts → Act
    print : List BoundPrintItem → Act
    modify : BoundVariable → List BoundAssign → Act
    erase : BoundVariable → Act

  pub data Acts : Type 0 where
    no_act : Acts
    act : Act → Acts → Acts

abbrev pub acts_of : List Act → Acts
acts_of [] = no_act
acts_of (a ∷ as') = act a (acts_of as')

abbrev pub act_step : BoundAction-F Act → Act
act_step (BoundAction-F.Store source assigns) = store source assigns
act_step (BoundAction-F.For selection body) = for_each selection (acts_of body)
act_step (BoundAction-F.Print items) = print items
act_step (BoundAction-F.Modify v assigns) = modify v assigns
act_step (BoundAction-F.Erase v) = erase v

abbrev pub act_of : BoundAction → Act
act_of = fold-BoundAction Act act_step

-- ---- what was written

abbrev pub written_item : BoundPrintItem → tree.Shown
written_item (Value e) = tree.value (named (expression_of e))
written_item (Fields v) = tree.all_fields v.variable

abbrev mutual
  pub named_act : Act → tree.Act
  named_act (store s as') = tree.store s.range (map written_assign as')
  named_act (for_each s body) = tree.for_each (named_ranging (ranging_of s.inner)) (map written_clause s.clauses) (named_acts body)
  named_act (print items) = tree.print (map written_item items)
  named_act (modify v as') = tree.modify v.variable (map written_assign as')
  named_act (erase v) = tree.erase v.variable

  pub named_acts : Acts → tree.Acts
  named_acts no_act = tree.no_act
  named_acts (act a rest) = tree.act (named_act a) (named_acts rest)

abbrev pub written_act : BoundAction → tree.Act
written_act a = named_act (act_of a)

-- ---- each name has the place of what it stands for, where the variables outside are vs

abbrev pub IsBoundItem : Tables → List Range → BoundPrintItem → Type 0
IsBoundItem t vs (Value e) = IsBound (expression_of e) t vs
IsBoundItem t vs (Fields v) = IsVariable t vs v

-- The variable of a STORE stands behind those outside, and so do the variables of a FOR.
abbrev mutual
  pub IsBoundAct : Act → Tables → List Range → Type 0
  IsBoundAct (store s as') t vs =
      IsRangeOf s (relation_named s.range.relation t) × All (IsBoundAssign t (vs ++ s.range ∷ [])) as'
  IsBoundAct (for_each s body) t vs = IsBoundSelection s t vs × AreBoundActs body t (vs ++ ranges_in (ranging_of s.inner))
  IsBoundAct (print items) t vs = All (IsBoundItem t vs) items
  IsBoundAct (modify v as') t vs = IsVariable t vs v × All (IsBoundAssign t vs) as'
  IsBoundAct (erase v) t vs = IsVariable t vs v

  pub AreBoundActs : Acts → Tables → List Range → Type 0
  AreBoundActs no_act t vs = Unit {0}
  AreBoundActs (act a rest) t vs = IsBoundAct a t vs × AreBoundActs rest t vs
