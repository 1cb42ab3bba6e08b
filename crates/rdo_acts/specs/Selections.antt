-- What an action that writes nothing lacks: what is read of a relation of one of its selections.
use Rattle.std.specs.Prelude.{◌≡◌, false, List, [], ◌∷◌, ◌++◌, Result}
use Rattle.rdo_ast.specs.declared.syntax.Range.{Range}
use Rattle.rdb_meaning.specs.declared.tables.Tables.{Tables}
use Rattle.rdb_meaning.specs.Contents.{Row}
use Rattle.rdb_meaning.specs.Evaluation.{Scope}
use Rattle.line_view.specs.declared.need.Need.{Need}
use Rattle.line_view.specs.declared.stop.Stop.{Stop}
use Rattle.line_view.specs.Knowledge.{Knowledge, Lines, Agrees}
use Rattle.line_view.specs.Stops.{Answers}
use Rattle.sorted_index_laws.specs.Nodes.{AnyByRecursion}
use Rattle.sound_changes.specs.Standing.{IsSoundAs}
use Rattle.row_writes.specs.Rows.{IsSoundView}
use Rattle.rdo_values.specs.Views.{expression_of, ranging_of}
use Rattle.rdo_values.specs.Places.{ranges_in}
use Rattle.rdo_values.specs.Rows.{row_of}
use Rattle.rdo_bind.specs.declared.assign.BoundAssign.{BoundAssign}
use Rattle.rdo_bind.specs.declared.action.BoundPrintItem.{BoundPrintItem}
use Rattle.rdo_bind.specs.declared.action.BoundPrintItem.TheVariants.{Value, Fields}
use Rattle.rdo_bind.specs.Acting.{Act, store, for_each, print, modify, erase, Acts, no_act, act}
use Rattle.rdo_select.specs.declared.crossing.Found.{Found}
use Rattle.rdo_select.specs.Sources.{Listed}
use Rattle.rdo_select.specs.Stops.{HaveValues}
use Rattle.served_selections.specs.Ranges.{Chosen, chosen_in, chosen_in_ranging}
use Rattle.served_selections.specs.Served.{IsReadFor}
use Rattle.rdo_acts.specs.declared.work.Given.{Given}
use Rattle.rdo_acts.specs.declared.work.Work.{Work}
use Rattle.rdo_acts.specs.declared.acting.Outcome.{Outcome}
use Rattle.rdo_acts.specs.declared.acting.Outcome.TheVariants.{Missing}
use Rattle.rdo_acts.specs.Ends.{ActStop}
use Rattle.rdo_acts.specs.Scopes.{may_write}

-- ---- the relations of all selections of an action, where the variables outside are vs

abbrev pub chosen_in_items : List BoundPrintItem → List Range → List Chosen
chosen_in_items [] vs = []
chosen_in_items (Value e ∷ items) vs = chosen_in (expression_of e) vs ++ chosen_in_items items vs
chosen_in_items (Fields v ∷ items) vs = chosen_in_items items vs

abbrev pub chosen_in_assigns : List BoundAssign → List Range → List Chosen
chosen_in_assigns [] vs = []
chosen_in_assigns (a ∷ as') vs = chosen_in (expression_of a.right) vs ++ chosen_in_assigns as' vs

-- The variable of a STORE stands behind those outside, and so do the variables of a FOR.
abbrev mutual
  pub chosen_in_act : Act → List Range → List Chosen
  chosen_in_act (store s as') vs = chosen_in_assigns as' (vs ++ s.range ∷ [])
  chosen_in_act (for_each s body) vs = chosen_in_ranging (ranging_of s.inner) vs ++ chosen_in_acts body (vs ++ ranges_in (ranging_of s.inner))
  chosen_in_act (print items) vs = chosen_in_items items vs
  chosen_in_act (modify v as') vs = chosen_in_assigns as' vs
  chosen_in_act (erase v) vs = []

  pub chosen_in_acts : Acts → List Range → List Chosen
  chosen_in_acts no_act vs = []
  chosen_in_acts (act a rest) vs = chosen_in_act a vs ++ chosen_in_acts rest vs

-- ---- what is lacked

-- it is what is read of one of these relations of the tables
abbrev pub IsReadAmong : Tables → Listed → List Chosen → Need → Type 0
IsReadAmong t sources cs need = AnyByRecursion (IsReadFor t sources need) cs

abbrev pub ReadsAmong : {T E : Type 0} → Tables → Listed → List Chosen → Result T (Stop E) → Type 0
ReadsAmong t sources cs result = Answers (λ given. Unit {0}) (IsReadAmong t sources cs) (λ key. Unit {0}) (λ own. Unit {0}) result

-- the same behind these values of the variables around the work
abbrev pub RunsAmong : Result (Unit {0}) ActStop → Given → Scope → Row → List Chosen → Work → Type 0
RunsAmong result given scope values cs old = (first : Lines) (t : Tables) → IsSoundView old.view given.schema.now t first → row_of t scope ≡ values → ReadsAmong t given.sources.now.entries cs result

-- the same for tuples that were selected with the values of all variables
abbrev pub RunsOverAmong : Result (Unit {0}) ActStop → Given → Scope → List Range → List Found → List Chosen → Work → Type 0
RunsOverAmong result given scope ss tuples cs old = (first : Lines) (t : Tables) → IsSoundView old.view given.schema.now t first → HaveValues ss t scope tuples → ReadsAmong t given.sources.now.entries cs result

-- ---- what comes of an action

-- this is true of the first one
abbrev pub FirstIs : {X : Type 0} → (X → Type 0) → List X → Type 0
FirstIs P [] = Unit {0}
FirstIs P (x ∷ xs) = P x

abbrev pub IsAmong : Outcome → Tables → Listed → List Chosen → Type 0
IsAmong (Missing needs) t sources cs = FirstIs (IsReadAmong t sources cs) needs
IsAmong _ t sources cs = Unit {0}

-- What an action that writes nothing lacks first is what is read of a relation of one of its selections, in the tables of each map that is sound with the catalog and with which what is known agrees.
abbrev pub LacksAmong : Outcome → Act → Knowledge → Given → Type 0
LacksAmong outcome a known given = may_write a ≡ false → (all : Lines) (t : Tables) → Agrees known all → IsSoundAs all given.schema.now t → IsAmong outcome t given.sources.now.entries (chosen_in_act a [])
