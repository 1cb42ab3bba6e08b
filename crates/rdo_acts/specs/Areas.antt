-- In which logical areas the actions of a statement read and write lines, by the uses of what was written.
use Rattle.std.specs.Prelude.{◌≡◌, ℕ, true, List, [], ◌++◌, Result}
use Rattle.std.specs.List.{All, AllByRecursion}
use Rattle.rdo_ast.specs.declared.syntax.Range.{Range}
use Rattle.rdo_ast.specs.Tree as tree
use Rattle.rdb_meaning.specs.declared.tables.Tables.{Tables}
use Rattle.rdb_meaning.specs.Contents.{Row}
use Rattle.rdb_meaning.specs.Checks.{Use, source_uses, act_uses, acts_uses}
use Rattle.rdb_meaning.specs.Evaluation.{Scope}
use Rattle.line_view.specs.declared.stop.Stop.{Stop}
use Rattle.line_view.specs.Knowledge.{Knowledge, Lines, Agrees}
use Rattle.line_view.specs.Stops.{Answers}
use Rattle.catalog.specs.declared.reading.Catalog.{Catalog}
use Rattle.sound_changes.specs.Standing.{IsSoundAs}
use Rattle.statement_view.specs.Over.{Over}
use Rattle.statement_view.specs.Areas.{is_among, IsNeedOf, KeepsTo}
use Rattle.used_areas.specs.Areas.{areas_read, areas_changed}
use Rattle.rdo_values.specs.Rows.{row_of, variables_of}
use Rattle.rdo_bind.specs.Acting.{Act, Acts, named_act, named_acts}
use Rattle.rdo_select.specs.declared.crossing.Found.{Found}
use Rattle.rdo_select.specs.Stops.{HaveValues}
use Rattle.rdo_acts.specs.declared.work.Given.{Given}
use Rattle.rdo_acts.specs.declared.work.Work.{Work}
use Rattle.rdo_acts.specs.declared.acting.Outcome.{Outcome}
use Rattle.rdo_acts.specs.declared.acting.Outcome.TheVariants.{Done, Missing}
use Rattle.rdo_acts.specs.Ends.{ActStop, HoldsIn}

-- ---- reading

-- what is missing is a line, or all lines, of these areas
abbrev pub ReadsIn : {T E : Type 0} → List ℕ → Result T (Stop E) → Type 0
ReadsIn areas result = Answers (λ given. Unit {0}) (IsNeedOf areas []) (λ key. Unit {0}) (λ own. Unit {0}) result

-- those that these uses read
abbrev pub ReadsFor : {T E : Type 0} → Tables → List Use → Result T (Stop E) → Type 0
ReadsFor t us result = ReadsIn (areas_read t us) result

-- ---- running

-- the relations of the variables around an action, whose rows are read again
abbrev pub scope_uses : Scope → List Use
scope_uses scope = source_uses (variables_of scope)

abbrev pub action_uses : Act → Scope → List Use
action_uses a scope = scope_uses scope ++ act_uses (named_act a) scope

abbrev pub body_uses : Acts → Scope → List Use
body_uses as' scope = scope_uses scope ++ acts_uses (named_acts as') scope

-- what is missing is of the areas that these uses read, or a room of those that they change, where the lines are written
abbrev pub KeepsFor : {T E : Type 0} → Tables → List Use → Over → Over → Result T (Stop E) → Type 0
KeepsFor t us old new result = KeepsTo (areas_read t us) (areas_changed t us) old new result

-- the same behind these values of the variables around the work, by the tables of the start
abbrev pub RunsFor : Result (Unit {0}) ActStop → Given → Scope → Row → List Use → Work → Work → Type 0
RunsFor result given scope values us old new = (all : Lines) (start t : Tables) → HoldsIn given old all start t → row_of t scope ≡ values → KeepsFor start us old.view new.view result

-- the same for tuples that were selected with the values of all variables
abbrev pub RunsOverFor : Result (Unit {0}) ActStop → Given → Scope → List Range → List Found → List Use → Work → Work → Type 0
RunsOverFor result given scope ss tuples us old new = (all : Lines) (start t : Tables) → HoldsIn given old all start t → HaveValues ss t scope tuples → KeepsFor start us old.view new.view result

-- ---- what comes of an action

-- each need is of the areas that these uses read, or a room of those that they change, where each line is written
abbrev pub IsFor : Outcome → List Use → Tables → Type 0
IsFor (Done acted) us t = AllByRecursion (λ write. is_among (areas_changed t us) (write.key).area ≡ true) acted.writes
IsFor (Missing needs) us t = All (IsNeedOf (areas_read t us) (areas_changed t us)) needs
IsFor _ us t = Unit {0}

-- the same for what is written in the action, over each map that is sound with this catalog and with which what is known agrees
abbrev pub StaysFor : Outcome → tree.Act → Knowledge → Catalog → Type 0
StaysFor outcome a known c = (all : Lines) (t : Tables) → Agrees known all → IsSoundAs all c t → IsFor outcome (act_uses a []) t
