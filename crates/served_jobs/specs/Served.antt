-- What a job names first whose action's selections indexes serve.
use Rattle.std.specs.Prelude.{◌≡◌, ◌⊎◌, false, []}
use Rattle.rdo_ast.specs.Tree.{Act}
use Rattle.rdb_meaning.specs.declared.tables.Tables.{Tables}
use Rattle.line_view.specs.declared.need.Need.{Need}
use Rattle.line_view.specs.Knowledge.{Knowledge, Lines}
use Rattle.session_jobs.specs.declared.jobs.Found.{Found}
use Rattle.rdo_bind.specs.Acting.{Act as BoundAct, named_act, IsBoundAct}
use Rattle.rdo_exec.specs.rdo_acts.declared.work.Given.{Given}
use Rattle.rdo_exec.specs.rdo_acts.Scopes.{may_write}
use Rattle.rdo_exec.specs.rdo_acts.Selections.{chosen_in_act}
use Rattle.rdo_exec.specs.rdo_acts.Wanted.{Then}
use Rattle.rdo_exec.specs.Acted.{AreTogether}
use Rattle.rdo_exec.specs.Coming.{IsCatalogOfKnown}
use Rattle.rdo_exec.specs.Needed.{IsOfCatalog, IfLacking}
use Rattle.served_actions.specs.Served.{IsServedAct, IsIndexed, IsNoArea, IsSpared}

-- the action as it is bound to the catalog that is known, with its sources
pub record IsBoundTo (a : Act) (known : Knowledge) (given : Given) (bound : BoundAct) : Type 0 where
  pub catalog : IsCatalogOfKnown known given.schema.now
  pub together : AreTogether given.schema.now given.sources.now.entries
  pub written : named_act bound ≡ a
  pub placed : IsBoundAct bound given.schema.now.tables []

-- An index serves each relation of each selection of the action: in the tables of the start, and in those of each moment of its work.
pub record IsServedOver (a : Act) (known : Knowledge) (all : Lines) (t : Tables) : Type 0 where
  pub start : (given : Given) (bound : BoundAct) → IsBoundTo a known given bound → IsServedAct t given.sources.now.entries bound []
  pub moments : (given : Given) (bound : BoundAct) → IsBoundTo a known given bound → (moment : Then given all t (λ u. Unit {0})) → IsServedAct moment.tables given.sources.now.entries bound []

-- It is no area, and what is read of a relation of a selection is read by an index. Where the action writes nothing, it is read so in the tables of the start.
pub record IsSparedIn (a : Act) (known : Knowledge) (all : Lines) (t : Tables) (need : Need) : Type 0 where
  pub no_area : IsNoArea need
  pub given : Given
  pub bound : BoundAct
  pub is : IsBoundTo a known given bound
  pub reads : may_write bound ≡ false → IsIndexed t given.sources.now.entries (chosen_in_act bound []) need
  pub lacks : Then given all t (λ u. IsSpared u given.sources.now.entries bound [] need)

abbrev pub IsSparedOver : Act → Knowledge → Lines → Tables → Need → Type 0
IsSparedOver a known all t need = IsOfCatalog need ⊎ IsSparedIn a known all t need

-- this is true of the first need, if some are named
abbrev pub IfMissing : (Need → Type 0) → Found → Type 0
IfMissing Is found = IfLacking (λ need later. Is need) found
