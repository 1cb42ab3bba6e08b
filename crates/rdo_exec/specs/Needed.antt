-- What an item lacks first, by what it reads, and what is named behind that.
use Rattle.std.specs.Prelude.{◌≡◌, ◌⊎◌, false, List, []}
use Rattle.std.specs.List.{AllByRecursion}
use Rattle.rdo_ast.specs.Tree.{Act, Uttered, said, perform}
use Rattle.rdb_meaning.specs.declared.tables.Tables.{Tables}
use Rattle.line_view.specs.declared.need.Need.{Need}
use Rattle.line_view.specs.declared.need.Need.TheVariants.{Line, Area, Room}
use Rattle.line_view.specs.Knowledge.{Knowledge, Lines, Agrees}
use Rattle.sound_maps.specs.Maps.{IsSoundWith}
use Rattle.session_jobs.specs.declared.jobs.Found.{Found}
use Rattle.session_jobs.specs.declared.jobs.Found.TheVariants.{Missing}
use Rattle.rdo_bind.specs.Acting.{Act as BoundAct, named_act, IsBoundAct}
use Rattle.rdo_acts.specs.declared.work.Given.{Given}
use Rattle.rdo_acts.specs.Ahead.{IsWantedBehind}
use Rattle.rdo_acts.specs.Scopes.{may_write}
use Rattle.rdo_acts.specs.Selections.{chosen_in_act, IsReadAmong}
use Rattle.rdo_acts.specs.Wanted.{ActWants, Then}
use Rattle.rdo_exec.specs.Coming.{IsCatalogOfKnown}
use Rattle.rdo_exec.specs.Acted.{AreTogether}

-- the catalog's area, or a line of it
abbrev pub IsOfCatalog : Need → Type 0
IsOfCatalog (Line key) = key.area ≡ 1
IsOfCatalog (Area area) = area ≡ 1
IsOfCatalog (Room room) = ⊥

-- Bound to the catalog that is known, the action lacks this in its parts: where it writes nothing, it is what is read of a relation of one of its selections; and however it is, it is what a part of it lacks at a moment of the work. What is named behind it is wanted if nothing refuses the action.
pub record IsActNeed (a : Act) (known : Knowledge) (all : Lines) (t : Tables) (need : Need) (later : List Need) : Type 0 where
  pub given : Given
  pub catalog : IsCatalogOfKnown known given.schema.now
  pub together : AreTogether given.schema.now given.sources.now.entries
  pub bound : BoundAct
  pub written : named_act bound ≡ a
  pub placed : IsBoundAct bound given.schema.now.tables []
  pub reads : may_write bound ≡ false → IsReadAmong t given.sources.now.entries (chosen_in_act bound []) need
  pub wants : Then given all t (λ u. ActWants u given.sources.now.entries bound [] need)
  pub behind : AllByRecursion (IsWantedBehind t given.sources.now.entries bound need) later

-- this is true of the first need and those behind it, if some are named
abbrev pub IfLacking : (Need → List Need → Type 0) → Found → Type 0
IfLacking Is (Missing next later) = Is next later
IfLacking Is _ = Unit {0}

-- Over each sound map with which what is known agrees, an action lacks first what is of the catalog, and nothing is named behind it; or what its parts lack.
abbrev pub ActNeeds : Act → Knowledge → Found → Type 0
ActNeeds a known found = (all : Lines) (t : Tables) → IsSoundWith all t → Agrees known all → IfLacking (λ need later. (IsOfCatalog need × (later ≡ [])) ⊎ IsActNeed a known all t need later) found

-- the same of an item that is an action
abbrev pub ItemNeeds : Uttered → Knowledge → Found → Type 0
ItemNeeds (said (perform a)) known found = ActNeeds a known found
ItemNeeds _ known found = Unit {0}
