-- What an action lacks whose selections indexes serve.
use Rattle.std.specs.Prelude.{◌≡◌, List}
use Rattle.std.specs.List.{AllByRecursion}
use Rattle.rdo_ast.specs.declared.syntax.Range.{Range}
use Rattle.rdb_meaning.specs.declared.tables.Tables.{Tables}
use Rattle.line_view.specs.declared.need.Need.{Need}
use Rattle.line_view.specs.declared.need.Need.TheVariants.{Line, Area, Room}
use Rattle.sorted_index_laws.specs.Nodes.{AnyByRecursion}
use Rattle.rdo_bind.specs.Acting.{Act}
use Rattle.rdo_select.specs.Sources.{Listed}
use Rattle.served_selections.specs.Ranges.{Chosen}
use Rattle.served_selections.specs.Served.{IsServed, IsReadByIndex}
use Rattle.rdo_acts.specs.Selections.{chosen_in_act}
use Rattle.rdo_acts.specs.Wanted.{ActLacks}

-- an index serves each relation of each selection of the action
abbrev pub IsServedAct : Tables → Listed → Act → List Range → Type 0
IsServedAct t sources a vs = AllByRecursion (IsServed t sources) (chosen_in_act a vs)

-- it is read by an index of one of these relations
abbrev pub IsIndexed : Tables → Listed → List Chosen → Need → Type 0
IsIndexed t sources cs need = AnyByRecursion (IsReadByIndex t sources need) cs

abbrev pub IsNoArea : Need → Type 0
IsNoArea (Line line) = Unit {0}
IsNoArea (Area area) = ⊥
IsNoArea (Room room) = Unit {0}

-- It is no area, and what is read of a relation of a selection is read by an index: a line of that, or of a row whose key meets the index's part of the tests.
pub record IsSpared (t : Tables) (sources : Listed) (a : Act) (vs : List Range) (need : Need) : Type 0 where
  pub no_area : IsNoArea need
  pub lacks : ActLacks t (IsIndexed t sources) a vs need
