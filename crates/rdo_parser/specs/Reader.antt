-- What a script that is read shows, and what it keeps.
use Rattle.std.specs.Prelude.{◌≡◌, ◌≤◌, ◌<◌, ◌^◌, Bool, List, length, take}
use Rattle.rdo_ast.specs.declared.syntax.Item.{Item}
use Rattle.rdo_parser.specs.declared.items.Script.TheInside.{Inside}
use Rattle.rdo_parser.specs.Places.{place_behind}
use Rattle.rdo_parser.specs.Script.{items_from, stops_from}

-- the items that are still to come, and whether they come to a `$ STOP`
pub record Reading : Type 0 where
  pub items : List Item
  pub stops : Bool

abbrev pub reading_left : Inside → Reading
reading_left s = record { items = items_from s.text.now s.at; stops = stops_from s.text.now s.at }

pub record IsReady (s : Inside) : Type 0 where
  pub long : length s.text.now < 2 ^ 31
  pub within : s.at ≤ length s.text.now
  pub here : s.place ≡ place_behind (take s.at s.text.now)
