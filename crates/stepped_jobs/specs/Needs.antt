-- Needs that are read.
use Rattle.std.specs.Prelude.{◌≡◌, true, List}
use Rattle.lock_needs.specs.declared.need.Need.{Need as LockNeed}
use Rattle.rdb_account.specs.AskedFor.{area_node}
use Rattle.line_view.specs.declared.need.Need.{Need}
use Rattle.line_view.specs.declared.need.Need.TheVariants.{Line, Area, Room}
use Rattle.kept_apart.specs.Guards.{line_node, is_guarded}

-- a line, or the lines of an area: a room is named, locked and taken
abbrev pub IsRead : Need → Type 0
IsRead (Line key) = Unit {0}
IsRead (Area area) = Unit {0}
IsRead (Room room) = ⊥

-- the lock to read it is got
abbrev pub IsLocked : List LockNeed → Need → Type 0
IsLocked got (Line key) = is_guarded got (line_node key) ≡ true
IsLocked got (Area area) = is_guarded got (area_node area) ≡ true
IsLocked got (Room room) = Unit {0}
