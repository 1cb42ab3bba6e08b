-- What is known with the rooms that were given.
use Rattle.std.specs.Prelude.{◌==◌, ◌&&◌, Bool, true, false, if◌then◌else◌, ℕ, List, [], ◌∷◌, Option, Some, None}
use Rattle.std.specs.FinMap.Entries.{find}
use Rattle.rdb_types.specs.declared.keys.Dbkey.{Dbkey}
use Rattle.rdb_types.specs.Order.{dbkey_order}
use Rattle.line_view.specs.declared.need.Room.{Room}
use Rattle.line_view.specs.Held.{Held, with_room}

abbrev pub is_none_there : Option (Option (List ℕ)) → Bool
is_none_there (Some None) = true
is_none_there (Some (Some image)) = false
is_none_there None = false

-- the line is known to be absent
abbrev pub is_absent : Held → Dbkey → Bool
is_absent h key = is_none_there (find dbkey_order key h.lines)

-- a room is known only where its line is of its area, and known to be absent
abbrev pub with_one : Dbkey × Room → Held → Held
with_one e h = if (e.0.area == e.1.area) && is_absent h e.0 then with_room e.1 e.0 h else h

abbrev pub with_given : List (Dbkey × Room) → Held → Held
with_given [] h = h
with_given (e ∷ es) h = with_given es (with_one e h)
