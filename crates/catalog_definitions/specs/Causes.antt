-- Why a definition isn't written.
use Rattle.std.specs.Prelude.{◌≡◌, ℕ, ◌+◌, if◌then◌else◌, List, [], ◌∷◌, Option, Some, None, option_map, is_some}
use Rattle.line_view.specs.declared.need.Room.{Room}
use Rattle.line_view.specs.declared.need.Need.TheVariants.{Room as RoomOf}
use Rattle.line_view.specs.Knowledge.{Knowledge}
use Rattle.rdb_meaning.specs.Checks.{Refusal}
use Rattle.rdo_ast.specs.declared.reply.Reply.{Reply}
use Rattle.line_view.specs.declared.stop.Stop.{Stop}
use Rattle.line_view.specs.declared.stop.Stop.TheVariants.{NoMemory, Own}
use Rattle.line_view.specs.declared.need.Need.{Need}
use Rattle.line_view.specs.Stops.{Stops}
use Rattle.rdb_checks.specs.declared.stop.Stop.{Stop as CheckStop}
use Rattle.rdb_checks.specs.declared.stop.Stop.TheVariants.{Refused, Memory}
use Rattle.catalog_lines.specs.declared.line.CatalogLine.{CatalogLine}
use Rattle.catalog.specs.Reading.{catalog_area}

-- the stop of a check
abbrev pub stop_of_check : CheckStop → Stop Reply
stop_of_check (Refused reply) = Own reply
stop_of_check Memory = NoMemory

-- ---- rooms

-- catalog lines are of the lesser class
abbrev pub catalog_room : ℕ → Room
catalog_room nth = record { area = catalog_area; class = 208; nth = nth }

-- a room for each line, from this one on
abbrev pub rooms_from : ℕ → List CatalogLine → List Room
rooms_from nth [] = []
rooms_from nth (line ∷ lines) = catalog_room nth ∷ rooms_from (nth + 1) lines

abbrev pub first_unknown_room : Knowledge → List Room → Option Room
first_unknown_room known [] = None
first_unknown_room known (room ∷ rooms) = if is_some (known.room room) then first_unknown_room known rooms else Some room

-- ---- causes

-- this is the first of the rooms that isn't known
abbrev pub IsNextRoom : Knowledge → List Room → Need → Type 0
IsNextRoom known rooms need = option_map RoomOf (first_unknown_room known rooms) ≡ Some need

-- What is read are these rooms alone, in their order. Nothing is refused.
abbrev pub LacksRoom : Knowledge → List Room → Stop Reply → Type 0
LacksRoom known rooms = Stops (IsNextRoom known rooms) (λ key. ⊥) (λ reply. ⊥)

-- A refusal comes before all needs.
abbrev pub StopsDefining : Knowledge → Refusal → List Room → Stop Reply → Type 0
StopsDefining known refusal rooms = Stops (λ need. (refusal ≡ None) × IsNextRoom known rooms need) (λ key. ⊥) (λ reply. refusal ≡ Some reply)
