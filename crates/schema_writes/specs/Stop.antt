-- Why the writing of a definition stops, by what is known.
use Rattle.std.specs.Prelude.{◌≡◌}
use Rattle.rdo_ast.specs.declared.reply.Reply.{Reply}
use Rattle.line_view.specs.declared.need.Need.TheVariants.{Line, Area, Room}
use Rattle.line_view.specs.declared.need.Room.{Room as RoomOf}
use Rattle.line_view.specs.declared.stop.Stop.{Stop}
use Rattle.line_view.specs.declared.stop.Stop.TheVariants.{Missing, Bad, NoMemory, Own}
use Rattle.line_view.specs.Held.{Held, knows}
use Rattle.line_view.specs.Stops.{Lacks}
use Rattle.statement_view.specs.Over.{all_rooms, AreRoomsKnown}
use Rattle.statement_view.specs.Areas.{IsRoomOf}
use Rattle.schema_writes.specs.declared.stop.SchemaRefusal.{SchemaRefusal}
use Rattle.schema_writes.specs.declared.stop.SchemaRefusal.TheVariants.{Refused, NoRoom}

abbrev pub SchemaStop : Type 0
SchemaStop = Stop SchemaRefusal

-- in place of a room of the view one of its area is named that isn't known, if there is one
abbrev pub TellsRoom : Held → RoomOf → SchemaStop → Type 0
TellsRoom base room (Missing need) = Lacks (knows base) need × IsRoomOf room.area need
TellsRoom base room (Own refusal) = (refusal ≡ NoRoom) × AreRoomsKnown (knows base) room.area room.class all_rooms
TellsRoom base room (Bad key) = ⊥
TellsRoom base room NoMemory = ⊥

abbrev pub Tells : Held → Stop Reply → SchemaStop → Type 0
Tells base (Missing (Line key)) told = told ≡ Missing (Line key)
Tells base (Missing (Area area)) told = told ≡ Missing (Area area)
Tells base (Missing (Room room)) told = TellsRoom base room told
Tells base (Bad key) told = told ≡ Bad key
Tells base NoMemory told = told ≡ NoMemory
Tells base (Own reply) told = told ≡ Own (Refused reply)
