-- A definition over the view of a statement, for every map of lines that goes with the view.
use Rattle.std.specs.Prelude.{◌≡◌, Some, None, Result}
use Rattle.line_view.specs.Knowledge.{Lines}
use Rattle.line_view.specs.Held.{Held, knows}
use Rattle.line_view.specs.Stops.{Answers, Lacks}
use Rattle.rdb_meaning.specs.declared.tables.Tables.{Tables}
use Rattle.rdb_meaning.specs.Checks.{Refusal}
use Rattle.catalog.specs.declared.reading.Catalog.{Catalog}
use Rattle.catalog.specs.Reading.{catalog_area}
use Rattle.catalog_definitions.specs.Causes.{catalog_room}
use Rattle.statement_view.specs.Over.{Over, all_rooms, AreRoomsKnown}
use Rattle.row_writes.specs.Rows.{IsSoundView}
use Rattle.schema_writes.specs.declared.stop.SchemaRefusal.{SchemaRefusal}
use Rattle.schema_writes.specs.declared.stop.SchemaRefusal.TheVariants.{Refused, NoRoom, Full}
use Rattle.schema_writes.specs.Stop.{SchemaStop}

-- The meaning doesn't refuse. The view agrees with the map behind its writes, which is sound with these tables and a catalog of them.
pub record IsCarriedOut (new : Over) (refusal : Refusal) (after : Tables) (first : Lines) : Type 0 where
  pub unrefused : refusal ≡ None
  pub catalog : Catalog
  pub behind : IsSoundView new catalog after first

-- the meaning refuses so, or it doesn't, and all numbers of rooms of the catalog are known
abbrev pub IsNotDefined : Held → Refusal → SchemaRefusal → Type 0
IsNotDefined base refusal (Refused reply) = refusal ≡ Some reply
IsNotDefined base refusal NoRoom = (refusal ≡ None) × AreRoomsKnown (knows base) catalog_area (catalog_room 0).class all_rooms
IsNotDefined base refusal Full = ⊥

-- Over each map with this catalog: what the meaning refuses in its tables is refused, before anything is named that isn't known; else the tables of the meaning are left.
abbrev pub Defines : Over → Over → Catalog → (Tables → Refusal) → (Tables → Tables) → Result (Unit {0}) SchemaStop → Type 0
Defines old new c refusal after result = (t : Tables) (first : Lines) → IsSoundView old c t first →
    Answers (λ u. IsCarriedOut new (refusal t) (after t) first) (λ need. (refusal t ≡ None) × Lacks (knows old.base) need) (λ key. ⊥) (IsNotDefined old.base (refusal t)) result
