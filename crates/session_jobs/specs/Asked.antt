-- That a statement of a read-write transaction reads and writes only lines whose locks it asks for.
use Rattle.std.specs.Prelude.{◌≡◌, ◌==◌, ◌&&◌, ℕ, Bool, true, false, if◌then◌else◌, Option, Some, None}
use Rattle.rdo_ast.specs.declared.reply.Standing.{Standing}
use Rattle.rdo_ast.specs.declared.reply.Standing.TheVariants.{Closed, ReadOnly, ReadWrite}
use Rattle.rdo_ast.specs.Tree.{Uttered, said, define_field, define_relation, define_index, delete_relation, delete_index}
use Rattle.rdb_account.specs.rdb_meaning.declared.tables.Tables.{Tables}
use Rattle.vms_queues.specs.declared.lock_mode.Mode.{Mode}
use Rattle.vms_queues.specs.declared.lock_mode.Mode.TheVariants.{PR, EX}
use Rattle.lock_needs.specs.declared.need.Need.{Need as LockNeed}
use Rattle.rdb_account.specs.Places.{begins, is_writer}
use Rattle.rdb_account.specs.Lawful.{first_refusal}
use Rattle.rdb_account.specs.AskedFor.{area_node, is_need, is_on_line_of, item_asks}
use Rattle.line_view.specs.declared.need.Need.{Need}
use Rattle.line_view.specs.declared.need.Need.TheVariants.{Line, Area, Room}

abbrev pub is_writing_kind : Option Standing → Bool
is_writing_kind (Some kind) = is_writer kind
is_writing_kind None = false

-- whether the item is said in a read-write transaction, or begins one
abbrev pub locks : Standing → Uttered → Bool
locks Closed item = is_writing_kind (begins item)
locks ReadOnly item = false
locks (ReadWrite wait rs) item = true

-- a definition or deletion has the catalog for itself
abbrev pub is_definition : Uttered → Bool
is_definition (said (define_field n type)) = true
is_definition (said (define_relation n fs)) = true
is_definition (said (define_index d)) = true
is_definition (said (delete_relation n)) = true
is_definition (said (delete_index n)) = true
is_definition _ = false

-- the mode in which an item reads all lines of an area
abbrev pub area_mode : Uttered → ℕ → Mode
area_mode item area = if (area == 1) && is_definition item then EX else PR

-- The locks that a need of lines wants: whoever reads a line of the catalog has the whole catalog, and that of a room is on the line that is taken for it.
abbrev pub is_lock_for : Uttered → Need → LockNeed → Bool
is_lock_for item (Line key) lock = if key.area == 1 then is_need (area_node 1) (area_mode item 1) lock else is_on_line_of key.area PR lock
is_lock_for item (Area area) lock = is_need (area_node area) (area_mode item area) lock
is_lock_for item (Room room) lock = is_on_line_of room.area EX lock

-- Where the item takes locks, it asks for each of these over the tables.
abbrev pub AsksFor : Standing → Uttered → Tables → (LockNeed → Bool) → Type 0
AsksFor standing item t these = locks standing item ≡ true → (lock : LockNeed) → these lock ≡ true → item_asks (first_refusal standing item) t lock item ≡ true
