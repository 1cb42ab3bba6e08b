-- What a statement's writes make of a store's memory.
use Rattle.std.specs.Prelude.{ℕ, ◌≡◌, ◌≤◌, ◌<◌, ◌+◌, ◌^◌, ◌==◌, ◌⊎◌, false, if◌then◌else◌, List, length, Option, Some, None, slice_get}
use Rattle.std.specs.FinMap.Entries.{find}
use Rattle.rdb_types.specs.declared.keys.Dbkey.{Dbkey}
use Rattle.rdb_types.specs.declared.keys.Line.{Line}
use Rattle.rdb_types.specs.declared.keys.Tsn.{Tsn}
use Rattle.rdb_types.specs.Order.{dbkey_order}
use Rattle.rdb_page.specs.Page.{IsClass}
use Rattle.line_view.specs.declared.writes.Write.{Write}
use Rattle.line_store.specs.declared.answers.ChangeStop.{ChangeStop}
use Rattle.line_store.specs.declared.answers.ChangeStop.TheVariants as stop
use Rattle.line_store.specs.Seats.{lines_added}
use Rattle.line_moves.specs.declared.places.Place.{Place}
use Rattle.line_moves.specs.Changes.{IsPlaceOf}
use Rattle.member_rooms.specs.page_table.Pages.{IsLineOf, class_in}
use Rattle.reader_lines.specs.version_writing.Slots.{IsFullOf, with_aside}
use Rattle.reader_lines.specs.version_writing.declared.snapshot_slots.SnapshotSlots.{SnapshotSlots}
use Rattle.reader_lines.specs.version_writing.declared.snapshot_slots.Wanted.{Wanted}
use Rattle.member_memory.specs.Memory.{Memory, writes_in}
use Rattle.member_memory.specs.declared.changes.AddStop.{AddStop}
use Rattle.member_memory.specs.declared.changes.AddStop.TheVariants.{Full, NoMemory}
use Rattle.member_memory.specs.Changes.{Adding, rewritten_all}
use Rattle.disk_store.specs.declared.member.Member.{Member}
use Rattle.disk_store.specs.declared.member.MemberStage.TheVariants as stage
use Rattle.disk_store.specs.declared.held.Tables.{Tables}
use Rattle.disk_store.specs.Memory.{StoreMemory, with_member}
use Rattle.disk_store.specs.Shown.{pages_of}

-- ---- lines that may be written

abbrev pub size_of : Option (List ℕ) → ℕ
size_of None = 0
size_of (Some image) = length image

-- The line lies on a page of its area, by the tables, whose class has room for the image.
pub record HasPlace (tables : Tables) (w : Write) : Type 0 where
  pub place : Place
  pub is : IsPlaceOf w.key place
  pub is_line : IsLineOf (pages_of tables place.file) w.key
  pub class : IsClass (class_in (pages_of tables place.file) w.key.page)
  pub fits : size_of w.image ≤ class_in (pages_of tables place.file) w.key.page

-- no other member has written the line
abbrev pub IsFreeFor : ℕ → List Member → Dbkey → Type 0
IsFreeFor s members key = (t : ℕ) (n : Member) (line : Line) → (t == s) ≡ false → slice_get members t ≡ Some n → find dbkey_order key n.written.lines ≡ Some line → ⊥

pub record IsFit (s : ℕ) (tables : Tables) (members : List Member) (w : Write) : Type 0 where
  pub placed : HasPlace tables w
  pub free : IsFreeFor s members w.key

abbrev pub AreFit : ℕ → Tables → List Member → List Write → Type 0
AreFit s tables members writes = (i : ℕ) (w : Write) → slice_get writes i ≡ Some w → IsFit s tables members w

-- ---- what becomes of memory

-- The writes are laid over the lines, of a transaction of this number.
pub record LaysOver (tsn : Tsn) (writes : List Write) (old new : Memory) : Type 0 where
  pub mid : Memory
  pub adding : Adding tsn writes old mid
  pub few : length mid.keys < 2 ^ 32
  pub is : new ≡ record { lines = rewritten_all writes mid.lines; keys = mid.keys }

abbrev pub all_of : Wanted → ℕ
all_of wanted = wanted.catalog + (wanted.relations + wanted.indexes)

-- one slot of the file more
abbrev pub one_more : ℕ → Wanted → Wanted
one_more file wanted =
    if file == 1 then record { catalog = wanted.catalog + 1; relations = wanted.relations; indexes = wanted.indexes }
    else (if file == 2 then record { catalog = wanted.catalog; relations = wanted.relations + 1; indexes = wanted.indexes }
    else record { catalog = wanted.catalog; relations = wanted.relations; indexes = wanted.indexes + 1 })

abbrev pub one_for : Option ℕ → Wanted → Wanted
one_for None wanted = wanted
one_for (Some file) wanted = one_more file wanted

abbrev pub with_asides : Wanted → SnapshotSlots → SnapshotSlots
with_asides wanted slots = record { catalog = with_aside wanted.catalog slots.catalog; relations = with_aside wanted.relations slots.relations; indexes = with_aside wanted.indexes slots.indexes }

-- the session changes these lines; of those that it wrote before, all were pushed aside
abbrev pub changing_with : Memory → Wanted → Member → Member
changing_with written wanted m = record m { stage = stage.Changing; named = false; written = written; pushed = length m.written.keys; aside = wanted }

-- The writes are laid over the session's lines, and slots are set aside for those that are new.
pub record LaysWrites (s : ℕ) (more : List Write) (old new : StoreMemory) : Type 0 where
  pub member : Member
  pub was : slice_get old.members s ≡ Some member
  pub written : Memory
  pub lays : LaysOver member.tsn more member.written written
  pub wanted : Wanted
  pub count : all_of wanted ≤ lines_added (writes_in member.written.lines) more
  pub is : new ≡ record (with_member s (changing_with written wanted member) old) { slots = with_asides wanted old.slots }

-- ---- why they can't be laid

-- one of the snapshot files has too few slots for no more than these lines
pub record LacksSlots (lines : Memory) (more : List Write) (slots : SnapshotSlots) (limit : ℕ) : Type 0 where
  pub wanted : ℕ
  pub few : wanted ≤ lines_added (writes_in lines.lines) more
  pub full : IsFullOf slots.catalog wanted limit ⊎ (IsFullOf slots.relations wanted limit ⊎ IsFullOf slots.indexes wanted limit)

-- the journal has too few entries
pub record LacksEntries (lines : Memory) (more : List Write) (entries limit : ℕ) : Type 0 where
  pub limit_is : limit ≡ entries
  pub more_lines : entries < length lines.keys + lines_added (writes_in lines.lines) more

abbrev pub stop_of : AddStop → ℕ → ChangeStop
stop_of Full limit = stop.RujFull limit
stop_of NoMemory limit = stop.NoMemory

abbrev pub Stops : Memory → List Write → SnapshotSlots → ℕ → ChangeStop → Type 0
Stops lines more slots entries (stop.RujFull limit) = LacksEntries lines more entries limit
Stops lines more slots entries (stop.SnapFull limit) = LacksSlots lines more slots limit
Stops lines more slots entries (stop.Unfit key) = ⊥
Stops lines more slots entries stop.NoMemory = Unit {0}

-- the same, of a session
pub record StopsAt (s : ℕ) (more : List Write) (h : StoreMemory) (why : ChangeStop) : Type 0 where
  pub member : Member
  pub was : slice_get h.members s ≡ Some member
  pub stops : Stops member.written more h.slots h.limits.entries why
