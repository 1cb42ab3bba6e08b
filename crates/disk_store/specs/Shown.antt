-- What a store on a disk shows.
use Rattle.std.specs.Prelude.{ℕ, ◌+◌, ◌-◌, ◌≤◌, ◌<◌, ◌≡◌, ◌⊎◌, ◌==◌, IsTrue, if◌then◌else◌, List, [], length, replicate, Option, Some, None, slice_get}
use Rattle.std.specs.FinMap.Entries.{find}
use Rattle.rdb_types.specs.declared.keys.Dbkey.{Dbkey}
use Rattle.rdb_types.specs.declared.keys.Line.{Line}
use Rattle.rdb_types.specs.declared.keys.LineState.TheVariants.{Never}
use Rattle.rdb_types.specs.Order.{dbkey_order}
use Rattle.rdb_page.specs.Page.{IsOwner}
use Rattle.rdb_outside.specs.Disk.{View, Pending}
use Rattle.root_file.specs.declared.Root.{Root}
use Rattle.root_file.specs.Root.{IsRoot}
use Rattle.new_database.specs.Maker.{root_file}
use Rattle.area_files.specs.Areas.{IsDataPage}
use Rattle.line_view.specs.Knowledge.{Lines, IsInOrder, line_in}
use Rattle.line_store.specs.Seats.{Seat, outside}
use Rattle.line_store.specs.Shelves.{Space, Shelf}
use Rattle.line_store.specs.Sights.{Sight, IsSame, Does}
use Rattle.snapshot_file.specs.Slots.{left_in}
use Rattle.line_versions.specs.Course.{Course, Reading}
use Rattle.stable_lines.specs.Slots.{IsAreaFile}
use Rattle.stable_lines.specs.Progress.{Progress}
use Rattle.stable_lines.specs.Rolling.{IsBehind}
use Rattle.line_opening.specs.Passing.{IsNext}
use Rattle.line_opening.specs.declared.groups.NextGroup.{NextGroup}
use Rattle.line_moves.specs.declared.places.Place.{Place}
use Rattle.line_moves.specs.Changes.{IsForArea}
use Rattle.line_moves.specs.Classes.{HaveTheirClasses}
use Rattle.line_moves.specs.Lines.{ChangedLines}
use Rattle.ledger_versions.specs.disk_seats.Ledgers.{resting, Ledger}
use Rattle.ledger_versions.specs.disk_seats.Members.{LedgerFacts}
use Rattle.member_rooms.specs.member_steps.Beginning.{HasCeiling}
use Rattle.member_rooms.specs.page_table.Pages.{Pages, nobodys, owner_in, class_in, IsEverUsed, IsWithin}
use Rattle.member_rooms.specs.committed_tables.Tables.{HasCommitted, WereUsed}
use Rattle.reader_lines.specs.version_writing.Slots.{SlotTable}
use Rattle.reader_lines.specs.version_writing.Tables.{HoldsAll}
use Rattle.ledger_versions.specs.Readers.{ReaderFacts, Waiting, HasVersionOf}
use Rattle.member_rooms.specs.store_shows.Shows.{AllOpen, Leaves, ShowsLines}
use Rattle.member_rooms.specs.store_shows.Rooms.{HasPages}
use Rattle.member_memory.specs.Memory.{Memory, writes_in}
use Rattle.disk_store.specs.declared.member.Member.{Member}
use Rattle.disk_store.specs.declared.member.MemberStage.{MemberStage}
use Rattle.disk_store.specs.declared.member.MemberStage.TheVariants as stage
use Rattle.disk_store.specs.declared.held.Numbers.{Numbers}
use Rattle.disk_store.specs.declared.held.Tables.{Tables}
use Rattle.disk_store.specs.Memory.{StoreMemory}
use Rattle.disk_store.specs.Numbers.{kept_in}
use Rattle.disk_store.specs.Seats.{seat_with, stand_at, steps_at, IsAtStage}
use Rattle.disk_store.specs.Standing.{StageStands}

-- ---- sessions

-- A session's seat is that of its member, whose memory stands as its stage says.
pub record SitsAs (v : View) (g : Ledger) (s : ℕ) (m : Member) (seat : Seat) : Type 0 where
  pub start : Lines
  pub is : seat ≡ seat_with m.stage (writes_in m.written.lines) start
  pub stands : StageStands m.stage v g s m

abbrev pub Sits : View → Ledger → ℕ → Option Member → Seat → Type 0
Sits v g s None seat = (seat ≡ outside) × (g.standing s ≡ resting)
Sits v g s (Some m) seat = SitsAs v g s m seat

-- ---- numbers

-- Each root that a crash may leave has the ceiling, and the one that reads give that which was written last: the same, or one that was raised by 64 and isn't stable yet.
pub record CeilingStands (v : View) (numbers : Numbers) : Type 0 where
  pub pending : HasCeiling (Pending v) numbers.ceiling
  pub written : (root : Root) → IsRoot (v.content root_file 0) root → numbers.written ≤ root.ceiling
  pub below : numbers.next ≤ numbers.ceiling
  pub raised : (numbers.written ≡ numbers.ceiling) ⊎ (numbers.ceiling + 64 ≤ numbers.written)

-- Numbers below the ceiling may be drawn, and the next group is written where the journal ends.
pub record NumbersStand (v : View) (g : Ledger) (numbers : Numbers) (next : NextGroup) : Type 0 where
  pub number : g.base.next_tsn ≡ numbers.next
  pub first : 1 ≤ numbers.next
  pub ceiling : CeilingStands v numbers
  pub group : IsNext g.base.journal next

-- ---- pages

-- the table of an area file, and of any other number one without owners
abbrev pub pages_of : Tables → ℕ → Pages
pages_of tables file = if file == 1 then tables.catalog else (if file == 2 then tables.relations else (if file == 3 then tables.indexes else replicate (length tables.indexes) nobodys))

-- The tables have the committed lines, and of each data page the area whose it is or may become, and its class.
pub record TablesStand (v : View) (g : Ledger) (tables : Tables) : Type 0 where
  pub committed : (file : ℕ) → IsAreaFile file → HasCommitted (pages_of tables file) file g.base.lines
  pub classes : ℕ → ℕ
  pub lie : HaveTheirClasses classes (Pending v)
  pub class : (file page : ℕ) → IsWithin (pages_of tables file) page → IsOwner file (owner_in (pages_of tables file) page) → class_in (pages_of tables file) page ≡ classes (owner_in (pages_of tables file) page)
  pub owned : (place : Place) (area : ℕ) → IsAreaFile place.file → IsWithin (pages_of tables place.file) place.page → IsDataPage place.page
      → (owner_in (pages_of tables place.file) place.page ≡ 0) ⊎ (owner_in (pages_of tables place.file) place.page ≡ area) → IsForArea (Pending v) place area

-- ---- versions

-- a reader goes on, which came to its start's lines
pub record IsReading (course : Course) (s : ℕ) (m : Member) (start : Lines) : Type 0 where
  pub reading : Reading
  pub goes : course.reader s ≡ Some reading
  pub kept : m.reader ≡ reading.start
  pub lines : (key : Dbkey) → reading.lines key ≡ line_in key start
  pub ordered : IsInOrder start

-- who goes on as a reader is at the stage of readers
abbrev pub AreReaders : List Member → Course → Type 0
AreReaders members course = (s : ℕ) (reading : Reading) → course.reader s ≡ Some reading → IsAtStage members s stage.Reading

-- the lines at each reader's start were used, by the tables
abbrev pub HaveStarts : Tables → Course → Type 0
HaveStarts tables course = (s file : ℕ) (reading : Reading) (start : Lines) → IsAreaFile file → course.reader s ≡ Some reading → ((key : Dbkey) → reading.lines key ≡ line_in key start) → WereUsed (pages_of tables file) file start

-- a line that was never used, and that has no version before
pub record IsUnused (line : Line) : Type 0 where
  pub never : line.state ≡ Never
  pub none : line.chain ≡ 0

-- a line that the tables never used is one, as the last commit left it
abbrev pub AreUnused : Tables → Course → Type 0
AreUnused tables course = (file : ℕ) (key : Dbkey) → IsOwner file key.area → (IsEverUsed (pages_of tables file) key → ⊥) → IsUnused (course.base key)

-- the line is one of the first so many, and memory has its transaction and the version before it
pub record IsPushed (pushed : ℕ) (written : Memory) (key : Dbkey) (line : Line) : Type 0 where
  pub place : ℕ
  pub early : place < pushed
  pub is : slice_get written.keys place ≡ Some key
  pub now : Line
  pub found : find dbkey_order key written.lines ≡ Some now
  pub tsn : now.tsn ≡ line.tsn
  pub chain : now.chain ≡ line.chain

-- Lines of the first so many keys wait, whatever they showed when they were pushed aside.
pub record WaitPushed (lines : ChangedLines) (pushed : ℕ) (written : Memory) : Type 0 where
  pub each : (i : ℕ) (line : Dbkey × Line) → slice_get lines i ≡ Some line → IsPushed pushed written line.0 line.1
  pub all : (place : ℕ) (key : Dbkey) (now : Line) → place < pushed → slice_get written.keys place ≡ Some key → find dbkey_order key written.lines ≡ Some now → HasVersionOf lines key now

-- what of a member's memory waits to be put on pages
abbrev pub WaitsAs : MemberStage → Waiting → ℕ → Member → Type 0
WaitsAs stage.Writing waiting s m = waiting s ≡ m.written.lines
WaitsAs stage.Changing waiting s m = WaitPushed (waiting s) m.pushed m.written
WaitsAs stage.Prepared waiting s m = waiting s ≡ m.written.lines
WaitsAs (stage.Committing turn) waiting s m = waiting s ≡ m.written.lines
WaitsAs _ waiting s m = Unit {0}

-- Each reader comes to its lines, and the slots of the snapshot files that are followed are in use.
pub record VersionsStand (v : View) (g : Ledger) (held : StoreMemory) (h : Shelf) : Type 0 where
  pub course : Course
  pub waiting : Waiting
  pub readers : ReaderFacts v g held.limits.snaps course waiting
  pub slots : HoldsAll v.content course.followed held.limits.snaps held.slots
  pub waits : (s : ℕ) (m : Member) → slice_get held.members s ≡ Some m → WaitsAs m.stage waiting s m
  pub reading : (s : ℕ) (m : Member) (start : Lines) → slice_get held.members s ≡ Some m → m.stage ≡ stage.Reading → h.seat s ≡ seat_with stage.Reading [] start → IsReading course s m start
  pub only : AreReaders held.members course
  pub used : HaveStarts held.tables course
  pub unused : AreUnused held.tables course

-- ---- space

-- how many slots of a snapshot file are in use or set aside
abbrev pub used_in : SlotTable → ℕ
used_in table = (length table.slots - left_in table.slots) + table.aside

pub record SpaceStands (held : StoreMemory) (space : Space) : Type 0 where
  pub limits : space.limits ≡ held.limits
  pub pages : HasPages (pages_of held.tables) space
  pub snaps : space.snaps ≡ used_in held.slots.catalog + used_in held.slots.relations + used_in held.slots.indexes
  pub slots : space.slots ≡ held.next.slot - 1

-- ---- all of it

pub record Shown (v : View) (held : StoreMemory) (h : Shelf) : Type 0 where
  pub tells : IsTrue v.tells
  pub ledger : Ledger
  pub facts : LedgerFacts v ledger
  pub limits : ledger.base.limits ≡ held.limits
  pub lines : ShowsLines v ledger h
  pub promised : h.clock.promised ≡ held.numbers.ceiling
  pub seats : (s : ℕ) → Sits v ledger s (slice_get held.members s) (h.seat s)
  pub steps : (s : ℕ) → h.steps s ≡ steps_at held.members s
  pub numbers : NumbersStand v ledger held.numbers held.next
  -- numbers are free for those for whom they are kept
  pub kept : held.numbers.next + kept_in held.members ≤ held.numbers.written
  pub tables : TablesStand v ledger held.tables
  pub versions : VersionsStand v ledger held h
  pub space : SpaceStands held h.space

-- What a store on a disk shows of its database, of its disk and its memory. It has no backups here: who copies them shows them.
abbrev pub sight_of : View → StoreMemory → Sight
sight_of v held = record {
  shows = Shown v held;
  stand = stand_at held.members;
  steps = steps_at held.members;
  left = Leaves v;
  opens = AllOpen v;
  copier = λ number. None;
  backed = λ number t lines. ⊥;
}

-- ---- calls

-- Rolled forward over the journal, a backup of these lines gives what is committed, where groups are numbered from 1 on.
abbrev pub RollsTo : Lines → ℕ → Progress → Type 0
RollsTo base last now = 1 ≤ now.journal.first → IsBehind base last now

-- and goes on giving it
abbrev pub RollsOn : Progress → Progress → Type 0
RollsOn old new = (base : Lines) (last : ℕ) → RollsTo base last old → RollsTo base last new

-- What a call of session s does on disk and in memory, with each backup still behind what is committed.
pub record DoesOn (s : ℕ) (there : Seat) (R : Shelf → Shelf → Type 0) (v : View) (held : StoreMemory) (w : View) (behind : StoreMemory) : Type 0 where
  pub does : Does s there R (sight_of v held) (sight_of w behind)
  pub rolls : (h : Shelf) (shown : Shown v held h) → RollsOn shown.ledger.base (does.each h shown).shown.ledger.base

-- nothing changes
abbrev pub StaysOn : ℕ → View → StoreMemory → View → StoreMemory → Type 0
StaysOn s v held w behind = DoesOn s (stand_at held.members s) IsSame v held w behind
