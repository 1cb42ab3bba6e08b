-- What the steps of a change make of a session's member, and of the slots of the snapshot files.
use Rattle.std.specs.Prelude.{ℕ, ◌≡◌, ◌≢◌, ◌+◌, ◌-◌, ◌<◌, ◌≤◌, ◌==◌, false, true, IsTrue, if◌then◌else◌, List, length, Some, slice_get}
use Rattle.std.specs.FinMap.Entries.{find, put}
use Rattle.rdb_types.specs.declared.keys.Dbkey.{Dbkey}
use Rattle.rdb_types.specs.declared.keys.Line.{Line}
use Rattle.rdb_types.specs.declared.keys.LineState.TheVariants.{Never}
use Rattle.rdb_types.specs.declared.keys.Tsn.{Tsn}
use Rattle.rdb_types.specs.Order.{dbkey_order}
use Rattle.rdb_outside.specs.Disk.{Image, View, OnlyReads}
use Rattle.line_versions.specs.Versions.{Followed, snap_of}
use Rattle.line_versions.specs.Files.{snap_file}
use Rattle.line_versions.specs.Course.{Course}
use Rattle.stable_lines.specs.Slots.{IsAreaFile, line_at}
use Rattle.stable_lines.specs.Progress.{Progress}
use Rattle.line_moves.specs.Calls.{OnlyWrites}
use Rattle.ledger_versions.specs.disk_versions.Courses.{course_pushed}
use Rattle.ledger_versions.specs.disk_versions.Versions.{VersionFacts}
use Rattle.reader_lines.specs.version_writing.Slots.{IsAside, Spends, without_aside}
use Rattle.reader_lines.specs.version_writing.Tables.{HoldsAll, table_of}
use Rattle.reader_lines.specs.version_writing.declared.snapshot_slots.SnapshotSlots.{SnapshotSlots}
use Rattle.reader_lines.specs.version_writing.declared.snapshot_slots.Wanted.{Wanted}
use Rattle.member_memory.specs.Memory.{Memory, writes_in}
use Rattle.disk_store.specs.declared.member.Member.{Member}
use Rattle.disk_store.specs.declared.member.MemberStage.TheVariants as stage
use Rattle.disk_store.specs.Memory.{StoreMemory, with_member}
use Rattle.disk_store.specs.Sound.{IsUsedIn}

-- ---- members

-- its header names its transaction
abbrev pub named_now : Member → Member
named_now m = record m { named = true }

-- one line more has a before-image
abbrev pub journalled_more : Member → Member
journalled_more m = record m { journalled = m.journalled + 1 }

-- one slot of a file less is set aside
abbrev pub one_less : ℕ → Wanted → Wanted
one_less file wanted =
    if file == 1 then record { catalog = wanted.catalog - 1; relations = wanted.relations; indexes = wanted.indexes }
    else (if file == 2 then record { catalog = wanted.catalog; relations = wanted.relations - 1; indexes = wanted.indexes }
    else record { catalog = wanted.catalog; relations = wanted.relations; indexes = wanted.indexes - 1 })

-- a slot was taken, where the line has a chain now
abbrev pub spent : (chain file : ℕ) → Wanted → Wanted
spent chain file wanted = if chain == 0 then wanted else one_less file wanted

abbrev pub with_spent : (chain file : ℕ) → Member → Member
with_spent chain file m = record m { aside = spent chain file m.aside }

-- one line more was pushed aside, or hadn't to be
abbrev pub pushed_more : Memory → Member → Member
pushed_more written m = record m { written = written; pushed = m.pushed + 1 }

abbrev pub no_slots : Wanted
no_slots = record { catalog = 0; relations = 0; indexes = 0 }

-- the change is through
abbrev pub written_now : Member → Member
written_now m = record m { stage = stage.Writing; aside = no_slots; pushed = length m.written.keys }

-- A line of the session has no before-image yet, and stands in this place.
pub record Unjournalled (members : List Member) (s : ℕ) : Type 0 where
  pub member : Member
  pub is : slice_get members s ≡ Some member
  pub at : member.stage ≡ stage.Changing
  pub less : member.journalled < length member.written.keys

-- All have before-images, and one wasn't pushed aside yet.
pub record Unpushed (members : List Member) (s : ℕ) : Type 0 where
  pub member : Member
  pub is : slice_get members s ≡ Some member
  pub at : member.stage ≡ stage.Changing
  pub all : length member.written.keys ≤ member.journalled
  pub less : member.pushed < length member.written.keys

-- All were.
pub record ThroughAt (members : List Member) (s : ℕ) : Type 0 where
  pub member : Member
  pub is : slice_get members s ≡ Some member
  pub at : member.stage ≡ stage.Changing
  pub all : length member.written.keys ≤ member.journalled
  pub through : length member.written.keys ≤ member.pushed

-- ---- the next line to be pushed aside

-- The session changes lines, and that of this key is its next one.
pub record IsNext (members : List Member) (s : ℕ) (key : Dbkey) : Type 0 where
  pub member : Member
  pub is : slice_get members s ≡ Some member
  pub at : member.stage ≡ stage.Changing
  pub next : slice_get member.written.keys member.pushed ≡ Some key

-- the line with its version before at this chain
abbrev pub rechained : ℕ → Line → Line
rechained chain line = record { state = line.state; tsn = line.tsn; chain = chain; image = line.image }

-- The line of the key has its version before at this chain, and nothing else is another.
pub record Rechains (key : Dbkey) (chain : ℕ) (old new : Memory) : Type 0 where
  pub line : (before : Line) → find dbkey_order key old.lines ≡ Some before → new.lines ≡ put dbkey_order key (rechained chain before) old.lines
  pub same : writes_in new.lines ≡ writes_in old.lines
  pub keys : new.keys ≡ old.keys

-- At most one of the slots that were set aside was taken, at this chain, and written; where the chain is 0, nothing was.
pub record TakesAside (v w : View) (key : Dbkey) (chain : ℕ) (old new : SnapshotSlots) : Type 0 where
  pub writes : OnlyWrites (snap_file (snap_of key)) (chain - 1) v w
  pub reads : chain ≡ 0 → OnlyReads v w
  pub keeps : chain ≡ 0 → new ≡ old
  pub others : (file : ℕ) → IsAreaFile file → file ≢ snap_of key → table_of new file ≡ table_of old file
  pub spends : Spends (table_of old (snap_of key)) (table_of new (snap_of key))
  pub free : (image : Image) (followed : Followed) (limit : ℕ) → HoldsAll image followed limit old → 1 ≤ chain → (followed (snap_of key) chain ≡ false) × (chain ≤ limit)
  pub holds : (image : Image) (followed : Followed) (limit : ℕ) → HoldsAll image followed limit old → HoldsAll image followed limit new

-- The line stands in its slot, whose chain may be followed from now on; it was never used, where it has none.
pub record StandsAside (v w : View) (key : Dbkey) (tsn : Tsn) (chain : ℕ) (old new : SnapshotSlots) : Type 0 where
  pub never : chain ≡ 0 → IsTrue v.tells → ((line_at v.content key).state ≡ Never) × ((line_at v.content key).chain ≡ 0)
  pub stands : 1 ≤ chain → IsTrue v.tells → IsAside v.content w.content key tsn chain
  pub held : 1 ≤ chain → IsTrue v.tells → (now : Progress) (course : Course) (limit : ℕ) → HoldsAll v.content course.followed limit old → course.going (line_at v.content key).tsn.number ≡ false → course.going tsn.number ≡ true
      → VersionFacts v now limit course → HoldsAll w.content (course_pushed (snap_of key) chain course).followed limit new

-- ---- what becomes of memory

-- the session's next line was pushed aside
pub record PushesNext (s : ℕ) (key : Dbkey) (v w : View) (old new : StoreMemory) : Type 0 where
  pub member : Member
  pub was : slice_get old.members s ≡ Some member
  pub chain : ℕ
  pub written : Memory
  pub rechains : Rechains key chain member.written written
  pub slots : SnapshotSlots
  pub takes : TakesAside v w key chain old.slots slots
  pub stands : StandsAside v w key member.tsn chain old.slots slots
  pub is : new ≡ record (with_member s (with_spent chain (snap_of key) (pushed_more written member)) old) { slots = slots }

-- the push of its next line failed, for which a slot may have been taken
abbrev pub broken_off : (chain file : ℕ) → Member → Member
broken_off chain file m = record m { stage = stage.Broken; aside = spent chain file m.aside; pushed = m.pushed + 1 }

-- it may have taken a slot, and its transaction can only die
pub record BreaksOff (s : ℕ) (key : Dbkey) (v w : View) (old new : StoreMemory) : Type 0 where
  pub member : Member
  pub was : slice_get old.members s ≡ Some member
  pub chain : ℕ
  pub slots : SnapshotSlots
  pub takes : TakesAside v w key chain old.slots slots
  pub is : new ≡ record (with_member s (broken_off chain (snap_of key) member) old) { slots = slots }

-- its next line was never used, by the tables, and has nothing to push
pub record PassesNext (s : ℕ) (key : Dbkey) (old new : StoreMemory) : Type 0 where
  pub member : Member
  pub was : slice_get old.members s ≡ Some member
  pub written : Memory
  pub rechains : Rechains key 0 member.written written
  pub never : (file : ℕ) → IsUsedIn old.tables file key → ⊥
  pub is : new ≡ with_member s (pushed_more written member) old

abbrev pub without_asides : Wanted → SnapshotSlots → SnapshotSlots
without_asides wanted slots = record { catalog = without_aside wanted.catalog slots.catalog; relations = without_aside wanted.relations slots.relations; indexes = without_aside wanted.indexes slots.indexes }

-- the change is through, and the slots that it didn't take are given back
abbrev pub change_ended : ℕ → Member → StoreMemory → StoreMemory
change_ended s m held = record (with_member s (written_now m) held) { slots = without_asides m.aside held.slots }
