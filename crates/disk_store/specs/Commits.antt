-- What memory keeps of commits, whatever the disk tells.
use Rattle.std.specs.Prelude.{ℕ, zero, suc, ◌+◌, ◌<◌, ◌≤◌, ◌^◌, ◌≡◌, ◌⊎◌, Bool, true, false, List, length, sum_by, slice_get, Option, Some, None}
use Rattle.rdb_types.specs.declared.keys.Dbkey.{Dbkey}
use Rattle.rdb_types.specs.declared.keys.Line.{Line}
use Rattle.aij_journal.specs.Part.{IsAllowedLine}
use Rattle.line_store.specs.Seats.{members, group_of, lines_written}
use Rattle.line_moves.specs.declared.places.Place.{Place}
use Rattle.line_moves.specs.Changes.{IsPlaceOf}
use Rattle.line_moves.specs.Lines.{ChangedLines}
use Rattle.line_seat.specs.Groups.{group_line}
use Rattle.member_rooms.specs.member_steps.declared.committing.CommitTurn.{CommitTurn}
use Rattle.member_rooms.specs.member_steps.declared.committing.CommitTurn.TheVariants.{Entering, Securing, Going}
use Rattle.member_memory.specs.Memory.{writes_in}
use Rattle.member_rooms.specs.page_table.Pages.{IsLineOf, class_in}
use Rattle.disk_store.specs.declared.member.Member.{Member}
use Rattle.disk_store.specs.declared.member.MemberStage.{MemberStage}
use Rattle.disk_store.specs.declared.member.MemberStage.TheVariants as stage
use Rattle.disk_store.specs.declared.member.Recovery.TheVariants as recovery
use Rattle.disk_store.specs.declared.held.Tables.{Tables}
use Rattle.disk_store.specs.Memory.{StoreMemory}
use Rattle.disk_store.specs.Preparing.{aside_beside}
use Rattle.disk_store.specs.Shown.{pages_of}

-- ---- stages

-- room of the journal is set aside for a commit
abbrev pub is_bound : MemberStage → Bool
is_bound stage.Prepared = true
is_bound (stage.Committing turn) = true
is_bound (stage.Dead commits left) = commits
is_bound _ = false

-- no commit is prepared, under way or to be judged
abbrev pub is_free : MemberStage → Bool
is_free stage.Prepared = false
is_free (stage.Committing turn) = false
is_free (stage.Dead true left) = false
is_free (stage.Dead false recovery.Judging) = false
is_free (stage.Dead false recovery.Ending) = true
is_free (stage.Dead false (recovery.Undoing left)) = true
is_free (stage.Dead false recovery.Restoring) = true
is_free _ = true

-- a commit is under way
abbrev pub is_flying : MemberStage → Bool
is_flying (stage.Committing turn) = true
is_flying (stage.Dead commits left) = commits
is_flying _ = false

-- ---- room

-- the slots of the group of so many lines; where no line was written there is no group
abbrev pub group_slots : ℕ → ℕ
group_slots zero = 0
group_slots (suc lines) = suc lines + 1

abbrev pub due_if : Bool → ℕ → ℕ
due_if false lines = 0
due_if true lines = group_slots lines

-- the slots that a session's group will take
abbrev pub due_of : Option Member → ℕ
due_of None = 0
due_of (Some m) = due_if (is_bound m.stage) (length m.written.keys)

abbrev pub due_in : List Member → ℕ
due_in ms = sum_by (λ t. due_of (slice_get ms t)) members

-- ---- classes

-- The line may stand on a page of its area, which has this class by the tables.
pub record HasClass (tables : Tables) (line : Dbkey × Line) (class : ℕ) : Type 0 where
  pub place : Place
  pub is : IsPlaceOf line.0 place
  pub is_line : IsLineOf (pages_of tables place.file) line.0
  pub class_is : class ≡ class_in (pages_of tables place.file) line.0.page
  pub allowed : IsAllowedLine (group_line line class)

-- each line with the class of its page
pub record AreOfPages (tables : Tables) (lines : ChangedLines) (classes : List ℕ) : Type 0 where
  pub long : length classes ≡ length lines
  pub each : (i : ℕ) (line : Dbkey × Line) (class : ℕ) → slice_get lines i ≡ Some line → slice_get classes i ≡ Some class → HasClass tables line class

-- behind the owners of pages there is a line
abbrev pub HasSome : CommitTurn → ℕ → Type 0
HasSome (Entering at) lines = Unit {0}
HasSome Securing lines = 1 ≤ lines
HasSome (Going at) lines = 1 ≤ lines

-- A member that may commit has the classes of its lines; one whose commit is to be judged has a line.
abbrev pub IsReady : MemberStage → Tables → Member → Type 0
IsReady stage.Prepared tables m = AreOfPages tables m.written.lines m.classes.items
IsReady (stage.Committing turn) tables m = AreOfPages tables m.written.lines m.classes.items × HasSome turn (length m.written.keys)
IsReady (stage.Dead commits recovery.Judging) tables m = (commits ≡ true) × (1 ≤ length m.written.keys)
IsReady _ tables m = Unit {0}

-- ---- all of it

-- no two commits are under way
abbrev pub AreAlone : List Member → Type 0
AreAlone ms = (s t : ℕ) (m n : Member) → slice_get ms s ≡ Some m → slice_get ms t ≡ Some n → is_flying m.stage ≡ true → is_flying n.stage ≡ true → s ≡ t

-- The journal has room for each group that may be committed, and numbers for them.
pub record KeepsCommits (held : StoreMemory) : Type 0 where
  pub alone : AreAlone held.members
  pub room : (due_in held.members ≡ 0) ⊎ (held.next.slot + due_in held.members ≤ held.limits.slots)
  pub few : held.limits.slots < 2 ^ 32
  pub number : held.next.number + held.limits.slots ≤ 2 ^ 62 + held.next.slot
  pub ready : (s : ℕ) (m : Member) → slice_get held.members s ≡ Some m → IsReady m.stage held.tables m

-- ---- preparing

-- the journal has room for a session's group beside what is set aside for others
abbrev pub HasRoomFor : StoreMemory → ℕ → Member → Type 0
HasRoomFor held s m = (lines_written (writes_in m.written.lines) ≡ 0) ⊎ (held.next.slot + (aside_beside s held.members + group_of (writes_in m.written.lines)) ≤ held.limits.slots)

-- it is prepared, with these classes
pub record IsPreparedWith (classes : List ℕ) (m n : Member) : Type 0 where
  pub is : n ≡ record m { stage = stage.Prepared; classes = n.classes }
  pub classes_are : n.classes.items ≡ classes
