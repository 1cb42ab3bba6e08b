-- What is true of a store's memory, whatever the disk tells.
use Rattle.std.specs.Prelude.{ℕ, ◌≡◌, ◌-◌, ◌<◌, ◌≤◌, ◌^◌, ◌⊎◌, ◌==◌, if◌then◌else◌, List, [], ◌∷◌, drop, length, sum_by, Some, slice_get}
use Rattle.std.specs.FinMap.Entries.{find}
use Rattle.rdb_types.specs.declared.keys.Dbkey.{Dbkey}
use Rattle.rdb_types.specs.declared.keys.Line.{Line}
use Rattle.rdb_types.specs.Order.{dbkey_order}
use Rattle.rdb_page.specs.Page.{IsOwner}
use Rattle.aij_journal.specs.Part.{IsAllowedLine}
use Rattle.stable_lines.specs.Slots.{IsAreaFile}
use Rattle.line_moves.specs.declared.places.Place.{Place}
use Rattle.line_moves.specs.Changes.{IsPlaceOf}
use Rattle.line_seat.specs.Groups.{group_line}
use Rattle.member_rooms.specs.page_table.Pages.{IsEverUsed, IsLineOf, class_in}
use Rattle.reader_lines.specs.version_writing.Tables.{table_of}
use Rattle.reader_lines.specs.version_writing.declared.snapshot_slots.Wanted.{Wanted}
use Rattle.member_memory.specs.Memory.{AreKeysOf}
use Rattle.disk_store.specs.declared.member.Member.{Member}
use Rattle.disk_store.specs.declared.held.Tables.{Tables}
use Rattle.disk_store.specs.Memory.{StoreMemory}
use Rattle.disk_store.specs.Numbers.{AreAllowed}
use Rattle.disk_store.specs.Shown.{pages_of}

-- ---- lines

-- The line lies on a page that is its area's by the tables, and may stand in a commit's group with that page's class.
pub record LiesIn (tables : Tables) (key : Dbkey) (line : Line) : Type 0 where
  pub place : Place
  pub is : IsPlaceOf key place
  pub is_line : IsLineOf (pages_of tables place.file) key
  pub allowed : IsAllowedLine (group_line (key, line) (class_in (pages_of tables place.file) key.page))

-- ---- slots

abbrev pub wanted_in : ℕ → Wanted → ℕ
wanted_in file wanted = if file == 1 then wanted.catalog else (if file == 2 then wanted.relations else wanted.indexes)

-- a line of the file that was ever used, by the tables
pub record IsUsedIn (tables : Tables) (file : ℕ) (key : Dbkey) : Type 0 where
  pub owner : IsOwner file key.area
  pub used : IsEverUsed (pages_of tables file) key

-- no more than so many of the keys are such
abbrev pub AtMost : (Dbkey → Type 0) → ℕ → List Dbkey → Type 0
AtMost P n [] = Unit {0}
AtMost P n (key ∷ keys) = ((P key → ⊥) × AtMost P n keys) ⊎ ((1 ≤ n) × AtMost P (n - 1) keys)

-- a slot is set aside for each of these keys whose line was ever used
abbrev pub HasSlotsFor : Tables → Wanted → List Dbkey → Type 0
HasSlotsFor tables aside keys = (file : ℕ) → IsAreaFile file → AtMost (IsUsedIn tables file) (wanted_in file aside) keys

-- ---- members

-- A member has the number of a transaction, what it wrote bears that number and lies on pages, and slots are set aside for the lines that aren't pushed aside yet.
pub record IsSoundMember (tables : Tables) (m : Member) : Type 0 where
  pub first : 1 ≤ m.tsn.number
  pub last : m.tsn.number < 2 ^ 62
  pub keys : AreKeysOf m.written.lines m.written.keys
  pub few : length m.written.keys < 2 ^ 32
  pub bears : (key : Dbkey) (line : Line) → find dbkey_order key m.written.lines ≡ Some line → line.tsn ≡ m.tsn
  pub lies : (key : Dbkey) (line : Line) → find dbkey_order key m.written.lines ≡ Some line → LiesIn tables key line
  pub slots : HasSlotsFor tables m.aside (drop m.pushed m.written.keys)

-- no two members have written one line
abbrev pub WroteApart : List Member → Type 0
WroteApart members = (s t : ℕ) (m n : Member) (key : Dbkey) (a b : Line) → slice_get members s ≡ Some m → slice_get members t ≡ Some n
    → find dbkey_order key m.written.lines ≡ Some a → find dbkey_order key n.written.lines ≡ Some b → s ≡ t

-- how many slots of a snapshot file are set aside for members
abbrev pub aside_in : ℕ → List Member → ℕ
aside_in file members = sum_by (λ (m : Member). wanted_in file m.aside) members

-- ---- all of it

pub record IsSound (h : StoreMemory) : Type 0 where
  pub first : 1 ≤ h.numbers.next
  pub last : h.numbers.ceiling ≤ 2 ^ 62
  pub allowed : AreAllowed h.limits h.numbers
  pub each : (s : ℕ) (m : Member) → slice_get h.members s ≡ Some m → IsSoundMember h.tables m
  pub apart : WroteApart h.members
  pub asides : (file : ℕ) → IsAreaFile file → aside_in file h.members ≤ (table_of h.slots file).aside
