-- How the versions stand while transactions go on, and what is always true of them.
use Rattle.std.specs.Prelude.{ℕ, ◌≤◌, ◌<◌, ◌≡◌, ◌≢◌, ◌⊎◌, ◌==◌, ◌&&◌, Bool, true, false, List, Option, Some, None, if◌then◌else◌}
use Rattle.std.specs.List.{list_any}
use Rattle.rdb_outside.specs.rdb_types.declared.keys.Dbkey.{Dbkey}
use Rattle.rdb_outside.specs.rdb_types.declared.keys.Tsn.{Tsn}
use Rattle.rdb_outside.specs.rdb_types.declared.keys.Line.{Line}
use Rattle.rdb_outside.specs.rdb_types.declared.keys.LineState.TheVariants.{Never}
use Rattle.snapshot_file.specs.declared.entry.SnapEntry.{SnapEntry}
use Rattle.line_versions.specs.Lines.{shown}
use Rattle.line_versions.specs.Versions.{Entries, Followed, snap_of, version_of, Start, sees, Sees}

-- A reader that goes on, with the lines that were committed when it began.
pub record Reading : Type 0 where
  pub start : Start
  pub lines : Dbkey → Option (List ℕ)

pub record Course : Type 0 where
  -- every transaction number drawn so far is below
  pub next : ℕ
  -- whether a read-write transaction of that number goes on
  pub going : ℕ → Bool
  -- the line as the last commit that changed it left it, with its transaction and its chain
  pub base : Dbkey → Line
  -- what is committed
  pub lines : Dbkey → Option (List ℕ)
  pub reader : ℕ → Option Reading
  pub followed : Followed

-- The line before was never used, so nothing was pushed.
pub record IsFirst (line before : Line) : Type 0 where
  pub never : before.state ≡ Never
  pub none : before.chain ≡ 0
  pub chain : line.chain ≡ 0

-- The line before stands as an entry at the chain of the line.
pub record IsPushed (E : Entries) (followed : Followed) (key : Dbkey) (line before : Line) : Type 0 where
  pub number : 1 ≤ line.chain
  pub entry : SnapEntry
  pub stands : E (snap_of key) line.chain entry
  pub held : followed (snap_of key) line.chain ≡ true
  pub key_is : entry.key ≡ key
  pub pusher : entry.pusher ≡ line.tsn
  pub version : version_of entry ≡ before

abbrev pub IsAbove : Entries → Followed → Dbkey → Line → Line → Type 0
IsAbove E followed key line before = IsFirst line before ⊎ IsPushed E followed key line before

-- a transaction that goes on put the line there
pub record IsChanged (E : Entries) (v : Course) (key : Dbkey) (line : Line) : Type 0 where
  pub going : v.going line.tsn.number ≡ true
  pub above : IsAbove E v.followed key line (v.base key)

-- From each committed line the reader comes to what was committed when it began.
pub record IsReader (E : Entries) (v : Course) (x : Reading) : Type 0 where
  pub began : x.start.next ≤ v.next
  pub unseen : (t : ℕ) → v.going t ≡ true → sees x.start t ≡ false
  pub sees_base : (key : Dbkey) → Sees E v.followed x.start key (v.base key) (x.lines key)

-- Each current line is the committed one, or one that a transaction that goes on put above it.
pub record AreRight (E : Entries) (now : Dbkey → Line) (v : Course) : Type 0 where
  pub shows : (key : Dbkey) → shown (v.base key) ≡ v.lines key
  pub drawn : (key : Dbkey) → (v.base key).tsn.number < v.next
  pub ended : (key : Dbkey) → v.going (v.base key).tsn.number ≡ false
  pub below : (t : ℕ) → v.going t ≡ true → t < v.next
  pub current : (key : Dbkey) → (now key ≡ v.base key) ⊎ IsChanged E v key (now key)
  pub readers : (r : ℕ) (x : Reading) → v.reader r ≡ Some x → IsReader E v x

-- ---- steps

-- the entry that keeps a line, which this transaction pushes
abbrev pub pushed : Dbkey → Tsn → Line → SnapEntry
pushed key tsn before = record { key = key; tsn = before.tsn; state = before.state; image = before.image; pusher = tsn; previous = before.chain }

-- Lines as they were found. Their chains are those of an earlier run, and nobody follows them.
abbrev pub opened : ℕ → (Dbkey → Line) → (Dbkey → Option (List ℕ)) → Course
opened next now lines = record { next = next; going = λ t. false; base = now; lines = lines; reader = λ r. None; followed = λ file chain. false }

-- The transaction that pushed the entry goes on, or a reader doesn't see it.
abbrev pub IsNeeded : Course → SnapEntry → Type 0
IsNeeded v e = (v.going e.pusher.number ≡ true) ⊎ ((r : ℕ) × (x : Reading) × (v.reader r ≡ Some x) × (sees x.start e.pusher.number ≡ false))

-- The transaction that pushed the entry has ended, and every reader sees it.
pub record MayBeGiven (v : Course) (e : SnapEntry) : Type 0 where
  pub ended : v.going e.pusher.number ≡ false
  pub seen : (r : ℕ) (x : Reading) → v.reader r ≡ Some x → sees x.start e.pusher.number ≡ true

abbrev pub with_followed : Followed → Course → Course
with_followed held v = record v { followed = held }

abbrev pub with_entry : ℕ → ℕ → Followed → Followed
with_entry file chain followed = λ f c. if (f == file) && (c == chain) then true else followed f c

abbrev pub without_entry : ℕ → ℕ → Followed → Followed
without_entry file chain followed = λ f c. if (f == file) && (c == chain) then false else followed f c

abbrev pub with_going : ℕ → (ℕ → Bool) → Course → Course
with_going next going v = record v { next = next; going = going }

-- the transactions that go on, but for one
pub record AreOthers (tsn : ℕ) (before after : ℕ → Bool) : Type 0 where
  pub gone : after tsn ≡ false
  pub fewer : (t : ℕ) → after t ≡ true → before t ≡ true
  pub others : (t : ℕ) → t ≢ tsn → before t ≡ true → after t ≡ true

-- the line is of the transaction that commits, and is committed as it stands
pub record IsSettled (tsn : ℕ) (line after : Line) (shows : Option (List ℕ)) : Type 0 where
  pub bears : line.tsn.number ≡ tsn
  pub is : after ≡ line
  pub shown_is : shown line ≡ shows

-- it isn't, and what is committed stays
pub record IsLeft (tsn : ℕ) (line before after : Line) (showed shows : Option (List ℕ)) : Type 0 where
  pub other : line.tsn.number ≢ tsn
  pub is : after ≡ before
  pub shows_as : shows ≡ showed

abbrev pub committed : (ℕ → Bool) → (Dbkey → Line) → (Dbkey → Option (List ℕ)) → Course → Course
committed going base lines v = record v { going = going; base = base; lines = lines }

-- a reader that begins now
abbrev pub begun : List ℕ → Course → Reading
begun active v = record { start = record { next = v.next; active = active }; lines = v.lines }

-- these are the numbers of the transactions that go on, among those drawn
pub record AreActive (active : List ℕ) (v : Course) : Type 0 where
  pub all : (t : ℕ) → v.going t ≡ true → list_any (λ a. a == t) active ≡ true
  pub only : (t : ℕ) → v.going t ≡ false → list_any (λ a. a == t) active ≡ false

abbrev pub with_readers : (ℕ → Option Reading) → Course → Course
with_readers reader v = record v { reader = reader }
