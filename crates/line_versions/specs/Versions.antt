-- Versions of lines: the line as it stands, the entries behind it, and what a reader sees of them. Nothing here speaks of a disk.
use Rattle.std.specs.Prelude.{ℕ, ◌≤◌, ◌≡◌, ◌⊎◌, ◌==◌, ◌&&◌, Bool, true, false, not, nat_lt, List, [], ◌∷◌, Option, None}
use Rattle.std.specs.List.{list_any}
use Rattle.rdb_outside.specs.rdb_types.declared.keys.Dbkey.{Dbkey}
use Rattle.rdb_outside.specs.rdb_types.declared.keys.Line.{Line}
use Rattle.snapshot_file.specs.declared.entry.SnapEntry.{SnapEntry}
use Rattle.line_versions.specs.Lines.{storage_area, shown}

-- ---- a store

-- The entries of the snapshot files: in the file of that number, at that chain, stands this entry. A chain is 1 and the slot, 0 being none.
abbrev pub Entries : Type 1
Entries = ℕ → ℕ → SnapEntry → Type 0

-- at one place stands one entry at most
abbrev pub IsOneEach : Entries → Type 0
IsOneEach E = (file chain : ℕ) (a b : SnapEntry) → E file chain a → E file chain b → a ≡ b

-- Which chains of a file bear an entry that may be followed. A slot that was taken but whose entry isn't written yet bears none.
abbrev pub Followed : Type 0
Followed = ℕ → ℕ → Bool

-- the snapshot file that holds a line's entries: the one of its storage area
abbrev pub snap_of : Dbkey → ℕ
snap_of key = storage_area key.area

-- the version that an entry holds
abbrev pub version_of : SnapEntry → Line
version_of e = record { state = e.state; tsn = e.tsn; chain = e.previous; image = e.image }

-- ---- a reader

-- what a reader keeps from its start: the next transaction number, and those of the transactions that were going
pub record Start : Type 0 where
  pub next : ℕ
  pub active : List ℕ

-- the transaction of that number had ended when the reader began
unfoldable pub sees : Start → ℕ → Bool
sees r t = nat_lt t r.next && not (list_any (λ a. a == t) r.active)

-- From a version that the reader doesn't see, this chain leads to the version before: an entry of the same line, pushed by the transaction that made this one.
pub record LeadsOn (E : Entries) (followed : Followed) (r : Start) (key : Dbkey) (line : Line) (at : ℕ) : Type 0 where
  pub unseen : sees r line.tsn.number ≡ false
  pub chain : line.chain ≡ at
  pub number : 1 ≤ at
  pub entry : SnapEntry
  pub stands : E (snap_of key) at entry
  pub held : followed (snap_of key) at ≡ true
  pub key_is : entry.key ≡ key
  pub pusher : entry.pusher ≡ line.tsn

-- the walk ends here, with this answer
abbrev pub EndsHere : Start → Line → Option (List ℕ) → Type 0
EndsHere r line answer = ((sees r line.tsn.number ≡ true) × (answer ≡ shown line)) ⊎ ((sees r line.tsn.number ≡ false) × (line.chain ≡ 0) × (answer ≡ None))

-- Over these chains the reader comes from a line of that key to its own version, and this is what it shows.
abbrev pub Walk : Entries → Followed → Start → Dbkey → List ℕ → Line → Option (List ℕ) → Type 0
Walk E followed r key [] line answer = EndsHere r line answer
Walk E followed r key (at ∷ rest) line answer = (step : LeadsOn E followed r key line at) × Walk E followed r key rest (version_of step.entry) answer

-- the reader's line of that key, from this line on
pub record Sees (E : Entries) (followed : Followed) (r : Start) (key : Dbkey) (line : Line) (answer : Option (List ℕ)) : Type 0 where
  pub over : List ℕ
  pub walk : Walk E followed r key over line answer
