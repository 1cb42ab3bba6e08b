-- Where a session stands with its store of lines.
use Rattle.std.specs.Prelude.{◌≡◌, ◌≤◌, ◌+◌, ◌||◌, ℕ, Bool, true, false, if◌then◌else◌, List, [], ◌∷◌, Option, Some, None}
use Rattle.std.specs.List.{list_any}
use Rattle.std.specs.Ordering.{is_eq}
use Rattle.rdb_outside.specs.rdb_types.declared.keys.Dbkey.{Dbkey}
use Rattle.rdb_outside.specs.rdb_types.Order.{dbkey_order}
use Rattle.line_view.specs.declared.writes.Write.{Write}
use Rattle.line_view.specs.Knowledge.{Lines, IsInOrder}
use Rattle.line_view.specs.Writes.{laid_all}

-- A session has no transaction open, a read-write one with what it wrote, or a read-only one with the lines that were committed at its start. Beside that stands what is under way for it.
pub data Seat : Type 0 where
  outside : Seat
  -- a read-write transaction begins
  beginning : Seat
  writing : List Write → Seat
  -- the last statement's writes, which are among these, are laid
  changing : List Write → Seat
  -- a step of its change failed: it can only die
  broken : List Write → Seat
  -- room is set aside for its commit, and memory is taken
  prepared : List Write → Seat
  committing : List Write → Seat
  rolling_back : List Write → Seat
  -- the transaction is committed, and what its commit left is put away
  closing : Seat
  reading : Lines → Seat
  -- a reader, whose lines go into the backup of this number
  copying : (number : ℕ) → (start : Lines) → Seat
  -- it died with these writes, and awaits its recovery. Whether its commit was under way
  dead : Bool → List Write → Seat

-- sessions are numbered from 1 to 16
pub record IsMember (s : ℕ) : Type 0 where
  pub first : 1 ≤ s
  pub last : s ≤ 16

abbrev pub members : List ℕ
members = 1 ∷ 2 ∷ 3 ∷ 4 ∷ 5 ∷ 6 ∷ 7 ∷ 8 ∷ 9 ∷ 10 ∷ 11 ∷ 12 ∷ 13 ∷ 14 ∷ 15 ∷ 16 ∷ []

-- backups are numbered from 1 to 9
pub record IsBackupNumber (number : ℕ) : Type 0 where
  pub first : 1 ≤ number
  pub last : number ≤ 9

abbrev pub writes_of : Seat → List Write
writes_of (writing ws) = ws
writes_of (changing ws) = ws
writes_of (broken ws) = ws
writes_of (prepared ws) = ws
writes_of (committing ws) = ws
writes_of (rolling_back ws) = ws
writes_of (dead commits ws) = ws
writes_of _ = []

-- ---- which calls a seat allows

abbrev pub IsWriting : Seat → Type 0
IsWriting (writing ws) = Unit {0}
IsWriting _ = ⊥

-- it may commit, and goes on writing only once that is given back
abbrev pub IsPrepared : Seat → Type 0
IsPrepared (prepared ws) = Unit {0}
IsPrepared _ = ⊥

abbrev pub IsReader : Seat → Type 0
IsReader (reading start) = Unit {0}
IsReader _ = ⊥

-- a transaction is open, and nothing is under way
abbrev pub IsAtRest : Seat → Type 0
IsAtRest (writing ws) = Unit {0}
IsAtRest (reading start) = Unit {0}
IsAtRest _ = ⊥

abbrev pub IsUnderWay : Seat → Type 0
IsUnderWay outside = ⊥
IsUnderWay (writing ws) = ⊥
IsUnderWay (broken ws) = ⊥
IsUnderWay (prepared ws) = ⊥
IsUnderWay (reading start) = ⊥
IsUnderWay _ = Unit {0}

abbrev pub IsAlive : Seat → Type 0
IsAlive (dead commits ws) = ⊥
IsAlive _ = Unit {0}

abbrev pub is_changing : Seat → Bool
is_changing (changing ws) = true
is_changing _ = false

abbrev pub is_committing : Seat → Bool
is_committing (committing ws) = true
is_committing _ = false

-- the writes of a commit that is under way, also of one that has died
abbrev pub in_flight : Seat → Option (List Write)
in_flight (committing ws) = Some ws
in_flight (dead true ws) = Some ws
in_flight _ = None

-- ---- what a call makes of a seat

abbrev pub prepared_by : Seat → Seat
prepared_by (writing ws) = prepared ws
prepared_by seat = seat

abbrev pub given_back : Seat → Seat
given_back (prepared ws) = writing ws
given_back seat = seat

abbrev pub committing_by : Seat → Seat
committing_by (prepared ws) = committing ws
committing_by seat = seat

abbrev pub rolled_back : Seat → Seat
rolled_back (writing ws) = rolling_back ws
rolled_back seat = seat

abbrev pub died : Seat → Seat
died seat = dead (is_committing seat) (writes_of seat)

-- the seat behind what is under way, where that is told to be done
abbrev pub done_at : Seat → Option Seat
done_at beginning = Some (writing [])
done_at (changing ws) = Some (writing ws)
done_at (rolling_back ws) = Some outside
done_at closing = Some outside
done_at (copying number start) = Some (reading start)
done_at _ = None

-- the seat behind a step that failed: what is left of a change is unknown
abbrev pub failed_at : Seat → Seat
failed_at (changing ws) = broken ws
failed_at seat = seat

-- ---- backups

-- the number of the backup into which a session copies
abbrev pub copied_at : Seat → Option ℕ
copied_at (copying number start) = Some number
copied_at _ = None

abbrev pub unless_copied : Option ℕ → ℕ → Option ℕ
unless_copied None number = Some number
unless_copied (Some before) number = None

abbrev pub begun_by : (before there : Option ℕ) → Option ℕ
begun_by before None = None
begun_by before (Some number) = unless_copied before number

-- the number of the backup that a call begins, by the seats before and behind it
abbrev pub begun : (before there : Seat) → Option ℕ
begun before there = begun_by (copied_at before) (copied_at there)

-- ---- writes

abbrev pub is_written : Dbkey → List Write → Bool
is_written key ws = list_any (λ w. is_eq (dbkey_order key w.key)) ws

-- how many lines these writes are on, beside those of the writes before
abbrev pub lines_added : (before ws : List Write) → ℕ
lines_added before [] = 0
lines_added before (w ∷ ws) = (if is_written w.key before then 0 else 1) + lines_added (w ∷ before) ws

-- how many lines are written
abbrev pub lines_written : List Write → ℕ
lines_written = lines_added []

-- what a commit takes of the after-image journal: a slot for each line, and one for the commit
abbrev pub group_of : List Write → ℕ
group_of ws = 1 + lines_written ws

-- the slots that are set aside for a commit, from when it is prepared until it stands or is given up
abbrev pub set_aside : Seat → ℕ
set_aside (prepared ws) = group_of ws
set_aside (committing ws) = group_of ws
set_aside (dead true ws) = group_of ws
set_aside _ = 0

-- These are the writes before, and behind them more: over each map they come to the same, and they are on the same lines.
pub record Adds (more before behind : List Write) : Type 0 where
  pub laid : (all : Lines) → IsInOrder all → laid_all behind all ≡ laid_all more (laid_all before all)
  pub keys : (key : Dbkey) → is_written key behind ≡ (is_written key before || is_written key more)
