-- What the calls of a store of lines do.
use Rattle.std.specs.Prelude.{◌≡◌, ◌≤◌, ◌<◌, ◌+◌, ◌==◌, ◌⊎◌, ℕ, Bool, true, false, List, take, Some, Result, Ok, Err}
use Rattle.rdb_outside.specs.Causes.{Rose}
use Rattle.line_view.specs.declared.writes.Write.{Write}
use Rattle.line_view.specs.Knowledge.{Lines}
use Rattle.line_view.specs.Held.{Held, with_lines}
use Rattle.line_view.specs.Writes.{laid_all}
use Rattle.line_store.specs.declared.answers.Fault.{Fault}
use Rattle.line_store.specs.declared.answers.Fault.TheVariants.{Failed, Bad}
use Rattle.line_store.specs.declared.answers.Progress.{Progress}
use Rattle.line_store.specs.declared.answers.Progress.TheVariants as progress
use Rattle.line_store.specs.declared.answers.ReadStop.{ReadStop}
use Rattle.line_store.specs.declared.answers.ReadStop.TheVariants as read
use Rattle.line_store.specs.declared.answers.ChangeStop.{ChangeStop}
use Rattle.line_store.specs.declared.answers.ChangeStop.TheVariants as change
use Rattle.line_store.specs.declared.answers.CommitStop.{CommitStop}
use Rattle.line_store.specs.declared.answers.CommitStop.TheVariants as commit
use Rattle.line_store.specs.declared.answers.Stepped.{Stepped}
use Rattle.line_store.specs.declared.answers.Stepped.TheVariants.{More, Done, Committed, Recovered}
use Rattle.line_store.specs.Seats.{Seat, outside, changing, committing, closing, dead, in_flight, done_at, failed_at, writes_of, lines_added, lines_written, group_of, is_written, Adds}
use Rattle.line_store.specs.Shelves.{Space, Clock, Shelf, AreSpent, Elapses, set_aside_beside}

-- ---- seats

-- No other session's seat changes, and time goes on.
pub record KeepsOthers (s : ℕ) (old new : Shelf) : Type 0 where
  pub seat : (t : ℕ) → (t == s) ≡ false → new.seat t ≡ old.seat t
  pub steps : (t : ℕ) → (t == s) ≡ false → new.steps t ≡ old.steps t
  pub later : Elapses old.clock new.clock

-- No more room is taken.
pub record KeepsSpace (old new : Space) : Type 0 where
  pub limits : new.limits ≡ old.limits
  pub taken : (file page : ℕ) → new.taken file page ≡ old.taken file page
  pub snaps : new.snaps ≤ old.snaps
  pub slots : new.slots ≤ old.slots

-- Session s comes to this seat, and nothing else changes.
pub record Moves (s : ℕ) (seat : Seat) (old new : Shelf) : Type 0 where
  pub now : new.now ≡ old.now
  pub mine : new.seat s ≡ seat
  pub others : KeepsOthers s old new
  pub space : KeepsSpace old.space new.space

-- There is more to do, and less than before.
pub record GoesOn (s : ℕ) (old new : Shelf) : Type 0 where
  pub moves : Moves s (old.seat s) old new
  pub less : new.steps s < old.steps s

-- a device call that failed counts, and a slot is told bad only where numbers are used up
abbrev pub HasCause : Fault → Clock → Clock → Type 0
HasCause Failed old new = Rose old.faults new.faults
HasCause (Bad file slot) old new = AreSpent new

pub record Fails (s : ℕ) (fault : Fault) (old new : Shelf) : Type 0 where
  pub moves : Moves s (failed_at (old.seat s)) old new
  pub cause : HasCause fault old.clock new.clock

-- ---- reading

abbrev pub IsRead : ℕ → Shelf → Shelf → Result Progress ReadStop → Type 0
IsRead s old new (Ok progress.Done) = Moves s (old.seat s) old new
IsRead s old new (Ok progress.More) = GoesOn s old new
IsRead s old new (Err read.NoMemory) = Moves s (old.seat s) old new
IsRead s old new (Err (read.Fault fault)) = Fails s fault old new

-- some of these lines are known in addition
abbrev pub Learns : Lines → Held → Held → Type 0
Learns lines old new = (n : ℕ) × (new ≡ with_lines (take n lines) old)

-- ---- changing

-- Each line that the transaction wrote for the first time takes at most one slot of the snapshot files.
pub record TakesSlots (more before : List Write) (old new : Space) : Type 0 where
  pub limits : new.limits ≡ old.limits
  pub taken : (file page : ℕ) → new.taken file page ≡ old.taken file page
  pub snaps : new.snaps ≤ old.snaps + lines_added before more
  pub slots : new.slots ≡ old.slots

pub record Changes (s : ℕ) (more : List Write) (old new : Shelf) : Type 0 where
  pub behind : List Write
  pub adds : Adds more (writes_of (old.seat s)) behind
  pub now : new.now ≡ old.now
  pub mine : new.seat s ≡ changing behind
  pub others : KeepsOthers s old new
  pub space : TakesSlots more (writes_of (old.seat s)) old.space new.space

-- a limit is told where the writes want more than there may be
abbrev pub MayStopChange : Shelf → ℕ → List Write → ChangeStop → Type 0
MayStopChange h s more (change.RujFull limit) = (limit ≡ h.space.limits.entries) × (limit < lines_written (writes_of (h.seat s)) + lines_added (writes_of (h.seat s)) more)
MayStopChange h s more (change.SnapFull limit) = (limit ≡ h.space.limits.snaps) × (limit < h.space.snaps + lines_added (writes_of (h.seat s)) more)
MayStopChange h s more (change.Unfit key) = is_written key more ≡ true
MayStopChange h s more change.NoMemory = Unit {0}

-- ---- commits, and steps

-- The journal is told to be full where more than its limit is wanted: its header, what is in use, what is set aside for others, and the group of this commit. One that writes no line is never stopped so.
abbrev pub MayStopCommit : Shelf → ℕ → CommitStop → Type 0
MayStopCommit h s (commit.AijFull limit) = (limit ≡ h.space.limits.slots) × (0 < lines_written (writes_of (h.seat s))) × (limit < (1 + h.space.slots) + (set_aside_beside s h + group_of (writes_of (h.seat s))))
MayStopCommit h s commit.NoMemory = Unit {0}

pub record TakesGroup (ws : List Write) (old new : Space) : Type 0 where
  pub limits : new.limits ≡ old.limits
  pub taken : (file page : ℕ) → new.taken file page ≡ old.taken file page
  pub snaps : new.snaps ≤ old.snaps
  pub slots : new.slots ≤ old.slots + group_of ws

-- The writes are committed at this moment, in the room that was set aside for them, and session s comes to this seat.
pub record Commits (s : ℕ) (ws : List Write) (seat : Seat) (moment : ℕ) (old new : Shelf) : Type 0 where
  pub now : new.now ≡ laid_all ws old.now
  pub mine : new.seat s ≡ seat
  pub others : KeepsOthers s old new
  pub space : TakesGroup ws old.space new.space
  pub at : moment ≡ new.clock.time

pub record IsDone (s : ℕ) (old new : Shelf) : Type 0 where
  pub seat : Seat
  pub comes : done_at (old.seat s) ≡ Some seat
  pub moves : Moves s seat old new

pub record IsCommitted (s moment : ℕ) (old new : Shelf) : Type 0 where
  pub writes : List Write
  pub was : old.seat s ≡ committing writes
  pub commits : Commits s writes closing moment old new

-- its transaction is undone
pub record IsUndone (s moment : ℕ) (old new : Shelf) : Type 0 where
  pub commits : Bool
  pub writes : List Write
  pub was : old.seat s ≡ dead commits writes
  pub moves : Moves s outside old new
  pub at : moment ≡ new.clock.time

-- its commit, which was under way, stands
pub record IsSaved (s moment : ℕ) (old new : Shelf) : Type 0 where
  pub writes : List Write
  pub was : old.seat s ≡ dead true writes
  pub commits : Commits s writes outside moment old new

abbrev pub Comes : ℕ → Shelf → Shelf → Result Stepped Fault → Type 0
Comes s old new (Ok More) = GoesOn s old new
Comes s old new (Ok Done) = IsDone s old new
Comes s old new (Ok (Committed moment)) = IsCommitted s moment.number old new
Comes s old new (Ok (Recovered true moment)) = IsSaved s moment.number old new
Comes s old new (Ok (Recovered false moment)) = IsUndone s moment.number old new
Comes s old new (Err fault) = Fails s fault old new

-- ---- what a crash leaves

-- the committed lines, or those with the writes of a commit that is under way
abbrev pub MayStand : Shelf → Lines → Type 0
MayStand h lines = (lines ≡ h.now) ⊎ ((s : ℕ) × (ws : List Write) × (in_flight (h.seat s) ≡ Some ws) × (lines ≡ laid_all ws h.now))

-- What a crash since a moment might have left, it might have left before the call, or it may stand before the call or behind it.
pub record Lasts (before behind : ℕ → Lines → Type 0) (old new : Shelf) : Type 0 where
  pub since : (t : ℕ) (lines : Lines) → t ≤ old.clock.time → behind t lines → before t lines ⊎ (MayStand old lines ⊎ MayStand new lines)
