-- What a store shows of what it holds. A store on a disk holds its lines there, so that its memory alone doesn't say which they are: it shows a shelf, and which one is a relation.
use Rattle.std.specs.Prelude.{take, ◌≡◌, ◌≤◌, ◌<◌, ◌==◌, ◌^◌, if◌then◌else◌, ℕ, true, false, List, [], Option, Some, None, Result, Ok, Err, is_some}
use Rattle.rdb_outside.specs.rdb_types.declared.keys.Dbkey.{Dbkey}
use Rattle.line_view.specs.Knowledge.{Lines, line_in, lines_in}
use Rattle.line_view.specs.Held.{Held, with_line, with_area}
use Rattle.line_store.specs.declared.answers.Fault.{Fault}
use Rattle.line_store.specs.declared.answers.Progress.{Progress}
use Rattle.line_store.specs.declared.answers.ReadStop.{ReadStop}
use Rattle.line_store.specs.declared.answers.Stepped.{Stepped}
use Rattle.line_store.specs.declared.answers.Stepped.TheVariants.{More, Done, Committed, Recovered}
use Rattle.line_store.specs.Seats.{Seat, outside, beginning, writing, changing, broken, prepared, committing, rolling_back, closing, reading, copying, dead, prepared_by, given_back, committing_by, rolled_back, died, is_committing, in_flight, done_at, failed_at, begun, IsAlive}
use Rattle.line_store.specs.Shelves.{Shelf, seen_by}
use Rattle.line_store.specs.Calls.{Moves, IsRead, Learns, Comes, Lasts, MayStand}

-- The memory knows where each session stands. Shelves are shown only where the disk tells its content.
pub record Sight : Type 1 where
  -- what the store holds is as on this shelf
  pub shows : Shelf → Type 0
  -- where a session stands, up to the lines that it wrote or reads
  pub stand : ℕ → Seat
  -- how often at most a call of a session may still answer that there is more to do
  pub steps : ℕ → ℕ
  -- the maps of lines for which the images stand that a crash since a moment might have left
  pub left : ℕ → Lines → Type 0
  -- whether a store can be opened from each image that a crash since a moment might have left
  pub opens : ℕ → Type 0
  -- who began the backup of a number last
  pub copier : ℕ → Option ℕ
  -- whether each image that a crash since a moment might have left has the backup of this number whole, of these lines
  pub backed : (number since : ℕ) → Lines → Type 0

-- a seat without lines
abbrev pub bare : Seat → Seat
bare outside = outside
bare beginning = beginning
bare (writing ws) = writing []
bare (changing ws) = changing []
bare (broken ws) = broken []
bare (prepared ws) = prepared []
bare (committing ws) = committing []
bare (rolling_back ws) = rolling_back []
bare closing = closing
bare (reading start) = reading []
bare (copying number start) = copying number []
bare (dead commits ws) = dead commits []

-- a session stands as on each shelf that is shown
abbrev pub Agrees : Sight → Type 0
Agrees sight = (h : Shelf) → sight.shows h → (s : ℕ) → bare (sight.stand s) ≡ bare (h.seat s)

-- a session's steps are counted as on each shelf that is shown, and in a number that a loop can count to
pub record Counts (sight : Sight) : Type 0 where
  pub same : (h : Shelf) → sight.shows h → (s : ℕ) → sight.steps s ≡ h.steps s
  pub few : (s : ℕ) → sight.steps s < 2 ^ 64

-- what a crash may leave now, may stand on each shelf that is shown
abbrev pub Stands : Sight → Type 0
Stands sight = (h : Shelf) → sight.shows h → (lines : Lines) → sight.left h.clock.time lines → MayStand h lines

-- a store can be opened from what a crash may leave now
abbrev pub MayBeOpened : Sight → Type 0
MayBeOpened sight = (h : Shelf) → sight.shows h → sight.opens h.clock.time

-- ---- calls

-- A shelf is shown behind the call that is related to the one before it. From what a crash might have left a store can be opened as before it, and each backup is whole that was so, but for one that the call begins.
pub record Behind (old new : Sight) (number : Option ℕ) (R : Shelf → Shelf → Type 0) (before : Shelf) : Type 0 where
  pub shelf : Shelf
  pub shown : new.shows shelf
  pub related : R before shelf
  pub lasts : Lasts old.left new.left before shelf
  pub opens : (t : ℕ) → t ≤ before.clock.time → old.opens t → new.opens t
  pub backed : (n t : ℕ) (lines : Lines) → t ≤ before.clock.time → (number ≡ Some n → ⊥) → old.backed n t lines → new.backed n t lines

-- Session s began a backup of this number, or nobody began one.
abbrev pub copier_behind : ℕ → Option ℕ → (ℕ → Option ℕ) → ℕ → Option ℕ
copier_behind s (Some number) copier = λ n. if n == number then Some s else copier n
copier_behind s None copier = copier

-- Session s comes to stand there, and others stand as they did and have as many steps. Where a shelf was shown, one is shown that is related to it.
pub record Does (s : ℕ) (there : Seat) (R : Shelf → Shelf → Type 0) (old new : Sight) : Type 0 where
  pub mine : bare (new.stand s) ≡ bare there
  pub others : (t : ℕ) → (t == s) ≡ false → bare (new.stand t) ≡ bare (old.stand t)
  pub steps : (t : ℕ) → (t == s) ≡ false → new.steps t ≡ old.steps t
  pub copier : (n : ℕ) → new.copier n ≡ copier_behind s (begun (old.stand s) there) old.copier n
  pub each : (h : Shelf) → old.shows h → Behind old new (begun (old.stand s) there) R h

abbrev pub IsSame : Shelf → Shelf → Type 0
IsSame old new = new ≡ old

-- nothing changes
abbrev pub Stays : ℕ → Sight → Sight → Type 0
Stays s old new = Does s (old.stand s) IsSame old new

-- the reader sees what is committed
abbrev pub BeginsReading : ℕ → Shelf → Shelf → Type 0
BeginsReading s old new = Moves s (reading old.now) old new

-- the reader's lines, which are copied, are what is committed
abbrev pub BeginsCopying : (s number : ℕ) → Shelf → Shelf → Type 0
BeginsCopying s number old new = Moves s (copying number old.now) old new

abbrev pub Prepares : ℕ → Shelf → Shelf → Type 0
Prepares s old new = Moves s (prepared_by (old.seat s)) old new

abbrev pub BeginsCommit : ℕ → Shelf → Shelf → Type 0
BeginsCommit s old new = Moves s (committing_by (old.seat s)) old new

abbrev pub GivesBack : ℕ → Shelf → Shelf → Type 0
GivesBack s old new = Moves s (given_back (old.seat s)) old new

abbrev pub RollsBack : ℕ → Shelf → Shelf → Type 0
RollsBack s old new = Moves s (rolled_back (old.seat s)) old new

abbrev pub Dies : ℕ → Shelf → Shelf → Type 0
Dies s old new = Moves s (died (old.seat s)) old new

abbrev pub Reads : ℕ → Result Progress ReadStop → Shelf → Shelf → Type 0
Reads s result old new = IsRead s old new result

abbrev pub Steps : ℕ → Result Stepped Fault → Shelf → Shelf → Type 0
Steps s result old new = Comes s old new result

-- ---- backups

-- Where session s copied, and began the backup of that number last, each image that a crash from now on might leave has it whole, of the lines that s reads.
abbrev pub IsBackedBy : ℕ → Sight → Sight → Type 0
IsBackedBy s old new = (h k : Shelf) (number : ℕ) (start : Lines) → old.shows h → new.shows k → h.seat s ≡ copying number start → old.copier number ≡ Some s → new.backed number k.clock.time start

-- ---- reading

-- The line is known, with what the session sees there.
pub record LearnsLine (sight : Sight) (s : ℕ) (key : Dbkey) (old new : Held) : Type 0 where
  pub image : Option (List ℕ)
  pub learnt : new ≡ with_line key image old
  pub seen : (h : Shelf) → sight.shows h → image ≡ line_in key (seen_by s h)

-- The area is known, with the lines that the session sees there.
pub record LearnsArea (sight : Sight) (s area : ℕ) (old new : Held) : Type 0 where
  pub lines : Lines
  pub learnt : new ≡ with_area area (lines_in area lines) old
  pub seen : (h : Shelf) → sight.shows h → lines_in area lines ≡ lines_in area (seen_by s h)

-- The first so many of these lines are known in addition, with what the session sees there.
pub record LearnsSome (sight : Sight) (s area : ℕ) (old new : Held) : Type 0 where
  pub lines : Lines
  pub learnt : Learns (lines_in area lines) old new
  pub seen : (h : Shelf) → sight.shows h → take learnt.0 (lines_in area lines) ≡ take learnt.0 (lines_in area (seen_by s h))

-- ---- steps, as memory knows them

-- where there is more to do, it is less than before
abbrev pub IsLess : ℕ → Sight → Sight → Type 0
IsLess s old new = new.steps s < old.steps s

-- what a step may answer, by where its session stands
abbrev pub MayAnswer : Seat → Result Stepped Fault → Type 0
MayAnswer seat (Ok More) = Unit {0}
MayAnswer seat (Ok Done) = is_some (done_at seat) ≡ true
MayAnswer seat (Ok (Committed moment)) = is_committing seat ≡ true
MayAnswer seat (Ok (Recovered is_committed moment)) = IsAlive seat → ⊥
MayAnswer seat (Err fault) = Unit {0}

abbrev pub seat_or : Seat → Option Seat → Seat
seat_or seat (Some there) = there
seat_or seat None = seat

-- where the session stands behind a step
abbrev pub stepped_to : Seat → Result Stepped Fault → Seat
stepped_to seat (Ok More) = seat
stepped_to seat (Ok Done) = seat_or seat (done_at seat)
stepped_to seat (Ok (Committed moment)) = closing
stepped_to seat (Ok (Recovered is_committed moment)) = outside
stepped_to seat (Err fault) = failed_at seat

-- no other session's commit is under way, as memory knows it
abbrev pub StandsAlone : ℕ → Sight → Type 0
StandsAlone s sight = (t : ℕ) → (t == s) ≡ false → in_flight (sight.stand t) ≡ None
