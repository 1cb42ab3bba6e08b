-- What an opening rests on at each of its stages.
use Rattle.std.specs.Prelude.{ℕ, ◌+◌, ◌-◌, ◌≤◌, ◌<◌, ◌≡◌, List, length, drop, Option, Some, None}
use Rattle.std.specs.List.{sum}
use Rattle.rdb_outside.specs.Disk.{View, Pending}
use Rattle.line_view.specs.Knowledge.{Lines}
use Rattle.line_opening.specs.stable_lines.Slots.{IsMember}
use Rattle.line_opening.specs.stable_lines.Journal.{Journal}
use Rattle.line_opening.specs.stable_lines.Progress.{Open}
use Rattle.line_opening.specs.stable_lines.Facts.{Facts}
use Rattle.line_opening.specs.stable_lines.Steps.{NamesNone}
use Rattle.line_opening.specs.stable_lines.Opening.{found}
use Rattle.line_opening.specs.Headers.{AreClosed}
use Rattle.line_opening.specs.Passing.{IsNext}
use Rattle.line_opening.specs.Undoing.{AreUndone}
use Rattle.database_opening.specs.Reading.{AreKnown}
use Rattle.database_opening.specs.declared.stages.Found.{Found}
use Rattle.database_opening.specs.declared.stages.OpeningStage.{OpeningStage}
use Rattle.database_opening.specs.declared.stages.OpeningStage.TheVariants.{Undoing, Restoring, Closing, Ending, Opened}

-- a stage names members
abbrev pub IsStage : OpeningStage → Type 0
IsStage (Undoing member entries) = IsMember member
IsStage Restoring = Unit {0}
IsStage (Closing member) = IsMember member
IsStage Ending = Unit {0}
IsStage Opened = Unit {0}

-- how many steps there are still, at most
abbrev pub steps_left : List ℕ → OpeningStage → ℕ
steps_left counts (Undoing member entries) = entries + sum (drop member counts) + (16 - member) + 20
steps_left counts Restoring = 19
steps_left counts (Closing member) = 19 - member
steps_left counts Ending = 1
steps_left counts Opened = 0

-- no member has an open transaction
abbrev pub NoneGoing : (ℕ → Option Open) → Type 0
NoneGoing going = (member : ℕ) → going member ≡ None

-- the lines of all entries of the members before this one don't bear their transactions any more
abbrev pub AreUndoneBefore : View → (ℕ → Option Open) → ℕ → Type 0
AreUndoneBefore v going end = (member : ℕ) (o : Open) → member < end → going member ≡ Some o → AreUndone v.content o 0

-- so many entries of this member are to be undone: the lines of those behind them don't bear its transaction any more
pub record IsUndoing (v : View) (going : ℕ → Option Open) (read : Found) (member entries : ℕ) : Type 0 where
  pub known : AreKnown going read.numbers read.counts
  pub before : AreUndoneBefore v going member
  pub within : (o : Open) → going member ≡ Some o → entries ≤ length o.entries
  pub undone : (o : Open) → going member ≡ Some o → AreUndone v.content o entries
  pub none : going member ≡ None → entries ≡ 0

-- no transaction is open any more, and the headers of the members before this one name none
pub record IsClosing (v : View) (going : ℕ → Option Open) (member : ℕ) : Type 0 where
  pub none : NoneGoing going
  pub closed : AreClosed v.content member

-- no header that a crash may leave names a transaction
pub record IsOpened (v : View) (going : ℕ → Option Open) : Type 0 where
  pub none : NoneGoing going
  pub closed : NamesNone (Pending v)

-- what was done before the stage
abbrev pub IsDone : OpeningStage → View → (ℕ → Option Open) → Found → Type 0
IsDone (Undoing member entries) v going read = IsUndoing v going read member entries
IsDone Restoring v going read = AreUndoneBefore v going 17
IsDone (Closing member) v going read = IsClosing v going member
IsDone Ending v going read = IsClosing v going 17
IsDone Opened v going read = IsOpened v going

-- The facts, with these lines as the committed ones, and with the transactions that are still open.
pub record OpeningFacts (classes : ℕ → ℕ) (lines : Lines) (journal : Journal) (stage : OpeningStage) (v : View) (read : Found) : Type 0 where
  pub going : ℕ → Option Open
  pub facts : Facts (Pending v) (found classes lines journal read.root going)
  pub next : IsNext journal read.next
  pub done : IsDone stage v going read
