-- What is true of driven sessions, and what events tell of an order of turns.
use Rattle.std.specs.Prelude.{◌≡◌, ◌≤◌, ℕ, Bool, true, false, List, ◌++◌, Some, slice_get}
use Rattle.std.specs.List.{list_any}
use Rattle.rdb_account.specs.declared.event.Event.{Event as Declared}
use Rattle.rdb_account.specs.Events.{Event, Died}
use Rattle.rdb_account.specs.Places.{Opening}
use Rattle.rdb_drive.specs.Boards.{IsSession, answers_by}
use Rattle.rdb_drive.specs.Orders.{AreParts, rounds}
use Rattle.rdb_drive.specs.declared.driven.Step.{Step}
use Rattle.rdb_drive.specs.declared.driven.Step.TheVariants as step
use Rattle.line_cluster.specs.declared.sessions.Turn.{Turn}
use Rattle.line_cluster.specs.declared.sessions.Turn.TheVariants as turn
use Rattle.line_cluster.specs.Turned.{Sessions}
use Rattle.line_drive.specs.Boards.{RestsBehind, marks_of}

-- in the place of each session's number stands how many answers it was given
abbrev pub AreCounted : ℕ → List ℕ → List Declared → Type 0
AreCounted sessions counts events = (s : ℕ) → IsSession sessions s → slice_get counts s ≡ Some (answers_by s (marks_of events))

-- The answers of the sessions are counted.
pub record IsDriven (sessions : ℕ) (counts : List ℕ) (c : Sessions) : Type 0 where
  pub few : sessions ≤ 16
  pub counted : AreCounted sessions counts c.events

-- the events keep to the order, and then to all sessions in ascending order, again and again
pub record KeepsTurns (o : Opening) (sessions : ℕ) (order : List ℕ) (events : List Declared) : Type 0 where
  pub times : ℕ
  pub parts : AreParts (RestsBehind o events) 0 (order ++ rounds sessions times) (marks_of events)

abbrev pub is_death : Event → Bool
is_death (Died s cause) = true
is_death event = false

-- somebody died
abbrev pub has_deaths : List Event → Bool
has_deaths events = list_any is_death events

-- what a driver hears of a turn
abbrev pub step_for : {P : Type 0} → Turn → Step P
step_for turn.Moved = step.Moved
step_for (turn.Asleep t) = step.Asleep
step_for turn.Died = step.Moved
step_for turn.Frozen = step.Frozen
step_for turn.Ended = step.Ended
step_for turn.Stopped = step.Stopped

-- What a driver hears of a turn in which so many answers were given: of one that moved without any it may get a job to be worked.
abbrev pub IsHeardOf : {P : Type 0} → Turn → ℕ → Step P → Type 0
IsHeardOf t count (step.Compute job) = (t ≡ turn.Moved) × (count ≡ 0)
IsHeardOf t count heard = heard ≡ step_for t
