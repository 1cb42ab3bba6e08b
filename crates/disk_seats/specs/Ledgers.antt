-- How far the transactions of all members are, on one disk.
use Rattle.std.specs.Prelude.{ℕ, ◌-◌, ◌==◌, Bool, true, false, if◌then◌else◌, List, [], ◌∷◌, ◌++◌, length, Option, Some, None}
use Rattle.line_opening.specs.stable_lines.Slots.{Undo}
use Rattle.line_opening.specs.stable_lines.Progress.{Open, Flight, Progress, begun, without, landed}
use Rattle.line_opening.specs.stable_lines.History.{History, state_of, state_with, with_try, with_commit}
use Rattle.line_opening.specs.line_moves.Lines.{ChangedLines}
use Rattle.line_seat.specs.declared.commit.GroupPlace.{GroupPlace}
use Rattle.line_seat.specs.declared.commit.CommitStage.{CommitStage}
use Rattle.line_seat.specs.declared.commit.CommitStage.TheVariants.{Changing, Imaging, Gathering, Sealing, Landing, Committed}
use Rattle.line_seat.specs.Seats.{secured}
use Rattle.line_seat.specs.Stages.{progress_at}

-- Where a member is.
pub data Standing : Type 0 where
  -- it has no open transaction
  resting : Standing
  -- it has one that changes lines: these before-images were written, and so many of them are stable
  changing : List Undo → ℕ → Standing
  -- one that can only be rolled back, since a before-image may have been written or not
  broken : Standing
  -- one that commits, whose before-images stand
  committing : List Undo → Standing
  -- one whose pages may be written and whose before-images are put back: so many of them are left
  undoing : List Undo → ℕ → Standing

-- the before-images that are its own
abbrev pub entries_of : Standing → List Undo
entries_of resting = []
entries_of (changing all stable) = all
entries_of broken = []
entries_of (committing all) = all
entries_of (undoing all left) = all

-- all its before-images are stable
abbrev pub gained : Standing → Standing
gained resting = resting
gained (changing all stable) = changing all (length all)
gained broken = broken
gained (committing all) = committing all
gained (undoing all left) = undoing all left

-- The commit that is under way: whose it is, how far it is, and what it commits.
pub record Commit : Type 0 where
  pub member : ℕ
  pub transaction : Open
  pub stage : CommitStage
  pub place : GroupPlace
  pub lines : ChangedLines
  pub classes : List ℕ
  pub flight : Flight

abbrev pub this_commit : ℕ → Open → CommitStage → GroupPlace → ChangedLines → List ℕ → Flight → Commit
this_commit member transaction stage place lines classes flight = record { member = member; transaction = transaction; stage = stage; place = place; lines = lines; classes = classes; flight = flight }

pub record Ledger : Type 0 where
  -- what is committed, and who is open. Nothing flies here.
  pub base : Progress
  pub standing : ℕ → Standing
  pub commit : Option Commit
  -- what was reached and tried
  pub history : History
  -- the moment since when each state that was reached is stable, that of the opening first
  pub moments : List ℕ

-- how far the transactions are, with the group that flies
abbrev pub progress_with : Option Commit → Progress → Progress
progress_with None base = base
progress_with (Some c) base = progress_at c.stage base c.flight

abbrev pub progress_of : Ledger → Progress
progress_of g = progress_with g.commit g.base

-- whether the group of a commit flies at a stage
abbrev pub flies : CommitStage → Bool
flies (Changing at) = false
flies (Imaging at) = false
flies Gathering = false
flies Sealing = true
flies Landing = true
flies Committed = false

-- nothing is open, and this is committed since this moment
abbrev pub new_ledger : Progress → ℕ → Ledger
new_ledger base moment = record {
  base = base;
  standing = λ m. resting;
  commit = None;
  history = record { reached = state_of base ∷ []; tried = [] };
  moments = moment ∷ [];
}

-- ---- steps

abbrev pub set_standing : ℕ → Standing → (ℕ → Standing) → ℕ → Standing
set_standing member standing was = λ m. if m == member then standing else was m

-- one member stands otherwise
abbrev pub stands_as : ℕ → Standing → Ledger → Ledger
stands_as member standing g = record g { standing = set_standing member standing g.standing }

-- a barrier: of each member all is stable that it wrote
abbrev pub all_stable : Ledger → Ledger
all_stable g = record g { standing = λ m. gained (g.standing m) }

-- a member draws the next transaction number
abbrev pub begun_by : ℕ → Ledger → Ledger
begun_by member g = record (stands_as member (changing [] 0) g) { base = begun member g.base }

-- its transaction has ended, and nothing of it is committed
abbrev pub ended_by : ℕ → Ledger → Ledger
ended_by member g = record (stands_as member resting g) { base = without member g.base }

-- the commit of a member's transaction, with these before-images
abbrev pub new_commit : ℕ → Open → List Undo → GroupPlace → ChangedLines → List ℕ → Flight → Commit
new_commit member o all place lines classes flight = this_commit member (record { tsn = o.tsn; entries = all }) (Changing 0) place lines classes flight

-- its commit begins: its before-images stand
abbrev pub taken_up : Commit → Open → Ledger → Ledger
taken_up c o g = record (stands_as c.member (committing c.transaction.entries) g) { base = secured c.member o c.transaction.entries g.base; commit = Some c }

-- the commit at another stage
abbrev pub commit_at : CommitStage → Commit → Commit
commit_at stage c = record c { stage = stage }

-- where a commit goes on behind a fault: pages and after-images that may not stand, or its commit slot, are written once more
abbrev pub again : CommitStage → CommitStage
again (Changing at) = Changing at
again (Imaging at) = Imaging 0
again Gathering = Imaging 0
again Sealing = Sealing
again Landing = Sealing
again Committed = Committed

-- a group that takes off is tried
abbrev pub history_at : Bool → Bool → Commit → Ledger → History
history_at false true c g = with_try (length g.history.reached - 1) (state_with g.base c.flight) g.history
history_at false false c g = g.history
history_at true b c g = g.history

-- a call of it failed
abbrev pub held_up : Commit → Ledger → Ledger
held_up c g = record g { commit = Some (commit_at (again c.stage) c) }

-- it is given up, and its before-images are to be put back
abbrev pub given_up : Commit → Ledger → Ledger
given_up c g = record (stands_as c.member (undoing c.transaction.entries (length c.transaction.entries)) g) { commit = None }

-- it goes on
abbrev pub gone_on : CommitStage → Commit → Ledger → Ledger
gone_on next c g = record g { commit = Some (commit_at next c); history = history_at (flies c.stage) (flies next) c g }

-- it is committed, and stable since this moment
abbrev pub landed_at : ℕ → Commit → Ledger → Ledger
landed_at moment c g = record (stands_as c.member resting g) {
  base = landed c.flight g.base;
  commit = None;
  history = with_commit (state_with g.base c.flight) g.history;
  moments = g.moments ++ moment ∷ [];
}

-- What is committed was reached once more, by a commit of no lines; the group that flies is tried behind that, too.
abbrev pub reached_beside : Bool → Commit → Ledger → History
reached_beside true c g = with_try (length g.history.reached) (state_with g.base c.flight) (with_commit (state_of g.base) g.history)
reached_beside false c g = with_commit (state_of g.base) g.history

abbrev pub reached_more : Option Commit → Ledger → History
reached_more None g = with_commit (state_of g.base) g.history
reached_more (Some c) g = reached_beside (flies c.stage) c g

abbrev pub marked_at : ℕ → Ledger → Ledger
marked_at moment g = record g { history = reached_more g.commit g; moments = g.moments ++ moment ∷ [] }

-- what a step of the commit comes to
abbrev pub behind_step : CommitStage → ℕ → Commit → Ledger → Ledger
behind_step Committed moment c g = landed_at moment c g
behind_step (Changing at) moment c g = gone_on (Changing at) c g
behind_step (Imaging at) moment c g = gone_on (Imaging at) c g
behind_step Gathering moment c g = gone_on Gathering c g
behind_step Sealing moment c g = gone_on Sealing c g
behind_step Landing moment c g = gone_on Landing c g
