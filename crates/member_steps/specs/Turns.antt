-- A member's commit, from its pages' owners on.
use Rattle.std.specs.Prelude.{ℕ, ◌≤◌, ◌<◌, ◌≡◌, List, length, slice_get, Some, None}
use Rattle.rdb_types.specs.declared.keys.Dbkey.{Dbkey}
use Rattle.rdb_types.specs.declared.keys.Line.{Line}
use Rattle.rdb_outside.specs.Disk.{View, Pending}
use Rattle.disk_seats.specs.stable_lines.Slots.{Undo}
use Rattle.disk_seats.specs.stable_lines.Progress.{Open, Flight}
use Rattle.disk_seats.specs.line_moves.declared.places.Place.{Place}
use Rattle.disk_seats.specs.line_moves.Changes.{IsForArea, IsPlaceOf}
use Rattle.disk_seats.specs.line_moves.Lines.{ChangedLines}
use Rattle.disk_seats.specs.line_seat.declared.commit.GroupPlace.{GroupPlace}
use Rattle.disk_seats.specs.line_seat.declared.commit.CommitStage.{CommitStage}
use Rattle.disk_seats.specs.line_seat.declared.commit.CommitStage.TheVariants.{Changing, Imaging, Gathering, Sealing, Landing, Committed}
use Rattle.disk_seats.specs.line_seat.Seats.{secured}
use Rattle.disk_seats.specs.line_seat.Stages.{IsFurther, IsNextStage}
use Rattle.disk_seats.specs.line_seat.Groups.{AreOfEntries, IsCommitting}
use Rattle.disk_seats.specs.Ledgers.{changing, Commit, Ledger, all_stable, this_commit, new_commit, taken_up, held_up, behind_step}
use Rattle.disk_seats.specs.Members.{AreOwned, IsOneArea}
use Rattle.member_steps.specs.declared.committing.CommitTurn.{CommitTurn}
use Rattle.member_steps.specs.declared.committing.CommitTurn.TheVariants.{Entering, Securing, Going}

-- what a member commits: its transaction, its before-images, and the group
pub record Plan : Type 0 where
  pub member : ℕ
  pub transaction : Open
  pub all : List Undo
  pub place : GroupPlace
  pub lines : ChangedLines
  pub classes : List ℕ
  pub flight : Flight

-- The member may commit this, and nobody else does: the lines are those of its before-images, and lie on pages that are their areas', or nobody's, within the limit.
pub record MayCommit (v : View) (g : Ledger) (plan : Plan) : Type 0 where
  pub stable : ℕ
  pub stands : g.standing plan.member ≡ changing plan.all stable
  pub is_open : g.base.going plan.member ≡ Some plan.transaction
  pub alone : g.commit ≡ None
  pub is : IsCommitting (secured plan.member plan.transaction plan.all g.base) plan.member (record { tsn = plan.transaction.tsn; entries = plan.all }) plan.place plan.lines plan.classes plan.flight
  pub of_entries : AreOfEntries plan.transaction plan.all plan.lines
  pub one_area : IsOneArea plan.lines
  pub for_area : (i : ℕ) (line : Dbkey × Line) (place : Place) → slice_get plan.lines i ≡ Some line → IsPlaceOf line.0 place → IsForArea (Pending v) place line.0.area
  pub within : (i : ℕ) (line : Dbkey × Line) → slice_get plan.lines i ≡ Some line → line.0.page ≤ g.base.limits.pages

abbrev pub plan_of : ℕ → Open → List Undo → GroupPlace → ChangedLines → List ℕ → Flight → Plan
plan_of member o all place lines classes flight = record { member = member; transaction = o; all = all; place = place; lines = lines; classes = classes; flight = flight }

-- the commit of the plan at a stage
abbrev pub commit_of_plan : Plan → CommitStage → Commit
commit_of_plan plan stage = this_commit plan.member (record { tsn = plan.transaction.tsn; entries = plan.all }) stage plan.place plan.lines plan.classes plan.flight

-- what comes behind a turn
abbrev pub IsNextTurn : CommitTurn → CommitTurn → Type 0
IsNextTurn (Entering at) (Entering next) = Unit {0}
IsNextTurn (Entering at) Securing = Unit {0}
IsNextTurn Securing (Going (Changing at)) = Unit {0}
IsNextTurn (Going stage) (Going next) = IsNextStage stage next
IsNextTurn _ _ = ⊥

-- Where the turn goes on, fewer of so many lines are left for it.
abbrev pub IsFurtherTurn : ℕ → CommitTurn → CommitTurn → Type 0
IsFurtherTurn lines (Entering at) (Entering next) = (at < lines) × (at < next)
IsFurtherTurn lines (Going stage) (Going next) = IsFurther lines stage next
IsFurtherTurn lines _ _ = Unit {0}

-- what a turn of the commit rests on, beside what the ledger says
abbrev pub TurnFacts : CommitTurn → View → Ledger → Plan → Type 0
TurnFacts (Entering at) v g plan = MayCommit v g plan × AreOwned v.content plan.lines at
TurnFacts Securing v g plan = MayCommit v g plan × AreOwned v.content plan.lines (length plan.lines)
TurnFacts (Going stage) v g plan = g.commit ≡ Some (commit_of_plan plan stage)

-- the ledger behind a turn that answered Ok
abbrev pub ledger_behind : CommitTurn → CommitTurn → ℕ → Plan → Ledger → Ledger
ledger_behind (Entering at) next moment plan g = g
ledger_behind Securing next moment plan g = taken_up (new_commit plan.member plan.transaction plan.all plan.place plan.lines plan.classes plan.flight) plan.transaction (all_stable g)
ledger_behind (Going stage) (Entering at) moment plan g = g
ledger_behind (Going stage) Securing moment plan g = g
ledger_behind (Going stage) (Going next) moment plan g = behind_step next moment (commit_of_plan plan stage) g

-- and behind one that may have failed
abbrev pub ledger_held : CommitTurn → Plan → Ledger → Ledger
ledger_held (Entering at) plan g = g
ledger_held Securing plan g = g
ledger_held (Going stage) plan g = held_up (commit_of_plan plan stage) g

-- what a turn comes to, unless it is the last one
abbrev pub NextFacts : CommitTurn → View → Ledger → Plan → Type 0
NextFacts (Entering at) v g plan = TurnFacts (Entering at) v g plan
NextFacts Securing v g plan = TurnFacts Securing v g plan
NextFacts (Going Committed) v g plan = g.commit ≡ None
NextFacts (Going (Changing at)) v g plan = g.commit ≡ Some (commit_of_plan plan (Changing at))
NextFacts (Going (Imaging at)) v g plan = g.commit ≡ Some (commit_of_plan plan (Imaging at))
NextFacts (Going Gathering) v g plan = g.commit ≡ Some (commit_of_plan plan Gathering)
NextFacts (Going Sealing) v g plan = g.commit ≡ Some (commit_of_plan plan Sealing)
NextFacts (Going Landing) v g plan = g.commit ≡ Some (commit_of_plan plan Landing)
