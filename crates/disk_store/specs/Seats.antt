-- Where a session stands, as its member's stage says it.
use Rattle.std.specs.Prelude.{◌≡◌, ℕ, ◌+◌, ◌-◌, if◌then◌else◌, List, [], length, Option, Some, None, slice_get}
use Rattle.line_view.specs.declared.writes.Write.{Write}
use Rattle.line_view.specs.Knowledge.{Lines}
use Rattle.line_seat.specs.declared.commit.CommitStage.TheVariants.{Changing as PagesChanging, Imaging, Gathering, Sealing, Landing, Committed}
use Rattle.member_rooms.specs.member_steps.declared.committing.CommitTurn.{CommitTurn}
use Rattle.member_rooms.specs.member_steps.declared.committing.CommitTurn.TheVariants.{Entering, Securing, Going}
use Rattle.line_store.specs.Seats.{Seat, outside, beginning, writing, changing, broken, prepared, committing, rolling_back, closing, reading, dead}
use Rattle.disk_store.specs.declared.member.Member.{Member}
use Rattle.disk_store.specs.declared.member.Ceiling.{Ceiling}
use Rattle.disk_store.specs.declared.member.Ceiling.TheVariants.{Asking, Raised}
use Rattle.disk_store.specs.declared.member.MemberStage.{MemberStage}
use Rattle.disk_store.specs.declared.member.MemberStage.TheVariants as stage
use Rattle.disk_store.specs.declared.member.Recovery.{Recovery}
use Rattle.disk_store.specs.declared.member.Recovery.TheVariants as recovery

-- the seat of a stage, with what was written, and the lines at a reader's start
abbrev pub seat_with : MemberStage → List Write → Lines → Seat
seat_with stage.Outside ws start = outside
seat_with (stage.Beginning ceiling) ws start = beginning
seat_with stage.Writing ws start = writing ws
seat_with stage.Changing ws start = changing ws
seat_with stage.Broken ws start = broken ws
seat_with stage.Prepared ws start = prepared ws
seat_with (stage.Committing turn) ws start = committing ws
seat_with stage.RollingBack ws start = rolling_back ws
seat_with stage.Closing ws start = closing
seat_with stage.Reading ws start = reading start
seat_with (stage.Dead commits left) ws start = dead commits ws

-- where a session stands, as memory knows it
abbrev pub stand_of : Option Member → Seat
stand_of None = outside
stand_of (Some m) = seat_with m.stage [] []

abbrev pub stand_at : List Member → ℕ → Seat
stand_at members s = stand_of (slice_get members s)

-- the session's member is at this stage
pub record IsAtStage (members : List Member) (s : ℕ) (st : MemberStage) : Type 0 where
  pub member : Member
  pub is : slice_get members s ≡ Some member
  pub at : member.stage ≡ st

-- ---- steps

-- the turns that are left of a commit of so many lines
abbrev pub turns_left : ℕ → CommitTurn → ℕ
turns_left n (Entering at) = (n - at) + (n + n + 8)
turns_left n Securing = n + n + 7
turns_left n (Going (PagesChanging at)) = (n - at) + (n + 6)
turns_left n (Going (Imaging at)) = (n - at) + 5
turns_left n (Going Gathering) = 4
turns_left n (Going Sealing) = 3
turns_left n (Going Landing) = 2
turns_left n (Going Committed) = 1

-- the before-images that are to be put back
abbrev pub left_in : MemberStage → ℕ
left_in (stage.Dead commits (recovery.Undoing left)) = left
left_in _ = 0

-- a commit that is lost is undone: then all its before-images are left
abbrev pub recovery_left : Recovery → Member → ℕ
recovery_left recovery.Ending m = 1
recovery_left recovery.Judging m = m.journalled + 4
recovery_left (recovery.Undoing left) m = left + 3
recovery_left recovery.Restoring m = 2

abbrev pub beginning_left : Ceiling → ℕ
beginning_left Asking = 1
beginning_left Raised = 0

-- how often at most a session's calls may still answer that there is more to do
abbrev pub steps_in : MemberStage → Member → ℕ
steps_in stage.Outside m = 0
steps_in (stage.Beginning ceiling) m = beginning_left ceiling
steps_in stage.Writing m = 0
steps_in stage.Changing m = (if m.named then 0 else 1) + (length m.written.keys - m.journalled) + (length m.written.keys - m.pushed)
steps_in stage.Broken m = 0
steps_in stage.Prepared m = 0
steps_in (stage.Committing turn) m = turns_left (length m.written.keys) turn
steps_in stage.RollingBack m = 1
steps_in stage.Closing m = 1
steps_in stage.Reading m = 0
steps_in (stage.Dead commits left) m = recovery_left left m

abbrev pub steps_of : Option Member → ℕ
steps_of None = 0
steps_of (Some m) = steps_in m.stage m

abbrev pub steps_at : List Member → ℕ → ℕ
steps_at members s = steps_of (slice_get members s)
