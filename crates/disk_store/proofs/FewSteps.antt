-- The steps that are left at a stage are few.
use Rattle.std.proofs.Common.{◌≤◌, ◌<◌, ◌^◌, ℕ, Bool, true, false, length, arith}
use Rattle.std.specs.Prelude.{if◌then◌else◌}
use Rattle.line_seat.specs.declared.commit.CommitStage.TheVariants.{Changing as PagesChanging, Imaging, Gathering, Sealing, Landing, Committed}
use Rattle.member_rooms.specs.member_steps.declared.committing.CommitTurn.{CommitTurn}
use Rattle.member_rooms.specs.member_steps.declared.committing.CommitTurn.TheVariants.{Entering, Securing, Going}
use Rattle.disk_store.specs.declared.member.Ceiling.{Ceiling}
use Rattle.disk_store.specs.declared.member.Ceiling.TheVariants.{Asking, Raised}
use Rattle.disk_store.specs.declared.member.Member.{Member}
use Rattle.disk_store.specs.declared.member.MemberStage.{MemberStage}
use Rattle.disk_store.specs.declared.member.MemberStage.TheVariants as stage
use Rattle.disk_store.specs.declared.member.Recovery.{Recovery}
use Rattle.disk_store.specs.declared.member.Recovery.TheVariants as recovery
use Rattle.disk_store.specs.Seats.{turns_left, beginning_left, recovery_left, left_in, steps_in}

few-turns : (n : ℕ) (turn : CommitTurn) → n < 2 ^ 32 → turns_left n turn < 2 ^ 64
few-turns n (Entering at) few = omega (arith, few)
few-turns n Securing few = omega (arith, few)
few-turns n (Going (PagesChanging at)) few = omega (arith, few)
few-turns n (Going (Imaging at)) few = omega (arith, few)
few-turns n (Going Gathering) few = omega (arith, few)
few-turns n (Going Sealing) few = omega (arith, few)
few-turns n (Going Landing) few = omega (arith, few)
few-turns n (Going Committed) few = omega (arith, few)

few-beginning : (ceiling : Ceiling) → beginning_left ceiling < 2 ^ 64
few-beginning Asking = omega arith
few-beginning Raised = omega arith

few-recovery : (m : Member) (commits : _) (left : Recovery) → m.journalled < 2 ^ 32 → left_in (stage.Dead commits left) < 2 ^ 32 → recovery_left left m < 2 ^ 64
few-recovery m commits recovery.Ending all few = omega arith
few-recovery m commits recovery.Judging all few = omega (arith, all)
few-recovery m commits (recovery.Undoing left) all few = omega (arith, few)
few-recovery m commits recovery.Restoring all few = omega arith

at-most-one : (b : Bool) → (if b then 0 else 1) ≤ 1
at-most-one true = omega arith
at-most-one false = omega arith

pub few-at : (st : MemberStage) (m : Member) → length m.written.keys < 2 ^ 32 → m.journalled < 2 ^ 32 → left_in st < 2 ^ 32 → steps_in st m < 2 ^ 64
few-at stage.Outside m keys all left = omega arith
few-at (stage.Beginning ceiling) m keys all left = few-beginning ceiling
few-at stage.Writing m keys all left = omega arith
few-at stage.Changing m keys all left = let one = at-most-one m.named in omega (arith, keys, one)
few-at stage.Broken m keys all left = omega arith
few-at stage.Prepared m keys all left = omega arith
few-at (stage.Committing turn) m keys all left = few-turns (length m.written.keys) turn keys
few-at stage.RollingBack m keys all left = omega arith
few-at stage.Closing m keys all left = omega arith
few-at stage.Reading m keys all left = omega arith
few-at (stage.Dead commits rest) m keys all left = few-recovery m commits rest all left
