-- What becomes of a session that dies.
use Rattle.std.specs.Prelude.{ℕ, zero, suc, Bool, true, false, []}
use Rattle.member_rooms.specs.member_steps.declared.committing.CommitTurn.{CommitTurn}
use Rattle.member_rooms.specs.member_steps.declared.committing.CommitTurn.TheVariants.{Entering, Securing, Going}
use Rattle.ledger_versions.specs.disk_seats.Ledgers.{flies}
use Rattle.disk_store.specs.declared.member.Member.{Member}
use Rattle.disk_store.specs.declared.member.MemberStage.{MemberStage}
use Rattle.disk_store.specs.declared.member.MemberStage.TheVariants as stage
use Rattle.disk_store.specs.declared.member.Recovery.{Recovery}
use Rattle.disk_store.specs.declared.member.Recovery.TheVariants as recovery

-- of a commit whose pages are written: whether its group flies, and how many before-images there are
abbrev pub going_to : Bool → ℕ → Recovery
going_to true n = recovery.Judging
going_to false n = recovery.Undoing n

-- with so many before-images that are to be put back; where there is none, they are to be made stable
abbrev pub undoing_with : ℕ → Recovery
undoing_with zero = recovery.Restoring
undoing_with (suc n) = recovery.Undoing (suc n)

abbrev pub recovery_at : CommitTurn → ℕ → Recovery
recovery_at (Entering at) n = recovery.Ending
recovery_at Securing n = recovery.Ending
recovery_at (Going at) n = going_to (flies at) n

abbrev pub dead_at : MemberStage → ℕ → MemberStage
dead_at (stage.Committing turn) n = stage.Dead true (recovery_at turn n)
dead_at (stage.Dead commits left) n = stage.Dead commits left
dead_at _ n = stage.Dead false recovery.Ending

-- what is written at a stage is no transaction's
abbrev pub has_none : MemberStage → Bool
has_none stage.Outside = true
has_none (stage.Beginning ceiling) = true
has_none stage.Closing = true
has_none stage.Reading = true
has_none _ = false

abbrev pub forgotten : MemberStage → Member → Member
forgotten next m = record m { stage = next; written = record { lines = []; keys = [] } }
