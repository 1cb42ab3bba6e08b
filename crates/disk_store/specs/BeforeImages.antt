-- Of which members before-images stand, as a store has them in memory.
use Rattle.std.specs.Prelude.{Option, Some, None}
use Rattle.member_rooms.specs.member_steps.declared.committing.CommitTurn.TheVariants.{Entering, Securing, Going}
use Rattle.reader_lines.specs.committed_lines.Seen.{Seen}
use Rattle.disk_store.specs.declared.member.Member.{Member}
use Rattle.disk_store.specs.declared.member.MemberStage.{MemberStage}
use Rattle.disk_store.specs.declared.member.MemberStage.TheVariants as stage
use Rattle.disk_store.specs.declared.member.Recovery.TheVariants as recovery

-- the number of its transaction, and the keys of its before-images
abbrev pub its_own : Member → Seen
its_own m = record { tsn = m.tsn; keys = m.written.keys }

abbrev pub seen_in : MemberStage → Member → Option Seen
seen_in stage.Outside m = None
seen_in (stage.Beginning ceiling) m = None
seen_in stage.Writing m = None
seen_in stage.Changing m = None
seen_in stage.Broken m = None
seen_in stage.Prepared m = None
seen_in (stage.Committing (Entering at)) m = None
seen_in (stage.Committing Securing) m = None
seen_in (stage.Committing (Going at)) m = Some (its_own m)
seen_in stage.RollingBack m = None
seen_in stage.Closing m = None
seen_in stage.Reading m = None
seen_in (stage.Dead commits recovery.Ending) m = None
seen_in (stage.Dead commits recovery.Judging) m = Some (its_own m)
seen_in (stage.Dead commits (recovery.Undoing left)) m = Some (its_own m)
seen_in (stage.Dead commits recovery.Restoring) m = Some (its_own m)

-- its before-images stand while it commits, once its pages may be written, and until they are put back
abbrev pub seen_of : Member → Option Seen
seen_of m = seen_in m.stage m
