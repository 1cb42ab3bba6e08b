-- How a member's memory stands to the ledger of all transactions on the disk.
use Rattle.std.specs.Prelude.{ℕ, ◌≡◌, true, List, length, Some, slice_get}
use Rattle.rdb_outside.specs.Disk.{View, Pending}
use Rattle.stable_lines.specs.Slots.{ruj_file, named as named_in, Undo}
use Rattle.stable_lines.specs.Progress.{Open}
use Rattle.line_moves.specs.Classes.{HaveTheirClasses}
use Rattle.line_seat.specs.declared.commit.CommitStage.{CommitStage}
use Rattle.line_seat.specs.Groups.{AreOfClasses}
use Rattle.member_rooms.specs.member_steps.declared.committing.CommitTurn.{CommitTurn}
use Rattle.member_rooms.specs.member_steps.declared.committing.CommitTurn.TheVariants.{Entering, Securing, Going}
use Rattle.ledger_versions.specs.disk_seats.Ledgers.{resting, changing, undoing, entries_of, Ledger, flies}
use Rattle.ledger_versions.specs.disk_seats.Members.{MayEnd, AreOwned}
use Rattle.member_rooms.specs.member_steps.Turns.{Plan, commit_of_plan}
use Rattle.disk_store.specs.declared.member.Member.{Member}
use Rattle.disk_store.specs.declared.member.MemberStage.{MemberStage}
use Rattle.disk_store.specs.declared.member.MemberStage.TheVariants as stage
use Rattle.disk_store.specs.declared.member.Recovery.{Recovery}
use Rattle.disk_store.specs.declared.member.Recovery.TheVariants as recovery

-- Its transaction changes lines: the before-images that were written are those of its first keys.
pub record HasBegun (g : Ledger) (s : ℕ) (m : Member) : Type 0 where
  pub transaction : Open
  pub all : List Undo
  pub stable : ℕ
  pub stands : g.standing s ≡ changing all stable
  pub is_open : g.base.going s ≡ Some transaction
  pub number : m.tsn ≡ transaction.tsn
  pub count : m.journalled ≡ length all
  pub keys : (i : ℕ) (undo : Undo) → slice_get all i ≡ Some undo → slice_get m.written.keys i ≡ Some undo.key

-- Its statement changes lines, and where memory noted that its header names its transaction, that header stands.
pub record IsJournalling (v : View) (g : Ledger) (s : ℕ) (m : Member) : Type 0 where
  pub begun : HasBegun g s m
  pub header : m.named ≡ true → named_in (v.content (ruj_file s) 0) ≡ m.tsn.number

-- Its transaction can only end: no page was written, and a before-image may stand or not.
pub record IsBroken (g : Ledger) (s : ℕ) (m : Member) : Type 0 where
  pub transaction : Open
  pub is_open : g.base.going s ≡ Some transaction
  pub number : m.tsn ≡ transaction.tsn
  pub may_end : MayEnd (g.standing s)
  pub keys : (i : ℕ) (undo : Undo) → slice_get (entries_of (g.standing s)) i ≡ Some undo → slice_get m.written.keys i ≡ Some undo.key

-- each of its lines has a before-image
pub record HasJournalled (g : Ledger) (s : ℕ) (m : Member) : Type 0 where
  pub begun : HasBegun g s m
  pub all_written : m.journalled ≡ length m.written.keys

-- The commit that is under way is its own, of its lines and all its before-images, and is at this stage. Its before-images are those of its keys.
pub record IsCommitOf (g : Ledger) (s : ℕ) (m : Member) (at : CommitStage) : Type 0 where
  pub plan : Plan
  pub its : plan.member ≡ s
  pub number : plan.transaction.tsn ≡ m.tsn
  pub lines : plan.lines ≡ m.written.lines
  pub long : length plan.classes ≡ length plan.lines
  pub count : m.journalled ≡ length plan.all
  pub keys : (i : ℕ) (undo : Undo) → slice_get plan.all i ≡ Some undo → slice_get m.written.keys i ≡ Some undo.key
  pub under_way : g.commit ≡ Some (commit_of_plan plan at)

-- Its pages are written: each line comes with its area's class, and pages have the classes of their areas.
pub record IsGoing (v : View) (g : Ledger) (s : ℕ) (m : Member) (at : CommitStage) : Type 0 where
  pub commit : IsCommitOf g s m at
  pub classes : commit.plan.classes ≡ m.classes.items
  pub of_areas : AreOfClasses commit.plan.flight.classes m.written.lines m.classes.items
  pub lie : HaveTheirClasses commit.plan.flight.classes (Pending v)

-- so many of its lines' pages are their areas', by the space pages
pub record HasEntered (v : View) (g : Ledger) (s : ℕ) (m : Member) (n : ℕ) : Type 0 where
  pub journalled : HasJournalled g s m
  pub owned : AreOwned v.content m.written.lines n

abbrev pub TurnStands : CommitTurn → View → Ledger → ℕ → Member → Type 0
TurnStands (Entering at) v g s m = HasEntered v g s m at
TurnStands Securing v g s m = HasEntered v g s m (length m.written.lines)
TurnStands (Going at) v g s m = IsGoing v g s m at

-- the commit flies whose member died
pub record IsJudged (g : Ledger) (s : ℕ) (m : Member) : Type 0 where
  pub at : CommitStage
  pub commit : IsCommitOf g s m at
  pub flying : flies at ≡ true

-- So many of its before-images, which are those of its keys, are to be put back.
pub record IsUndone (g : Ledger) (s : ℕ) (m : Member) (left : ℕ) : Type 0 where
  pub transaction : Open
  pub all : List Undo
  pub stands : g.standing s ≡ undoing all left
  pub is_open : g.base.going s ≡ Some transaction
  pub number : m.tsn ≡ transaction.tsn
  pub count : m.journalled ≡ length all
  pub keys : (i : ℕ) (undo : Undo) → slice_get all i ≡ Some undo → slice_get m.written.keys i ≡ Some undo.key

abbrev pub RecoveryStands : Recovery → Ledger → ℕ → Member → Type 0
RecoveryStands recovery.Ending g s m = g.standing s ≡ resting
RecoveryStands recovery.Judging g s m = IsJudged g s m
RecoveryStands (recovery.Undoing left) g s m = IsUndone g s m left
RecoveryStands recovery.Restoring g s m = IsUndone g s m 0

abbrev pub StageStands : MemberStage → View → Ledger → ℕ → Member → Type 0
StageStands stage.Outside v g s m = g.standing s ≡ resting
StageStands (stage.Beginning ceiling) v g s m = g.standing s ≡ resting
StageStands stage.Writing v g s m = HasJournalled g s m
StageStands stage.Changing v g s m = IsJournalling v g s m
StageStands stage.Broken v g s m = IsBroken g s m
StageStands stage.Prepared v g s m = HasJournalled g s m
StageStands (stage.Committing turn) v g s m = TurnStands turn v g s m
StageStands stage.RollingBack v g s m = g.standing s ≡ resting
StageStands stage.Closing v g s m = g.standing s ≡ resting
StageStands stage.Reading v g s m = g.standing s ≡ resting
StageStands (stage.Dead commits left) v g s m = RecoveryStands left g s m
