-- What a turn of a commit says of the disk.
use Rattle.std.specs.Prelude.{ℕ, ◌≡◌, ◌≢◌, List, length, Some, Result, IfOk, IsErrOf, IsTrue, slice_get, true}
use Rattle.rdb_types.specs.declared.file.FileId.{FileId}
use Rattle.rdb_types.specs.declared.file.FileKind.TheVariants.{Root, Snap}
use Rattle.rdb_outside.specs.Causes.{Rose}
use Rattle.rdb_outside.specs.Disk.{View, Pending}
use Rattle.area_files.specs.Areas.{IsDataPage}
use Rattle.line_store.specs.declared.answers.Fault.{Fault}
use Rattle.line_store.specs.declared.answers.Fault.TheVariants.{Failed, Bad}
use Rattle.stable_lines.specs.Slots.{Undo, ruj_file, IsAreaFile}
use Rattle.stable_lines.specs.Progress.{Open, Flight}
use Rattle.line_moves.specs.declared.places.Place.{Place}
use Rattle.line_moves.specs.Calls.{OnlyWrites}
use Rattle.line_moves.specs.Classes.{HaveTheirClasses, KeepsOwners, LieForArea}
use Rattle.line_moves.specs.Lines.{ChangedLines, AreDistinct, PutsOnly}
use Rattle.line_seat.specs.declared.commit.GroupPlace.{GroupPlace}
use Rattle.line_seat.specs.declared.commit.CommitStage.TheVariants.{Gathering}
use Rattle.line_seat.specs.Groups.{AreOfClasses, HaveClasses, HaveRoom}
use Rattle.disk_seats.specs.Ledgers.{again, Ledger}
use Rattle.disk_seats.specs.Members.{LedgerFacts}
use Rattle.member_steps.specs.declared.committing.CommitTurn.{CommitTurn}
use Rattle.member_steps.specs.declared.committing.CommitTurn.TheVariants.{Entering, Securing, Going}
use Rattle.member_steps.specs.Turns.{IsFurtherTurn, IsNextTurn, plan_of, TurnFacts, NextFacts, ledger_behind, ledger_held}
use Rattle.disk_store.specs.declared.member.Member.{Member}
use Rattle.disk_store.specs.Memory.{StoreMemory}
use Rattle.disk_store.specs.OwnFiles.{is_own}

-- A commit that begins has no line.
pub record WritesNone (ms : List Member) (s : ℕ) (turn : CommitTurn) : Type 0 where
  pub member : Member
  pub is : slice_get ms s ≡ Some member
  pub none : length member.written.keys ≡ 0
  pub at : ℕ
  pub begins : turn ≡ Entering at

-- where a commit goes on behind a fault: the owners of pages are entered from the first line on
abbrev pub turn_again : CommitTurn → CommitTurn
turn_again (Entering at) = Entering 0
turn_again Securing = Entering 0
turn_again (Going at) = Going (again at)

-- where the group of a member's transaction is written
abbrev pub group_for : StoreMemory → Member → GroupPlace
group_for held m = record { slot = held.next.slot; number = held.next.number; tsn = m.tsn }

-- ---- what a turn makes

-- the one slot that it writes, of the database's own files, but none of a snapshot file or of the root
pub record WritesAside (v w : View) : Type 0 where
  pub file : FileId
  pub slot : ℕ
  pub own : is_own file.kind ≡ true
  pub not_snap : file.kind ≢ Snap
  pub not_root : file.kind ≢ Root
  pub only : OnlyWrites file slot v w

-- The turn of a commit of these lines, with the class of each, was made, and answered this.
pub record MakesTurn (v w : View) (turn : CommitTurn) (group : GroupPlace) (lines : ChangedLines) (classes : List ℕ) (result : Result CommitTurn Fault) : Type 0 where
  pub distinct : AreDistinct lines
  pub writes : WritesAside v w
  pub journals : IsTrue v.tells → (member slot : ℕ) → w.content (ruj_file member) slot ≡ v.content (ruj_file member) slot
  pub failed : IsErrOf result Failed → Rose v.faults w.faults
  pub bad : (file : FileId) (slot : ℕ) → IsErrOf result (Bad file slot) → IsTrue v.tells → (g : Ledger) (member : ℕ) (transaction : Open) (all : List Undo) (flight : Flight) (by_area : ℕ → ℕ) → LedgerFacts v g
      → TurnFacts turn v g (plan_of member transaction all group lines classes flight) → HaveRoom (Pending v) by_area lines classes → ⊥
  pub changes : IsTrue v.tells → (g : Ledger) → LedgerFacts v g → PutsOnly lines v.content w.content
  pub classed : IsTrue v.tells → (g : Ledger) → LedgerFacts v g → (by_area : ℕ → ℕ) → AreOfClasses by_area lines classes → HaveTheirClasses by_area (Pending v) → HaveTheirClasses by_area (Pending w)
  pub owners : IsTrue v.tells → (g : Ledger) → LedgerFacts v g → (there : Place) (area : ℕ) → IsAreaFile there.file → IsDataPage there.page → LieForArea lines there area → KeepsOwners (Pending v) (Pending w) there area
  pub keeps : IsTrue v.tells → (g : Ledger) (member : ℕ) (transaction : Open) (all : List Undo) (flight : Flight) → LedgerFacts v g
      → TurnFacts turn v g (plan_of member transaction all group lines classes flight)
      → LedgerFacts w (ledger_held turn (plan_of member transaction all group lines classes flight) g)
  pub order : IfOk result (IsNextTurn turn)
  pub further : IfOk result (IsFurtherTurn (length lines) turn)
  pub goes_on : IfOk result (λ next. IsTrue v.tells → (g : Ledger) (member : ℕ) (transaction : Open) (all : List Undo) (flight : Flight) → LedgerFacts v g
      → (turn ≡ Going Gathering → HaveClasses v.content g.base flight)
      → TurnFacts turn v g (plan_of member transaction all group lines classes flight)
      → LedgerFacts w (ledger_behind turn next w.moment (plan_of member transaction all group lines classes flight) g)
      × NextFacts next w (ledger_behind turn next w.moment (plan_of member transaction all group lines classes flight) g) (plan_of member transaction all group lines classes flight))
