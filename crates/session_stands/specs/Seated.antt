-- What memory knows of a session, whether or not the store shows a shelf.
use Rattle.std.specs.Prelude.{◌≡◌, ℕ, true, false, List, [], Option, Some, None, is_some}
use Rattle.rdo_ast.specs.Views.{uttered_of}
use Rattle.rdb_account.specs.Legal.{ends_by}
use Rattle.rdb_account.specs.Places.{backup_of}
use Rattle.lock_needs.specs.declared.need.Need.{Need}
use Rattle.lock_tree_laws.specs.Forest.{State, opened_of}
use Rattle.lock_tree_laws.specs.Wanted.{needs_of}
use Rattle.session_states.specs.line_steps.Images.{journal_node}
use Rattle.journal_waits.specs.Holders.{WantsExclusively}
use Rattle.reserved_locks.specs.Reserved.{AreOnAreas}
use Rattle.line_store.specs.Seats.{Seat, outside, beginning, writing, changing, broken, prepared, committing, rolling_back, dead, done_at}
use Rattle.line_store.specs.Sights.{bare}
use Rattle.session_states.specs.declared.stage.Work.TheVariants.{Opening}
use Rattle.session_states.specs.declared.stage.Laying.TheVariants.{Changing, Broken}
use Rattle.session_states.specs.declared.stage.End.TheVariants.{Journal, Ready, Committing, RollingBack, Leaving}
use Rattle.session_states.specs.declared.stage.Stage.{Stage}
use Rattle.session_states.specs.declared.stage.Stage.TheVariants.{Working, Gathering, Reserving, Saying, Ending}
use Rattle.session_states.specs.declared.stage.ReaderWork.TheVariants.{Copying}
use Rattle.session_states.specs.declared.stage.ReaderStage.{ReaderStage}
use Rattle.session_states.specs.declared.stage.ReaderStage.TheVariants as look
use Rattle.session_states.specs.declared.stage.Phase.{Phase}
use Rattle.session_states.specs.declared.stage.Phase.TheVariants.{Outside, Closing, Writing, Reading, Over}
use Rattle.session_states.specs.declared.stage.Life.{Life}
use Rattle.session_states.specs.declared.stage.Life.TheVariants.{Alive, Dead, Gone}
use Rattle.session_states.specs.Fits.{WantsAtMost}
use Rattle.session_states.specs.Locks.{lock_of, has_journal, HasJournal}
use Rattle.session_states.specs.States.{commits_in, copies_at, seat_of_reader}

-- where the store has a session of this stage, up to its lines
abbrev pub stand_of : Stage → Seat
stand_of (Working item Opening) = beginning
stand_of (Saying item r Changing) = changing []
stand_of (Saying item r Broken) = broken []
stand_of (Ending Journal) = prepared []
stand_of (Ending Ready) = prepared []
stand_of (Ending Committing) = committing []
stand_of (Ending RollingBack) = rolling_back []
stand_of (Ending Leaving) = rolling_back []
stand_of stage = writing []

-- the same of a phase, for a seat without lines
abbrev pub IsStandOf : Phase → Seat → Type 0
IsStandOf Outside seat = seat ≡ outside
IsStandOf Closing seat = done_at seat ≡ Some outside
IsStandOf (Writing w) seat = seat ≡ stand_of w.stage
IsStandOf (Reading r) seat = seat ≡ seat_of_reader (copies_at r.stage) []
IsStandOf Over seat = seat ≡ outside

-- the lock that a phase wants
abbrev pub lock_in : Phase → Option Need
lock_in (Writing w) = lock_of w.stage
lock_in _ = None

-- A read-write transaction that is ready to commit has got the journal for itself, and another hasn't got it. Who has no read-write transaction has got nothing.
abbrev pub NeedsFit : Phase → List Need → Type 0
NeedsFit (Writing w) needs = HasJournal (has_journal w.stage) needs
NeedsFit _ needs = needs ≡ []

-- the statement of a stage doesn't end its transaction, and what it reserves are areas
abbrev pub StatementFitsAt : Stage → Type 0
StatementFitsAt (Working item work) = ends_by (uttered_of item) ≡ false
StatementFitsAt (Gathering item gather later place) = ends_by (uttered_of item) ≡ false
StatementFitsAt (Reserving item r locks place) = (ends_by (uttered_of item) ≡ false) × AreOnAreas locks
StatementFitsAt (Saying item r laying) = ends_by (uttered_of item) ≡ false
StatementFitsAt stage = Unit {0}

-- what a reader copies is named by its statement
abbrev pub NamesCopied : ReaderStage → Type 0
NamesCopied (look.Working item Copying) = is_some (backup_of (uttered_of item)) ≡ true
NamesCopied stage = Unit {0}

abbrev pub StatementFits : Phase → Type 0
StatementFits (Writing w) = StatementFitsAt w.stage
StatementFits (Reading r) = NamesCopied r.stage
StatementFits _ = Unit {0}

-- Session s, which lives, stands in memory and with the tree of locks as its phase has it. What it wants of the journal, it wants for itself.
pub record IsSeated (stand : ℕ → Seat) (locks : State) (s : ℕ) (x : Phase) : Type 0 where
  pub seat : IsStandOf x (bare (stand s))
  pub wants : WantsAtMost (lock_in x) (opened_of locks s)
  pub beside : WantsExclusively journal_node (opened_of locks s)
  pub needs : NeedsFit x (needs_of locks s)
  pub statement : StatementFits x

-- A dead one keeps its locks and its want.
pub record HasFallen (stand : ℕ → Seat) (locks : State) (s : ℕ) (x : Phase) : Type 0 where
  pub seat : bare (stand s) ≡ dead (commits_in x) []
  pub wants : WantsAtMost (lock_in x) (opened_of locks s)
  pub beside : WantsExclusively journal_node (opened_of locks s)
  pub needs : NeedsFit x (needs_of locks s)

pub record HasGone (stand : ℕ → Seat) (locks : State) (s : ℕ) : Type 0 where
  pub seat : bare (stand s) ≡ outside
  pub wants : opened_of locks s ≡ None
  pub needs : needs_of locks s ≡ []

abbrev pub LivesAt : (ℕ → Seat) → State → ℕ → Phase → Life → Type 0
LivesAt stand locks s x Alive = IsSeated stand locks s x
LivesAt stand locks s x Dead = HasFallen stand locks s x
LivesAt stand locks s x Gone = HasGone stand locks s
