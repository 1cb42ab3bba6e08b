-- What ties a stage to the account, the locks and the store.
use Rattle.std.specs.Prelude.{◌≡◌, ◌==◌, ◌||◌, ◌&&◌, ℕ, Bool, true, false, not, List, [], take, length, Option, Some, None, is_some}
use Rattle.std.specs.List.{list_any, AllByRecursion}
use Rattle.rdo_ast.specs.declared.reply.Standing.{Standing}
use Rattle.rdo_ast.specs.declared.syntax.Item.{Item}
use Rattle.rdo_ast.specs.Tree.{Uttered}
use Rattle.rdo_ast.specs.Views.{uttered_of}
use Rattle.lock_needs.specs.declared.need.Need.{Need as LockNeed}
use Rattle.lock_needs.specs.declared.party.OpenWant.{OpenWant}
use Rattle.lock_tree_laws.specs.Forest.{opened_of, party_of}
use Rattle.lock_tree_laws.specs.Wanted.{IsOf, needs_of}
use Rattle.rdb_account.specs.Places.{Place, Transaction, is_done, backup_of}
use Rattle.rdb_account.specs.AskedFor.{is_need}
use Rattle.rdb_account.specs.Lawful.{is_nowait}
use Rattle.rdb_account.specs.Legal.{ends_by, ends_its_own}
use Rattle.line_view.specs.declared.need.Need.{Need}
use Rattle.line_view.specs.declared.need.Need.TheVariants as need
use Rattle.line_view.specs.declared.writes.Write.{Write}
use Rattle.line_view.specs.Held.{Held, knows}
use Rattle.line_view.specs.Knowledge.{Knowledge, Lines, IsInOrder, Agrees}
use Rattle.line_view.specs.Writes.{laid_all}
use Rattle.stepped_jobs.specs.kept_apart.Guards.{AreOwn, line_node, is_guarded, may_write}
use Rattle.stepped_jobs.specs.kept_apart.Alike.{IsGuarded}
use Rattle.line_steps.specs.session_jobs.Records.{Model, IsRight}
use Rattle.line_steps.specs.session_jobs.Asked.{AsksFor, is_lock_for}
use Rattle.line_steps.specs.session_jobs.Jobs.{WhereItAgrees, IsRecord, worked_of}
use Rattle.line_steps.specs.session_jobs.declared.jobs.TxRecord.{TxRecord}
use Rattle.line_store.specs.Seats.{Seat, outside, beginning, writing, changing, broken, prepared, committing, rolling_back, dead, done_at, Adds}
use Rattle.line_store.specs.Shelves.{Shelf, seen_by}
use Rattle.line_steps.specs.lock_ties.Ties.{IsTiedTo, needs_at}
use Rattle.line_steps.specs.line_history.Transactions.{IsAskedOver}
use Rattle.store_counts.specs.Counts.{is_claimed, AreClaimed}
use Rattle.stepped_jobs.specs.Needs.{IsLocked}
use Rattle.line_steps.specs.Right.{Ground}
use Rattle.line_steps.specs.Images.{journal_node}
use Rattle.journal_waits.specs.Holders.{KeepsTo}
use Rattle.session_states.specs.declared.stage.Work.{Work}
use Rattle.session_states.specs.declared.stage.Work.TheVariants.{Opening, Lacking, Housing, Fetching, Lodging}
use Rattle.session_states.specs.declared.stage.Gather.{Gather}
use Rattle.session_states.specs.declared.stage.Gather.TheVariants as gather
use Rattle.session_states.specs.declared.stage.Laying.{Laying}
use Rattle.session_states.specs.declared.stage.Laying.TheVariants.{Claiming, Changing, Broken}
use Rattle.session_states.specs.declared.stage.End.{End}
use Rattle.session_states.specs.declared.stage.End.TheVariants.{Journal, Ready, Committing, RollingBack, Leaving}
use Rattle.session_states.specs.declared.stage.Stage.{Stage}
use Rattle.session_states.specs.declared.stage.Stage.TheVariants.{Between, Working, Gathering, Reserving, Saying, Ending}
use Rattle.session_states.specs.declared.stage.Writer.{Writer}
use Rattle.session_states.specs.declared.stage.ReaderWork.TheVariants.{Copying}
use Rattle.session_states.specs.declared.stage.ReaderStage.{ReaderStage}
use Rattle.session_states.specs.declared.stage.ReaderStage.TheVariants as look
use Rattle.session_states.specs.declared.stage.Reader.{Reader}
use Rattle.session_states.specs.declared.stage.Phase.{Phase}
use Rattle.session_states.specs.declared.stage.Phase.TheVariants.{Outside, Closing, Writing, Reading, Over}
use Rattle.session_states.specs.declared.stage.Life.{Life}
use Rattle.session_states.specs.declared.stage.Life.TheVariants.{Alive, Dead, Gone}
use Rattle.session_states.specs.declared.stage.Member.{Member}
use Rattle.session_states.specs.Locks.{lock_of, has_journal, HasJournal, AreOffJournal}
use Rattle.session_states.specs.States.{commits_in, copies_at, seat_of_reader}
use Rattle.session_states.specs.Shared.{Shared}

-- ---- the statement under way

-- what its job lacked, it asks for over all that agrees with what is known
abbrev pub IsLacked : Model → Standing → Uttered → Knowledge → Need → Type 0
IsLacked M standing item known n = WhereItAgrees M known (λ t. AsksFor standing item t (is_lock_for item n))

abbrev pub WorkFits : Model → List LockNeed → Standing → Uttered → Knowledge → Work → Type 0
WorkFits M got standing item known (Lacking n) = IsLacked M standing item known n
WorkFits M got standing item known (Housing room key) = IsLacked M standing item known (need.Room room) × (key.area ≡ room.area)
WorkFits M got standing item known (Fetching n) = IsLocked got n
WorkFits M got standing item known (Lodging room key) = (is_guarded got (line_node key) ≡ true) × (key.area ≡ room.area)
WorkFits M got standing item known _ = Unit {0}

-- so it does for each of these
abbrev pub AreLacked : Model → Standing → Uttered → Knowledge → List Need → Type 0
AreLacked M standing item known = AllByRecursion (IsLacked M standing item known)

abbrev pub GatherFits : Model → List LockNeed → Standing → Uttered → Knowledge → Gather → Type 0
GatherFits M got standing item known (gather.Locking n) = IsLacked M standing item known n
GatherFits M got standing item known (gather.Housing room key) = IsLacked M standing item known (need.Room room) × (key.area ≡ room.area)
GatherFits M got standing item known (gather.Reading n) = IsLocked got n
GatherFits M got standing item known (gather.Lodging room key) = (is_guarded got (line_node key) ≡ true) × (key.area ≡ room.area)

-- these are among the locks that are got
abbrev pub AreGot : List LockNeed → List LockNeed → Type 0
AreGot got = AllByRecursion (λ n. list_any (is_need n.node n.mode) got ≡ true)

-- What a START_TRANSACTION reserves it asks for, and what stands before the place is got; the journal isn't of it. Its record is right for what is known.
pub record ReservingFits (M : Model) (word : List ℕ) (got : List LockNeed) (standing : Standing) (item : Uttered) (known : Knowledge) (r : TxRecord) (locks : List LockNeed) (place : ℕ) : Type 0 where
  pub record_is : IsRecord M word standing item known r
  pub asked : AllByRecursion (IsAskedOver M standing (Some item) known) locks
  pub reserved : AreGot got (take place locks)
  pub off : AreOffJournal locks

-- The record is right for what is known, and the lines of the writes before the place are locked. Once it is laid, its transaction stays open behind its reply.
abbrev pub LayingFits : Model → List ℕ → List LockNeed → Standing → Uttered → Knowledge → Bool → TxRecord → Laying → Type 0
LayingFits M word got standing item known spoken r (Claiming place) = IsRecord M word standing item known r × AreOwn got (take place r.writes)
LayingFits M word got standing item known spoken r _ = (spoken || is_done r.reply) ≡ true

-- a COMMIT that is to begin or has begun has the journal for itself
abbrev pub EndFits : List LockNeed → End → Type 0
EndFits got Ready = may_write got journal_node ≡ true
EndFits got Committing = may_write got journal_node ≡ true
EndFits got end = Unit {0}

-- It doesn't end its transaction. A COMMIT or ROLLBACK comes once something was said.
abbrev pub StageFits : Model → List ℕ → List LockNeed → Standing → Held → Bool → Stage → Type 0
StageFits M word got standing known spoken Between = spoken ≡ true
StageFits M word got standing known spoken (Working item work) = (ends_by (uttered_of item) ≡ false) × WorkFits M got standing (uttered_of item) (knows known) work
StageFits M word got standing known spoken (Gathering item gather later place) = (ends_by (uttered_of item) ≡ false) × GatherFits M got standing (uttered_of item) (knows known) gather × AreLacked M standing (uttered_of item) (knows known) later
StageFits M word got standing known spoken (Reserving item r locks place) = (ends_by (uttered_of item) ≡ false) × ReservingFits M word got standing (uttered_of item) (knows known) r locks place
StageFits M word got standing known spoken (Saying item r laying) = (ends_by (uttered_of item) ≡ false) × LayingFits M word got standing (uttered_of item) (knows known) spoken r laying
StageFits M word got standing known spoken (Ending end) = (spoken ≡ true) × EndFits got end

-- The account has it that EX was got on the lines whose locks were wanted, as lines, whatever covers them.
abbrev pub ClaimsFit : Place → ℕ → Stage → Type 0
ClaimsFit p s (Working item (Lodging room key)) = is_claimed p s key ≡ true
ClaimsFit p s (Gathering item (gather.Lodging room key) later place) = is_claimed p s key ≡ true
ClaimsFit p s (Saying item r (Claiming place)) = AreClaimed p s (take place r.writes)
ClaimsFit p s stage = Unit {0}

-- ---- the store

-- where the store has a session of this stage with these writes
abbrev pub HasSeat : Stage → List Write → Seat → Type 0
HasSeat (Working item Opening) ws seat = (seat ≡ beginning) × (ws ≡ [])
HasSeat (Ending Journal) ws seat = seat ≡ prepared ws
HasSeat (Ending Ready) ws seat = seat ≡ prepared ws
HasSeat (Ending Committing) ws seat = seat ≡ committing ws
HasSeat (Ending RollingBack) ws seat = seat ≡ rolling_back ws
HasSeat (Ending Leaving) ws seat = seat ≡ rolling_back ws
HasSeat stage ws seat = seat ≡ writing ws

-- The store lays a record's writes over those before. The record is right for what was known, and what is known now is behind it.
pub record IsLaid (M : Model) (p : Place) (g : Ground) (c : Shared) (s : ℕ) (standing : Standing) (known : Held) (item : Uttered) (r : TxRecord) : Type 0 where
  pub behind : List Write
  pub seat : c.shelf.seat s ≡ changing behind
  pub adds : Adds r.writes (g.desk s).writes behind
  pub own : AreOwn (needs_at p s) behind
  pub right : IsRight M c.word standing (g.desk s).known (worked_of item r)
  pub guarded : IsGuarded (needs_at p s) (knows known)
  pub agrees : Agrees (knows known) (laid_all behind g.now)

-- A step of the store failed as it laid them: it is unknown how far they came.
pub record IsBroken (c : Shared) (s : ℕ) : Type 0 where
  pub behind : List Write
  pub seat : c.shelf.seat s ≡ broken behind

-- what the laws call its desk is what it knows, and what the store has of it
abbrev pub DeskFits : Model → Place → Ground → Shared → ℕ → Standing → Held → Stage → Type 0
DeskFits M p g c s standing known (Saying item r Changing) = IsLaid M p g c s standing known (uttered_of item) r
DeskFits M p g c s standing known (Saying item r Broken) = IsBroken c s
DeskFits M p g c s standing known stage = ((g.desk s).known ≡ knows known) × HasSeat stage (g.desk s).writes (c.shelf.seat s)

-- ---- the locks

-- no want is open but of this lock
abbrev pub WantsAtMost : Option LockNeed → Option OpenWant → Type 0
WantsAtMost (Some n) opened = IsOf n opened
WantsAtMost None opened = opened ≡ None

-- ---- a session

abbrev pub has_said : Option Transaction → Bool
has_said (Some t) = not (length t.lines == 0)
has_said None = false

abbrev pub IsAtEnd : List Item → Stage → Type 0
IsAtEnd left (Ending Leaving) = left ≡ []
IsAtEnd left stage = Unit {0}

pub record WriterFits (M : Model) (p : Place) (g : Ground) (c : Shared) (s : ℕ) (left : List Item) (w : Writer) : Type 0 where
  pub desk : DeskFits M p g c s w.standing w.known w.stage
  pub spoken : has_said (p.transaction s) ≡ w.spoken
  pub waits : is_nowait (p.transaction s) ≡ not w.waits
  pub stage : StageFits M c.word (needs_at p s) w.standing w.known w.spoken w.stage
  pub wants : WantsAtMost (lock_of w.stage) (opened_of c.locks s)
  pub journal : HasJournal (has_journal w.stage) (needs_of c.locks s)
  pub ends : IsAtEnd left w.stage
  pub claims : ClaimsFit p s w.stage

-- A reader's statement doesn't end its transaction. One that ends its own is worked where something was said before it, and is refused then.
abbrev pub ReadsOn : Bool → Uttered → Type 0
ReadsOn spoken item = (ends_by item ≡ false) × ((ends_its_own item && not spoken) ≡ false)

-- what is copied is named by the statement that began the transaction
abbrev pub ReaderStageFits : Bool → ReaderStage → Type 0
ReaderStageFits spoken look.Between = spoken ≡ true
ReaderStageFits spoken (look.Working item Copying) = (spoken ≡ false) × (is_some (backup_of (uttered_of item)) ≡ true)
ReaderStageFits spoken (look.Working item work) = ReadsOn spoken (uttered_of item)
ReaderStageFits spoken (look.Gathering item n later place) = ReadsOn spoken (uttered_of item)

-- a reader has no lock, and the store has it at the lines at its start, which it copies or not
pub record ReaderFits (p : Place) (g : Ground) (c : Shared) (s : ℕ) (r : Reader) : Type 0 where
  pub known : (g.desk s).known ≡ knows r.known
  pub seat : c.shelf.seat s ≡ seat_of_reader (copies_at r.stage) (g.desk s).start
  pub spoken : has_said (p.transaction s) ≡ r.spoken
  pub needless : needs_at p s ≡ []
  pub stage : ReaderStageFits r.spoken r.stage
  pub wants : opened_of c.locks s ≡ None

abbrev pub PhaseFits : Model → Place → Ground → Shared → ℕ → List Item → Phase → Type 0
PhaseFits M p g c s left Outside = (c.shelf.seat s ≡ outside) × (opened_of c.locks s ≡ None)
PhaseFits M p g c s left Closing = (done_at (c.shelf.seat s) ≡ Some outside) × (opened_of c.locks s ≡ None)
PhaseFits M p g c s left (Writing w) = WriterFits M p g c s left w
PhaseFits M p g c s left (Reading r) = ReaderFits p g c s r
PhaseFits M p g c s left Over = (c.shelf.seat s ≡ outside) × (opened_of c.locks s ≡ None)

-- The store has what a dead session wrote, and whether it died in its commit, for which it has the journal still. It keeps its needs, and its open want.
pub record DeadFits (g : Ground) (c : Shared) (s : ℕ) (x : Phase) : Type 0 where
  pub writes : List Write
  pub seat : c.shelf.seat s ≡ dead (commits_in x) writes
  pub same : commits_in x ≡ true → writes ≡ (g.desk s).writes
  pub flies : commits_in x ≡ true → may_write (needs_of c.locks s) journal_node ≡ true
  pub journal : KeepsTo journal_node (party_of c.locks.parties s)

abbrev pub LifeFits : Model → Place → Ground → Shared → ℕ → List Item → Phase → Life → Type 0
LifeFits M p g c s left x Alive = PhaseFits M p g c s left x
LifeFits M p g c s left x Dead = DeadFits g c s x
LifeFits M p g c s left x Gone = (c.shelf.seat s ≡ outside) × (opened_of c.locks s ≡ None)

-- the committed lines, the moment and the dead are those that are shared
pub record IsGround (g : Ground) (c : Shared) : Type 0 where
  pub now : g.now ≡ c.shelf.now
  pub time : g.time ≡ c.shelf.clock.time
  pub dead : g.dead ≡ c.dead

-- the account tells the same as the locks and the store, and session s fits
pub record Fits (M : Model) (p : Place) (g : Ground) (c : Shared) (s : ℕ) (m : Member) : Type 0 where
  pub ground : IsGround g c
  pub tied : IsTiedTo p c.locks
  pub phase : LifeFits M p g c s m.left m.phase m.life

-- ---- what is known grows

-- What is known more agrees with the lines that the session sees, and is guarded where the lock to read this is got.
pub record Learns (s : ℕ) (h : Shelf) (n : Need) (known new : Held) : Type 0 where
  pub agrees : IsInOrder (seen_by s h) → Agrees (knows known) (seen_by s h) → Agrees (knows new) (seen_by s h)
  pub guarded : (got : List LockNeed) → IsLocked got n → IsGuarded got (knows known) → IsGuarded got (knows new)

-- What is known follows writes.
pub record Follows (writes : List Write) (known new : Held) : Type 0 where
  pub agrees : (all : Lines) → IsInOrder all → Agrees (knows known) all → Agrees (knows new) (laid_all writes all)
  pub guarded : (got : List LockNeed) → AreOwn got writes → IsGuarded got (knows known) → IsGuarded got (knows new)
