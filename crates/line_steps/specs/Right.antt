-- What is always true of the sessions over lines, and of their account.
use Rattle.std.specs.Prelude.{◌≡◌, ◌≤◌, ℕ, suc, true, false, ◌==◌, List, [], ◌++◌, length, Option, Some, None, slice_get}
use Rattle.rdo_ast.specs.declared.reply.Standing.{Standing}
use Rattle.rdo_ast.specs.Tree.{Uttered}
use Rattle.line_view.specs.declared.writes.Write.{Write}
use Rattle.line_view.specs.Knowledge.{Knowledge, Lines, IsInOrder}
use Rattle.rdb_account.specs.Events.{Event}
use Rattle.rdb_account.specs.Places.{Opening, Place, Transaction, at, is_writer, begins, place}
use Rattle.rdb_account.specs.Legal.{IsLegal, standing_of_reader}
use Rattle.lock_tree_laws.specs.Forest.{no_conflict}
use Rattle.lock_ties.specs.Ties.{needs_at}
use Rattle.line_history.specs.session_jobs.Records.{Model}
use Rattle.line_history.specs.Transactions.{IsWriting, IsReading}
use Rattle.line_steps.specs.Members.{State, outside, writing, reading, ended, fallen, recovered, Member, left_of, life_of}

-- what the engine has of a session: what it knows, and what its transaction wrote
pub record Desk : Type 0 where
  pub known : Knowledge
  pub writes : List Write
  -- the committed lines at its start
  pub start : Lines

-- the committed lines, the desks, the moment, and how many dead await recovery
pub record Ground : Type 0 where
  pub now : Lines
  pub desk : ℕ → Desk
  pub time : ℕ
  pub dead : ℕ

-- the desk of s is another
abbrev pub with_desk : ℕ → Desk → Ground → Ground
with_desk s d g = record g { desk = at s d g.desk }

-- as the transaction of s ends: the committed lines, its desk and the moment are these
abbrev pub at_end : ℕ → Lines → Desk → ℕ → Ground → Ground
at_end s now d time g = record { now = now; desk = at s d g.desk; time = time; dead = g.dead }

abbrev pub with_dead : ℕ → Ground → Ground
with_dead n g = record g { dead = n }

-- as s is recovered
abbrev pub at_recovery : ℕ → Lines → Desk → ℕ → ℕ → Ground → Ground
at_recovery s now d time n g = record { now = now; desk = at s d g.desk; time = time; dead = n }

-- where nothing was said yet in a transaction, the statement under way began it
abbrev pub HasSpoken : Option Uttered → Transaction → Type 0
HasSpoken under t = (length t.lines == 0) ≡ true → (item : Uttered) × (under ≡ Some item) × (begins item ≡ Some t.kind)

pub record Writes (M : Model) (o : Opening) (p : Place) (g : Ground) (s : ℕ) (standing : Standing) (under : Option Uttered) : Type 0 where
  pub transaction : Transaction
  pub is_open : p.transaction s ≡ Some transaction
  pub writes : is_writer transaction.kind ≡ true
  pub spoken : HasSpoken under transaction
  pub remains : (length transaction.lines == 0) ≡ false → is_writer standing ≡ true
  pub is : IsWriting M o.word transaction.got g.now transaction.lines (g.desk s).writes standing (g.desk s).known

pub record Reads (M : Model) (p : Place) (g : Ground) (s : ℕ) (standing : Standing) (under : Option Uttered) : Type 0 where
  pub transaction : Transaction
  pub is_open : p.transaction s ≡ Some transaction
  pub reads : is_writer transaction.kind ≡ false
  pub spoken : HasSpoken under transaction
  pub has_standing : standing_of_reader transaction.lines ≡ standing
  pub is : IsReading M (g.desk s).start transaction.base (g.desk s).known

abbrev pub StandsAs : Model → Opening → Place → Ground → ℕ → List Uttered → State → Type 0
StandsAs M o p g s left outside = p.transaction s ≡ None
StandsAs M o p g s left (writing standing under) = Writes M o p g s standing under
StandsAs M o p g s left (reading standing under) = Reads M p g s standing under
StandsAs M o p g s left ended = (p.transaction s ≡ None) × (left ≡ [])
StandsAs M o p g s left (fallen state) = StandsAs M o p g s left state
StandsAs M o p g s left recovered = p.transaction s ≡ None

-- what it was answered and what is left are its script, and it stands as its place has it
pub record Stands (M : Model) (o : Opening) (p : Place) (g : Ground) (s : ℕ) (m : Member) : Type 0 where
  pub answered : List Uttered
  pub script : o.script s ≡ answered ++ left_of m
  pub total : length (o.script s) ≡ m.total
  pub count : p.said s ≡ length answered
  pub lives : p.life s ≡ life_of m.state
  pub state : StandsAs M o p g s m.left m.state

-- what is true of the place and of what the engine has
pub record IsFit (M : Model) (p : Place) (g : Ground) : Type 0 where
  pub dead : p.frozen ≡ g.dead
  pub past : p.moment ≤ g.time
  pub order : IsInOrder g.now
  pub stands : M g.now p.tables
  pub apart : (a b : ℕ) → (a == b) ≡ false → no_conflict (needs_at p a) (needs_at p b) ≡ true

-- The account is legal and says the scripts; the committed lines are sound and stand for the tables of its commits; needs of two sessions
-- never conflict; each session stands as the account leaves it.
pub record AreRight (M : Model) (o : Opening) (g : Ground) (members : List Member) (events : List Event) : Type 0 where
  pub legal : IsLegal o events
  pub fit : IsFit M (place o events) g
  pub each : (i : ℕ) (m : Member) → slice_get members i ≡ Some m → Stands M o (place o events) g (suc i) m
