-- What is always true of all sessions.
use Rattle.std.specs.Prelude.{◌≡◌, ◌≤◌, ℕ, suc, true, List, [], length, map, Some, slice_get}
use Rattle.rdo_ast.specs.declared.syntax.Item.{Item}
use Rattle.rdo_ast.specs.Views.{uttered_of}
use Rattle.rdb_account.specs.Events.{Event}
use Rattle.rdb_account.specs.Places.{Opening, place}
use Rattle.line_steps.specs.session_jobs.Records.{Model}
use Rattle.line_view.specs.declared.writes.Write.{Write}
use Rattle.line_store.specs.Seats.{outside, in_flight}
use Rattle.lock_tree_laws.specs.Forest.{party_of}
use Rattle.lock_tree_laws.specs.Wanted.{needs_of}
use Rattle.stepped_jobs.specs.kept_apart.Guards.{may_write}
use Rattle.store_counts.specs.Counts.{IsCounted, IsCountedFrom}
use Rattle.line_steps.specs.lock_ties.Ties.{IsTiedTo}
use Rattle.line_steps.specs.Right.{Ground, AreRight}
use Rattle.line_steps.specs.Images.{journal_node}
use Rattle.journal_waits.specs.Holders.{KeepsTo}
use Rattle.session_states.specs.declared.stage.Member.{Member}
use Rattle.session_states.specs.declared.stage.Phase.TheVariants.{Outside}
use Rattle.session_states.specs.States.{seen, session}
use Rattle.session_states.specs.Shared.{Shared}
use Rattle.session_states.specs.Fits.{IsGround, LifeFits}

-- The account is legal and each session stands as it has it; the locks and the store tell the same; each fits. The store is within the account's counts. Whose commit is under way has the journal; who has it wants nothing.
pub record AreKept (M : Model) (o : Opening) (c : Shared) (members : List Member) (events : List Event) : Type 0 where
  pub ground : Ground
  pub word : o.word ≡ c.word
  pub right : AreRight M o ground (map seen members) events
  pub is_ground : IsGround ground c
  pub tied : IsTiedTo (place o events) c.locks
  pub phases : (i : ℕ) (m : Member) → slice_get members i ≡ Some m → LifeFits M (place o events) ground c (suc i) m.left m.phase m.life
  pub counted : IsCounted o (place o events) c.shelf
  pub flies : (t : ℕ) (ws : List Write) → in_flight (c.shelf.seat t) ≡ Some ws → may_write (needs_of c.locks t) journal_node ≡ true
  pub journal : (t : ℕ) → KeepsTo journal_node (party_of c.locks.parties t)

-- ---- the opening

-- What is shared as an account opens: the committed lines stand for its tables, nobody is dead, nobody has or wants a lock, and the store has taken nothing but what the opening image has, for no commit either.
pub record IsOpened (M : Model) (o : Opening) (c : Shared) : Type 0 where
  pub word : o.word ≡ c.word
  pub stands : M c.shelf.now o.tables
  pub past : o.moment ≤ c.shelf.clock.time
  pub dead : c.dead ≡ 0
  pub parties : c.locks.parties ≡ []
  pub trail : c.locks.trail ≡ []
  pub counted : IsCountedFrom o c.shelf

-- A session that has said nothing of its script.
pub record IsFresh (o : Opening) (c : Shared) (s : ℕ) (m : Member) : Type 0 where
  pub left : List Item
  pub all : ℕ
  pub is : m ≡ session left all Outside
  pub script : o.script s ≡ map uttered_of left
  pub total : length (map uttered_of left) ≡ all
  pub seat : c.shelf.seat s ≡ outside
