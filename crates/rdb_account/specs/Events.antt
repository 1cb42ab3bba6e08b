-- The events of a run as plain data.
use Rattle.std.specs.Prelude.{ℕ, Bool, List}
use Rattle.lock_needs.specs.rdb_types.declared.keys.Dbkey.{Dbkey}
use Rattle.rdo_ast.specs.declared.reply.Reply.{Reply}
use Rattle.rdo_ast.specs.declared.reply.Standing.{Standing}
use Rattle.rdo_ast.specs.Tree.{Uttered}
use Rattle.rdo_ast.specs.Views.{uttered_of}
use Rattle.lock_needs.specs.vms_queues.declared.lock_mode.Mode.{Mode}
use Rattle.lock_needs.specs.declared.need.Need.{Need}
use Rattle.lock_needs.specs.rdb_types.declared.node.Node.{Node}
use Rattle.lock_needs.specs.rdb_types.declared.session.Cause.{Cause}
use Rattle.rdb_account.specs.declared.event.Event.{Event as Declared}
use Rattle.rdb_account.specs.declared.event.Event.TheVariants as e

-- The first number of each is the session's.
pub data Event : Type 0 where
  Began : ℕ → Standing → Event
  -- the node is the one at which the want is asked
  Wanted : ℕ → Need → Node → Event
  Got : ℕ → Need → Event
  Demoted : ℕ → Node → (from to : Mode) → Event
  -- the item, the Dbkeys that its rows were given, and the reply
  Said : ℕ → Uttered → List Dbkey → Reply → Event
  Committed : ℕ → (moment : ℕ) → Event
  RolledBack : ℕ → Event
  Died : ℕ → Cause → Event
  Recovered : ℕ → (is_committed : Bool) → (moment : ℕ) → Event

abbrev pub need : Node → Mode → Need
need n m = record { node = n; mode = m }

abbrev pub event_of : Declared → Event
event_of (e.Began s kind) = Began s.number kind
event_of (e.Wanted s n m asked) = Wanted s.number (need n m) asked
event_of (e.Got s n m) = Got s.number (need n m)
event_of (e.Demoted s n from to) = Demoted s.number n from to
event_of (e.Said s item choices reply) = Said s.number (uttered_of item) choices reply
event_of (e.Committed s moment) = Committed s.number moment.number
event_of (e.RolledBack s) = RolledBack s.number
event_of (e.Died s cause) = Died s.number cause
event_of (e.Recovered s committed moment) = Recovered s.number committed moment.number
