-- The events of a notice that was served.
use Rattle.std.specs.Prelude.{ℕ, List, [], ◌∷◌, Option, Some, None}
use Rattle.rdb_types.specs.declared.node.Node.{Node}
use Rattle.rdb_account.specs.Events.{Event, Demoted}
use Rattle.lock_tree.specs.declared.notice.Demotion.{Demotion}

abbrev pub demoted_by : ℕ → Node → Option Demotion → List Event
demoted_by s node (Some d) = Demoted s node d.from d.to ∷ []
demoted_by s node None = []
