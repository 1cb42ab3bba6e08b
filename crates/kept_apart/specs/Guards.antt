-- What an owner's needs keep others from writing, and what they let it write.
use Rattle.std.specs.Prelude.{◌≡◌, Bool, true, not, ◌&&◌, List}
use Rattle.std.specs.List.{list_any, AllByRecursion}
use Rattle.rdb_types.specs.declared.keys.Dbkey.{Dbkey}
use Rattle.rdb_types.specs.declared.node.Level.TheVariants.{Line}
use Rattle.rdb_types.specs.declared.node.Node.{Node}
use Rattle.vms_queues.specs.declared.lock_mode.Mode.{Mode}
use Rattle.vms_queues.specs.declared.lock_mode.Mode.TheVariants.{CR, CW}
use Rattle.vms_queues.specs.Modes.{may_share}
use Rattle.lock_needs.specs.declared.need.Need.{Need}
use Rattle.lock_needs.specs.Nodes.{is_on}
use Rattle.line_view.specs.declared.writes.Write.{Write}

abbrev pub line_node : Dbkey → Node
line_node key = record { level = Line; area = key.area; at = key.page; line = key.line }

-- beside this mode nobody may announce writes further down: PR, PW and EX
abbrev pub is_strong : Mode → Bool
is_strong m = not (may_share m CW)

-- beside this mode nobody may announce reads further down: EX
abbrev pub is_alone : Mode → Bool
is_alone m = not (may_share m CR)

-- a need on the node or above it that lets nobody else write there
abbrev pub guards : Node → Need → Bool
guards n w = is_on w.node n && is_strong w.mode

abbrev pub is_guarded : List Need → Node → Bool
is_guarded got n = list_any (guards n) got

-- a need on the node or above it that lets its owner write there
abbrev pub opens : Node → Need → Bool
opens n w = is_on w.node n && is_alone w.mode

abbrev pub may_write : List Need → Node → Bool
may_write got n = list_any (opens n) got

-- each write is on a line that the owner of these needs may write
abbrev pub AreOwn : List Need → List Write → Type 0
AreOwn got = AllByRecursion (λ w. may_write got (line_node w.key) ≡ true)
