-- How many places are spare in the lock table.
use Rattle.std.specs.Prelude.{ℕ, ◌+◌, ◌≤◌, Bool, ◌&&◌}
use Rattle.vms_locks.specs.Table.{Table}
use Rattle.rdb_types.specs.declared.node.Level.TheVariants.{Line}
use Rattle.lock_needs.specs.declared.party.OpenWant.{OpenWant}
use Rattle.lock_needs.specs.Nodes.{same_node, is_above}

-- there are as many places spare in the table
abbrev pub HasSpare : ℕ → Table → Type 0
HasSpare places t = places ≤ t.spare

-- at most so many spare places were used
abbrev pub UsesSpare : ℕ → Table → Table → Type 0
UsesSpare places old new = old.spare ≤ new.spare + places

-- the want has come to its need's own node, and that contains others
abbrev pub is_over_others : OpenWant → Bool
is_over_others w = is_above w.here.level Line && same_node w.here w.need.node
