-- The parts of the tree as a state.
use Rattle.lock_tree.specs.declared.parts.Parts.{Parts}
use Rattle.lock_tree_laws.specs.Forest.{State}

abbrev pub state_of : Parts → State
state_of p = record { table = p.locks; parties = p.parties.entries; trail = p.trail.items }
