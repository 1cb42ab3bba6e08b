-- What a lock must keep for the needs of its owner.
use Rattle.std.specs.Prelude.{Bool, not, ◌&&◌, ◌||◌, if◌then◌else◌, List, [], ◌∷◌}
use Rattle.std.specs.List.{list_all}
use Rattle.rdb_types.specs.declared.node.Node.{Node}
use Rattle.vms_queues.specs.declared.lock_mode.Mode.{Mode}
use Rattle.vms_queues.specs.declared.lock_mode.Mode.TheVariants.{NL}
use Rattle.vms_queues.specs.Modes.{at_most, least_above, intent}
use Rattle.lock_needs.specs.declared.need.Need.{Need}
use Rattle.lock_needs.specs.Nodes.{same_node, contains}
use Rattle.lock_needs.specs.Needs.{Holding, covered_above}

-- the intents that needs under the node ask there, joined
abbrev pub below : List Need → Node → Mode
below [] n = NL
below (w ∷ ws) n = if contains n w.node then least_above (intent w.mode) (below ws n) else below ws n

-- the modes of needs on the node, joined
abbrev pub needed_on : List Need → Node → Mode
needed_on [] n = NL
needed_on (w ∷ ws) n = if same_node n w.node then least_above w.mode (needed_on ws n) else needed_on ws n

-- the modes of needs on the node that no lock above it covers, joined
abbrev pub needed_uncovered : Holding → List Need → Node → Mode
needed_uncovered held [] n = NL
needed_uncovered held (w ∷ ws) n = if same_node n w.node && not (covered_above held w) then least_above w.mode (needed_uncovered held ws n) else needed_uncovered held ws n

-- what the owner has to keep at the node: for its needs, and for the mode that its open want was granted there
abbrev pub must_keep : List Need → Mode → Node → Mode
must_keep ws opened n = least_above opened (least_above (below ws n) (needed_on ws n))

-- what is kept at the node once the want has ended
abbrev pub after_want : Holding → List Need → Node → Mode
after_want held ws n = least_above (below ws n) (needed_uncovered held ws n)

-- the lock is stronger than what it has to keep
abbrev pub is_excess : Mode → Mode → Bool
is_excess held keep = at_most keep held && not (at_most held keep)

-- The need is provided for where the lock at the node comes down to the mode: below, its intent is kept; on the node itself, it or what covers it from above.
abbrev pub allows : Holding → Node → Mode → Need → Bool
allows held n keep w = (not (contains n w.node) || at_most (intent w.mode) keep) && (not (same_node n w.node) || (at_most w.mode keep || covered_above held w))

-- a mode that may be kept at the node
abbrev pub is_enough : Holding → List Need → Node → Mode → Bool
is_enough held ws n keep = list_all (allows held n keep) ws
