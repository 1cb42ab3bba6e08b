-- Open wants: what a want has been granted, and what its owner must keep.
use Rattle.std.specs.Prelude.{◌≡◌, Bool, true, false, not, ◌&&◌, ◌||◌, if◌then◌else◌, Option, Some, None, List, [], ◌∷◌}
use Rattle.rdb_types.specs.declared.node.Node.{Node}
use Rattle.vms_queues.specs.declared.lock_mode.Mode.{Mode}
use Rattle.vms_queues.specs.declared.lock_mode.Mode.TheVariants.{NL}
use Rattle.vms_queues.specs.Modes.{at_most, least_above, intent}
use Rattle.lock_needs.specs.declared.need.Need.{Need}
use Rattle.lock_needs.specs.declared.party.OpenWant.{OpenWant}
use Rattle.lock_needs.specs.Party.{Party}
use Rattle.lock_needs.specs.Nodes.{same_node, contains, is_on}
use Rattle.lock_needs.specs.Needs.{Holding}
use Rattle.lock_needs.specs.Keeping.{must_keep}

-- the mode that a want takes at a node on its way
abbrev pub mode_for : Need → Node → Mode
mode_for w n = if same_node n w.node then w.mode else intent w.mode

-- The open want has been granted its mode at the node: above where it has come to, or there, where it was asked and the mode is held.
abbrev pub has_granted : Holding → OpenWant → Node → Bool
has_granted held w n = contains n w.here || (same_node n w.here && (w.is_asked && at_most (mode_for w.need n) (held n)))

-- the mode that the open want has been granted at the node; NL where none
abbrev pub opened_at : Holding → Option OpenWant → Node → Mode
opened_at held None n = NL
opened_at held (Some w) n = if has_granted held w n then mode_for w.need n else NL

-- the open want was asked at this node, and its mode is not held there: it is queued
abbrev pub sleeps_at : Holding → Option OpenWant → Node → Bool
sleeps_at held None n = false
sleeps_at held (Some w) n = same_node n w.here && (w.is_asked && not (at_most (mode_for w.need n) (held n)))

-- the least mode that a notice leaves the party at the node
abbrev pub kept_at : Holding → Party → Node → Mode
kept_at held p n = must_keep p.needs (opened_at held p.opened n) n

-- the intents of needs on the node and below, joined
abbrev pub intents_on : List Need → Node → Mode
intents_on [] n = NL
intents_on (w ∷ ws) n = if is_on n w.node then least_above (intent w.mode) (intents_on ws n) else intents_on ws n

-- what a lock's intent is earned by: needs on the node and below, and the open want
abbrev pub earned_at : Holding → Party → Node → Mode
earned_at held p n = least_above (intent (opened_at held p.opened n)) (intents_on p.needs n)

-- the want goes down on its own way
abbrev pub IsOnWay : Option OpenWant → Type 0
IsOnWay None = Unit {0}
IsOnWay (Some w) = is_on w.here w.need.node ≡ true
