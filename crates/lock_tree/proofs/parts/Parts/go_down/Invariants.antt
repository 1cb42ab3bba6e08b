use Rattle.std.proofs.Common.{◌≡◌, ◌-◌, ◌+◌, ◌≤◌, length, Some}
use Rattle.lock_tree_laws.specs.Parties.{unasked}
use Rattle.lock_tree_laws.specs.Forest.{IsWhole, KeepsParties, opened_of}
use Rattle.lock_tree_laws.specs.Progress.{NeverRises}
use Rattle.lock_tree.specs.States.{state_of}
use Rattle.lock_tree_laws.specs.Wanted.{needs_of}
use Rattle.lock_tree_laws.specs.Rule.{GoesDown}
use Rattle.lock_tree.specs.Inner.Rooms.{HasRoomFor}
use Rattle.lock_tree_laws.specs.Room.{depth}
use Rattle.lock_tree.proofs.AtOnce.{EndsHere}
use Rattle.lock_tree.proofs.parts.Parts.go_down.Given as goal

abbrev pub invariant-loop-next : goal.invariant-loop-next
invariant-loop-next l =
    IsWhole (state_of l.self) × (opened_of (state_of l.self) l.owner ≡ Some (unasked l.want)) × (l.want.need ≡ l.fn.want.need)
    × (needs_of (state_of l.self) l.owner ≡ needs_of (state_of l.fn.self) l.owner) × KeepsParties l.owner l.fn.self.parties.entries l.self.parties.entries
    × HasRoomFor (4 - depth l.want.here.level) l.owner l.self × NeverRises l.owner (state_of l.fn.self) (state_of l.self)
    -- where the want can end at once, this is the first step
    × (EndsHere l.owner l.fn.self l.fn.want → (l.self ≡ l.fn.self) × (l.want ≡ l.fn.want))
    -- each node that was asked lies above its own
    × (length l.self.trail.items + (4 - depth l.want.here.level) ≤ length l.fn.self.trail.items + (4 - depth l.fn.want.here.level))
    × GoesDown l.owner l.fn.want.need l.fn.wait (λ last new. new.entries ≡ last.entries) (state_of l.fn.self) (state_of l.self)

abbrev pub decreases-loop-next : goal.decreases-loop-next
decreases-loop-next l = 3 - depth l.want.here.level
