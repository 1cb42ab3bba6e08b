-- Room for what a call may come to hold and ask, taken before it changes anything.
use Rattle.std.specs.Prelude.{ℕ, ◌+◌, ◌*◌, ◌≤◌, length, vec_len, vec_capacity}
use Rattle.lock_tree.specs.declared.parts.Parts.{Parts}
use Rattle.lock_tree.specs.declared.steps.Step.{Step}
use Rattle.lock_tree.specs.declared.steps.Step.TheVariants.{Down, Ends}
use Rattle.lock_tree_laws.specs.Forest.{places_kept}
use Rattle.lock_tree.specs.States.{state_of}
use Rattle.lock_tree_laws.specs.Wanted.{needs_of}

-- There is room for so many more nodes of the owner's want, beside what is kept for the ends of open wants: in the table for its
-- lock there and for all that its needs may take one level lower, in the trail for its entry.
pub record HasRoomFor (nodes : ℕ) (owner : ℕ) (p : Parts) : Type 0 where
  pub table : nodes * (length (needs_of (state_of p) owner) + 1) + places_kept p.parties.entries ≤ p.locks.spare
  pub trail : vec_len p.trail + nodes ≤ vec_capacity p.trail

-- there is room for all nodes on the way of a want that the owner may open, and for its end
pub record HasRoomToOpen (owner : ℕ) (p : Parts) : Type 0 where
  pub table : 4 * (length (needs_of (state_of p) owner) + 1) + (places_kept p.parties.entries + length (needs_of (state_of p) owner)) ≤ p.locks.spare
  pub trail : vec_len p.trail + 4 ≤ vec_capacity p.trail

-- after a step down there is room for one node less
abbrev pub LeavesRoom : ℕ → Parts → Parts → Step → Type 0
LeavesRoom owner old new (Down v) = (nodes : ℕ) → HasRoomFor (nodes + 1) owner old → HasRoomFor nodes owner new
LeavesRoom owner old new (Ends answer) = Unit {0}

-- after a step down there is room for as many nodes as before
abbrev pub StaysRoomy : ℕ → Parts → Parts → Step → Type 0
StaysRoomy owner old new (Down v) = (nodes : ℕ) → HasRoomFor nodes owner old → HasRoomFor nodes owner new
StaysRoomy owner old new (Ends answer) = Unit {0}
