-- A want is at no moment.
use Rattle.std.proofs.Common.{ℕ, [], ◌∷◌, ◌++◌, List}
use Rattle.rdb_types.specs.declared.node.Node.{Node}
use Rattle.lock_needs.specs.declared.need.Need.{Need}
use Rattle.rdb_account.specs.Events.{Event}
use Rattle.line_steps.specs.lock_ties.Ties.{wanted_at}
use Rattle.session_states.specs.Steps.{IsAt, AreAt}

pub wants-at : (time s : ℕ) (n : Need) (nodes : List Node) → AreAt time (wanted_at s n nodes)
wants-at time s n [] = tt
wants-at time s n (x ∷ xs) = (tt, wants-at time s n xs)

pub both-at : (time : ℕ) (es fs : List Event) → AreAt time es → AreAt time fs → AreAt time (es ++ fs)
both-at time [] fs a b = b
both-at time (e ∷ es) fs a b = (a.0, both-at time es fs a.1 b)
