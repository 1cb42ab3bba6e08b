-- What is true of an owner's needs and open want, and of the lock table.
use Rattle.std.specs.Prelude.{◌≡◌, ℕ, Bool, true, false, ◌&&◌, ◌||◌, ◌==◌, Some, None, List, ◌⊎◌}
use Rattle.std.specs.List.{list_all, list_any}
use Rattle.rdb_types.specs.declared.node.Node.{Node}
use Rattle.vms_queues.specs.declared.lock_mode.Mode.{Mode}
use Rattle.vms_queues.specs.declared.lock_mode.Mode.TheVariants.{NL}
use Rattle.vms_queues.specs.Modes.{at_most, least_above, intent}
use Rattle.vms_locks.specs.Table.{Table}
use Rattle.lock_needs.specs.declared.need.Need.{Need}
use Rattle.lock_needs.specs.declared.party.OpenWant.{OpenWant}
use Rattle.lock_needs.specs.Party.{Party}
use Rattle.lock_needs.specs.Nodes.{same_node, contains, is_on}
use Rattle.lock_needs.specs.Needs.{Holding, all_covered, is_plain}
use Rattle.lock_needs.specs.Wants.{mode_for, opened_at, sleeps_at, kept_at, earned_at, IsOnWay}
use Rattle.lock_tree_laws.specs.LockTable.{granted_at, sought_at}

-- the want was asked at the node
abbrev pub was_asked : OpenWant → Node → Bool
was_asked w n = contains n w.here || (same_node n w.here && w.is_asked)

-- some need is on the node or below it
abbrev pub is_needed : List Need → Node → Bool
is_needed ws n = list_any (λ w. is_on n w.node) ws

-- a lock of this mode stands on or above a need, or where the open want was granted it
abbrev pub HasReason : Holding → Party → Node → Mode → Type 0
HasReason held p n mode = (mode ≡ NL) ⊎ ((at_most (opened_at held p.opened n) NL ≡ false) ⊎ (is_needed p.needs n ≡ true))

-- What is true at every moment of an owner's needs and open want, what it holds and what it asks. At the nodes of the test more
-- may be held than is earned.
pub record IsKeptBut (but : Node → Bool) (held sought : Holding) (p : Party) : Type 0 where
  -- each need is covered
  pub covered : all_covered held p.needs ≡ true
  pub plain : list_all is_plain p.needs ≡ true
  pub way : IsOnWay p.opened
  -- an open want has been granted its mode at each node above the one that it has come to
  pub granted : (n : Node) → at_most (opened_at held p.opened n) (held n) ≡ true
  -- it has a queued request nowhere but where it sleeps, and there for the least mode that joins its lock and the want
  pub awake : (n : Node) → sleeps_at held p.opened n ≡ false → sought n ≡ held n
  pub asleep : (w : OpenWant) → p.opened ≡ Some w → sleeps_at held (Some w) w.here ≡ true → sought w.here ≡ least_above (held w.here) (mode_for w.need w.here)
  -- where the open want was asked, locks are no stronger than they have to be
  pub exact : (n : Node) (w : OpenWant) → p.opened ≡ Some w → was_asked w n ≡ true → at_most (held n) (kept_at held p n) ≡ true
  -- intents are earned
  pub earned : (n : Node) → but n ≡ false → at_most (intent (held n)) (earned_at held p n) ≡ true
  -- no lock stands without a reason
  pub no_stray : (n : Node) → but n ≡ false → HasReason held p n (held n)

abbrev pub nowhere : Node → Bool
nowhere n = false

abbrev pub IsKept : Table → ℕ → Party → Type 0
IsKept t owner = IsKeptBut nowhere (granted_at t owner) (sought_at t owner)

-- what was true of each other owner is true still
abbrev pub KeepsOthers : ℕ → Table → Table → Type 0
KeepsOthers owner old new = (u : ℕ) (q : Party) → (u == owner) ≡ false → IsKept old u q → IsKept new u q

-- an owner with these needs, of which this want is open
abbrev pub wanting : List Need → OpenWant → Party
wanting ws w = record { needs = ws; opened = Some w }

-- an owner with these needs and no open want
abbrev pub resting : List Need → Party
resting ws = record { needs = ws; opened = None }

-- the want, as it comes to its node
abbrev pub unasked : OpenWant → OpenWant
unasked w = record w { is_asked = false }

-- the want, granted at the node
abbrev pub asked_at : OpenWant → Node → OpenWant
asked_at w n = record w { here = n; is_asked = true }
