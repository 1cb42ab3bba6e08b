-- Who sleeps: its open want is queued, and waits for another.
use Rattle.std.specs.Prelude.{◌≡◌, ℕ, Bool, false, Option, Some, None}
use Rattle.lock_needs.specs.Needs.{Holding}
use Rattle.lock_needs.specs.Wants.{sleeps_at}
use Rattle.lock_needs.specs.declared.party.OpenWant.{OpenWant}
use Rattle.lock_tree_laws.specs.Forest.{State, opened_of}
use Rattle.lock_tree_laws.specs.LockTable.{granted_at}
use Rattle.lock_tree_laws.specs.Wanted.{SleepsFor}

-- the open want is queued at the node that it has come to
abbrev pub is_queued : Holding → Option OpenWant → Bool
is_queued held None = false
is_queued held (Some w) = sleeps_at held (Some w) w.here

abbrev pub is_sleeping : State → ℕ → Bool
is_sleeping s owner = is_queued (granted_at s.table owner) (opened_of s owner)

-- the owner sleeps, and waits for t
pub record IsBlockedBy (s : State) (owner t : ℕ) : Type 0 where
  pub want : OpenWant
  pub is_open : opened_of s owner ≡ Some want
  pub sleeps : SleepsFor s owner want t
