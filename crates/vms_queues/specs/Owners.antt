-- The owners: the numbers from 1 to 16.
use Rattle.std.specs.Prelude.{◌≡◌, ℕ, Bool, true, ◌&&◌, nat_le, List}
use Rattle.std.specs.List.{list_all}
use Rattle.vms_queues.specs.declared.held.Held.{Held}
use Rattle.vms_queues.specs.Queues.{Queues}

abbrev pub is_owner : ℕ → Bool
is_owner n = nat_le 1 n && nat_le n 16

-- each entry is an owner's
abbrev pub are_owners : List Held → Bool
are_owners hs = list_all (λ h. is_owner h.owner) hs

-- only owners hold or ask a lock
pub record HasOwners (q : Queues) : Type 0 where
  pub granted : are_owners q.granted ≡ true
  pub converting : are_owners q.converting ≡ true
  pub waiting : are_owners q.waiting ≡ true
