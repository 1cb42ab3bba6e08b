-- Only owners hold or ask a lock, whatever changes.
use Rattle.std.proofs.Common.{◌≡◌, true, false, sym, subst}
use Rattle.std.specs.Prelude.{if◌then◌else◌}
use Rattle.rdb_types.specs.declared.node.Node.{Node}
use Rattle.vms_queues.specs.Queues.{Queues, no_queues}
use Rattle.vms_queues.specs.Owners.{HasOwners}
use Rattle.vms_queues.proofs.Owners.{no_queues-owners}
use Rattle.vms_locks.specs.Table.{Table, same_node, queues_at, OnlyOwners, ChangesAt}

pub owners-changed : (old new : Table) (node : Node) (q : Queues) → ChangesAt old new node q → OnlyOwners (queues_at old) → HasOwners q → OnlyOwners (queues_at new)
owners-changed old new node q changes owners here n =
    subst (λ (r : Queues). HasOwners r) (sym (changes n)) (elim (same_node node n) as (λ b. HasOwners (if b then q else queues_at old n)) [ true ↦ here | false ↦ owners n ])

pub owners-empty : (t : Table) → ((n : Node) → queues_at t n ≡ no_queues) → OnlyOwners (queues_at t)
owners-empty t empty n = subst (λ (q : Queues). HasOwners q) (sym (empty n)) no_queues-owners
