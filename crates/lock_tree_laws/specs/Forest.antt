-- The tree's state: the lock table, the owners with their needs and open wants, and where wants were asked.
use Rattle.std.specs.Prelude.{◌≡◌, ℕ, ◌≤◌, Bool, true, false, not, ◌&&◌, ◌==◌, nat_eq, if◌then◌else◌, is_some, unwrap_or, Option, Some, None, List, [], length}
use Rattle.std.specs.List.{list_any, list_all, filter, sum_by, range_with_len}
use Rattle.std.specs.Map.{lookup}
use Rattle.vms_queues.specs.Owners.{is_owner}
use Rattle.vms_locks.specs.Table.{Table}
use Rattle.rdb_types.specs.declared.node.Node.{Node}
use Rattle.lock_needs.specs.declared.need.Need.{Need}
use Rattle.lock_needs.specs.declared.party.OpenWant.{OpenWant}
use Rattle.lock_needs.specs.declared.party.Asked.{Asked}
use Rattle.lock_needs.specs.Party.{Party}
use Rattle.lock_needs.specs.Nodes.{same_node}
use Rattle.lock_needs.specs.Needs.{conflict}
use Rattle.lock_tree_laws.specs.LockTable.{HasIntents}
use Rattle.lock_tree_laws.specs.Parties.{IsKept, was_asked}
use Rattle.lock_tree_laws.specs.Order.{StandsInOrder, opened_asks}
use Rattle.lock_needs.specs.contracts.need.NeedPartialEq.TheImpl as need_eq

abbrev pub Parties : Type 0
Parties = List (ℕ × Party)

-- an owner that has and wants nothing
abbrev pub idle : Party
idle = record { needs = []; opened = None }

abbrev pub party_of : Parties → ℕ → Party
party_of ps owner = unwrap_or (lookup (nat_eq owner) ps) idle

-- the need is one of these
abbrev pub has_need : List Need → Need → Bool
has_need ws w = list_any (λ v. (need_eq.ghosts).eq v w) ws

abbrev pub has_party : Parties → ℕ → Bool
has_party ps owner = is_some (lookup (nat_eq owner) ps)

-- each other owner has and wants what it did
abbrev pub KeepsParties : ℕ → Parties → Parties → Type 0
KeepsParties owner old new = (u : ℕ) → (u == owner) ≡ false → party_of new u ≡ party_of old u

abbrev pub all_owners : List ℕ
all_owners = range_with_len 1 16

-- how many places in the table the end of the open want may take: one for each need that has to be taken lower
abbrev pub places_of : Party → ℕ
places_of p = if is_some p.opened then length p.needs else 0

-- how many the ends of all open wants may take
abbrev pub places_kept : Parties → ℕ
places_kept ps = sum_by (λ u. places_of (party_of ps u)) all_owners

-- the entries of the owner
abbrev pub asks_of : List Asked → ℕ → List Asked
asks_of trail owner = filter (λ a. a.owner == owner) trail

-- the entries of owners whose wants are open
abbrev pub open_asks : Parties → List Asked → List Asked
open_asks ps trail = opened_asks (party_of ps) trail

-- the owner's last want was asked at the node
abbrev pub is_asked_at : List Asked → ℕ → Node → Bool
is_asked_at trail owner n = list_any (λ a. (a.owner == owner) && same_node a.node n) trail

-- the entries of an owner with an open want name just the nodes at which this was asked
abbrev pub HasAsks : List Asked → ℕ → Option OpenWant → Type 0
HasAsks trail owner None = Unit {0}
HasAsks trail owner (Some w) = (n : Node) → is_asked_at trail owner n ≡ was_asked w n

-- each other owner was asked for where it was
abbrev pub KeepsAsks : ℕ → List Asked → List Asked → Type 0
KeepsAsks owner old new = (u : ℕ) (n : Node) → (u == owner) ≡ false → is_asked_at new u n ≡ is_asked_at old u n

pub record State : Type 0 where
  pub table : Table
  pub parties : Parties
  -- the nodes at which the last want of each owner was asked, open or ended, in the order of asking
  pub trail : List Asked

abbrev pub opened_of : State → ℕ → Option OpenWant
opened_of s owner = (party_of s.parties owner).opened

-- What is true of the tree at every moment.
pub record IsWhole (s : State) : Type 0 where
  pub intents : HasIntents s.table
  pub kept : (owner : ℕ) → IsKept s.table owner (party_of s.parties owner)
  pub asks : (owner : ℕ) → HasAsks s.trail owner (party_of s.parties owner).opened
  -- the locks are live; who stands in the way of another does so by what it must keep, and those that wait stand in the order of asking
  pub in_order : StandsInOrder s.table (party_of s.parties) (open_asks s.parties s.trail)
  -- who has a want open is an owner
  pub owners : (u : ℕ) → is_owner u ≡ false → (party_of s.parties u).opened ≡ None
  -- each open want can end with no memory taken
  pub room : places_kept s.parties ≤ s.table.spare

-- no need of the first conflicts with one of the second
abbrev pub no_conflict : List Need → List Need → Bool
no_conflict ws vs = list_all (λ w. list_all (λ v. not (conflict w v)) vs) ws

-- needs of two owners never conflict
abbrev pub NeedsAreApart : State → Type 0
NeedsAreApart s = (o u : ℕ) → (u == o) ≡ false → no_conflict (party_of s.parties o).needs (party_of s.parties u).needs ≡ true
