-- How far open wants have to go, and how many locks are stronger than they have to be: what falls as notices are served and wants
-- go on.
use Rattle.std.specs.Prelude.{◌≡◌, ℕ, Bool, true, false, ◌&&◌, ◌==◌, ◌+◌, ◌*◌, ◌-◌, ◌<◌, ◌⊎◌, if◌then◌else◌, Option, Some, None, List, [], ◌∷◌}
use Rattle.std.specs.List.{list_any, sum_by, count_by}
use Rattle.rdb_types.specs.declared.node.Level.{Level}
use Rattle.rdb_types.specs.declared.node.Level.TheVariants.{Area, Range, Page, Line}
use Rattle.rdb_types.specs.declared.node.Node.{Node}
use Rattle.vms_queues.specs.Modes.{at_most}
use Rattle.vms_locks.specs.Table.{Table}
use Rattle.lock_needs.specs.declared.need.Need.{Need}
use Rattle.lock_needs.specs.declared.party.OpenWant.{OpenWant}
use Rattle.lock_needs.specs.Party.{Party}
use Rattle.lock_needs.specs.Nodes.{same_node, is_above, on_way, is_on}
use Rattle.lock_needs.specs.Needs.{Holding}
use Rattle.lock_needs.specs.Keeping.{is_excess}
use Rattle.lock_needs.specs.Wants.{mode_for, kept_at}
use Rattle.lock_tree_laws.specs.LockTable.{granted_at}
use Rattle.lock_tree_laws.specs.declared.answer.Want.{Want}
use Rattle.lock_tree_laws.specs.declared.answer.Want.TheVariants.{NoticeTo, Asleep}
use Rattle.lock_tree_laws.specs.Forest.{State, KeepsParties, opened_of, party_of}
use Rattle.lock_tree_laws.specs.Order.{MakesWay}
use Rattle.lock_tree_laws.specs.Room.{depth}

-- ---- how far a want has to go

-- the want's mode at the node that it has come to is held
abbrev pub has_mode : Holding → OpenWant → Bool
has_mode held w = at_most (mode_for w.need w.here) (held w.here)

-- what an open want has before it at the node that it has come to: to ask there, to be granted its mode, to go on
abbrev pub steps_here : Holding → OpenWant → ℕ
steps_here held w = if w.is_asked then (if has_mode held w then 1 else 2) else 3

-- what it has before it in all, three steps at each node
abbrev pub steps_left : Holding → OpenWant → ℕ
steps_left held w = 3 * (depth w.need.node.level - depth w.here.level) + steps_here held w

abbrev pub steps_for : Holding → Option OpenWant → ℕ
steps_for held None = 0
steps_for held (Some w) = steps_left held w

abbrev pub steps_of : State → ℕ → ℕ
steps_of s owner = steps_for (granted_at s.table owner) (opened_of s owner)

-- ---- how many locks are stronger than they have to be

-- the party's lock at the node is stronger than it has to be
abbrev pub is_spare : Holding → Party → Node → Bool
is_spare held p n = is_excess (held n) (kept_at held p n)

-- at the node of this level, where the need lies under it or on it, the lock is stronger than it has to be
abbrev pub is_spare_over : Holding → Party → Level → Need → Bool
is_spare_over held p level w =
    if is_above level w.node.level then is_spare held p (on_way level w.node) else ((depth level == depth w.node.level) && is_spare held p w.node)

-- how many of the owner's needs lie under or on a lock of this level that is stronger than it has to be
abbrev pub spares_of : State → Level → ℕ → ℕ
spares_of s level owner = count_by (is_spare_over (granted_at s.table owner) (party_of s.parties owner) level) (party_of s.parties owner).needs

-- ---- the measure

-- the first list is the less where they first differ
abbrev pub IsLess : List ℕ → List ℕ → Type 0
IsLess (x ∷ xs) (y ∷ ys) = (x < y) ⊎ ((x ≡ y) × IsLess xs ys)
IsLess xs ys = ⊥

abbrev pub IsAtMost : List ℕ → List ℕ → Type 0
IsAtMost xs ys = (xs ≡ ys) ⊎ IsLess xs ys

-- Of these owners: how far their open wants have to go, and then how many of their needs lie under or on locks that are stronger
-- than they have to be, level by level from the top. A lock that comes down may leave stronger ones than needed below it, never
-- above. The journal counts with the areas.
abbrev pub measure : List ℕ → State → List ℕ
measure us s = sum_by (steps_of s) us ∷ sum_by (spares_of s Area) us ∷ sum_by (spares_of s Range) us ∷ sum_by (spares_of s Page) us ∷ sum_by (spares_of s Line) us ∷ []

abbrev pub is_among : ℕ → List ℕ → Bool
is_among owner us = list_any (λ u. u == owner) us

-- the measure is less, whatever owners it is taken of, this one among them
abbrev pub Falls : ℕ → State → State → Type 0
Falls owner s r = (us : List ℕ) → is_among owner us ≡ true → IsLess (measure us r) (measure us s)

-- it is no more
abbrev pub NeverRises : ℕ → State → State → Type 0
NeverRises owner s r = (us : List ℕ) → is_among owner us ≡ true → IsAtMost (measure us r) (measure us s)

-- ---- what doesn't raise it

-- The owner, of which this is the party, was served a notice at the node: where its lock there was stronger than it had to be, it
-- came down to what must be kept, and no lock of the owner changed but there and, to be stronger, below. Else nothing changed.
pub record IsServedAt (owner : ℕ) (p : Party) (n : Node) (old new : Table) : Type 0 where
  pub way : MakesWay owner old new
  pub elsewhere : (x : Node) → is_on n x ≡ false → granted_at new owner x ≡ granted_at old owner x
  pub rises : (x : Node) → same_node x n ≡ false → at_most (granted_at old owner x) (granted_at new owner x) ≡ true
  pub least : is_spare (granted_at old owner) p n ≡ true → granted_at new owner n ≡ kept_at (granted_at old owner) p n
  pub unchanged : is_spare (granted_at old owner) p n ≡ false → new ≡ old

-- nobody else's lock is weaker
abbrev pub LeavesLocks : ℕ → Table → Table → Type 0
LeavesLocks owner old new = (u : ℕ) (x : Node) → (u == owner) ≡ false → at_most (granted_at old u x) (granted_at new u x) ≡ true

-- others need and want what they did, and their locks are no weaker
pub record LeavesOthers (owner : ℕ) (s r : State) : Type 0 where
  pub parties : KeepsParties owner s.parties r.parties
  pub locks : LeavesLocks owner s.table r.table

-- While the owner's want is open the measure never rises, and where it ends, the measure falls.
abbrev pub MovesOn : ℕ → State → State → Want → Type 0
MovesOn owner s r (NoticeTo t n mode) = NeverRises owner s r
MovesOn owner s r (Asleep t) = NeverRises owner s r
MovesOn owner s r answer = Falls owner s r
