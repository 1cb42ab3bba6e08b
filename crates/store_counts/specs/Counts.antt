-- How the account's counts bound what a store has taken.
use Rattle.std.specs.Prelude.{◌≡◌, ◌≤◌, ◌<◌, ◌+◌, ◌&&◌, ◌⊎◌, not, ℕ, Bool, true, false, List, [], length, sum_by, Option, Some, None, is_some}
use Rattle.std.specs.List.{list_any, filter, AllByRecursion}
use Rattle.rdb_types.specs.declared.keys.Dbkey.{Dbkey}
use Rattle.rdb_types.specs.declared.keys.Limits.{Limits as OfStore}
use Rattle.rdb_types.specs.declared.node.Node.{Node}
use Rattle.lock_needs.specs.Nodes.{same_node}
use Rattle.line_view.specs.declared.writes.Write.{Write}
use Rattle.line_view.specs.Knowledge.{Lines, line_in}
use Rattle.rdb_account.specs.Places.{Opening, Limits, Place, Transaction}
use Rattle.rdb_account.specs.Lawful.{is_taken, file_of, sessions}
use Rattle.kept_apart.specs.Guards.{line_node}
use Rattle.line_store.specs.Seats.{Seat, writes_of, set_aside}
use Rattle.line_store.specs.Shelves.{Space, Shelf}

-- ---- lines on which EX was got

abbrev pub written_of : Option Transaction → List Node
written_of (Some t) = t.written
written_of None = []

abbrev pub is_on_line : List Node → Dbkey → Bool
is_on_line nodes key = list_any (same_node (line_node key)) nodes

-- the account has it that EX was got on the line in the open transaction of s
abbrev pub is_claimed : Place → ℕ → Dbkey → Bool
is_claimed p s key = is_on_line (written_of (p.transaction s)) key && is_on_line p.touched key

-- each write is on such a line
abbrev pub AreClaimed : Place → ℕ → List Write → Type 0
AreClaimed p s = AllByRecursion (λ w. is_claimed p s w.key ≡ true)

-- ---- lines on which nothing is laid yet

abbrev pub is_laid : List Write → Node → Bool
is_laid ws n = list_any (λ w. same_node (line_node w.key) n) ws

-- how many of a transaction's lines its store has no write for
abbrev pub unlaid : Option Transaction → Seat → ℕ
unlaid x seat = length (filter (λ n. not (is_laid (writes_of seat) n)) (written_of x))

abbrev pub all_unlaid : Place → Shelf → ℕ
all_unlaid p h = sum_by (λ t. unlaid (p.transaction t) (h.seat t)) sessions

-- ---- the journal

-- the account has it that the transaction has wanted the journal
abbrev pub has_wanted : Option Transaction → Bool
has_wanted (Some t) = t.wants_journal
has_wanted None = false

-- ---- a store within the account's counts

pub record AreLimits (root : Limits) (store : OfStore) : Type 0 where
  pub pages : store.pages ≡ root.pages
  pub snaps : store.snaps ≡ root.snapshots
  pub entries : store.entries ≡ root.entries
  pub slots : store.slots ≡ root.slots

-- each present line lies on a page that is taken by the account
abbrev pub AreOnPages : Opening → Place → Lines → Type 0
AreOnPages o p lines = (key : Dbkey) → is_some (line_in key lines) ≡ true → is_taken o p (file_of key.area) key.page ≡ true

-- The store has the limits of the root. Each page that it has taken, and each that has a line, is taken by the account. Its snapshots
-- are pairs of the account, and for each line of an open transaction on which nothing is laid yet there is a pair beside these. Its slots
-- of the journal are the account's, and slots are set aside only for those who have wanted the journal. All that is laid in a transaction
-- is on lines on which EX was got in it.
pub record IsCounted (o : Opening) (p : Place) (h : Shelf) : Type 0 where
  pub limits : AreLimits o.limits h.space.limits
  pub taken : (file page : ℕ) → h.space.taken file page ≡ true → is_taken o p file page ≡ true
  pub lines : AreOnPages o p h.now
  pub pairs : h.space.snaps + all_unlaid p h ≤ p.pairs
  pub slots : h.space.slots ≤ p.slots
  pub wants : (t : ℕ) → 0 < set_aside (h.seat t) → has_wanted (p.transaction t) ≡ true
  pub claimed : (t : ℕ) → is_some (p.transaction t) ≡ true → AreClaimed p t (writes_of (h.seat t))

-- At the opening: nothing is used but what the opening image has, and nothing is set aside.
pub record IsCountedFrom (o : Opening) (h : Shelf) : Type 0 where
  pub limits : AreLimits o.limits h.space.limits
  pub taken : (file page : ℕ) → h.space.taken file page ≡ true → o.has_owner file page ≡ true
  pub lines : (key : Dbkey) → is_some (line_in key h.now) ≡ true → o.has_owner (file_of key.area) key.page ≡ true
  pub snaps : h.space.snaps ≡ 0
  pub slots : h.space.slots ≤ o.group_slots
  pub idle : (t : ℕ) → set_aside (h.seat t) ≡ 0

-- ---- a room

-- No more is taken than the page of the line.
pub record TakesAt (key : Dbkey) (old new : Space) : Type 0 where
  pub limits : new.limits ≡ old.limits
  pub taken : (file page : ℕ) → new.taken file page ≡ true → (old.taken file page ≡ true) ⊎ ((file ≡ file_of key.area) × (page ≡ key.page))
  pub snaps : new.snaps ≤ old.snaps
  pub slots : new.slots ≤ old.slots
