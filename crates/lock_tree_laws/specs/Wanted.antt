-- What a want is answered, and what it leaves.
use Rattle.std.specs.Prelude.{◌≡◌, ℕ, Bool, true, false, ◌==◌, if◌then◌else◌, is_some, option_map, Option, Some, None, List, [], ◌∷◌, ◌++◌, map, ◌⊎◌}
use Rattle.std.specs.List.{list_any, AllByRecursion}
use Rattle.rdb_types.specs.declared.node.Level.{Level}
use Rattle.rdb_types.specs.declared.node.Level.TheVariants.{Area, Journal}
use Rattle.rdb_types.specs.declared.node.Node.{Node}
use Rattle.vms_queues.specs.Queues.{is_queued}
use Rattle.vms_locks.specs.Table.{Table, queues_at, WaitsIn}
use Rattle.vms_locks.specs.Walks.{IsCycle}
use Rattle.vms_locks.specs.declared.answer.Enq.TheVariants.{NotQueued, Deadlock as Closes}
use Rattle.lock_needs.specs.declared.need.Need.{Need}
use Rattle.lock_needs.specs.declared.party.OpenWant.{OpenWant}
use Rattle.lock_needs.specs.declared.party.Asked.{Asked}
use Rattle.lock_needs.specs.Nodes.{on_way, is_on}
use Rattle.lock_needs.specs.Needs.{is_covered}
use Rattle.lock_needs.specs.Wants.{sleeps_at}
use Rattle.lock_tree_laws.specs.LockTable.{granted_at, IsFree, RaisedAt}
use Rattle.lock_tree_laws.specs.Parties.{wanting, resting, unasked}
use Rattle.lock_tree_laws.specs.Forest.{Parties, State, IsWhole, KeepsParties, open_asks, opened_of, party_of}
use Rattle.lock_tree_laws.specs.Order.{asked_last, without_asks, waits_by_needs}
use Rattle.lock_tree_laws.specs.Asking.{HasCause, IsDue, whole_mode}
use Rattle.lock_tree_laws.specs.declared.answer.Want.{Want}
use Rattle.lock_tree_laws.specs.declared.answer.Want.TheVariants.{Got, NoticeTo, Asleep, Conflict, Deadlock}

-- some entry is of the owner
abbrev pub is_known : Parties → ℕ → Bool
is_known ps u = list_any (λ e. e.0 == u) ps

-- some owner's open want is queued at the node
abbrev pub someone_sleeps : Table → Node → Parties → Bool
someone_sleeps t n ps = list_any (λ e. sleeps_at (granted_at t e.0) e.1.opened n) ps

-- nothing is queued at the node
abbrev pub IsClear : Table → Node → Type 0
IsClear t n = (u : ℕ) → is_queued u (queues_at t n) ≡ false

-- Nothing is queued at the node of the owner's want, and what would join its lock there and the whole need shares with all that
-- others hold there: so the need can be granted there at once.
pub record MayTakeWhole (t : Table) (owner : ℕ) (w : OpenWant) : Type 0 where
  pub clear : IsClear t w.here
  pub free : IsFree t owner w.here (whole_mode t owner w)

abbrev pub needs_of : State → ℕ → List Need
needs_of s owner = (party_of s.parties owner).needs

-- the need of the owner's open want
abbrev pub wanted_of : State → ℕ → Option Need
wanted_of s owner = option_map (λ w. w.need) (party_of s.parties owner).opened

-- the owner has these needs, and this want is open
abbrev pub IsWanting : State → ℕ → List Need → OpenWant → Type 0
IsWanting s owner ws w = party_of s.parties owner ≡ wanting ws w

-- the owner has these needs, and a want of this need is open
abbrev pub IsOpen : State → ℕ → List Need → Need → Type 0
IsOpen s owner ws need = (w : OpenWant) × IsWanting s owner ws w × (w.need ≡ need)

-- a want that is open is of this need
abbrev pub IsOf : Need → Option OpenWant → Type 0
IsOf need None = Unit {0}
IsOf need (Some w) = w.need ≡ need

-- no want is open, or one that wasn't asked yet at the node that it has come to
abbrev pub IsLooking : Option OpenWant → Type 0
IsLooking None = Unit {0}
IsLooking (Some w) = w.is_asked ≡ false

-- the trail once the owner's want is open: one that opens was asked nowhere yet
abbrev pub trail_of_want : State → ℕ → List Asked
trail_of_want s owner = if is_some (opened_of s owner) then s.trail else without_asks owner s.trail

-- The owner's want was got with nothing asked for it: no lock changed, and no request.
pub record GotAtOnce (owner : ℕ) (s r : State) (answer : Want) : Type 0 where
  pub got : answer ≡ Got
  pub table : r.table.entries ≡ s.table.entries
  pub asks : r.trail ≡ trail_of_want s owner

-- the topmost node on the way to one of this level: its area, or the journal
abbrev pub top_from : Level → Node → Node
top_from Journal n = n
top_from level n = on_way Area n

-- a want of the need as it opens, at the topmost node on the way
abbrev pub opening_of : Need → OpenWant
opening_of need = record { need = need; here = top_from need.node.level need.node; is_asked = false }

-- the want that is open, or one that opens
abbrev pub want_of : Option OpenWant → Need → OpenWant
want_of None need = opening_of need
want_of (Some w) need = w

-- The owner's want took its whole need at its node: the lock there became the least that joins what it was and the need, and no
-- other lock changed, nor what anybody asks. The want was asked there last of all.
pub record GotWhole (owner : ℕ) (w : OpenWant) (s r : State) (answer : Want) : Type 0 where
  pub got : answer ≡ Got
  pub raised : RaisedAt s.table r.table owner w.here (whole_mode s.table owner w)
  pub asks : r.trail ≡ asked_last (trail_of_want s owner) owner w.here

-- The owner's want is queued, and waits for t by the modes that are held and asked, and by needs.
pub record SleepsFor (s : State) (owner : ℕ) (w : OpenWant) (t : ℕ) : Type 0 where
  pub sleeps : sleeps_at (granted_at s.table owner) (Some w) w.here ≡ true
  pub waits : WaitsIn (queues_at s.table) owner t
  pub by_needs : waits_by_needs (party_of s.parties) (open_asks s.parties s.trail) owner t ≡ true

-- a waits for b by needs, with the owner's want asked at its node
abbrev pub WaitsOnceAsked : State → ℕ → OpenWant → ℕ → ℕ → Type 0
WaitsOnceAsked s owner w a b = waits_by_needs (party_of s.parties) (asked_last (open_asks s.parties s.trail) owner w.here) a b ≡ true

-- the owner's entries for these nodes
abbrev pub asks_for : ℕ → List Node → List Asked
asks_for owner nodes = map (λ n. record { owner = owner; node = n }) nodes

-- Behind what the trail was, the want of this need was asked at these nodes, in this order, each on the way to the need's node.
pub record AddsAsks (owner : ℕ) (need : Need) (old new : List Asked) : Type 0 where
  pub nodes : List Node
  pub added : new ≡ old ++ asks_for owner nodes
  pub way : AllByRecursion (λ n. is_on n need.node ≡ true) nodes

-- What was true of the owner's open want just before it ended without being got.
pub record Ended (s : State) (owner : ℕ) (ws : List Need) (need : Need) (cause : State → OpenWant → Type 0) : Type 0 where
  pub before : State
  pub whole : IsWhole before
  pub others : KeepsParties owner before.parties s.parties
  pub want : OpenWant
  pub stood : IsWanting before owner ws want
  pub same : want.need ≡ need
  pub why : cause before want
  pub rests : party_of s.parties owner ≡ resting ws

-- t is the first in the way of the want, which would wait for it by needs, or the want is queued and waits for it
abbrev pub IsBarredBy : List Asked → ℕ → ℕ → State → OpenWant → Type 0
IsBarredBy trail owner t s w = (HasCause s.table s.parties owner w (NotQueued t) × WaitsOnceAsked s owner w owner t × (trail ≡ asked_last s.trail owner w.here)) ⊎ (SleepsFor s owner w t × (trail ≡ s.trail))

-- once queued the want would be on this cycle of waits, which are waits by needs
abbrev pub ClosesCycle : List Asked → ℕ → List ℕ → State → OpenWant → Type 0
ClosesCycle trail owner cycle s w = HasCause s.table s.parties owner w (Closes cycle) × IsCycle (WaitsOnceAsked s owner w) owner cycle × (trail ≡ asked_last s.trail owner w.here)

-- Each answer to an owner with these needs that wants this one, with its cause and what it leaves.
abbrev pub Answered : List Need → State → ℕ → Need → Bool → Want → Type 0
Answered ws s owner need wait Got = (party_of s.parties owner ≡ resting (ws ++ need ∷ [])) × (is_covered (granted_at s.table owner) need ≡ true)
Answered ws s owner need wait (NoticeTo t n mode) = (w : OpenWant) × IsWanting s owner ws w × (w.need ≡ need) × (w ≡ unasked w) × (n ≡ w.here) × IsDue s.table s.parties owner w t mode
Answered ws s owner need wait (Asleep t) = (wait ≡ true) × ((w : OpenWant) × IsWanting s owner ws w × (w.need ≡ need) × SleepsFor s owner w t)
Answered ws s owner need wait (Conflict t) = (wait ≡ false) × Ended s owner ws need (IsBarredBy s.trail owner t)
Answered ws s owner need wait (Deadlock cycle) = (wait ≡ true) × Ended s owner ws need (ClosesCycle s.trail owner cycle)
