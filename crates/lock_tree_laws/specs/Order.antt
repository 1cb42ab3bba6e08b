-- The order in which owners came to a node, and who waits for whom by needs.
use Rattle.std.specs.Prelude.{◌≡◌, ℕ, Bool, true, false, not, ◌&&◌, ◌||◌, ◌==◌, if◌then◌else◌, Option, Some, None, List, [], ◌∷◌, ◌++◌, ◌⊎◌, is_some}
use Rattle.std.specs.List.{list_all, list_any, filter}
use Rattle.rdb_types.specs.declared.node.Node.{Node}
use Rattle.vms_queues.specs.declared.lock_mode.Mode.{Mode}
use Rattle.vms_queues.specs.declared.lock_mode.Mode.TheVariants.{NL}
use Rattle.vms_queues.specs.declared.held.Held.{Held}
use Rattle.vms_queues.specs.Modes.{may_share, at_most, least_above}
use Rattle.vms_queues.specs.Queues.{Queues, has_owner}
use Rattle.vms_locks.specs.Table.{Table, queues_at, IsLive, WaitsIn}
use Rattle.vms_locks.specs.Walks.{IsCycle}
use Rattle.vms_locks.specs.declared.answer.Enq.{Enq}
use Rattle.vms_locks.specs.declared.answer.Enq.TheVariants.{Granted, Asleep, NotQueued, Deadlock}
use Rattle.lock_needs.specs.declared.need.Need.{Need}
use Rattle.vms_locks.specs.Answers.{Request, asking, converting}
use Rattle.lock_needs.specs.declared.party.OpenWant.{OpenWant}
use Rattle.lock_needs.specs.declared.party.Asked.{Asked}
use Rattle.lock_needs.specs.Party.{Party}
use Rattle.lock_needs.specs.Nodes.{same_node}
use Rattle.lock_needs.specs.Keeping.{is_excess}
use Rattle.lock_needs.specs.Wants.{mode_for, kept_at}
use Rattle.lock_needs.specs.Waits.{converts_at, asked_before, has_asked, waits_for}
use Rattle.lock_tree_laws.specs.LockTable.{granted_in, sought_in, granted_at, sought_at, HasIntents}
use Rattle.lock_tree_laws.specs.Parties.{IsKept, was_asked, wanting, unasked}

-- of the entries of these two owners the first is one of the first owner
abbrev pub stands_before : (first second : ℕ) → List Held → Bool
stands_before first second [] = false
stands_before first second (h ∷ hs) = if h.owner == first || h.owner == second then h.owner == first else stands_before first second hs

-- no entry is of the mode that holds nothing
abbrev pub all_used : List Held → Bool
all_used hs = list_all (λ h. not (at_most h.mode NL)) hs

-- The queues of a node stand in the order in which owners came there. `before` says who came before whom, `converts` who has
-- a need there or below, so that it had a lock there when it came.
pub record IsOrdered (before : ℕ → ℕ → Bool) (converts : ℕ → Bool) (q : Queues) : Type 0 where
  pub granted_used : all_used q.granted ≡ true
  pub converting_used : all_used q.converting ≡ true
  pub waiting_used : all_used q.waiting ≡ true
  pub converting : (u : ℕ) → has_owner u q.converting ≡ true → converts u ≡ true
  -- who waits came after those that wait ahead of it
  pub waiting : (u a : ℕ) → (u == a) ≡ false → has_owner a q.waiting ≡ true → stands_before u a q.waiting ≡ true → before u a ≡ true
  -- and so did who asks what a lock stands in the way of, where its owner came for a want alone
  pub granted : (u a : ℕ) → (u == a) ≡ false → has_owner u q.granted ≡ true → converts u ≡ false → may_share (granted_in u q) (sought_in a q) ≡ false → before u a ≡ true

-- the owner's open want was asked at the node
abbrev pub asked_of_want : Option OpenWant → Node → Bool
asked_of_want None n = false
asked_of_want (Some w) n = was_asked w n

-- the list has an entry of the owner and the node
abbrev pub is_listed : ℕ → Node → List Asked → Bool
is_listed owner n asks = list_any (λ a. same_node a.node n && (a.owner == owner)) asks

-- Where the owner's lock stands in the way of what another asks, what it must keep there does so too.
abbrev pub StandsByNeeds : Table → ℕ → Party → Type 0
StandsByNeeds t u p = (a : ℕ) (n : Node) → (u == a) ≡ false → may_share (granted_at t u n) (sought_at t a n) ≡ false → may_share (kept_at (granted_at t u) p n) (sought_at t a n) ≡ false

-- Whoever stands in the way at a node does so by what it must keep, and those that wait stand in the order of asking.
pub record IsInOrder (t : Table) (party : ℕ → Party) (asks : List Asked) : Type 0 where
  pub least : (u : ℕ) → StandsByNeeds t u (party u)
  pub ordered : (n : Node) → IsOrdered (λ u a. asked_before u a n asks) (λ u. converts_at (party u).needs n) (queues_at t n)
  pub listed : (u : ℕ) (n : Node) → is_listed u n asks ≡ asked_of_want (party u).opened n

-- the table is live, and in order
unfoldable pub StandsInOrder : Table → (ℕ → Party) → List Asked → Type 0
StandsInOrder t party asks = IsLive (queues_at t) × IsInOrder t party asks

abbrev pub waits_with : List Asked → ℕ → Option OpenWant → ℕ → Party → Bool
waits_with asks a None b p = false
waits_with asks a (Some w) b p = has_asked a asks && waits_for asks a w.need b p

-- the first owner's open want, which was asked somewhere, waits for the second owner by needs
abbrev pub waits_by_needs : (ℕ → Party) → List Asked → ℕ → ℕ → Bool
waits_by_needs party asks a b = waits_with asks a (party a).opened b (party b)

-- what is true of all owners
abbrev pub AreKept : Table → (ℕ → Party) → Type 0
AreKept t party = (owner : ℕ) → IsKept t owner (party owner)

-- the queues of each node stand in order still, whoever came first there
abbrev pub KeepsOrder : Table → Table → Type 0
KeepsOrder old new = (before : Node → ℕ → ℕ → Bool) (converts : Node → ℕ → Bool) → ((n : Node) → IsOrdered (before n) (converts n) (queues_at old n)) → (n : Node) → IsOrdered (before n) (converts n) (queues_at new n)

-- the new table is live if the old one is
unfoldable pub StaysLive : Table → Table → Type 0
StaysLive old new = IsLive (queues_at old) → IsLive (queues_at new)

-- The owner's locks came down or were taken where they stand in nobody's way, or a request of it left its queue. Others may have
-- been granted what they asked.
pub record MakesWay (owner : ℕ) (old new : Table) : Type 0 where
  pub order : KeepsOrder old new
  pub live : StaysLive old new
  -- its locks stand in the way of nothing that is asked but what they stood in the way of
  pub bars : (a : ℕ) (n : Node) → (owner == a) ≡ false → may_share (granted_at new owner n) (sought_at new a n) ≡ false → may_share (granted_at old owner n) (sought_at old a n) ≡ false
  pub quiet : (n : Node) → sought_at old owner n ≡ granted_at old owner n → sought_at new owner n ≡ granted_at new owner n
  pub asks : (n : Node) → (sought_at new owner n ≡ granted_at new owner n) ⊎ (sought_at new owner n ≡ sought_at old owner n)
  pub sought : (u : ℕ) (n : Node) → (u == owner) ≡ false → sought_at new u n ≡ sought_at old u n
  pub granted : (u : ℕ) (n : Node) → (u == owner) ≡ false → (granted_at new u n ≡ granted_at old u n) ⊎ (granted_at new u n ≡ sought_at old u n)

-- the owner was asked at the node last of all
abbrev pub asked_last : List Asked → ℕ → Node → List Asked
asked_last asks owner n = asks ++ (record { owner = owner; node = n }) ∷ []

-- the entries of the others
abbrev pub without_asks : ℕ → List Asked → List Asked
without_asks owner asks = filter (λ a. not (a.owner == owner)) asks

-- the entries without those of the owner for nodes at which its want wasn't asked
abbrev pub asks_cut : ℕ → OpenWant → List Asked → List Asked
asks_cut owner w asks = filter (λ a. not (a.owner == owner) || was_asked w a.node) asks

-- the entries of owners whose wants are open
abbrev pub opened_asks : (ℕ → Party) → List Asked → List Asked
opened_asks party trail = filter (λ a. is_some (party a.owner).opened) trail

-- a request of an owner that has nothing queued: a conversion where it has a lock
abbrev pub requesting : Queues → ℕ → Mode → Request
requesting q owner mode = if has_owner owner q.granted then converting q owner mode else asking q owner mode

-- each other's party is as it was
abbrev pub KeepsParty : ℕ → (ℕ → Party) → (ℕ → Party) → Type 0
KeepsParty owner old new = (u : ℕ) → (u == owner) ≡ false → new u ≡ old u

-- nobody else who stands in the way of the mode at the node has a stronger lock there than it has to have
abbrev pub NoneInExcess : Table → (ℕ → Party) → ℕ → Node → Mode → Type 0
NoneInExcess t party owner n mode = (u : ℕ) → (u == owner) ≡ false → may_share (granted_at t u n) mode ≡ false → is_excess (granted_at t u n) (kept_at (granted_at t u) (party u) n) ≡ false

-- The owner's open want has come to its node, nothing asked there yet: its own lock there is no stronger than it has to be, and
-- neither is another's that stands in the way of what the want asks.
pub record MayAsk (t : Table) (party : ℕ → Party) (asks : List Asked) (owner : ℕ) (ws : List Need) (w : OpenWant) : Type 0 where
  pub live : IsLive (queues_at t)
  pub intents : HasIntents t
  pub kept : AreKept t party
  pub order : IsInOrder t party asks
  pub own : party owner ≡ wanting ws (unasked w)
  pub real : at_most w.need.mode NL ≡ false
  pub least : at_most (granted_at t owner w.here) (kept_at (granted_at t owner) (wanting ws (unasked w)) w.here) ≡ true
  pub none_due : NoneInExcess t party owner w.here (least_above (granted_at t owner w.here) (mode_for w.need w.here))

-- What an owner's want at a node is answered leaves the order. A sleeper waits by needs for each that stands in its way; whom a
-- refusal names the owner would wait for by needs, and so would each of those that a deadlock names for the next.
abbrev pub AnswersByNeeds : Table → (ℕ → Party) → List Asked → ℕ → Enq → Type 0
AnswersByNeeds new party asks owner Granted = IsInOrder new party asks
AnswersByNeeds new party asks owner Asleep = IsInOrder new party asks × ((b : ℕ) → WaitsIn (queues_at new) owner b → waits_by_needs party asks owner b ≡ true)
AnswersByNeeds new party asks owner (NotQueued blocker) = waits_by_needs party asks owner blocker ≡ true
AnswersByNeeds new party asks owner (Deadlock cycle) = IsCycle (λ a b. waits_by_needs party asks a b ≡ true) owner cycle
