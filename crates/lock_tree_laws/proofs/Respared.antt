-- What is true of a table whatever places are spare in it.
use Rattle.std.proofs.Common.{◌≡◌, ℕ, ◌≤◌, sym, ap, subst, List}
use Rattle.std.proofs.Math.Nat.{le_trans}
use Rattle.rdb_types.specs.declared.node.Node.{Node}
use Rattle.vms_queues.specs.Queues.{Queues}
use Rattle.vms_locks.specs.Table.{Table}
use Rattle.lock_needs.specs.declared.party.Asked.{Asked}
use Rattle.lock_tree_laws.specs.LockTable.{HasIntents}
use Rattle.lock_tree_laws.specs.Forest.{State, Parties, IsWhole, open_asks, party_of}
use Rattle.lock_tree_laws.specs.Order.{StandsInOrder, MakesWay, StaysLive}
use Rattle.lock_needs.specs.Party.{Party}

abbrev pub with_spare : Table → ℕ → Table
with_spare t n = record { entries = t.entries; spare = n }

-- a table with the same entries
pub same-entries : (old new : Table) → new.entries ≡ old.entries → new ≡ with_spare old new.spare
same-entries old new e = ap (λ (es : List (Node × Queues)). record { entries = es; spare = new.spare }) e

intents-spare : (t : Table) (n : ℕ) → HasIntents t → HasIntents (with_spare t n)
intents-spare t n h = record { ascends = h.ascends; granted = h.granted; sought = h.sought }

order-spare : (t : Table) (n : ℕ) (party : ℕ → Party) (asks : List Asked) → StandsInOrder t party asks → StandsInOrder (with_spare t n) party asks
unfolding StandsInOrder
order-spare t n party asks h = (h.0, record { least = h.1.least; ordered = h.1.ordered; listed = h.1.listed })

whole-spare : (s : State) (n : ℕ) → s.table.spare ≤ n → IsWhole s → IsWhole (record { table = with_spare s.table n; parties = s.parties; trail = s.trail })
whole-spare s n more w = record {
  intents = intents-spare s.table n w.intents;
  kept = w.kept;
  asks = w.asks;
  in_order = order-spare s.table n (party_of s.parties) (open_asks s.parties s.trail) w.in_order;
  owners = w.owners;
  room = le_trans w.room more;
}

pub way-spare : (owner : ℕ) (old new : Table) (n : ℕ) → MakesWay owner (with_spare old n) new → MakesWay owner old new
unfolding StaysLive
way-spare owner old new n w = record { order = w.order; live = w.live; bars = w.bars; quiet = w.quiet; asks = w.asks; sought = w.sought; granted = w.granted }

-- ---- a table with the same entries

pub intents-same : (old new : Table) → new.entries ≡ old.entries → HasIntents old → HasIntents new
intents-same old new e h = subst HasIntents (sym (same-entries old new e)) (intents-spare old new.spare h)

-- where memory was taken all is true still
pub whole-room : (s r : State) → r.table.entries ≡ s.table.entries → s.table.spare ≤ r.table.spare → r.parties ≡ s.parties → r.trail ≡ s.trail → IsWhole s → IsWhole r
whole-room s r e more parties trail w =
    subst (λ (ps : Parties). IsWhole (record { table = r.table; parties = ps; trail = r.trail })) (sym parties)
    (subst (λ (a : List Asked). IsWhole (record { table = r.table; parties = s.parties; trail = a })) (sym trail)
    (subst (λ (t : Table). IsWhole (record { table = t; parties = s.parties; trail = s.trail })) (sym (same-entries s.table r.table e)) (whole-spare s r.table.spare more w)))

pub way-same : (owner : ℕ) (old mid new : Table) → mid.entries ≡ old.entries → MakesWay owner mid new → MakesWay owner old new
way-same owner old mid new e w = way-spare owner old new mid.spare (subst (λ (t : Table). MakesWay owner t new) (same-entries old mid e) w)
