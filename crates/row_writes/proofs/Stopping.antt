-- Why work stops, in the words of its caller.
use Rattle.std.proofs.Common.{ℕ}
use Rattle.rdb_types.specs.declared.keys.Dbkey.{Dbkey}
use Rattle.line_view.specs.declared.need.Need.{Need}
use Rattle.line_view.specs.declared.stop.Stop.{Stop}
use Rattle.line_view.specs.declared.stop.Stop.TheVariants.{Missing, Bad, NoMemory, Own}
use Rattle.line_view.specs.Stops.{Stops}
use Rattle.row_writes.specs.declared.stop.PairRefusal.{PairRefusal}
use Rattle.row_writes.specs.declared.stop.PairRefusal.TheVariants.{Duplicate, LongKey, Full}
use Rattle.row_writes.specs.declared.stop.RowRefusal.{RowRefusal}
use Rattle.row_writes.specs.declared.stop.RowRefusal.TheVariants.{Pair}
use Rattle.row_writes.specs.Stop.{PairStop}
use Rattle.row_writes.specs.Pairs.{PairRefused}
use Rattle.row_writes.specs.Changes.{row_stop_of}

module _ (next : Need → Type 0) (bad : Dbkey → Type 0) where
  pub stops_for : {E : Type 0} (own other : E → Type 0) → ((e : E) → own e → other e) → (s : Stop E) → Stops next bad own s → Stops next bad other s
  stops_for own other because (Missing need) said = said
  stops_for own other because (Bad key) said = said
  stops_for own other because NoMemory said = said
  stops_for own other because (Own reason) said = because reason said

  pub row_stops : (own : PairRefusal → Type 0) (other : RowRefusal → Type 0) (at : ℕ) → ((r : PairRefusal) → own r → other (Pair at r)) → (s : PairStop) → Stops next bad own s → Stops next bad other (row_stop_of at s)
  row_stops own other at because (Missing need) said = said
  row_stops own other at because (Bad key) said = said
  row_stops own other at because NoMemory said = said
  row_stops own other at because (Own reason) said = because reason said

-- the key is taken in other words
pub refused_for : (IsTaken Taken IsLong IsFull : Type 0) → (IsTaken → Taken) → (r : PairRefusal) → PairRefused IsTaken IsLong IsFull r → PairRefused Taken IsLong IsFull r
refused_for IsTaken Taken IsLong IsFull taken Duplicate said = taken said
refused_for IsTaken Taken IsLong IsFull taken LongKey said = said
refused_for IsTaken Taken IsLong IsFull taken Full said = said
