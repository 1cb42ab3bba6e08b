-- A walk over the entries of a node.
use Rattle.std.proofs.Common.{ℕ, zero, suc, ◌<◌, ◌≡◌, List, [], ◌∷◌, length, drop, Some, arith, refl}
use Rattle.index_node.specs.declared.entry.NodeEntry.{NodeEntry}
use Rattle.node_search.specs.declared.entry.FoundEntry.{FoundEntry}
use Rattle.node_search.specs.Entries.{Shows, Begins}

-- the entry that a walk is at: it is the nth of the node's, and the others stand behind it
pub record IsAt (level : ℕ) (bytes : List ℕ) (own : FoundEntry) (entries : List NodeEntry) (nth : ℕ) : Type 0 where
  pub entry : NodeEntry
  pub shows : Shows own.entry entry
  pub inside : nth < length entries
  pub here : drop nth entries ≡ entry ∷ drop (suc nth) entries
  pub begins : Begins level bytes (Some own) (entry ∷ drop (suc nth) entries)

pub is_at : (level : ℕ) (bytes : List ℕ) (own : FoundEntry) (entries : List NodeEntry) (nth : ℕ) → Begins level bytes (Some own) (drop nth entries) → IsAt level bytes own entries nth
is_at level bytes own [] zero begins = absurd (let bad : ⊥ = cc in bad)
is_at level bytes own [] (suc nth) begins = absurd (let bad : ⊥ = cc in bad)
is_at level bytes own (entry ∷ entries) zero begins = record { entry = entry; shows = begins.0; inside = omega arith; here = refl; begins = begins }
is_at level bytes own (entry ∷ entries) (suc nth) begins =
    let rest = is_at level bytes own entries nth begins in
    record { entry = rest.entry; shows = rest.shows; inside = omega (arith, rest.inside); here = rest.here; begins = rest.begins }
