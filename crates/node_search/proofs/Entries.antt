-- Entries that were found, and those that begin at a place.
use Rattle.std.proofs.Common.{ℕ, suc, ◌-◌, ◌<◌, ◌≤◌, List, [], ◌∷◌, length, Option, Some, None, arith, sym, subst, refl}
use Rattle.std.specs.Prelude.{IfSome, IfNone}
use Rattle.record_format.specs.Lists.{AreListed, StandsAt}
use Rattle.index_node.specs.declared.entry.NodeEntry.{NodeEntry}
use Rattle.index_node.specs.Node.{entry_fields, IsEntry}
use Rattle.index_node.proofs.Entries.{entries_code}
use Rattle.node_search.specs.declared.entry.FoundEntry.{FoundEntry}
use Rattle.node_search.specs.Entries.{Shows, IsFirst, Begins}
use Rattle.node_search.proofs.Listed.{found_next, none_next}

-- an entry stands there, and is what was found
abbrev pub StandsThere : ℕ → List ℕ → ℕ → FoundEntry → Type 0
StandsThere level bytes at found = (entry : NodeEntry) × (StandsAt entry_fields (IsEntry level) bytes at entry found.end × Shows found.entry entry)

pub begins : (level : ℕ) (bytes : List ℕ) (at : ℕ) (r : Option FoundEntry) (entries : List NodeEntry) → IfSome r (StandsThere level bytes at) → IfNone r ((entry : NodeEntry) (end : ℕ) → StandsAt entry_fields (IsEntry level) bytes at entry end → ⊥) → AreListed entry_fields (IsEntry level) bytes at entries
    → Begins level bytes r entries
begins level bytes at None entries some none are =
    subst (λ (es : List NodeEntry). Begins level bytes None es) (sym (none_next entry_fields (IsEntry level) bytes at entries none are)) refl
begins level bytes at (Some found) entries some none are =
    let next = found_next entry_fields (IsEntry level) bytes (entries_code level bytes) at found.end some.0 entries some.1.0 are in
    subst (λ (es : List NodeEntry). Begins level bytes (Some found) es) (sym next.is) (some.1.1, next.behind)

pub first_of : (level : ℕ) (bytes : List ℕ) (r : Option FoundEntry) (entries : List NodeEntry) → Begins level bytes r entries → IsFirst r entries
first_of level bytes None [] begin = tt
first_of level bytes None (entry ∷ entries) begin = begin
first_of level bytes (Some found) [] begin = cc
first_of level bytes (Some found) (entry ∷ entries) begin = begin.0

-- how many bytes are behind an entry, and one more
abbrev pub bytes_left : List ℕ → Option FoundEntry → ℕ
bytes_left bytes None = 0
bytes_left bytes (Some own) = suc (length bytes - own.end)

pub fewer_left : (bytes : List ℕ) (own : FoundEntry) (r : Option FoundEntry) → IfSome r (λ next. (own.end < next.end) × (next.end ≤ length bytes)) → bytes_left bytes r < bytes_left bytes (Some own)
fewer_left bytes own None place = omega arith
fewer_left bytes own (Some next) place = omega (arith, place.0, place.1)
