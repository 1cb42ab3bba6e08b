-- Who waits for whom by needs.
use Rattle.std.specs.Prelude.{ℕ, Bool, false, not, ◌&&◌, ◌||◌, ◌==◌, if◌then◌else◌, Option, Some, None, List, [], ◌∷◌}
use Rattle.std.specs.List.{list_any}
use Rattle.rdb_types.specs.declared.node.Node.{Node}
use Rattle.lock_needs.specs.declared.need.Need.{Need}
use Rattle.lock_needs.specs.declared.party.OpenWant.{OpenWant}
use Rattle.lock_needs.specs.declared.party.Asked.{Asked}
use Rattle.lock_needs.specs.Party.{Party}
use Rattle.lock_needs.specs.Nodes.{same_node, contains, is_on}
use Rattle.lock_needs.specs.Needs.{conflict}

-- the upper of the nodes of two needs that conflict
abbrev pub upper_of : Need → Need → Node
upper_of a b = if contains b.node a.node then b.node else a.node

-- a need is on the node or below it, so that a want there is a conversion
abbrev pub converts_at : List Need → Node → Bool
converts_at needs n = list_any (λ w. is_on n w.node) needs

-- a want of the first owner was asked at the node, and before that of the second
abbrev pub asked_before : (first second : ℕ) → Node → List Asked → Bool
asked_before first second n [] = false
asked_before first second n (a ∷ rest) =
    if same_node a.node n && (a.owner == first || a.owner == second) then a.owner == first else asked_before first second n rest

-- a want of the owner was asked at some node
abbrev pub has_asked : ℕ → List Asked → Bool
has_asked owner asks = list_any (λ a. a.owner == owner) asks

-- The open want of another owner, which has got these needs, conflicts with this want. It was asked at the upper node before, or it was
-- asked somewhere and converts there.
abbrev pub comes_first : List Asked → (waiter : ℕ) → Need → (other : ℕ) → List Need → Option Need → Bool
comes_first asks waiter w other got None = false
comes_first asks waiter w other got (Some v) = conflict w v && ((converts_at got (upper_of w v) && has_asked other asks) || asked_before other waiter (upper_of w v) asks)

-- An owner with this want open waits for another, which has got these needs and has this want open: the want conflicts with a need that
-- is got, or with an open want that comes first.
abbrev pub is_behind : List Asked → (waiter : ℕ) → Need → (other : ℕ) → List Need → Option Need → Bool
is_behind asks waiter w other got opened = not (waiter == other) && (list_any (conflict w) got || comes_first asks waiter w other got opened)

-- ---- by parties

abbrev pub wanted : Option OpenWant → Option Need
wanted None = None
wanted (Some v) = Some v.need

abbrev pub holds_against : Need → Party → Bool
holds_against w p = list_any (conflict w) p.needs

abbrev pub wants_against : List Asked → ℕ → Need → ℕ → Party → Bool
wants_against asks s w t p = comes_first asks s w t p.needs (wanted p.opened)

-- The owner s, of which this want is open, waits for the owner t, of which this is the party.
abbrev pub waits_for : List Asked → (s : ℕ) → Need → (t : ℕ) → Party → Bool
waits_for asks s w t p = is_behind asks s w t p.needs (wanted p.opened)
