-- The way of a want from the topmost node down.
use Rattle.std.proofs.Common.{◌≡◌, ℕ, true, false, refl, sym, ◌∙◌, ap, inl, inr}
use Rattle.std.specs.Prelude.{Some, None}
use Rattle.std.proofs.lemmas.Bool.{false≢true, or_cases}
use Rattle.rdb_types.specs.declared.node.Level.{Level}
use Rattle.rdb_types.specs.declared.node.Level.TheVariants.{Area, Range, Page, Line, Journal}
use Rattle.rdb_types.specs.declared.node.Node.{Node}
use Rattle.lock_needs.specs.Nodes.{is_above, next_level, on_way, same_node, contains, is_on, step_towards, above_of}
use Rattle.lock_needs.proofs.NodeLaws.{make, contains-above, contains-is}

step-below-way : (l lv : Level) (ar at ln : ℕ) → is_above l lv ≡ true → above_of (on_way (next_level l) (make lv ar at ln)) ≡ Some (on_way l (make lv ar at ln))
step-below-way Area Range ar at ln h = refl
step-below-way Area Page ar at ln h = refl
step-below-way Area Line ar at ln h = refl
step-below-way Range Page ar at ln h = refl
step-below-way Range Line ar at ln h = refl
step-below-way Page Line ar at ln h = refl
step-below-way lx ly ar at ln h = absurd (false≢true h)

-- the node next above the one that is one level down is the node
pub step-below : (n k : Node) → contains n k ≡ true → above_of (step_towards n k) ≡ Some n
step-below n k h = step-below-way n.level k.level k.area k.at k.line (contains-above n k h) ∙ ap (λ (z : Node). Some z) (sym (contains-is n k h))

-- an area has no node above it
pub top-area : (l : Level) (ar at ln : ℕ) → above_of (on_way Area (make l ar at ln)) ≡ None
top-area Area ar at ln = refl
top-area Range ar at ln = refl
top-area Page ar at ln = refl
top-area Line ar at ln = refl
top-area Journal ar at ln = refl

-- a node that a want has come to and that isn't its need's contains this
pub contains-apart : (n k : Node) → is_on n k ≡ true → same_node n k ≡ false → contains n k ≡ true
contains-apart n k h d = elim (or_cases (same_node n k) (contains n k) h) [
  | inl s ↦ absurd (false≢true (sym d ∙ s))
  | inr c ↦ c
]
