-- Fields that stand behind others.
use Rattle.std.proofs.Common.{ℕ, ◌+◌, ◌≡◌, List, [], ◌∷◌, ◌++◌, length, subst, arith}
use Rattle.slot_fields.specs.Fields.{Field, number, text, gap, HasPart, size}

pub part_rest : (at middle : ℕ) (xs ys : List Field) (slot : List ℕ) → middle ≡ at + size xs → HasPart at (xs ++ ys) slot → HasPart middle ys slot
part_rest at middle [] ys slot is has = subst (λ (k : ℕ). HasPart k ys slot) (let same : at ≡ middle = omega (arith, is) in same) has
part_rest at middle (number n x ∷ xs) ys slot is has = part_rest (at + n) middle xs ys slot (omega (arith, is)) has.1
part_rest at middle (text bytes ∷ xs) ys slot is has = part_rest (at + length bytes) middle xs ys slot (omega (arith, is)) has.1
part_rest at middle (gap n ∷ xs) ys slot is has = part_rest (at + n) middle xs ys slot (omega (arith, is)) has.1
