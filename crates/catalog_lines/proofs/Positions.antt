-- Positions that stand one after another.
use Rattle.std.proofs.Common.{ℕ, ◌+◌, ◌*◌, ◌≡◌, List, [], ◌∷◌, ◌++◌, length, refl, sym, subst, ◌∙◌, arith, length-append}
use Rattle.std.proofs.lemmas.List.Concat.{flat_map-append}
use Rattle.slot_fields.specs.Fields.{number_at, size, HasPart}
use Rattle.slot_fields.proofs.Laws.{part_append}
use Rattle.catalog_lines.specs.Parts.{position_fields, positions_fields}

pub size_positions : (ps : List ℕ) → size (positions_fields ps) ≡ 2 * length ps
size_positions [] = refl
size_positions (p ∷ ps) = omega (arith, size_positions ps)

pub length_more : (ps : List ℕ) (p n : ℕ) → length ps ≡ n → length (ps ++ p ∷ []) ≡ n + 1
length_more ps p n count = omega (arith, count, length-append ps (p ∷ []))

-- one more
pub positions_more : (at n : ℕ) (ps : List ℕ) (p : ℕ) (bytes : List ℕ) → length ps ≡ n → HasPart at (positions_fields ps) bytes → p ≡ number_at 2 (at + 2 * n) bytes → HasPart at (positions_fields (ps ++ p ∷ [])) bytes
positions_more at n ps p bytes count stand is =
    subst (λ fs. HasPart at fs bytes) (sym (flat_map-append position_fields ps (p ∷ [])))
    (part_append at (at + 2 * n) (positions_fields ps) (positions_fields (p ∷ [])) bytes (omega (arith, count, size_positions ps)) stand (sym is, tt))

-- as many positions at one place are the same
pub one_positions : (at : ℕ) (ps qs : List ℕ) (bytes : List ℕ) → length ps ≡ length qs → HasPart at (positions_fields ps) bytes → HasPart at (positions_fields qs) bytes → ps ≡ qs
one_positions at [] [] bytes same p q = refl
one_positions at [] (y ∷ qs) bytes same p q = absurd (omega (arith, same))
one_positions at (x ∷ ps) [] bytes same p q = absurd (omega (arith, same))
one_positions at (x ∷ ps) (y ∷ qs) bytes same p q =
    let first : x ≡ y = sym p.0 ∙ q.0 in
    let rest = one_positions (at + 2) ps qs bytes (omega (arith, same)) p.1 q.1 in
    λ i. first i ∷ rest i
