-- Where lines stand.
use Rattle.std.proofs.Common.{ℕ, ◌≡◌, ◌≢◌, ◌≤◌, ◌<◌, ◌+◌, ◌-◌, ◌*◌, ◌⊎◌, List, take, drop, arith, inl, inr, ⊎_elim, refl, sym, subst, replicate, nat_lt, nat_eq, true, false, Bool, if◌then◌else◌}
use Rattle.std.proofs.lemmas.Bool.Decides.{nat_tests}
use Rattle.rdb_page.specs.Page.{lines_of, lines_end, IsClass}
use Rattle.std.proofs.Math.Nat.{mul-le-mul_right}
use Rattle.slot_fields.proofs.Laws.{part_before, part_behind, zeros_within, zero_number}
use Rattle.slot_fields.specs.Fields.{size, HasPart}
use Rattle.rdb_types.specs.declared.keys.Line.{Line}
use Rattle.rdb_page.specs.Lines.{line_fields, line_place, never, IsLine, IsAllowedLine}

-- a line ends where the next one begins, or before a later one does
pub places : (class j k : ℕ) → j < k → line_place class j + (16 + class) ≤ line_place class k
places class j k less =
    let next : j + 1 ≤ k = omega (arith, less) in
    let more = mul-le-mul_right {m = j + 1} {n = k} (16 + class) next in
    let once : (j + 1) * (16 + class) ≡ j * (16 + class) + (16 + class) = omega arith in
    omega (arith, more, once)

line_size : (class : ℕ) (l : Line) → IsAllowedLine class l → size (line_fields class l) ≡ 16 + class
line_size class l allowed = omega (arith, allowed.image)

one_side : (j k : ℕ) → j ≢ k → (j < k) ⊎ (k < j)
one_side j k apart = by_test (nat_lt j k) refl
  where
    by_test : (b : Bool) → nat_lt j k ≡ b → (j < k) ⊎ (k < j)
    by_test true is = inl (grind (arith, nat_tests))
    by_test false is = inr (grind (arith, nat_tests))

by_class : (b : Bool) → (24 ≤ (if b then 920 else 936)) × ((if b then 920 else 936) ≤ 936)
by_class true = (omega arith, omega arith)
by_class false = (omega arith, omega arith)

pub ends : (class : ℕ) → (24 ≤ lines_end class) × (lines_end class ≤ 936)
ends class = by_class (nat_eq class 208)

-- a line that isn't at a place that was written
pub other_line : (old new : List ℕ) (class line j : ℕ) (other : Line) → j ≢ line → take (line_place class line) new ≡ take (line_place class line) old → drop (line_place class line + (16 + class)) new ≡ drop (line_place class line + (16 + class)) old
    → IsLine old class j other → IsLine new class j other
other_line old new class line j other apart before behind was = record {
  fields = ⊎_elim
      (λ (less : j < line). part_before (line_fields class other) (line_place class j) (line_place class line) old new (omega (arith, places class j line less, line_size class other was.allowed)) before was.fields)
      (λ (more : line < j). part_behind (line_fields class other) (line_place class j) (line_place class line + (16 + class)) old new (places class line j more) behind was.fields)
      (one_side j line apart);
  allowed = was.allowed;
}

-- the lines of a page lie behind its head
abbrev LiesWithin : ℕ → ℕ → Type 0
LiesWithin line class = line < lines_of class → (24 ≤ line_place class line) × (line_place class line + (16 + class) ≤ 1024)

small_within : (line : ℕ) → LiesWithin line 208
small_within line less = (omega arith, omega (arith, less))

large_within : (line : ℕ) → LiesWithin line 440
large_within line less = (omega arith, omega (arith, less))

pub line_within : (class line : ℕ) → IsClass class → LiesWithin line class
line_within class line is =
    ⊎_elim
    (λ (small : class ≡ 208). subst (LiesWithin line) (sym small) (small_within line))
    (λ (large : class ≡ 440). subst (LiesWithin line) (sym large) (large_within line))
    is

-- zeros are a line that was never used
zero_fields : (class at : ℕ) (page : List ℕ) → 14 ≤ at → at + (16 + class) ≤ 1024 → take 1010 (drop 14 page) ≡ replicate 1010 0 → HasPart at (line_fields class never) page
zero_fields class at page from to zeros = (
  zero_number 14 1010 at 1 page (omega (arith, from)) (omega (arith, to)) zeros,
  (
    zeros_within 14 1010 (at + 1) 1 page (omega (arith, from)) (omega (arith, to)) zeros,
    (
      zero_number 14 1010 (at + 1 + 1) 2 page (omega (arith, from)) (omega (arith, to)) zeros,
      (
        zero_number 14 1010 (at + 1 + 1 + 2) 8 page (omega (arith, from)) (omega (arith, to)) zeros,
        (
          zero_number 14 1010 (at + 1 + 1 + 2 + 8) 4 page (omega (arith, from)) (omega (arith, to)) zeros,
          (refl, (zeros_within 14 1010 (at + 1 + 1 + 2 + 8 + 4 + 0) (class - 0) page (omega (arith, from)) (omega (arith, to)) zeros, tt)),
        ),
      ),
    ),
  ),
)

pub zero_line : (class line : ℕ) (page : List ℕ) → IsClass class → line < lines_of class → take 1010 (drop 14 page) ≡ replicate 1010 0 → IsLine page class line never
zero_line class line page is less zeros =
    let within = line_within class line is less in
    record {
      fields = zero_fields class (line_place class line) page (omega (arith, within.0)) within.1 zeros;
      allowed = record { tsn = omega arith; image = omega arith; agrees = (refl, refl, refl) };
    }
