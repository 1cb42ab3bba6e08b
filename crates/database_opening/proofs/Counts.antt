-- Entries counted member by member.
use Rattle.std.proofs.Common.{◌≡◌, ℕ, zero, suc, ◌+◌, ◌-◌, ◌≤◌, ◌<◌, List, [], ◌∷◌, length, get_or, slice_set, Result, Ok, Err, IfOk, ◌⊎◌, ⊎_elim, refl, sym, ◌∙◌, ap, subst, arith}
use Rattle.std.specs.Prelude.{OnOk}
use Rattle.std.proofs.lemmas.List.{get_or-set_same, get_or-set_other}
use Rattle.rdb_outside.specs.Disk.{Image}
use Rattle.line_opening.specs.Headers.{number_of}
use Rattle.line_opening.specs.Counting.{HasCount}
use Rattle.database_opening.specs.Reading.{AreCounted}

-- so many are counted of the member in a place
pub record CountedAt (image : Image) (numbers : List ℕ) (place count : ℕ) : Type 0 where
  pub has : 1 ≤ get_or numbers place 0 → HasCount image (place + 1) (record { number = get_or numbers place 0 }) count
  pub none : get_or numbers place 0 ≡ 0 → count ≡ 0

pub counted_more : (image : Image) (numbers counts : List ℕ) (place n : ℕ) → place < length counts → CountedAt image numbers place n → ((k : ℕ) → k < place → CountedAt image numbers k (get_or counts k 0)) → (k : ℕ) → k < place + 1 → CountedAt image numbers k (get_or (slice_set counts place n) k 0)
counted_more image numbers counts place n within here was k lt = ⊎_elim before last (cases k place lt)
  where
    cases : (a b : ℕ) → a < b + 1 → (a < b) ⊎ (a ≡ b)
    cases a b less = grind arith

    before : k < place → CountedAt image numbers k (get_or (slice_set counts place n) k 0)
    before less = subst (λ (c : ℕ). CountedAt image numbers k c) (sym (get_or-set_other counts place k n 0 (λ same. let le : k ≡ place = same in omega (arith, le, less)))) (was k less)

    last : k ≡ place → CountedAt image numbers k (get_or (slice_set counts place n) k 0)
    last same = subst (λ (m : ℕ). CountedAt image numbers m (get_or (slice_set counts place n) m 0)) (sym same) (subst (λ (c : ℕ). CountedAt image numbers place c) (sym (get_or-set_same counts place n 0 within)) here)

pub all_counted : (image : Image) (numbers counts : List ℕ) (end : ℕ) → length counts ≡ 16 → 16 ≤ end → ((k : ℕ) → k < end → CountedAt image numbers k (get_or counts k 0)) → AreCounted image numbers counts
all_counted image numbers counts end long enough each = record {
  long = long;
  each = λ member is some.
      let first = is.first in let last = is.last in
      let back : member - 1 + 1 ≡ member = omega (arith, first) in
      subst (λ (m : ℕ). HasCount image m (record { number = number_of numbers member }) (number_of counts member)) back ((each (member - 1) (omega (arith, first, last, enough))).has some);
  none = λ member is none. let first = is.first in let last = is.last in (each (member - 1) (omega (arith, first, last, enough))).none none;
}

-- numbers that are all 0
pub all_zero : (numbers : List ℕ) → ((k : ℕ) → k < length numbers → get_or numbers k 0 ≡ 0) → (k : ℕ) → get_or numbers k 0 ≡ 0
all_zero [] each k = refl
all_zero (n ∷ numbers) each zero = each 0 (omega arith)
all_zero (n ∷ numbers) each (suc k) = all_zero numbers (λ m less. each (suc m) (omega (arith, less))) k

pub zero_more : (numbers : List ℕ) (place : ℕ) → get_or numbers place 0 ≡ 0 → ((k : ℕ) → k < place → get_or numbers k 0 ≡ 0) → (k : ℕ) → k < place + 1 → get_or numbers k 0 ≡ 0
zero_more numbers place here was k lt = ⊎_elim (was k) (λ same. ap (λ (m : ℕ). get_or numbers m 0) same ∙ here) (cases k place lt)
  where
    cases : (a b : ℕ) → a < b + 1 → (a < b) ⊎ (a ≡ b)
    cases a b less = grind arith

-- ---- results

pub both_ok : {T E : Type 0} (P Q : T → Type 0) (A : Type 0) (result : Result T E) → ((x : T) → P x → A → Q x) → IfOk result P → OnOk result A → IfOk result Q
both_ok P Q A (Ok x) to is on = to x is on
both_ok P Q A (Err e) to is on = is
