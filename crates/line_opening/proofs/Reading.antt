-- Headers as they were read.
use Rattle.std.proofs.Common.{◌≡◌, ℕ, ◌+◌, ◌-◌, ◌<◌, ◌≤◌, List, length, get_or, slice_set, Option, ⊎_elim, ◌⊎◌, sym, ◌∙◌, ap, subst, arith}
use Rattle.std.proofs.lemmas.List.{get_or-set_same, get_or-set_other}
use Rattle.rdb_types.specs.declared.file.FileId.{FileId}
use Rattle.rdb_types.specs.declared.keys.Tsn.{Tsn}
use Rattle.rdb_outside.specs.Disk.{Image}
use Rattle.line_moves.specs.ruj_journal.Header.{IsHeader, number_of as number_in}
use Rattle.line_moves.specs.stable_lines.Slots.{ruj_file, named}
use Rattle.line_moves.specs.stable_lines.Kept.{IsRujHeader}
use Rattle.line_moves.proofs.of_stable_lines.Codecs.{named_as}
use Rattle.line_opening.specs.Headers.{AreNamed, AreClosed}

pub header_read : (image : Image) (file : FileId) (member : ℕ) (bytes : List ℕ) (found : Option Tsn) → file ≡ ruj_file member → bytes ≡ image file 0 → IsHeader bytes found → number_in found ≡ named (image (ruj_file member) 0)
header_read image file member bytes found same at is = sym (named_as bytes found is) ∙ ap named (at ∙ (λ i. image (same i) 0))

pub no_header_read : (image : Image) (file : FileId) (member : ℕ) (bytes : List ℕ) → file ≡ ruj_file member → bytes ≡ image file 0 → ((found : Option Tsn) → IsHeader bytes found → ⊥) → IsRujHeader (image (ruj_file member) 0) → ⊥
no_header_read image file member bytes same at none is =
    let here : bytes ≡ image (ruj_file member) 0 = at ∙ (λ i. image (same i) 0) in
    none is.0 (subst (λ (b : List ℕ). IsHeader b is.0) (sym here) is.1)

pub named_more : (image : Image) (numbers : List ℕ) (place n : ℕ) → place < length numbers → n ≡ named (image (ruj_file (place + 1)) 0) → ((k : ℕ) → k < place → get_or numbers k 0 ≡ named (image (ruj_file (k + 1)) 0))
    → (k : ℕ) → k < place + 1 → get_or (slice_set numbers place n) k 0 ≡ named (image (ruj_file (k + 1)) 0)
named_more image numbers place n within here was k lt = ⊎_elim before last (cases k place lt)
  where
    cases : (a b : ℕ) → a < b + 1 → (a < b) ⊎ (a ≡ b)
    cases a b less = grind arith

    before : k < place → get_or (slice_set numbers place n) k 0 ≡ named (image (ruj_file (k + 1)) 0)
    before less = get_or-set_other numbers place k n 0 (λ same. let le : k ≡ place = same in omega (arith, le, less)) ∙ was k less

    last : k ≡ place → get_or (slice_set numbers place n) k 0 ≡ named (image (ruj_file (k + 1)) 0)
    last same = ap (λ (j : ℕ). get_or (slice_set numbers place n) j 0) same ∙ get_or-set_same numbers place n 0 within ∙ here ∙ ap (λ (j : ℕ). named (image (ruj_file (j + 1)) 0)) (sym same)

pub all_are_named : (image : Image) (numbers : List ℕ) (end : ℕ) → length numbers ≡ 16 → 16 ≤ end → ((k : ℕ) → k < end → get_or numbers k 0 ≡ named (image (ruj_file (k + 1)) 0)) → AreNamed image numbers
all_are_named image numbers end long enough each = record {
  long = long;
  each = λ member is.
      let first = is.first in let last = is.last in
      let back : member - 1 + 1 ≡ member = omega (arith, first) in
      each (member - 1) (omega (arith, first, last, enough)) ∙ ap (λ (m : ℕ). named (image (ruj_file m) 0)) back;
}

-- a header that names none, or is closed
pub closed_more : (old new : Image) (member : ℕ) → ((m : ℕ) → m < member → named (new (ruj_file m) 0) ≡ named (old (ruj_file m) 0)) → named (new (ruj_file member) 0) ≡ 0 → AreClosed old member → AreClosed new (member + 1)
closed_more old new member same here was m is lt = ⊎_elim (λ less. same m less ∙ was m is less) (λ at. ap (λ (j : ℕ). named (new (ruj_file j) 0)) at ∙ here) (cases m member lt)
  where
    cases : (a b : ℕ) → a < b + 1 → (a < b) ⊎ (a ≡ b)
    cases a b less = grind arith
