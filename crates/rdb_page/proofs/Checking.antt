-- What was read of a page, against what it may be.
use Rattle.std.proofs.Common.{◌≡◌, ℕ, ◌+◌, ◌<◌, ◌⊎◌, ⊎_elim, List, Option, Some, None, Result, Ok, sym, ◌∙◌, subst, arith}
use Rattle.rdb_types.specs.declared.keys.Line.{Line}
use Rattle.rdb_page.specs.declared.head.Head.{Head}
use Rattle.rdb_page.specs.declared.BadPage.{BadPage}
use Rattle.rdb_page.specs.Lines.{IsLine}
use Rattle.rdb_page.specs.Page.{IsUnused, StandsAs}
use Rattle.rdb_page.specs.Whole.{IsPageOf, IsUsedPage, HasLines}

head_same : (r : Result (Option Head) BadPage) (a b : Head) → r ≡ Ok (Some a) → r ≡ Ok (Some b) → a ≡ b
head_same r a b one two = let both : ◌≡◌ {A = Result (Option Head) BadPage} (Ok (Some a)) (Ok (Some b)) = sym one ∙ two in cc

head_none : (r : Result (Option Head) BadPage) (a : Head) → r ≡ Ok None → r ≡ Ok (Some a) → ⊥
head_none r a one two = let both : ◌≡◌ {A = Result (Option Head) BadPage} (Ok None) (Ok (Some a)) = sym one ∙ two in cc

-- a page whose head was read and whose lines were refused is none
pub refused : (page : List ℕ) (file number : ℕ) (r : Result (Option Head) BadPage) (h : Head) → r ≡ Ok (Some h) → (IsUnused page → r ≡ Ok None) → ((head : Head) → StandsAs page file number head → r ≡ Ok (Some head)) → (HasLines page h.class → ⊥) → IsPageOf file number page → ⊥
refused page file number r h is unused again none whole = ⊎_elim (λ blank. head_none r h (unused blank) is) (λ (used : IsUsedPage file number page). none (subst (λ (x : Head). HasLines page x.class) (head_same r used.head h (again used.head used.stands) is) used.lines)) whole

-- one line more
pub one_more : (page : List ℕ) (class count : ℕ) (value : Line) → ((k : ℕ) → k < count → (l : Line) × IsLine page class k l) → IsLine page class count value → (k : ℕ) → k < count + 1 → (l : Line) × IsLine page class k l
one_more page class count value before here k less = ⊎_elim (λ lt. before k lt) (λ (same : k ≡ count). (value, subst (λ n. IsLine page class n value) (sym same) here)) (cases k count less)
  where
    cases : (k count : ℕ) → k < count + 1 → (k < count) ⊎ (k ≡ count)
    cases k count less = grind (arith, less)
