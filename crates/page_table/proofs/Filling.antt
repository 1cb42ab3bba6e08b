-- One page more of a table.
use Rattle.std.proofs.Common.{◌≡◌, ◌≢◌, ℕ, ◌+◌, ◌≤◌, ◌⊎◌, ⊎_elim, sym, subst, arith}
use Rattle.page_table.specs.declared.uses.PageUse.{PageUse}
use Rattle.page_table.specs.Pages.{Pages, use_of, Puts}

-- what is so of each page up to one, and of the next, is so of all these
pub one_more : (Q : ℕ → Type 0) (P : ℕ → PageUse → Type 0) (slot : ℕ) (used : PageUse) (old new : Pages) → Puts (slot + 1) used old new → (Q (slot + 1) → P (slot + 1) used)
    → ((page : ℕ) → Q page → page ≤ slot → P page (use_of old page))
    → (page : ℕ) → 1 ≤ page → Q page → page ≤ slot + 1 → P page (use_of new page)
one_more Q P slot used old new puts here was page first is le = ⊎_elim earlier this (cases page slot le)
  where
    cases : (a b : ℕ) → a ≤ b + 1 → (a ≤ b) ⊎ (a ≡ b + 1)
    cases a b less = grind arith

    earlier : page ≤ slot → P page (use_of new page)
    earlier within =
        let apart : page ≢ slot + 1 = omega (arith, within) in
        subst (λ (u : PageUse). P page u) (sym (puts.others page first apart)) (was page is within)

    this : page ≡ slot + 1 → P page (use_of new page)
    this same = subst (λ (p : ℕ). P p (use_of new p)) (sym same) (subst (λ (u : PageUse). P (slot + 1) u) (sym puts.here) (here (subst (λ (p : ℕ). Q p) same is)))
