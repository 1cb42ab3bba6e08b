-- Pages and lines in their orders.
use Rattle.std.proofs.Common.{◌≡◌, ℕ, ◌+◌, ◌<◌, ◌≤◌, ◌==◌, ◌&&◌, ◌||◌, nat_le, Bool, true, false, ◌⊎◌, inl, inr, ⊎_elim, refl, sym, ap, subst, ◌∙◌, arith}
use Rattle.std.proofs.lemmas.Bool.{and_parts, and_from, eqb-true, eq-eqb, leb-true, le-leb}
use Rattle.std.proofs.lemmas.Cmp.{nat_cmp_total, on_total, then_total}
use Rattle.std.specs.declared.cmp.Ordering.{Ordering}
use Rattle.std.specs.declared.cmp.Ordering.TheVariants.{Less, Equal, Greater}
use Rattle.std.specs.Cmp.{IsTotalOrder, tied_itself}
use Rattle.std.specs.Ordering.{nat_cmp, ordering_then}
use Rattle.rdb_types.specs.Order.{dbkey_order}
use Rattle.rdb_types.specs.declared.keys.Dbkey.{Dbkey}
use Rattle.used_pages.specs.declared.pages.AreaPage.{AreaPage}
use Rattle.used_pages.specs.Pages.{page_order}
use Rattle.copied_lines.specs.Holding.{page_of, is_on, on_pages, from_line, AreBehind}

pub page_total : IsTotalOrder page_order
page_total = then_total (on_total (λ p. p.area) nat_cmp_total) (on_total (λ p. p.page) nat_cmp_total)

-- the page first, then the line
by_page : (a p l : Ordering) → ordering_then a p ≡ Less → ordering_then a (ordering_then p l) ≡ Less
by_page Less p l is = refl
by_page Equal Less l is = refl
by_page Equal Equal l is = cc
by_page Equal Greater l is = cc
by_page Greater p l is = cc

pub lines_behind : (key other : Dbkey) → page_order (page_of key) (page_of other) ≡ Less → dbkey_order key other ≡ Less
lines_behind key other less = by_page (nat_cmp key.area other.area) (nat_cmp key.page other.page) (nat_cmp key.line other.line) less

less_number : (a b : ℕ) → a < b → nat_cmp a b ≡ Less
less_number a b lt = grind arith

pub later_line : (area page a b : ℕ) → a < b → dbkey_order (record { area = area; page = page; line = a }) (record { area = area; page = page; line = b }) ≡ Less
later_line area page a b lt =
    ap (λ (o : Ordering). ordering_then o (ordering_then (nat_cmp page page) (nat_cmp a b))) (tied_itself nat_cmp_total area)
    ∙ ap (λ (o : Ordering). ordering_then o (nat_cmp a b)) (tied_itself nat_cmp_total page) ∙ less_number a b lt

not_behind_itself : (page : AreaPage) → page_order page page ≡ Less → ⊥
not_behind_itself page less = let bad : Equal ≡ Less = sym (tied_itself page_total page) ∙ less in cc

pub either : (a b : Bool) → (a || b) ≡ true → (a ≡ true) ⊎ (b ≡ true)
either true b is = inl refl
either false b is = inr is

pub neither : (a b : Bool) → (a || b) ≡ false → (a ≡ false) × (b ≡ false)
neither true b is = let nay : ⊥ = cc in absurd nay
neither false b is = (refl, is)

or_left : (a b : Bool) → a ≡ true → (a || b) ≡ true
or_left true b is = refl
or_left false b is = cc

or_right : (a b : Bool) → b ≡ true → (a || b) ≡ true
or_right true b is = refl
or_right false b is = is

module _ (left : AreaPage → Bool) (page : AreaPage) (line : ℕ) where
  abbrev pub here : Dbkey
  here = record { area = page.area; page = page.page; line = line }

  on_here : (q : Dbkey) → is_on page q ≡ true → q ≡ record { area = page.area; page = page.page; line = q.line }
  on_here q on = let both = and_parts (q.area == page.area) (q.page == page.page) on in
      let area : q.area ≡ page.area = eqb-true q.area page.area both.0 in
      let number : q.page ≡ page.page = eqb-true q.page page.page both.1 in
      λ i. record { area = area i; page = number i; line = q.line }

  pub here_left : from_line left page line here ≡ true
  here_left = or_right (left (page_of here)) (is_on page here && nat_le line line)
      (and_from (is_on page here) (nat_le line line) (and_from (page.area == page.area) (page.page == page.page) (eq-eqb page.area page.area refl) (eq-eqb page.page page.page refl)) (le-leb line line (omega arith)))

  -- what is left behind the line
  pub behind_here : AreBehind page left → (q : Dbkey) → from_line left page (line + 1) q ≡ true → (from_line left page line q ≡ true) × (dbkey_order here q ≡ Less)
  behind_here behind q so = ⊎_elim another same (either (left (page_of q)) (is_on page q && nat_le (line + 1) q.line) so)
    where
      another : left (page_of q) ≡ true → (from_line left page line q ≡ true) × (dbkey_order here q ≡ Less)
      another is = (or_left (left (page_of q)) (is_on page q && nat_le line q.line) is, lines_behind here q (behind (page_of q) is))

      same : (is_on page q && nat_le (line + 1) q.line) ≡ true → (from_line left page line q ≡ true) × (dbkey_order here q ≡ Less)
      same is =
          let parts = and_parts (is_on page q) (nat_le (line + 1) q.line) is in
          let more : line + 1 ≤ q.line = leb-true (line + 1) q.line parts.1 in (
            or_right (left (page_of q)) (is_on page q && nat_le line q.line) (and_from (is_on page q) (nat_le line q.line) parts.0 (le-leb line q.line (omega (arith, more)))),
            subst (λ (k : Dbkey). dbkey_order here k ≡ Less) (sym (on_here q parts.0)) (later_line page.area page.page line q.line (omega (arith, more))),
          )

  pub passed_here : (q : Dbkey) → from_line left page (line + 1) q ≡ false → (from_line left page line q ≡ false) ⊎ (q ≡ here)
  passed_here q nay = by (from_line left page line q) refl
    where
      parts : (left (page_of q) ≡ false) × ((is_on page q && nat_le (line + 1) q.line) ≡ false)
      parts = neither (left (page_of q)) (is_on page q && nat_le (line + 1) q.line) nay

      not_both : (b c : Bool) → (b && c) ≡ false → b ≡ true → c ≡ false
      not_both true c is so = is
      not_both false c is so = cc

      at_most : (a b : ℕ) → nat_le (a + 1) b ≡ false → a ≤ b → b ≡ a
      at_most a b is le = grind arith

      this : (is_on page q && nat_le line q.line) ≡ true → q ≡ here
      this is =
          let both = and_parts (is_on page q) (nat_le line q.line) is in
          let at : q.line ≡ line = at_most line q.line (not_both (is_on page q) (nat_le (line + 1) q.line) parts.1 both.0) (leb-true line q.line both.1) in
          on_here q both.0 ∙ (λ i. record { area = page.area; page = page.page; line = at i })

      by : (b : Bool) → from_line left page line q ≡ b → (from_line left page line q ≡ false) ⊎ (q ≡ here)
      by false is = inl is
      by true is = inr (⊎_elim (λ other. let bad : true ≡ false = sym other ∙ parts.0 in let no_way : ⊥ = cc in absurd no_way) this (either (left (page_of q)) (is_on page q && nat_le line q.line) is))

-- behind the page
pub pages_left : (left : AreaPage → Bool) (page : AreaPage) (line : ℕ) (q : Dbkey) → on_pages left q ≡ true → from_line left page line q ≡ true
pages_left left page line q is = or_left (left (page_of q)) (is_on page q && nat_le line q.line) is

-- a line of the page that is passed over
pub rest_of_page : (left : AreaPage → Bool) (page : AreaPage) (line : ℕ) (q : Dbkey) → from_line left page line q ≡ true → on_pages left q ≡ false → (q.area ≡ page.area) × (q.page ≡ page.page) × (line ≤ q.line)
rest_of_page left page line q so nay = ⊎_elim (λ other. let bad : true ≡ false = sym other ∙ nay in let no_way : ⊥ = cc in absurd no_way)
    (λ is. let parts = and_parts (is_on page q) (nat_le line q.line) is in let both = and_parts (q.area == page.area) (q.page == page.page) parts.0 in
    (eqb-true q.area page.area both.0, eqb-true q.page page.page both.1, leb-true line q.line parts.1))
    (either (left (page_of q)) (is_on page q && nat_le line q.line) so)
