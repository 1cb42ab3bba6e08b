-- Sets of pages that grow and shrink.
use Rattle.std.proofs.Common.{◌≡◌, Bool, true, false, cond, List, ◌⊎◌, inl, inr, refl, sym, ap, ◌∙◌}
use Rattle.std.proofs.lemmas.Cmp.{ranked}
use Rattle.std.specs.declared.cmp.Ordering.{Ordering}
use Rattle.std.specs.declared.cmp.Ordering.TheVariants.{Less, Equal, Greater}
use Rattle.std.specs.Ordering.{nat_cmp, ordering_then, is_eq}
use Rattle.std.specs.List.{list_any}
use Rattle.std.specs.BTreeSet.{BTreeSet, contains, IsEmpty, Updates}
use Rattle.used_pages.specs.declared.pages.AreaPage.{AreaPage}
use Rattle.used_pages.specs.Pages.{page_order, has, ArePlaced}

ties : (o : Ordering) → is_eq o ≡ true → o ≡ Equal
ties Less is = cc
ties Equal is = refl
ties Greater is = cc

both_equal : (o p : Ordering) → ordering_then o p ≡ Equal → (o ≡ Equal) × (p ≡ Equal)
both_equal Less p is = cc
both_equal Equal p is = (refl, is)
both_equal Greater p is = cc

-- what ties is equal
pub same_page : (a b : AreaPage) → is_eq (page_order a b) ≡ true → b ≡ a
same_page a b is =
    let both = both_equal (nat_cmp a.area b.area) (nat_cmp a.page b.page) (ties (page_order a b) is) in
    let area : a.area ≡ b.area = ranked a.area b.area Equal (sym both.0) in
    let page : a.page ≡ b.page = ranked a.page b.page Equal (sym both.1) in
    λ i. record { area = sym area i; page = sym page i }

in_cond : (b t : Bool) → cond b true t ≡ true → (t ≡ true) ⊎ (b ≡ true)
in_cond true t is = inr refl
in_cond false t is = inl is

to_cond : (b t : Bool) → t ≡ true → cond b true t ≡ true
to_cond true t is = refl
to_cond false t is = is

from_cond : (b t : Bool) → cond b false t ≡ true → t ≡ true
from_cond true t is = cc
from_cond false t is = is

-- no page is in an empty set
pub none_placed : (pages : BTreeSet AreaPage) → IsEmpty pages → ArePlaced pages
none_placed pages empty page is =
    let bad : true ≡ false = sym is ∙ ap (λ (keys : List AreaPage). list_any (λ k. is_eq (page_order page k)) keys) empty in let no : ⊥ = cc in absurd no

-- one page is put in
module _ (old new : BTreeSet AreaPage) (page : AreaPage) (updates : Updates page_order old new page true) where
  pub there : has new page
  there = updates.1

  pub stays : (other : AreaPage) → has old other → has new other
  stays other is = updates.0 other ∙ to_cond (is_eq (page_order page other)) (contains page_order old other) is

  pub only : (other : AreaPage) → has new other → has old other ⊎ (other ≡ page)
  only other is = by (in_cond (is_eq (page_order page other)) (contains page_order old other) (sym (updates.0 other) ∙ is))
    where
      by : (contains page_order old other ≡ true) ⊎ (is_eq (page_order page other) ≡ true) → has old other ⊎ (other ≡ page)
      by (inl was) = inl was
      by (inr same) = inr (same_page page other same)

-- one page is taken out
module _ (old new : BTreeSet AreaPage) (page : AreaPage) (updates : Updates page_order old new page false) where
  pub was_there : (other : AreaPage) → has new other → has old other
  was_there other is = from_cond (is_eq (page_order page other)) (contains page_order old other) (sym (updates.0 other) ∙ is)

  pub still_placed : ArePlaced old → ArePlaced new
  still_placed placed other is = placed other (was_there other is)

  pub was_it : (other : AreaPage) → contains page_order new other ≡ false → has old other → other ≡ page
  was_it other off is = by (is_eq (page_order page other)) refl
    where
      by : (b : Bool) → is_eq (page_order page other) ≡ b → other ≡ page
      by true same = same_page page other same
      by false apart =
          let still : contains page_order new other ≡ contains page_order old other = updates.0 other ∙ ap (λ (t : Bool). cond t false (contains page_order old other)) apart in
          let bad : true ≡ false = sym is ∙ sym still ∙ off in let no : ⊥ = cc in absurd no
