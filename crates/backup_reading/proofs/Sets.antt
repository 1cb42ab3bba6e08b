-- Sets of pages of area files.
use Rattle.std.proofs.Common.{◌≡◌, ℕ, Bool, true, false, cond, not, List, ◌⊎◌, inl, inr, refl, sym, ap, ◌∙◌, arith}
use Rattle.std.proofs.lemmas.Cmp.{ranked}
use Rattle.std.specs.declared.cmp.Ordering.{Ordering}
use Rattle.std.specs.declared.cmp.Ordering.TheVariants.{Less, Equal, Greater}
use Rattle.std.specs.Ordering.{nat_cmp, ordering_then, is_eq}
use Rattle.std.specs.List.{list_any}
use Rattle.std.specs.BTreeSet.{BTreeSet, contains, IsEmpty, Updates}
use Rattle.rdb_page.specs.Page.{IsOwner}
use Rattle.backup_file.specs.declared.line.BackupLine.{BackupLine}
use Rattle.backup_reading.specs.declared.pages.FilePage.{FilePage}
use Rattle.backup_reading.specs.Passing.{page_order, has, IsPageOf}

ties : (o : Ordering) → is_eq o ≡ true → o ≡ Equal
ties Less is = cc
ties Equal is = refl
ties Greater is = cc

both_equal : (o p : Ordering) → ordering_then o p ≡ Equal → (o ≡ Equal) × (p ≡ Equal)
both_equal Less p is = cc
both_equal Equal p is = (refl, is)
both_equal Greater p is = cc

-- what ties is equal
same_page : (a b : FilePage) → is_eq (page_order a b) ≡ true → b ≡ a
same_page a b is =
    let both = both_equal (nat_cmp a.file b.file) (nat_cmp a.page b.page) (ties (page_order a b) is) in
    let file : a.file ≡ b.file = ranked a.file b.file Equal (sym both.0) in
    let page : a.page ≡ b.page = ranked a.page b.page Equal (sym both.1) in
    λ i. record { file = sym file i; page = sym page i }

in_cond : (b t : Bool) → cond b true t ≡ true → (t ≡ true) ⊎ (b ≡ true)
in_cond true t is = inr refl
in_cond false t is = inl is

to_cond : (b t : Bool) → t ≡ true → cond b true t ≡ true
to_cond true t is = refl
to_cond false t is = is

-- no page is in an empty set
pub none_there : (pages : BTreeSet FilePage) → IsEmpty pages → (page : FilePage) → has pages page → ⊥
none_there pages empty page is = let bad : true ≡ false = sym is ∙ ap (λ (keys : List FilePage). list_any (λ k. is_eq (page_order page k)) keys) empty in cc

module _ (old new : BTreeSet FilePage) (page : FilePage) (updates : Updates page_order old new page true) where
  pub there : has new page
  there = updates.1

  pub stays : (other : FilePage) → has old other → has new other
  stays other is = updates.0 other ∙ to_cond (is_eq (page_order page other)) (contains page_order old other) is

  pub only : (other : FilePage) → has new other → has old other ⊎ (other ≡ page)
  only other is = by (in_cond (is_eq (page_order page other)) (contains page_order old other) (sym (updates.0 other) ∙ is))
    where
      by : (contains page_order old other ≡ true) ⊎ (is_eq (page_order page other) ≡ true) → has old other ⊎ (other ≡ page)
      by (inl was) = inl was
      by (inr same) = inr (same_page page other same)

-- what an insertion says of a page that was there, and of one that wasn't
pub was_new : (old : Bool) → true ≡ not old → old ≡ true → ⊥
was_new true is was = let bad : true ≡ false = is in cc
was_new false is was = let bad : false ≡ true = was in cc

pub was_known : (old : Bool) → false ≡ not old → old ≡ true
was_known true is = refl
was_known false is = let bad : false ≡ true = is in let nay : ⊥ = cc in absurd nay

-- a logical area lies in one file
pub one_file : (f g area : ℕ) → IsOwner f area → IsOwner g area → f ≡ g
one_file f g area (inl a) (inl b) = omega (arith, a.0, b.0)
one_file f g area (inl a) (inr (inl b)) = absurd (omega (arith, a.1, b.1))
one_file f g area (inl a) (inr (inr b)) = absurd (omega (arith, a.1, b.1))
one_file f g area (inr (inl a)) (inl b) = absurd (omega (arith, a.1, b.1))
one_file f g area (inr (inl a)) (inr (inl b)) = omega (arith, a.0, b.0)
one_file f g area (inr (inl a)) (inr (inr b)) = absurd (omega (arith, a.2, b.2))
one_file f g area (inr (inr a)) (inl b) = absurd (omega (arith, a.1, b.1))
one_file f g area (inr (inr a)) (inr (inl b)) = absurd (omega (arith, a.2, b.2))
one_file f g area (inr (inr a)) (inr (inr b)) = omega (arith, a.0, b.0)

-- and so does a line
pub one_page : (line : BackupLine) (p q : FilePage) → IsPageOf line p → IsPageOf line q → p ≡ q
one_page line p q a b = λ i. record { file = one_file p.file q.file line.key.area a.owner b.owner i; page = (a.number ∙ sym b.number) i }
