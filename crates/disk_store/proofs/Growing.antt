-- Tables of pages behind calls of a store: pages of areas stay theirs, of their classes.
use Rattle.std.proofs.Common.{◌≡◌, ◌≢◌, ◌≤◌, ◌∙◌, ℕ, length, ⊎_elim, refl, sym, ap, subst, arith}
use Rattle.rdb_page.specs.Page.{IsOwner}
use Rattle.line_moves.specs.Lines.{ChangedLines}
use Rattle.line_moves.proofs.Putting.{nat_cases}
use Rattle.member_rooms.specs.page_table.declared.uses.PageUse.{PageUse}
use Rattle.member_rooms.specs.page_table.Pages.{Pages, IsWithin, class_in, owner_in, use_of}
use Rattle.member_rooms.specs.page_table.Scans.{IsNew}
use Rattle.disk_store.specs.declared.held.Tables.{Tables}
use Rattle.disk_store.specs.Landing.{PutsAll}
use Rattle.disk_store.specs.Shown.{pages_of}
use Rattle.disk_store.specs.Taken.{TakesIn}
use Rattle.disk_store.proofs.EverUsed.{all-still, takes-still}
use Rattle.disk_store.proofs.LinesPut.{SamePages, all-same}
use Rattle.disk_store.proofs.Tabled.{some-owner}
use Rattle.disk_store.specs.Grown.{IsOwned, Grow}

itself : (tables : Tables) → Grow tables tables
itself tables = record { owned = λ file page area is. is; class = λ file page area is. refl; used = λ file key is. is }

pub grow-same : (old new : Tables) → new ≡ old → Grow old new
grow-same old new same = subst (λ (t : Tables). Grow old t) (sym same) (itself old)

pub grow-on : (old between new : Tables) → Grow old between → Grow between new → Grow old new
grow-on old between new a b = record {
  owned = λ file page area is. b.owned file page area (a.owned file page area is);
  class = λ file page area is. b.class file page area (a.owned file page area is) ∙ a.class file page area is;
  used = λ file key is. b.used file key (a.used file key is);
}

-- ---- the lines of a commit are put

module _ (old new : Tables) (lines : ChangedLines) (puts : PutsAll old lines new) where
  pages : SamePages old new
  pages = all-same old lines new puts

  pub grow-landed : Grow old new
  grow-landed = record {
    owned = λ file page area is. record {
      within = record { first = is.within.first; last = let last = is.within.last in let long = pages.long file in omega (arith, last, long) };
      owner = pages.owner file page is.within.first ∙ is.owner;
      lies = is.lies;
    };
    class = λ file page area is. pages.class file page is.within.first;
    used = all-still old lines new puts;
  }

-- ---- a page is taken

module _ (old new : Tables) (file page area class : ℕ) (fresh : IsNew (pages_of old file) page) (takes : TakesIn file page area class old new) where
  -- an owned page isn't the one that is taken
  kept-of : (f p a : ℕ) → IsOwned old f p a → use_of (pages_of new f) p ≡ use_of (pages_of old f) p
  kept-of f p a is = ⊎_elim
      (λ (here : f ≡ file). subst (λ (n : ℕ). use_of (pages_of new n) p ≡ use_of (pages_of old n) p) (sym here) (takes.here.others p is.within.first (apart here)))
      (λ away. ap (λ (ps : Pages). use_of ps p) (takes.others f away))
      (nat_cases f file)
    where
      apart : f ≡ file → p ≢ page
      apart here same-page =
          let nobody : owner_in (pages_of old f) p ≡ 0 = (λ i. owner_in (pages_of old (here i)) (same-page i)) ∙ fresh.free in
          let owner = is.owner in
          let some = some-owner f a is.lies in
          omega (arith, nobody, owner, some)

  long : (f : ℕ) → length (pages_of new f) ≡ length (pages_of old f)
  long f = ⊎_elim
      (λ (here : f ≡ file). subst (λ (n : ℕ). length (pages_of new n) ≡ length (pages_of old n)) (sym here) takes.here.long)
      (λ away. ap (λ (ps : Pages). length ps) (takes.others f away))
      (nat_cases f file)

  pub grow-taken : Grow old new
  grow-taken = record {
    owned = λ f p a is. record {
      within = record { first = is.within.first; last = let last = is.within.last in let as-long = long f in omega (arith, last, as-long) };
      owner = ap (λ (u : PageUse). u.owner) (kept-of f p a is) ∙ is.owner;
      lies = is.lies;
    };
    class = λ f p a is. ap (λ (u : PageUse). u.class) (kept-of f p a is);
    used = takes-still file page area class old new fresh takes;
  }
