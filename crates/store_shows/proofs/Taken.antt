-- Pages that are free, by a table.
use Rattle.std.specs.Prelude.{nat_le}
use Rattle.std.proofs.Common.{◌≡◌, ◌≢◌, ℕ, ◌-◌, ◌%◌, ◌==◌, ◌&&◌, not, ◌≤◌, Bool, true, false, length, Option, None, inl, inr, ⊎_elim, ap, sym, subst, ◌∙◌, refl, arith}
use Rattle.std.proofs.lemmas.Bool.{eq-eqb, eqb-true, le-leb, leb-true, and_from, and_parts, true≢false}
use Rattle.rdb_types.specs.declared.keys.Dbkey.{Dbkey}
use Rattle.rdb_page.specs.Page.{IsOwner}
use Rattle.line_view.specs.Knowledge.{line_in}
use Rattle.line_store.specs.Shelves.{Shelf, Space, seen_by}
use Rattle.line_store.specs.Rooms.{IsRoom, IsFull, TakesPage}
use Rattle.line_moves.proofs.Putting.{nat_cases}
use Rattle.page_table.specs.declared.uses.PageUse.{PageUse}
use Rattle.page_table.specs.Pages.{Pages, empty_of, owner_in, Puts}
use Rattle.page_table.specs.Scans.{IsNew, IsNextRoom, HasNoRoom}
use Rattle.store_shows.specs.Rooms.{is_free, HasPages}

some_owner : (file area : ℕ) → IsOwner file area → 1 ≤ area
some_owner file area (inl first) = omega (arith, first.1)
some_owner file area (inr (inl second)) = omega (arith, second.1)
some_owner file area (inr (inr third)) = omega (arith, third.1)

not_true : (b : Bool) → not b ≡ true → b ≡ false
not_true true is = absurd (true≢false (sym is))
not_true false is = refl

not_equal : (a b : ℕ) → (a ≡ b → ⊥) → (a == b) ≡ false
not_equal a b apart = by (a == b) refl
  where
    by : (t : Bool) → (a == b) ≡ t → (a == b) ≡ false
    by true is = absurd (apart (eqb-true a b is))
    by false is = is

module _ (pages : Pages) (page : ℕ) where
  pub new_free : IsNew pages page → is_free pages page ≡ true
  new_free new = and_from _ _ (and_from _ _ (and_from _ _ (le-leb 1 page new.first) (le-leb page (length pages) new.within)) (ap not (not_equal ((page - 1) % 200) 0 new.plain))) (eq-eqb (owner_in pages page) 0 new.free)

  pub free_new : is_free pages page ≡ true → IsNew pages page
  free_new is =
      let a = nat_le 1 page in let b = nat_le page (length pages) in let c = not ((page - 1) % 200 == 0) in let d = owner_in pages page == 0 in
      let all = and_parts (a && b && c) d is in let three = and_parts (a && b) c all.0 in let two = and_parts a b three.0 in
      record {
        first = leb-true 1 page two.0;
        within = leb-true page (length pages) two.1;
        plain = λ space. true≢false (sym (eq-eqb ((page - 1) % 200) 0 space) ∙ not_true ((page - 1) % 200 == 0) three.1);
        free = eqb-true (owner_in pages page) 0 all.1;
      }

  pub not_free : (IsNew pages page → ⊥) → is_free pages page ≡ false
  not_free none = by (is_free pages page) refl
    where
      by : (t : Bool) → is_free pages page ≡ t → is_free pages page ≡ false
      by true is = absurd (none (free_new is))
      by false is = is

module _ (tables : ℕ → Pages) (space : Space) (has : HasPages tables space) where
  pub is_taken : (file page : ℕ) → (IsNew (tables file) page → ⊥) → space.taken file page ≡ true
  is_taken file page none = has.taken file page ∙ ap not (not_free (tables file) page none)

  pub isn't_taken : (file page : ℕ) → IsNew (tables file) page → space.taken file page ≡ false
  isn't_taken file page new = has.taken file page ∙ ap not (new_free (tables file) page new)

-- ---- rooms

module _ (tables : ℕ → Pages) (h : Shelf) (s file area class : ℕ) (from : Option Dbkey) (has : HasPages tables h.space) (owner : IsOwner file area) where
  pub room_is : (key : Dbkey) → IsNextRoom (tables file) area class from key → line_in key (seen_by s h) ≡ None → IsRoom h s area from key
  room_is key (inl first) none = record {
    area_is = first.fits.area_is;
    file = file;
    lies = owner;
    stands = inl (record {
      taken = is_taken tables h.space has file key.page (λ new.
          let owned : owner_in (tables file) key.page ≡ area = first.fits.is_line.owner ∙ first.fits.area_is in
          let free = new.free in let some = some_owner file area owner in
          omega (arith, owned, free, some));
      behind = first.fits.behind;
    });
    free = none;
  }
  room_is key (inr on_new) none = let new = on_new.page.new in record {
    area_is = on_new.area_is;
    file = file;
    lies = owner;
    stands = inr (record {
      first = new.first;
      within = subst (λ (n : ℕ). key.page ≤ n) (has.limit file) new.within;
      plain = new.plain;
      free = isn't_taken tables h.space has file key.page new;
      line = on_new.line;
    });
    free = none;
  }

  pub full_is : HasNoRoom (tables file) area class from → IsFull h s area h.space.limits.pages
  full_is none = record { limit_is = refl; file = file; lies = owner; all = λ page first last. inr (inl (is_taken tables h.space has file page (none.no_new page))) }

-- ---- a page is taken

pub page_is_taken : (tables kept : ℕ → Pages) (old new : Space) (file class : ℕ) (key : Dbkey) → HasPages tables old → HasPages kept new → IsOwner file key.area → 1 ≤ key.page → Puts key.page (empty_of key.area class) (tables file) (kept file) → ((other : ℕ) → (other ≡ file → ⊥) → kept other ≡ tables other)
    → new.limits ≡ old.limits → new.snaps ≡ old.snaps → new.slots ≡ old.slots → TakesPage key file old new
page_is_taken tables kept old new file class key was has owner first puts beside limits snaps slots = record {
  here = is_taken kept new has file key.page (λ fresh.
      let owned : owner_in (kept file) key.page ≡ key.area = ap (λ (u : PageUse). u.owner) puts.here in
      let free = fresh.free in let some = some_owner file key.area owner in
      omega (arith, owned, free, some));
  others = λ f p apart. has.taken f p ∙ ap not (same f p apart) ∙ sym (was.taken f p);
  limits = limits;
  snaps = snaps;
  slots = slots;
}
  where
    same : (f p : ℕ) → (f ≡ file → p ≢ key.page) → is_free (kept f) p ≡ is_free (tables f) p
    same f p apart = ⊎_elim
        (λ (here : f ≡ file). subst (λ (n : ℕ). is_free (kept n) p ≡ is_free (tables n) p) (sym here) (of_file p (apart here)))
        (λ away. ap (λ (t : Pages). is_free t p) (beside f away)) (nat_cases f file)
      where
        of_file : (q : ℕ) → q ≢ key.page → is_free (kept file) q ≡ is_free (tables file) q
        of_file q off = ⊎_elim
            (λ (none : q ≡ 0). subst (λ (n : ℕ). is_free (kept file) n ≡ is_free (tables file) n) (sym none) refl)
            (λ some.
            let at = puts.others q (omega (arith, some)) off in
            (λ i. nat_le 1 q && nat_le q (puts.long i) && not ((q - 1) % 200 == 0) && ((at i).owner == 0))) (nat_cases q 0)
