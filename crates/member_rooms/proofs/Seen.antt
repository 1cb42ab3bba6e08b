-- Rooms beside a transaction's lines, on the shelf.
use Rattle.std.proofs.Common.{◌≡◌, ◌≢◌, ◌≤◌, ◌⊎◌, inl, inr, ℕ, Bool, true, false, not, List, Option, Some, None, refl, sym, ap, subst, ◌∙◌, arith}
use Rattle.std.proofs.lemmas.Bool.{true≢false}
use Rattle.std.proofs.lemmas.Option.{none-some}
use Rattle.std.specs.FinMap.Entries.{find, is_sorted}
use Rattle.rdb_types.specs.declared.keys.Dbkey.{Dbkey}
use Rattle.rdb_types.specs.declared.keys.Line.{Line}
use Rattle.rdb_types.specs.Order.{dbkey_order}
use Rattle.rdb_page.specs.Page.{IsOwner}
use Rattle.area_files.specs.Areas.{IsSpacePage}
use Rattle.line_view.specs.Knowledge.{Lines, line_in}
use Rattle.line_view.specs.Writes.{laid_all}
use Rattle.line_store.specs.Shelves.{Shelf, seen_by}
use Rattle.line_store.specs.Rooms.{IsRoom, IsFull, first_line}
use Rattle.committed_tables.specs.page_table.declared.uses.Sought.TheVariants.{Free}
use Rattle.committed_tables.specs.page_table.Pages.{Pages, IsUsedLine, owner_in}
use Rattle.committed_tables.specs.page_table.Scans.{Fits}
use Rattle.committed_tables.specs.Tables.{HasCommitted}
use Rattle.store_shows.specs.Rooms.{is_free, HasPages}
use Rattle.store_shows.proofs.Taken.{free_new, is_taken, isn't_taken}
use Rattle.member_memory.specs.Memory.{writes_in}
use Rattle.member_memory.proofs.Laying.{laid-after, over, waiting-after}
use Rattle.member_rooms.specs.Rooms.{image_of, own_image, IsOnNew, IsRoomBeside, HasNoPage}

some-owner : (file area : ℕ) → IsOwner file area → 1 ≤ area
some-owner file area (inl first) = omega (arith, first.1)
some-owner file area (inr (inl second)) = omega (arith, second.1)
some-owner file area (inr (inr third)) = omega (arith, third.1)

-- a line without an image in the table isn't committed
not-committed : (pages : Pages) (file : ℕ) (now : Lines) (key : Dbkey) → HasCommitted pages file now → IsOwner file key.area → (IsUsedLine pages key → ⊥) → line_in key now ≡ None
not-committed pages file now key has owner none = by (line_in key now) refl
  where
    by : (x : Option (List ℕ)) → line_in key now ≡ x → line_in key now ≡ None
    by None is = is
    by (Some image) is = absurd (none (has.committed key image owner is))

over-none : (x : Option Line) (y : Option (List ℕ)) → image_of x ≡ None → y ≡ None → over x y ≡ None
over-none None y own below = below
over-none (Some line) y own below = own

over-some : (x : Option Line) (y : Option (List ℕ)) (image : List ℕ) → image_of x ≡ Some image → over x y ≡ Some image
over-some None y image own = absurd (none-some image own)
over-some (Some line) y image own = own

module _ (tables : ℕ → Pages) (h : Shelf) (lines : List (Dbkey × Line)) (s file area : ℕ) (has : HasPages tables h.space) (owner : IsOwner file area) (sorted : is_sorted dbkey_order lines ≡ true) (sees : seen_by s h ≡ laid_all (writes_in lines) h.now) where
  seen-of : (key : Dbkey) → line_in key (seen_by s h) ≡ over (find dbkey_order key lines) (line_in key h.now)
  seen-of key = ap (λ (ls : Lines). line_in key ls) sees ∙ (laid-after key (writes_in lines) h.now ∙ waiting-after key lines (line_in key h.now) sorted)

  unseen : (key : Dbkey) → own_image lines key ≡ None → line_in key h.now ≡ None → line_in key (seen_by s h) ≡ None
  unseen key own below = seen-of key ∙ over-none (find dbkey_order key lines) (line_in key h.now) own below

  pub room-is : (class : ℕ) (from : Option Dbkey) (key : Dbkey) → HasCommitted (tables file) file h.now → IsRoomBeside (tables file) lines area class from key → IsRoom h s area from key
  room-is class from key committed room = by room.stands
    where
      lies : key.area ≡ area → IsOwner file key.area
      lies is = subst (λ (a : ℕ). IsOwner file a) (sym is) owner

      by : Fits (tables file) (Free class) area from key ⊎ IsOnNew (tables file) area key → IsRoom h s area from key
      by (inl fits) = record {
        area_is = fits.area_is;
        file = file;
        lies = owner;
        stands = inl (record {
          taken = is_taken tables h.space has file key.page (λ new.
              let owned : owner_in (tables file) key.page ≡ area = fits.is_line.owner ∙ fits.area_is in
              let free = new.free in let some = some-owner file area owner in
              absurd (omega (arith, owned, free, some)));
          behind = fits.behind;
        });
        free = unseen key room.free (not-committed (tables file) file h.now key committed (lies fits.area_is) (λ used. true≢false (sym used.image ∙ fits.is_sought.1)));
      }
      by (inr new) = record {
        area_is = new.area_is;
        file = file;
        lies = owner;
        stands = inr (record {
          first = new.page.first;
          within = subst (λ (n : ℕ). key.page ≤ n) (has.limit file) new.page.within;
          plain = new.page.plain;
          free = isn't_taken tables h.space has file key.page new.page;
          line = new.line;
        });
        free = unseen key room.free (not-committed (tables file) file h.now key committed (lies new.area_is) (λ used.
            let owned : owner_in (tables file) key.page ≡ area = used.is_line.owner ∙ new.area_is in
            let free = new.page.free in let some = some-owner file area owner in
            absurd (omega (arith, owned, free, some))));
      }

  pub full-is : HasNoPage (tables file) lines area → IsFull h s area h.space.limits.pages
  full-is none = record { limit_is = refl; file = file; lies = owner; all = λ page first last. by page (is_free (tables file) page) refl }
    where
      by : (page : ℕ) (b : Bool) → is_free (tables file) page ≡ b → IsSpacePage page ⊎ ((h.space.taken file page ≡ true) ⊎ (line_in (first_line area page) (seen_by s h) ≢ None))
      by page true free =
          let own = none page (free_new (tables file) page free) in
          let is : line_in (first_line area page) (seen_by s h) ≡ Some own.0 = seen-of (first_line area page) ∙ over-some (find dbkey_order (first_line area page) lines) (line_in (first_line area page) h.now) own.0 own.1 in
          inr (inr (λ gone. none-some own.0 (sym gone ∙ is)))
      by page false free = inr (inl (has.taken file page ∙ ap not free))
