-- What is found in a table that has what is committed.
use Rattle.std.proofs.Common.{◌≡◌, ℕ, List, Option, Some, None, inl, inr, sym, subst, ◌∙◌, refl, arith}
use Rattle.std.proofs.lemmas.Bool.{true≢false}
use Rattle.rdb_types.specs.declared.keys.Dbkey.{Dbkey}
use Rattle.rdb_page.specs.Page.{IsOwner}
use Rattle.line_view.specs.Knowledge.{Lines, line_in}
use Rattle.line_store.specs.Rooms.{IsBehind}
use Rattle.page_table.specs.declared.uses.Sought.TheVariants.{Used}
use Rattle.page_table.specs.Pages.{Pages, IsUsedLine}
use Rattle.page_table.specs.Scans.{Fits, IsFirst, HasNone, IsNextRoom}
use Rattle.committed_tables.specs.Tables.{HasCommitted, IsNextCommitted}
use Rattle.committed_tables.proofs.Following.{some_owner}

none_or : (o : Option (List ℕ)) → ((bytes : List ℕ) → o ≡ Some bytes → ⊥) → o ≡ None
none_or None never = refl
none_or (Some bytes) never = absurd (never bytes refl)

module _ (pages : Pages) (file : ℕ) (lines : Lines) (area : ℕ) (from : Option Dbkey) (was : HasCommitted pages file lines) (owner : IsOwner file area) where
  of_area : (key : Dbkey) → key.area ≡ area → IsOwner file key.area
  of_area key same = subst (λ (n : ℕ). IsOwner file n) (sym same) owner

  pub room_free : (class : ℕ) (key : Dbkey) → IsNextRoom pages area class from key → line_in key lines ≡ None
  room_free class key (inl first) = none_or (line_in key lines) (λ bytes is. true≢false (sym (was.committed key bytes (of_area key first.fits.area_is) is).image ∙ first.fits.is_sought.1))
  room_free class key (inr new) = none_or (line_in key lines) (λ bytes is.
      let there = (was.committed key bytes (of_area key new.area_is) is).is_line.owner in let free = new.page.new.free in let some = some_owner file key.area (of_area key new.area_is) in
      omega (arith, there, free, some))

  fits_used : (key : Dbkey) → key.area ≡ area → IsBehind from key → IsUsedLine pages key → Fits pages Used area from key
  fits_used key same behind is = record { area_is = same; is_line = is.is_line; behind = behind; is_sought = is.image }

  pub next_committed : (key : Dbkey) → IsFirst pages Used area from key → IsNextCommitted lines area from key
  next_committed key first =
      let found = was.used key (of_area key first.fits.area_is) (record { is_line = first.fits.is_line; image = first.fits.is_sought }) in
      record {
        image = found.0;
        is = found.1;
        area_is = first.fits.area_is;
        behind = first.fits.behind;
        least = λ other bytes same behind is less. first.least other (fits_used other same behind (was.committed other bytes (of_area other same) is)) less;
      }

  pub none_committed : HasNone pages Used area from → (key : Dbkey) (image : List ℕ) → key.area ≡ area → IsBehind from key → line_in key lines ≡ Some image → ⊥
  none_committed none key image same behind is = none key (fits_used key same behind (was.committed key image (of_area key same) is))
