-- A ledger behind a space page, and the owners that it says.
use Rattle.std.proofs.Common.{◌≡◌, ◌≢◌, ℕ, suc, ◌+◌, ◌-◌, ◌≤◌, IsTrue, Some, None, slice_get, length, ⊎_elim, ap, sym, ◌∙◌, arith}
use Rattle.rdb_types.specs.declared.file.FileId.{FileId}
use Rattle.rdb_types.specs.declared.file.FileKind.TheVariants.{Root, Area, Ruj}
use Rattle.rdb_types.specs.declared.keys.Dbkey.{Dbkey}
use Rattle.rdb_types.specs.declared.keys.Line.{Line}
use Rattle.rdb_outside.specs.Disk.{View, Pending, IsStable}
use Rattle.area_files.specs.Areas.{IsDataPage, space_page_of}
use Rattle.space_pages.specs.Space.{IsBeside, owner_of}
use Rattle.line_opening.specs.stable_lines.Slots.{area_file}
use Rattle.line_opening.specs.stable_lines.Facts.{Facts}
use Rattle.line_opening.proofs.of_stable_lines.Turns.{some_same}
use Rattle.line_opening.specs.line_moves.declared.places.Place.{Place}
use Rattle.line_opening.specs.line_moves.Calls.{OnlyWrites}
use Rattle.line_opening.specs.line_moves.Changes.{IsPlaceOf, KeepsLines}
use Rattle.line_opening.specs.line_moves.Lines.{ChangedLines}
use Rattle.line_opening.proofs.of_line_moves.Putting.{nat_cases}
use Rattle.line_opening.proofs.of_line_moves.KeyPlaces.{file_is}
use Rattle.line_versions.specs.Lines.{storage_area}
use Rattle.line_seat.specs.Groups.{AreEntered}
use Rattle.disk_seats.specs.Ledgers.{Ledger, progress_of}
use Rattle.disk_seats.specs.Members.{LedgerFacts, AreOwned, IsOneArea}
use Rattle.disk_seats.proofs.Standings.{within}
use Rattle.disk_seats.proofs.OthersStay.{member_stays, leaves_aside, used_stays}
use Rattle.disk_seats.proofs.Assembled.{assembled}

pub space_behind : (v w : View) (n slot : ℕ) (g : Ledger) → IsTrue v.tells → OnlyWrites (area_file n) slot v w → LedgerFacts v g → g.commit ≡ None → KeepsLines v.content w.content → Facts (Pending w) (progress_of g) → LedgerFacts w g
space_behind v w n slot g t rest was none lines facts = assembled v w (area_file n) slot g g.standing t rest was facts
    (used_stays v w (area_file n) slot t (λ k. let bad : Area ≡ Root = k in cc) rest was.used)
    (λ m. member_stays v w g.base (suc m) (leaves_aside v w g.base (suc m) (area_file n) slot t (λ k. let bad : Area ≡ Ruj = k in cc) rest) m (λ same. let no : m ≡ suc m = same in omega (arith, no)) (g.standing m) (λ i undo got. lines undo.key) (was.member m))
    (λ c is. let bad : None ≡ Some c = sym none ∙ is in absurd (cc))
    was.apart

module _ (v w : View) (t : IsTrue v.tells) (place : Place) (area : ℕ) (data_page : IsDataPage place.page) (rest : OnlyWrites (area_file place.file) (space_page_of place.page - 1) v w)
    (here : owner_of place.page (w.content (area_file place.file) (space_page_of place.page - 1)) ≡ area)
    (beside : (other : ℕ) → IsBeside place.page other → owner_of other (w.content (area_file place.file) (space_page_of place.page - 1)) ≡ owner_of other (v.content (area_file place.file) (space_page_of place.page - 1))) where
  -- the owner of a page by its space page is as it was, but for this page
  other_owner : (file page : ℕ) → IsDataPage page → (file ≡ place.file → page ≢ place.page) → owner_of page (w.content (area_file file) (space_page_of page - 1)) ≡ owner_of page (v.content (area_file file) (space_page_of page - 1))
  other_owner file page plain apart = ⊎_elim
      (λ (same : file ≡ place.file). ⊎_elim
      (λ (at : space_page_of page ≡ space_page_of place.page). there file page same at (beside page (record { is_page = plain; same = at; apart = apart same })))
      (λ away. ap (owner_of page) (rest.content t (area_file file) (space_page_of page - 1) (λ e slot. away (spaces page place.page plain data_page.is_page.first slot))))
      (nat_cases (space_page_of page) (space_page_of place.page)))
      (λ away. ap (owner_of page) (rest.content t (area_file file) (space_page_of page - 1) (λ e slot. away (ap (λ (f : FileId). f.number) e))))
      (nat_cases file place.file)
    where
      spaces : (a b : ℕ) → IsDataPage a → 1 ≤ b → space_page_of a - 1 ≡ space_page_of b - 1 → space_page_of a ≡ space_page_of b
      spaces a b is first slot = let own = is.is_page.first in omega (arith, slot, first, own)

      there : (f p : ℕ) → f ≡ place.file → space_page_of p ≡ space_page_of place.page → owner_of p (w.content (area_file place.file) (space_page_of place.page - 1)) ≡ owner_of p (v.content (area_file place.file) (space_page_of place.page - 1))
          → owner_of p (w.content (area_file f) (space_page_of p - 1)) ≡ owner_of p (v.content (area_file f) (space_page_of p - 1))
      there f p same at is = (λ i. owner_of p (w.content (area_file (same i)) (at i - 1))) ∙ (is ∙ sym (λ i. owner_of p (v.content (area_file (same i)) (at i - 1))))

  pub owned_more : (lines : ChangedLines) (at : ℕ) (line : Dbkey × Line) → slice_get lines at ≡ Some line → IsPlaceOf line.0 place → area ≡ line.0.area → IsOneArea lines → AreOwned v.content lines at → AreOwned w.content lines (at + 1)
  owned_more lines at line got its same one was i other there less found names = ⊎_elim
      (λ (is_file : there.file ≡ place.file). ⊎_elim
      (λ (is_page : there.page ≡ place.page).
      (λ j. owner_of (is_page j) (w.content (area_file (is_file j)) (space_page_of (is_page j) - 1))) ∙ (here ∙ (same ∙ sym (one i at other line there place found got names its is_file is_page))))
      (λ apart. other_owner there.file there.page names.is_data (λ e. apart) ∙ earlier (λ e. apart)) (nat_cases there.page place.page))
      (λ apart. other_owner there.file there.page names.is_data (λ e. absurd (apart e)) ∙ earlier (λ e. absurd (apart e))) (nat_cases there.file place.file)
    where
      earlier : (there.file ≡ place.file → there.page ≢ place.page) → owner_of there.page (v.content (area_file there.file) (space_page_of there.page - 1)) ≡ other.0.area
      earlier apart = was i other there (let never = not_it apart in omega (arith, less, never)) found names
        where
          not_it : (there.file ≡ place.file → there.page ≢ place.page) → i ≢ at
          not_it off here_it =
              let this : other ≡ line = some_same other line (sym found ∙ (ap (λ (k : ℕ). slice_get lines k) here_it ∙ got)) in
              off (file_is other.0 there names ∙ (ap (λ (l : Dbkey × Line). storage_area l.0.area) this ∙ sym (file_is line.0 place its))) (names.page ∙ (ap (λ (l : Dbkey × Line). l.0.page) this ∙ sym its.page))

-- what stands behind a barrier stands in all that a crash may leave
pub all_entered : (v : View) → IsStable v → (lines : ChangedLines) → AreOwned v.content lines (length lines) → AreEntered (Pending v) lines
all_entered v stable lines owned i line place got names z q = ap (owner_of place.page) (stable (area_file place.file) (space_page_of place.page - 1) z q) ∙ owned i line place (within lines i line got) got names
