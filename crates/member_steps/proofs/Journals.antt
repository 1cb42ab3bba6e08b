-- What journalling goes by.
use Rattle.std.proofs.Common.{◌≡◌, ℕ, ◌≤◌, ◌-◌, IsTrue, List, [], ◌∷◌, ◌++◌, length, Some, ◌⊎◌, ⊎_elim, subst, ◌∙◌, refl, arith}
use Rattle.rdb_types.specs.declared.keys.Dbkey.{Dbkey}
use Rattle.rdb_types.specs.declared.keys.Line.{Line}
use Rattle.rdb_outside.specs.Disk.{View, LeftNow, OnlyReads, Pending}
use Rattle.area_files.specs.Areas.{space_page_of}
use Rattle.space_pages.specs.Space.{IsSpace}
use Rattle.rdb_page.specs.Whole.{IsPageOf}
use Rattle.disk_seats.specs.stable_lines.Slots.{IsMember, area_file, ruj_file, named, line_at, Undo}
use Rattle.disk_seats.specs.stable_lines.Kept.{IsRujHeader}
use Rattle.disk_seats.specs.stable_lines.Progress.{Open}
use Rattle.disk_seats.specs.line_moves.declared.places.Place.{Place}
use Rattle.disk_seats.specs.line_moves.Changes.{IsPlaceOf}
use Rattle.disk_seats.proofs.of_line_moves.Entering.{space_there}
use Rattle.disk_seats.proofs.of_line_moves.KeyPlaces.{area_is}
use Rattle.disk_seats.proofs.of_line_moves.Runs.{facts_read, pends}
use Rattle.disk_seats.proofs.of_line_moves.OnlyPut.{keeps_lines}
use Rattle.disk_seats.specs.Ledgers.{changing, Ledger, progress_of, stands_as}
use Rattle.disk_seats.specs.Members.{LedgerFacts}
use Rattle.disk_seats.proofs.Settled.{read_behind}
use Rattle.disk_seats.proofs.OwnSeat.{stands_so, seat_of}

none_yet : (all : List Undo) → length all ≡ 0 → all ≡ []
none_yet [] zero_is = refl
none_yet (undo ∷ all) zero_is = absurd (omega (arith, zero_is))

-- before its first before-image
pub none_written : (v : View) (g : Ledger) → LedgerFacts v g → (member : ℕ) (all : List Undo) (n : ℕ) → g.standing member ≡ changing all n → length all ≡ 0 → g.standing member ≡ changing [] 0
none_written v g was member all n is zero_is =
    let counted = (stands_so v g was member (changing all n) is).seat.counted in
    let none : all ≡ [] = none_yet all zero_is in
    let stable : n ≡ 0 = omega (arith, counted, zero_is) in
    is ∙ (λ i. changing (none i) (stable i))

-- the header names the transaction
pub names_now : (v : View) (g : Ledger) → LedgerFacts v g → (member : ℕ) (o : Open) (all : List Undo) (n : ℕ) → g.standing member ≡ changing all n → g.base.going member ≡ Some o
    → (1 ≤ length all) ⊎ (named (v.content (ruj_file member) 0) ≡ o.tsn.number) → named (v.content (ruj_file member) 0) ≡ o.tsn.number
names_now v g was member o all n is going either = ⊎_elim (λ some. (seat_of v g.base member o all n going (stands_so v g was member (changing all n) is)).names some) (λ names. names) either

pub read_ledger : (v w : View) (g : Ledger) → IsTrue v.tells → OnlyReads v w → LedgerFacts v g → LedgerFacts w g
read_ledger v w g t reads was = read_behind v w g t reads was (facts_read v w reads t (progress_of g) was.facts)

-- the line was read as it stood
pub with_line : (v w mid : View) (g : Ledger) (member : ℕ) (all : List Undo) (n : ℕ) (key : Dbkey) → IsTrue v.tells → OnlyReads v mid
    → LedgerFacts w (stands_as member (changing (all ++ (record { key = key; before = line_at mid.content key }) ∷ []) n) g) → LedgerFacts w (stands_as member (changing (all ++ (record { key = key; before = line_at v.content key }) ∷ []) n) g)
with_line v w mid g member all n key t reads was =
    subst (λ (l : Line). LedgerFacts w (stands_as member (changing (all ++ (record { key = key; before = l }) ∷ []) n) g)) (keeps_lines v.content mid.content (reads.keeps t).content key) was

-- ---- no slot is refused

-- the header of a member's journal is one
pub header_there : (v : View) (g : Ledger) → LeftNow v v.content → LedgerFacts v g → (member : ℕ) → IsMember member → IsRujHeader (v.content (ruj_file member) 0)
header_there v g left was member is = was.facts.pages.header member _ is (pends v left (ruj_file member) 0)

-- the page of a line is one
pub page_there : (v : View) (g : Ledger) → LeftNow v v.content → LedgerFacts v g → (key : Dbkey) (place : Place) → IsPlaceOf key place → IsPageOf place.file place.page (v.content (area_file place.file) (place.page - 1))
page_there v g left was key place is = was.facts.pages.page place.file place.page _ (area_is key place is) is.is_data (pends v left (area_file place.file) (place.page - 1))

-- the space page of a page is one
pub spaces_there : (v : View) (g : Ledger) → LeftNow v v.content → LedgerFacts v g → (key : Dbkey) (place : Place) → IsPlaceOf key place → IsSpace (v.content (area_file place.file) (space_page_of place.page - 1)) (space_page_of place.page)
spaces_there v g left was key place is = space_there (Pending v) (progress_of g) place.file place.page _ (area_is key place is) is.is_data was.facts (pends v left (area_file place.file) (space_page_of place.page - 1))
