-- The steps of a commit.
use Rattle.std.proofs.Common.{◌≡◌, ◌≢◌, ℕ, zero, suc, ◌+◌, ◌-◌, Result, Ok, Err, IfOk, ◌≤◌, ◌<◌, IsTrue, List, [], ◌∷◌, length, Option, Some, None, slice_get, inl, inr, ⊎_elim, ap, sym, subst, ◌∙◌, arith, refl}
use Rattle.rdb_types.specs.declared.file.FileId.{FileId}
use Rattle.rdb_types.specs.declared.file.FileKind.TheVariants.{Area, Ruj, Aij}
use Rattle.rdb_types.specs.declared.keys.Dbkey.{Dbkey}
use Rattle.rdb_types.specs.declared.keys.Line.{Line}
use Rattle.rdb_outside.specs.Disk.{View, Image, Pending}
use Rattle.area_files.specs.Areas.{IsDataPage}
use Rattle.aij_journal.specs.declared.part.GroupLine.{GroupLine}
use Rattle.aij_journal.specs.declared.part.AijPart.{AijPart}
use Rattle.journal_scan.specs.declared.group.Group.{Group}
use Rattle.journal_scan.specs.Standing.{what_stands}
use Rattle.journal_scan.specs.Whole.{slots_of, ascends}
use Rattle.line_moves.specs.new_database.Maker.{aij_file}
use Rattle.line_versions.specs.Lines.{storage_area, shown, shown_as}
use Rattle.line_moves.specs.stable_lines.Slots.{ruj_file, area_file, file_of, slot_of, line_on, line_at}
use Rattle.line_moves.specs.stable_lines.Journal.{next_slot}
use Rattle.line_moves.specs.stable_lines.Progress.{Open, Flight, Progress, flying}
use Rattle.line_moves.specs.stable_lines.Facts.{PendingContents, Only, HasLanded, Facts}
use Rattle.line_moves.proofs.of_stable_lines.Barrier.{group_stands}
use Rattle.line_moves.proofs.of_stable_lines.Fewer.{committed, changed}
use Rattle.line_moves.specs.declared.places.Place.{Place}
use Rattle.line_moves.specs.Calls.{OnlyWrites}
use Rattle.line_moves.specs.Changes.{MayPut, IsPlaceOf, IsCommitOf}
use Rattle.line_moves.specs.Lines.{ChangedLines, MayPutAll, ArePut}
use Rattle.line_moves.proofs.PageWrite.{space_apart}
use Rattle.line_moves.proofs.Putting.{nat_cases}
use Rattle.line_seat.specs.declared.commit.GroupPlace.{GroupPlace}
use Rattle.line_seat.specs.Seats.{IsSecured, secured}
use Rattle.line_moves.specs.stable_lines.Slots.{Undo}
use Rattle.line_seat.specs.Groups.{group_of, AreEntered, AreOfEntries, AreImaged, HaveClasses, IsCommitting}
use Rattle.line_seat.proofs.GroupSlots.{as_many, of_lines}

ruj_not_area : (file member : ℕ) → ruj_file member ≢ area_file file
ruj_not_area file member same = let k : Ruj ≡ Area = ap (λ (f : FileId). f.kind) same in cc

pub area_not_aij : (file : ℕ) → area_file file ≢ aij_file
area_not_aij file same = let k : Area ≡ Aij = ap (λ (f : FileId). f.kind) same in cc

-- ---- a page was written

module _ (v w : View) (place : Place) (t : IsTrue v.tells) (rest : OnlyWrites (area_file place.file) (place.page - 1) v w) where
  journals : (m i : ℕ) (x : List ℕ) → Pending w (ruj_file m) i x → Pending v (ruj_file m) i x
  journals m i x q = rest.pending t (ruj_file m) i x (λ same at. ruj_not_area place.file m same) q

  pub may_still : (now : Progress) (lines : ChangedLines) → MayPutAll (Pending v) now lines → MayPutAll (Pending w) now lines
  may_still now lines may i line got = let m = may i line got in record {
    sure = ⊎_elim (λ c. inl (committed (Pending v) (Pending w) now (λ s h q. journals s 0 h q) line.0 line.1 c)) (λ c. inr (changed (Pending v) (Pending w) now (λ s h q. journals s 0 h q) (λ s j x le q. journals s j x q) line.0 line.1 c)) m.sure;
    below = m.below;
    free = m.free;
    within = m.within;
  }

  -- a space page is no data page
  pub entered_still : IsDataPage place.page → (lines : ChangedLines) → AreEntered (Pending v) lines → AreEntered (Pending w) lines
  entered_still plain lines entered i line there got names z q =
      entered i line there got names z (rest.pending t (area_file there.file) _ z (λ same at. space_apart there.page place.page plain.is_page.first plain.plain at names.is_data.is_page.first) q)

-- ---- an after-image was written

-- the pages are as they were
pub put_still : (v w : View) (slot : ℕ) → IsTrue v.tells → OnlyWrites aij_file slot v w → (lines : ChangedLines) (n : ℕ) → ArePut v.content lines n → ArePut w.content lines n
put_still v w slot t rest lines n was i line less got = ap (λ (b : List ℕ). line_on line.0 b) (rest.content t (file_of line.0) (slot_of line.0) (λ same at. area_not_aij (storage_area line.0.area) same)) ∙ was i line less got

-- one slot more of the group
pub imaged_more : (old new : Image) (now : Progress) (f : Flight) (slot n : ℕ) (part : AijPart) → slot ≡ next_slot now.journal + n → slice_get (slots_of f.group) n ≡ Some (Some part) → what_stands (new aij_file slot) ≡ Some part
    → ((g : FileId) (i : ℕ) → (g ≡ aij_file → i ≢ slot) → new g i ≡ old g i) → AreImaged old now f n → AreImaged new now f (n + 1)
imaged_more old new now f slot n part place is here others was i what less got = ⊎_elim last earlier (nat_cases i n)
  where
    one_of : (a b : Option AijPart) → Some a ≡ Some b → a ≡ b
    one_of a b same = cc

    last : i ≡ n → what_stands (new aij_file (next_slot now.journal + i)) ≡ what
    last same = let at : slot ≡ next_slot now.journal + i = omega (arith, same, place) in
        ap (λ (k : ℕ). what_stands (new aij_file k)) (sym at) ∙ here ∙ one_of (Some part) what (sym is ∙ ap (λ (k : ℕ). slice_get (slots_of f.group) k) (sym same) ∙ got)

    earlier : i ≢ n → what_stands (new aij_file (next_slot now.journal + i)) ≡ what
    earlier apart = ap what_stands (others aij_file (next_slot now.journal + i) (λ same at. apart (omega (arith, at, place)))) ∙ was i what (omega (arith, less, apart)) got

-- ---- the barriers

pub less_than : {A : Type 0} (i : ℕ) (x : A) (xs : List A) → slice_get xs i ≡ Some x → i < length xs
less_than i x [] is = let bad : ⊥ = cc in absurd bad
less_than zero x (y ∷ ys) is = omega arith
less_than (suc i) x (y ∷ ys) is = let tail = less_than i x ys is in omega (arith, tail)

pub long_group : (f : Flight) (place : GroupPlace) (lines : ChangedLines) (classes : List ℕ) → f.group ≡ group_of place lines classes → length classes ≡ length lines → length f.group.lines ≡ length lines
long_group f place lines classes is long = ap (λ (g : Group). length g.lines) is ∙ as_many lines classes long

pub takes_off_with : (P : PendingContents) (content : Image) → Only P content → (now : Progress) (member : ℕ) (o : Open) (place : GroupPlace) (lines : ChangedLines) (classes : List ℕ) (f : Flight) → length classes ≡ length lines → Facts P now → IsCommitting now member o place lines classes f
    → ArePut content lines (length lines) → AreImaged content now f (length lines) → HaveClasses content now f → Facts P (flying f now)
takes_off_with P content only now member o place lines classes f long was is put imaged class = group_stands P now content only was f is.no_flight is.no_former (record {
  transaction = o;
  is_open = ap (λ (s : ℕ). now.going s) is.its ∙ is.is_open;
  tsn = group_tsn;
  whole = record { numbered = ap (λ (g : Group). g.number) is.group ∙ is.numbered; in_order = ap (λ (g : Group). ascends None g.lines) is.group ∙ is.in_order };
  stand = λ i what lt got. imaged i what (subst (λ (n : ℕ). i < n) (long_group f place lines classes is.group long) lt) got;
  changed = is.changed;
  landed = landed;
  class = class;
})
  where
    group_tsn : f.group.tsn ≡ o.tsn
    group_tsn = ap (λ (g : Group). g.tsn) is.group ∙ is.tsn

    landed : (i : ℕ) (of : GroupLine) → slice_get f.group.lines i ≡ Some of → HasLanded f.group of (line_at content of.key)
    landed i of got =
        let l = of_lines lines classes i of (ap (λ (g : Group). slice_get g.lines i) (sym is.group) ∙ got) in
        let here : line_at content l.line.0 ≡ l.line.1 = put i l.line (less_than i l.line lines l.got) l.got in
        let at_key : line_at content of.key ≡ l.line.1 = ap (λ (g : GroupLine). line_at content g.key) l.is ∙ here in
        record {
          tsn = ap (λ (x : Line). x.tsn) at_key ∙ is.bears i l.line l.got ∙ sym group_tsn;
          shows = ap shown at_key ∙ ap (λ (g : GroupLine). shown_as g.state g.image) (sym l.is);
        }

pub commit_of_it : (now : Progress) (member : ℕ) (o : Open) (place : GroupPlace) (lines : ChangedLines) (classes : List ℕ) (f : Flight) → length classes ≡ length lines → IsCommitting now member o place lines classes f → IsCommitOf (flying f now) f place.slot place.number place.tsn (length lines)
commit_of_it now member o place lines classes f long is = record {
  flies = refl;
  in_slot = is.in_slot;
  numbered = ap (λ (g : Group). g.number) (sym is.group);
  its = ap (λ (g : Group). g.tsn) (sym is.group);
  count = sym (long_group f place lines classes is.group long);
}

-- ---- the beginning

pub may_begin : (v : View) (now : Progress) (member : ℕ) (o : Open) (all : List Undo) (lines : ChangedLines) → IsSecured v now member o all → AreOfEntries o all lines → MayPutAll (Pending v) (secured member o all now) lines
may_begin v now member o all lines is of i line got =
    let e = of i line got in
    subst (λ (k : Dbkey). MayPut (Pending v) (secured member o all now) k line.1) e.4 (is.may e.1 e.2 line.1 e.3 e.0)

pub none_put : (image : Image) (lines : ChangedLines) → ArePut image lines 0
none_put image lines i line less got = absurd (omega (arith, less))

-- ---- from stage to stage

pub put_all : (image : Image) (lines : ChangedLines) (n : ℕ) → length lines ≤ n → ArePut image lines n → ArePut image lines (length lines)
put_all image lines n le was i line less got = was i line (omega (arith, le, less)) got

pub none_imaged : (image : Image) (now : Progress) (f : Flight) → AreImaged image now f 0
none_imaged image now f i what less got = absurd (omega (arith, less))

pub imaged_all : (image : Image) (now : Progress) (f : Flight) (n k : ℕ) → k ≤ n → AreImaged image now f n → AreImaged image now f k
imaged_all image now f n k le was i what less got = was i what (omega (arith, le, less)) got

-- the place of the line at a place of the list, by its key
pub place_there : (lines : ChangedLines) (at : ℕ) (here : Dbkey × Line) (place : Place) → slice_get lines at ≡ Some here → IsPlaceOf here.0 place → (line : Dbkey × Line) → slice_get lines at ≡ Some line → IsPlaceOf line.0 place
place_there lines at here place got names line is = subst (λ (l : Dbkey × Line). IsPlaceOf l.0 place) (one_of here line (sym got ∙ is)) names
  where
    one_of : (a b : Dbkey × Line) → Some a ≡ Some b → a ≡ b
    one_of a b same = cc

pub if_ok : {T E : Type 0} (P Q : T → Type 0) (result : Result T E) → ((x : T) → P x → Q x) → IfOk result P → IfOk result Q
if_ok P Q (Ok x) to is = to x is
if_ok P Q (Err e) to is = is
