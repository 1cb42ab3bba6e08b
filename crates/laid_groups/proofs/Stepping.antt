-- A line more is laid.
use Rattle.std.proofs.Common.{◌≡◌, ◌≢◌, ℕ, zero, suc, ◌+◌, ◌-◌, ◌≤◌, ◌<◌, ◌^◌, Bool, true, false, cond, List, [], ◌∷◌, ◌++◌, map, take, length, Option, Some, slice_get, ⊎_elim, refl, sym, ◌∙◌, ap, subst, arith}
use Rattle.std.specs.Ordering.{is_eq}
use Rattle.std.specs.Prelude.{slice_index_or}
use Rattle.std.proofs.lemmas.Option.{slice_get-get_or}
use Rattle.rdb_types.specs.declared.file.FileId.{FileId}
use Rattle.rdb_types.specs.declared.keys.Dbkey.{Dbkey}
use Rattle.rdb_types.specs.declared.keys.LineState.{LineState}
use Rattle.rdb_types.specs.declared.keys.LineState.TheVariants.{Never, Present, Erased}
use Rattle.rdb_types.specs.declared.keys.Tsn.{Tsn}
use Rattle.rdb_types.specs.Order.{dbkey_order}
use Rattle.rdb_outside.specs.Disk.{Image}
use Rattle.rdb_page.specs.Lines.{IsAllowedLine, Agrees, never}
use Rattle.area_files.specs.Areas.{IsDataPage, space_page_of}
use Rattle.space_pages.specs.Space.{IsSpace, owner_of}
use Rattle.aij_journal.specs.declared.part.GroupLine.{GroupLine}
use Rattle.aij_journal.specs.Part.{LeavesLine}
use Rattle.line_versions.specs.Lines.{storage_area, shown}
use Rattle.line_view.specs.declared.writes.Write.{Write}
use Rattle.stable_lines.specs.Slots.{area_file, file_of, slot_of, line_on, line_at}
use Rattle.stable_lines.specs.Journal.{write_of}
use Rattle.stable_lines.proofs.Never.{nothing_on, space_owner}
use Rattle.line_moves.specs.Contents.{IsOn}
use Rattle.line_moves.proofs.KeyPlaces.{is_on, place_content}
use Rattle.line_moves.proofs.PageWrite.{space_apart}
use Rattle.line_moves.proofs.Putting.{nat_cases}
use Rattle.rolled_lines.specs.HalfLaid.{line_behind}
use Rattle.guarded_lines.specs.Laying.{LaysOn}
use Rattle.laid_groups.specs.Forward.{Forward, line_laid, IsWrittenBy, IsUnderWay, FitsLine}
use Rattle.laid_groups.specs.Laid.{IsEntered, LaidOver}
use Rattle.laid_groups.proofs.Behind.{same_when, apart_when}
use Rattle.laid_groups.proofs.Slots.{same_page, space_first, space_was}

some_same : {A : Type 0} (a b : A) → Some a ≡ Some b → a ≡ b
some_same a b same = cc

-- what is laid is a line that a page may have
agrees : (state : LineState) (tsn : ℕ) (image : List ℕ) → LeavesLine state image → Agrees state tsn 0 image
agrees Never tsn image leaves = absurd leaves
agrees Present tsn image leaves = tt
agrees Erased tsn image leaves = leaves

pub allowed : (forward : Forward) (tsn : Tsn) (l : GroupLine) → FitsLine forward l → tsn.number < 2 ^ 62 → IsAllowedLine l.class (line_laid tsn l)
allowed forward tsn l fits few = record { tsn = few; image = fits.allowed.image; agrees = agrees l.state tsn.number l.image fits.allowed.leaves }

module _ (forward : Forward) (old new : Image) (under : IsUnderWay forward old) (tsn : Tsn) (l : GroupLine) (fits : FitsLine forward l) (lays : LaysOn l.key fits.place l.class (line_laid tsn l) old new) where
  first_page : 1 ≤ fits.place.page
  first_page = fits.names.is_data.is_page.first

  number_of : (f g : ℕ) → area_file f ≡ area_file g → f ≡ g
  number_of f g same = ap (λ (x : FileId). x.number) same

  -- ---- each line

  its_line : line_at new l.key ≡ line_laid tsn l
  its_line = ap (λ (b : List ℕ). line_on l.key b) (sym (place_content new l.key fits.place fits.names)) ∙ lays.bears.here

  on_page : (image : Image) (k : Dbkey) → file_of k ≡ area_file fits.place.file → slot_of k ≡ fits.place.page - 1 → line_at image k ≡ line_on k (image (area_file fits.place.file) (fits.place.page - 1))
  on_page image k file slot = ap (λ (b : List ℕ). line_on k b) (λ i. image (file i) (slot i))

  on_space : (image : Image) (k : Dbkey) → IsSpace (image (area_file fits.place.file) (space_page_of fits.place.page - 1)) (space_page_of fits.place.page) → file_of k ≡ area_file fits.place.file → slot_of k ≡ space_page_of fits.place.page - 1 → line_at image k ≡ never
  on_space image k is file slot = ap (λ (b : List ℕ). line_on k b) (λ i. image (file i) (slot i)) ∙ nothing_on k _ (space_owner _ (space_page_of fits.place.page) is)

  other_line : (k : Dbkey) → k ≢ l.key → line_at new k ≡ line_at old k
  other_line k apart = ⊎_elim
      (λ same. ⊎_elim (here (ap area_file same)) (λ off_page. ⊎_elim (space (ap area_file same)) (λ off_space. still (λ _. off_space) (λ _. off_page)) (nat_cases (slot_of k) (space_page_of fits.place.page - 1))) (nat_cases (slot_of k) (fits.place.page - 1)))
      (λ off. still (λ same at. off (number_of (storage_area k.area) fits.place.file same)) (λ same at. off (number_of (storage_area k.area) fits.place.file same)))
      (nat_cases (storage_area k.area) fits.place.file)
    where
      here : file_of k ≡ area_file fits.place.file → slot_of k ≡ fits.place.page - 1 → line_at new k ≡ line_at old k
      here file slot = on_page new k file slot ∙ lays.bears.others k (record { in_file = file; in_slot = slot }) apart ∙ sym (on_page old k file slot)

      space : file_of k ≡ area_file fits.place.file → slot_of k ≡ space_page_of fits.place.page - 1 → line_at new k ≡ line_at old k
      space file slot = on_space new k lays.says.space file slot ∙ sym (on_space old k (space_was forward old under tsn l fits).space file slot)

      still : (file_of k ≡ area_file fits.place.file → slot_of k ≢ space_page_of fits.place.page - 1) → (file_of k ≡ area_file fits.place.file → slot_of k ≢ fits.place.page - 1) → line_at new k ≡ line_at old k
      still off_space off_page = ap (λ (b : List ℕ). line_on k b) (lays.apart (file_of k) (slot_of k) off_space off_page)

  each_line : (k : Dbkey) → shown (line_at new k) ≡ line_behind k (write_of l ∷ []) (shown (line_at old k))
  each_line k = pick (is_eq (dbkey_order k l.key)) refl
    where
      behind : Bool → Option (List ℕ)
      behind b = cond b (write_of l).image (shown (line_at old k))

      pick : (b : Bool) → is_eq (dbkey_order k l.key) ≡ b → shown (line_at new k) ≡ cond (is_eq (dbkey_order k l.key)) (write_of l).image (shown (line_at old k))
      pick true is = ap (λ (q : Dbkey). shown (line_at new q)) (same_when k l.key is) ∙ ap shown its_line ∙ sym (ap (λ (b : Bool). cond b (write_of l).image (shown (line_at old k))) is)
      pick false off = ap shown (other_line k (apart_when k l.key off)) ∙ sym (ap (λ (b : Bool). cond b (write_of l).image (shown (line_at old k))) off)

  -- ---- each entry

  its_entry : IsEntered forward new fits.place.file fits.place.page
  its_entry = lays.says.here ∙ sym fits.owner

  entry_at : (file number : ℕ) → fits.place.file ≡ file → fits.place.page ≡ number → IsEntered forward new file number
  entry_at file number same at = subst (λ (m : ℕ). IsEntered forward new m number) same (subst (λ (n : ℕ). IsEntered forward new fits.place.file n) at its_entry)

  written : (file number : ℕ) → IsDataPage number → IsWrittenBy (write_of l ∷ []) file number → IsEntered forward new file number
  written file number plain by = one by.index by.is
    where
      on : Write → Type 0
      on w = IsOn file number w.key

      entered : IsOn file number l.key → IsEntered forward new file number
      entered there =
          let place_on = is_on l.key fits.place fits.names in
          entry_at file number (number_of fits.place.file file (sym place_on.in_file ∙ there.in_file)) (same_page fits.place.page number first_page plain.is_page.first (sym place_on.in_slot ∙ there.in_slot))

      one : (k : ℕ) → slice_get (write_of l ∷ []) k ≡ Some by.write → IsEntered forward new file number
      one zero got = entered (subst (λ (w : Write). IsOn file number w.key) (sym (some_same (write_of l) by.write got)) by.on)
      one (suc k) got = let bad : ⊥ = cc in absurd bad

  kept : (file number : ℕ) → IsDataPage number → IsEntered forward old file number → IsEntered forward new file number
  kept file number plain was = ⊎_elim
      (λ same. ⊎_elim (λ page. entry_at file number same page) (λ off. ⊎_elim (beside same off) (λ elsewhere. still (λ _ at. elsewhere (sym at))) (nat_cases (space_page_of fits.place.page - 1) (space_page_of number - 1))) (nat_cases fits.place.page number))
      (λ off. still (λ same at. off (sym (number_of file fits.place.file same)))) (nat_cases fits.place.file file)
    where
      beside : fits.place.file ≡ file → fits.place.page ≢ number → space_page_of fits.place.page - 1 ≡ space_page_of number - 1 → IsEntered forward new file number
      beside same off at =
          let pages : space_page_of number ≡ space_page_of fits.place.page = same_page (space_page_of number) (space_page_of fits.place.page) (space_first number plain.is_page.first) (space_first fits.place.page first_page) (sym at) in
          let says = lays.says.beside number (record { is_page = plain; same = pages; apart = λ it. off (sym it) }) in
          ap (λ (b : List ℕ). owner_of number b) (λ i. new (area_file (sym same i)) (sym at i)) ∙ says ∙ ap (λ (b : List ℕ). owner_of number b) (λ i. old (area_file (same i)) (at i)) ∙ was

      still : (area_file file ≡ area_file fits.place.file → space_page_of number - 1 ≢ space_page_of fits.place.page - 1) → IsEntered forward new file number
      still off = ap (λ (b : List ℕ). owner_of number b) (lays.apart (area_file file) (space_page_of number - 1) off (λ same at. space_apart number fits.place.page first_page fits.names.is_data.plain at plain.is_page.first)) ∙ was

  pub laid_one : LaidOver forward (write_of l ∷ []) old new
  laid_one = record {
    line = each_line;
    entered = λ file number is plain. ⊎_elim (λ by. written file number plain by) (λ was. kept file number plain was);
  }

-- ---- the lines so far

pub lent : {X : Type 0} (xs : List X) (i : ℕ) (x : X) → i < length xs → x ≡ slice_index_or xs i x → slice_get xs i ≡ Some x
lent xs i x within is = slice_get-get_or xs i x within ∙ ap Some (sym is)

next_turn : {A B : Type 0} (f : A → B) (xs : List A) (i : ℕ) (x : A) → slice_get xs i ≡ Some x → map f (take i xs) ++ f x ∷ [] ≡ map f (take (suc i) xs)
next_turn f [] i x got = let bad : ⊥ = cc in absurd bad
next_turn f (y ∷ xs) zero x got = let same : y ≡ x = some_same y x got in ap (λ z. f z ∷ []) (sym same)
next_turn f (y ∷ xs) (suc i) x got = ap (λ l. f y ∷ l) (next_turn f xs i x got)

pub next_of : {A B : Type 0} (f : A → B) (xs : List A) (i : ℕ) (x : A) → slice_get xs i ≡ Some x → map f (take i xs) ++ f x ∷ [] ≡ map f (take (i + 1) xs)
next_of f xs i x got = next_turn f xs i x got ∙ ap (λ (n : ℕ). map f (take n xs)) (let turn : suc i ≡ i + 1 = omega arith in turn)

pub all_of : {A B : Type 0} (f : A → B) (xs : List A) (i : ℕ) → length xs ≤ i → map f (take i xs) ≡ map f xs
all_of f [] zero le = refl
all_of f [] (suc i) le = refl
all_of f (x ∷ xs) zero le = absurd (omega (arith, le))
all_of f (x ∷ xs) (suc i) le = ap (λ l. f x ∷ l) (all_of f xs i (omega (arith, le)))
