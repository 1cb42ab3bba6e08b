-- What a write of a page makes of the lines.
use Rattle.std.proofs.Common.{◌≡◌, ◌≢◌, ℕ, ◌-◌, ◌≤◌, IsTrue, List, ◌⊎◌, inl, inr, ⊎_elim, ap, sym, ◌∙◌, refl, arith}
use Rattle.rdb_types.specs.declared.file.FileId.{FileId}
use Rattle.rdb_types.specs.declared.file.FileKind.TheVariants.{Area}
use Rattle.rdb_types.specs.declared.keys.Dbkey.{Dbkey}
use Rattle.rdb_types.specs.declared.keys.Line.{Line}
use Rattle.line_store.specs.rdb_outside.Disk.{Image, View, SameContent, Puts}
use Rattle.line_store.specs.area_files.Areas.{IsDataPage}
use Rattle.stable_lines.specs.space_pages.Space.{IsSpace}
use Rattle.stable_lines.specs.line_versions.Lines.{storage_area}
use Rattle.stable_lines.specs.Slots.{area_file, file_of, slot_of, line_on, line_at}
use Rattle.stable_lines.proofs.Never.{nothing_on, space_owner}
use Rattle.line_moves.specs.declared.places.Place.{Place}
use Rattle.line_moves.specs.Calls.{OnlyWrites}
use Rattle.line_moves.specs.Contents.{IsOn, PutsLine}
use Rattle.line_moves.specs.Changes.{PutsOne, KeepsLines}
use Rattle.line_moves.specs.Lines.{ChangedLines, Fills, HasLine, PutsOnly}
use Rattle.line_moves.proofs.FilledPages.{SameLines, has_key}
use Rattle.line_moves.proofs.LinePut.{same_key}
use Rattle.line_moves.proofs.Putting.{nat_cases}

-- nothing was written
pub keeps_lines : (old new : Image) → SameContent old new → KeepsLines old new
keeps_lines old new same key = ap (λ (b : List ℕ). line_on key b) (same (file_of key) (slot_of key))

-- all slots but one are as they were
abbrev pub IsElsewhere : ℕ → ℕ → Image → Image → Type 0
IsElsewhere file number old new = (f : FileId) (i : ℕ) → (f ≡ area_file file → i ≢ number - 1) → new f i ≡ old f i

module _ (old new : Image) (file number : ℕ) (elsewhere : IsElsewhere file number old new) where
  off_it : (key : Dbkey) → (file_of key ≡ area_file file → slot_of key ≢ number - 1) → line_at new key ≡ line_at old key
  off_it key off = ap (λ (b : List ℕ). line_on key b) (elsewhere (file_of key) (slot_of key) off)

  pub on_or_same : (key : Dbkey) → IsOn file number key ⊎ (line_at new key ≡ line_at old key)
  on_or_same key = ⊎_elim
      (λ slot. ⊎_elim (λ same. inl (record { in_file = ap area_file same; in_slot = slot })) (λ off. inr (off_it key (λ e at. off (ap (λ (f : FileId). f.number) e)))) (nat_cases (storage_area key.area) file))
      (λ off. inr (off_it key (λ e at. off at))) (nat_cases (slot_of key) (number - 1))

-- what stands on the page
on_page : (image : Image) (file number : ℕ) (x : List ℕ) → image (area_file file) (number - 1) ≡ x → (key : Dbkey) → IsOn file number key → line_at image key ≡ line_on key x
on_page image file number x here key on = ap (λ (b : List ℕ). line_on key b) ((λ k. image (on.in_file k) (on.in_slot k)) ∙ here)

-- some lines were put on the page
pub puts_only : (old new : Image) (lines : ChangedLines) (from next : ℕ) (place : Place) (z x : List ℕ) → from ≤ next → SameLines place (old (area_file place.file) (place.page - 1)) z → Fills lines from next place z x → new (area_file place.file) (place.page - 1) ≡ x
    → IsElsewhere place.file place.page old new → PutsOnly lines old new
puts_only old new lines from next place z x le lines_of fills here elsewhere key = ⊎_elim on_it (λ same. inl same) (on_or_same old new place.file place.page elsewhere key)
  where
    on_it : IsOn place.file place.page key → (line_at new key ≡ line_at old key) ⊎ HasLine lines key (line_at new key)
    on_it on = ⊎_elim
        (λ has. inr (record { index = has.index; line = has.line; is = has.got; key_is = has.keys; value_is = sym (fills.stand has.index has.line has.begun has.less has.got) ∙ ap (λ (k : Dbkey). line_on k x) has.keys ∙ sym (on_page new place.file place.page x here key on) }))
        (λ none. inl (on_page new place.file place.page x here key on ∙ fills.others key on none ∙ lines_of key on ∙ sym (on_page old place.file place.page _ refl key on)))
        (has_key lines from next key le)

-- one line was put on it
pub puts_one : (old new : Image) (key : Dbkey) (place : Place) (y x : List ℕ) (value : Line) → old (area_file place.file) (place.page - 1) ≡ y → PutsLine place.file place.page key y x → line_on key x ≡ value → new (area_file place.file) (place.page - 1) ≡ x
    → IsElsewhere place.file place.page old new → PutsOne key value old new
puts_one old new key place y x value read puts is here elsewhere other = ⊎_elim
    (λ on. ⊎_elim (λ same. inr (same, on_page new place.file place.page x here other on ∙ ap (λ (k : Dbkey). line_on k x) same ∙ is))
    (λ apart. inl (on_page new place.file place.page x here other on ∙ puts.others other on apart ∙ sym (on_page old place.file place.page y read other on))) (same_key other key))
    (λ same. inl same) (on_or_same old new place.file place.page elsewhere other)

-- a space page, which has no line
pub space_keeps : (old new : Image) (file number : ℕ) (y x : List ℕ) → old (area_file file) (number - 1) ≡ y → IsSpace y number → IsSpace x number → new (area_file file) (number - 1) ≡ x → IsElsewhere file number old new → KeepsLines old new
space_keeps old new file number y x read was is here elsewhere key = ⊎_elim
    (λ on. on_page new file number x here key on ∙ nothing_on key x (space_owner x number is) ∙ sym (nothing_on key y (space_owner y number was)) ∙ sym (on_page old file number y read key on))
    (λ same. same) (on_or_same old new file number elsewhere key)

-- ---- a read before it

-- the slots behind a read and a write of one slot
pub elsewhere_behind : (old mid new : View) (file : FileId) (f number slot : ℕ) (bytes : List ℕ) → file ≡ area_file f → slot ≡ number - 1 → SameContent old.content mid.content → Puts file slot bytes mid.content new.content → IsElsewhere f number old.content new.content
elsewhere_behind old mid new file f number slot bytes same at reads puts k i off = puts.others k i (λ e n. off (e ∙ same) (n ∙ at)) ∙ reads k i

pub same_behind : (old mid new : View) → SameContent old.content mid.content → SameContent mid.content new.content → KeepsLines old.content new.content
same_behind old mid new reads same = keeps_lines old.content new.content (λ f i. same f i ∙ reads f i)

-- a slot of another file was written
pub lines_beside : (old new : View) (file : FileId) (slot : ℕ) → IsTrue old.tells → file.kind ≢ Area → OnlyWrites file slot old new → KeepsLines old.content new.content
lines_beside old new file slot t other writes key = ap (λ (b : List ℕ). line_on key b) (writes.content t (file_of key) (slot_of key) (λ same at. other (ap (λ (f : FileId). f.kind) (sym same))))

-- a call that writes nothing writes no other slot than any one
pub some_page : IsDataPage 2
some_page = record { is_page = record { first = omega arith; last = omega arith }; plain = λ bad. let no : 1 ≡ 0 = bad in omega (arith, no) }
