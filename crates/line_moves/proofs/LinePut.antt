-- One line is put on a page that is in use: the line may be as committed, or one that is sure to be put back.
use Rattle.std.proofs.Common.{◌≡◌, ◌≢◌, ℕ, ◌-◌, ◌≤◌, ◌<◌, ◌==◌, ◌&&◌, Bool, true, false, List, ◌⊎◌, inl, inr, ⊎_elim, ap, sym, subst, ◌∙◌, refl}
use Rattle.std.proofs.lemmas.Bool.{eqb-true, eq-eqb, and_parts, and_from}
use Rattle.rdb_types.specs.declared.file.FileId.{FileId}
use Rattle.rdb_types.specs.declared.keys.Dbkey.{Dbkey}
use Rattle.rdb_types.specs.declared.keys.Line.{Line}
use Rattle.line_store.specs.area_files.Areas.{IsDataPage}
use Rattle.stable_lines.specs.Slots.{area_file, file_of, slot_of, IsAreaFile, line_on}
use Rattle.stable_lines.specs.Kept.{FitsClass}
use Rattle.stable_lines.specs.Progress.{Progress}
use Rattle.stable_lines.specs.Facts.{PendingContents, More, IsCommitted, IsChanged, HasLanded, Facts}
use Rattle.line_moves.specs.Contents.{IsOn, IsSure, IsSurePage, PutsLine, IsFree}
use Rattle.stable_lines.specs.line_versions.Lines.{storage_area}
use Rattle.line_store.specs.rdb_outside.Disk.{Image}
use Rattle.line_moves.specs.declared.places.Place.{Place}
use Rattle.line_moves.specs.Changes.{IsPlaceOf, MayPut}
use Rattle.line_moves.proofs.KeyPlaces.{area_is}
use Rattle.line_moves.proofs.Putting.{nat_cases}
use Rattle.line_moves.proofs.PageWrite.{page_written}

not_both : (b : Bool) → b ≡ true → b ≡ false → ⊥
not_both b is isnt = let bad : true ≡ false = sym is ∙ isnt in cc

-- keys are equal, or they aren't
pub same_key : (a b : Dbkey) → (a ≡ b) ⊎ (a ≢ b)
same_key a b = by_test ((a.area == b.area) && (a.page == b.page) && (a.line == b.line)) refl
  where
    by_test : (t : Bool) → ((a.area == b.area) && (a.page == b.page) && (a.line == b.line)) ≡ t → (a ≡ b) ⊎ (a ≢ b)
    by_test true is =
        let outer = and_parts ((a.area == b.area) && (a.page == b.page)) (a.line == b.line) is in
        let inner = and_parts (a.area == b.area) (a.page == b.page) outer.0 in
        let area = eqb-true a.area b.area inner.0 in
        let page = eqb-true a.page b.page inner.1 in
        let line = eqb-true a.line b.line outer.1 in
        inl (λ i. record { area = area i; page = page i; line = line i })
    by_test false is = inr (λ same. not_both _
        (and_from _ _ (and_from _ _ (eq-eqb a.area b.area (ap (λ (k : Dbkey). k.area) same)) (eq-eqb a.page b.page (ap (λ (k : Dbkey). k.page) same))) (eq-eqb a.line b.line (ap (λ (k : Dbkey). k.line) same))) is)

module _ (P : PendingContents) (now : Progress) (file number : ℕ) (key : Dbkey) (y x : List ℕ) (area : IsAreaFile file) (plain : IsDataPage number) (was : Facts P now) (pending : P (area_file file) (number - 1) y) (puts : PutsLine file number key y x) where
  -- what was pending is pending on the page of any of its lines
  on_page : (k : Dbkey) → IsOn file number k → P (file_of k) (slot_of k) y
  on_page k on = let there : P (area_file file) (slot_of k) y = subst (λ (i : ℕ). P (area_file file) i y) (sym on.in_slot) pending in subst (λ (f : FileId). P f (slot_of k) y) (sym on.in_file) there

  by_key : (T : Dbkey → List ℕ → Type 0) → ((k : Dbkey) → IsOn file number k → T k y) → ((k : Dbkey) → line_on k x ≡ line_on k y → T k y → T k x) → T key x → (k : Dbkey) → IsOn file number k → T k x
  by_key T old carry here k on = ⊎_elim (λ same. subst (λ (z : Dbkey). T z x) (sym same) here) (λ apart. carry k (puts.others k on apart) (old k on)) (same_key k key)

  fits : (c : ℕ) (bytes : List ℕ) → FitsClass y c bytes → FitsClass x c bytes
  fits c bytes f = record { same = puts.same_class ∙ f.same; fits = f.fits }

  sure_page : number ≤ now.limits.pages → IsSure P now key x → (line_on key x).tsn.number < now.next_tsn → IsFree now key → IsSurePage P now file number x
  sure_page within sure below free = record {
    page = puts.page;
    within = within;
    line = by_key (IsSure P now) (λ k on. was.line k y (on_page k on)) (λ k same s. ⊎_elim (λ c. inl (subst (λ (l : Line). IsCommitted P now k l) (sym same) c)) (λ c. inr (subst (λ (l : Line). IsChanged P now k l) (sym same) c)) s) sure;
    below = by_key (λ k z. (line_on k z).tsn.number < now.next_tsn) (λ k on. was.below.line k y (on_page k on)) (λ k same lt. subst (λ (l : Line). l.tsn.number < now.next_tsn) (sym same) lt) below;
    owner = λ z owned p. was.pages.owner file number y z area plain pending (subst (λ (n : ℕ). 1 ≤ n) puts.same_owner owned) p ∙ sym puts.same_owner;
    class = λ k bytes got on. fits (now.classes k.area) bytes (was.pages.class k bytes y got (on_page k on));
    flight = λ f is. record {
      landed = λ i line got on. ⊎_elim (λ same. absurd (free f is i line got same))
          (λ apart. subst (λ (l : Line). HasLanded f.group line l) (sym (puts.others line.key on apart)) ((was.flight f is).landed i line y got (on_page line.key on))) (same_key line.key key);
      class = λ k bytes got on. fits (f.classes k.area) bytes ((was.flight f is).class k bytes y got (on_page k on));
    };
  }

-- the facts stand when the page is written so
pub line_put : (P Q : PendingContents) (now : Progress) (file number : ℕ) (key : Dbkey) (y x : List ℕ) → IsAreaFile file → IsDataPage number → More Q P (area_file file) (number - 1) x → Facts P now → P (area_file file) (number - 1) y → PutsLine file number key y x
    → number ≤ now.limits.pages → IsSure P now key x → (line_on key x).tsn.number < now.next_tsn → IsFree now key → Facts Q now
line_put P Q now file number key y x area plain more was pending puts within sure below free =
    page_written P Q now file number x plain more was (sure_page P now file number key y x area plain was pending puts within sure below free)

-- the line of a key is put on its page
pub line_changed : (P Q : PendingContents) (now : Progress) (key : Dbkey) (place : Place) (y x : List ℕ) (value : Line) → IsPlaceOf key place → More Q P (area_file place.file) (place.page - 1) x → Facts P now → P (area_file place.file) (place.page - 1) y
    → PutsLine place.file place.page key y x → line_on key x ≡ value → MayPut P now key value → Facts Q now
line_changed P Q now key place y x value names more was pending puts is may =
    line_put P Q now place.file place.page key y x (area_is key place names) names.is_data more was pending puts (subst (λ (n : ℕ). n ≤ now.limits.pages) (sym names.page) may.within)
    (subst (λ (l : Line). IsCommitted P now key l ⊎ IsChanged P now key l) (sym is) may.sure) (subst (λ (l : Line). l.tsn.number < now.next_tsn) (sym is) may.below) may.free

-- every other line is as it was
pub other_line : (old new : Image) (key other : Dbkey) (place : Place) (y x : List ℕ) → y ≡ old (area_file place.file) (place.page - 1) → new (area_file place.file) (place.page - 1) ≡ x
    → ((f : FileId) (i : ℕ) → (f ≡ area_file place.file → i ≢ place.page - 1) → new f i ≡ old f i) → PutsLine place.file place.page key y x → other ≢ key → line_on other (new (file_of other) (slot_of other)) ≡ line_on other (old (file_of other) (slot_of other))
other_line old new key other place y x read here elsewhere puts apart = ⊎_elim
    (λ slot. ⊎_elim (λ file. on_it (record { in_file = ap area_file file; in_slot = slot })) (λ off. off_it (λ same at. off (ap (λ (f : FileId). f.number) same))) (nat_cases (storage_area other.area) place.file))
    (λ off. off_it (λ same at. off at)) (nat_cases (slot_of other) (place.page - 1))
  where
    off_it : (file_of other ≡ area_file place.file → slot_of other ≢ place.page - 1) → line_on other (new (file_of other) (slot_of other)) ≡ line_on other (old (file_of other) (slot_of other))
    off_it off = ap (λ (b : List ℕ). line_on other b) (elsewhere (file_of other) (slot_of other) off)

    on_it : IsOn place.file place.page other → line_on other (new (file_of other) (slot_of other)) ≡ line_on other (old (file_of other) (slot_of other))
    on_it on = ap (λ (b : List ℕ). line_on other b) ((λ k. new (on.in_file k) (on.in_slot k)) ∙ here) ∙ puts.others other on apart ∙ ap (λ (b : List ℕ). line_on other b) (read ∙ (λ k. old (sym on.in_file k) (sym on.in_slot k)))
