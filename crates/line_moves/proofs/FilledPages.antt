-- A page is filled with the lines that it is to have.
use Rattle.std.proofs.lemmas.Bool.{leb-true}
use Rattle.std.proofs.lemmas.Bool.Decides.{nat_tests}
use Rattle.std.proofs.Common.{◌≡◌, ◌≢◌, ℕ, Bool, true, false, nat_le, zero, suc, ◌+◌, ◌-◌, ◌≤◌, ◌<◌, List, [], ◌∷◌, length, slice_index_or, Option, Some, None, slice_get, ◌⊎◌, inl, inr, ⊎_elim, ap, sym, subst, ◌∙◌, arith, refl}
use Rattle.rdb_types.specs.declared.file.FileId.{FileId}
use Rattle.rdb_types.specs.declared.keys.Dbkey.{Dbkey}
use Rattle.rdb_types.specs.declared.keys.Line.{Line}
use Rattle.line_store.specs.rdb_outside.Disk.{Image}
use Rattle.line_store.specs.rdb_page.Whole.{IsPageOf}
use Rattle.stable_lines.specs.line_versions.Lines.{storage_area}
use Rattle.stable_lines.specs.Slots.{area_file, file_of, slot_of, line_on}
use Rattle.stable_lines.specs.Kept.{FitsClass}
use Rattle.stable_lines.specs.Progress.{Progress}
use Rattle.stable_lines.specs.Facts.{PendingContents, IsCommitted, IsChanged, HasLanded}
use Rattle.line_moves.specs.declared.places.Place.{Place}
use Rattle.line_moves.specs.Contents.{IsOn, IsSurePage, PutsLine}
use Rattle.line_store.specs.rdb_page.Lines.{IsAllowedLine}
use Rattle.line_moves.specs.Changes.{IsPlaceOf, Fits}
use Rattle.line_moves.specs.Lines.{ChangedLines, AreDistinct, MayPutAll, ArePut, IsNoKeyOf, Fills}
use Rattle.line_moves.proofs.LinePut.{same_key}
use Rattle.line_moves.proofs.KeyPlaces.{is_on}
use Rattle.line_moves.proofs.Putting.{nat_cases}
use Rattle.line_moves.proofs.Reading.{same_place}

one_of : (a b : Dbkey × Line) → Some a ≡ Some b → a ≡ b
one_of a b same = cc

-- nothing is put yet
pub filled_none : (lines : ChangedLines) (from : ℕ) (place : Place) (y : List ℕ) → IsPageOf place.file place.page y → Fills lines from from place y y
filled_none lines from place y is = record {
  page = is;
  same_owner = refl;
  same_class = refl;
  on = λ i line le lt got. absurd (omega (arith, le, lt));
  stand = λ i line le lt got. absurd (omega (arith, le, lt));
  others = λ key on none. refl;
}

-- one line more is put
pub filled_next : (lines : ChangedLines) (from at : ℕ) (place : Place) (z y x : List ℕ) (line : Dbkey × Line) → from ≤ at → slice_get lines at ≡ Some line → IsPlaceOf line.0 place → AreDistinct lines
    → PutsLine place.file place.page line.0 y x → line_on line.0 x ≡ line.1 → Fills lines from at place z y → Fills lines from (at + 1) place z x
filled_next lines from at place z y x line begun got names distinct puts here was = record {
  page = puts.page;
  same_owner = puts.same_owner ∙ was.same_owner;
  same_class = puts.same_class ∙ was.same_class;
  on = λ i other le lt is. ⊎_elim (λ same. subst (λ (l : Dbkey × Line). IsOn place.file place.page l.0) (this i other same is) (is_on line.0 place names)) (λ apart. was.on i other le (omega (arith, lt, apart)) is) (nat_cases i at);
  stand = λ i other le lt is. ⊎_elim (λ same. subst (λ (l : Dbkey × Line). line_on l.0 x ≡ l.1) (this i other same is) here)
      (λ apart. puts.others other.0 (was.on i other le (omega (arith, lt, apart)) is) (λ keys. apart (distinct i at other line is got keys)) ∙ was.stand i other le (omega (arith, lt, apart)) is) (nat_cases i at);
  others = λ key on none. puts.others key on (λ keys. none at line begun (omega arith) got (sym keys)) ∙ was.others key on (λ i other le lt is. none i other le (omega (arith, lt)) is);
}
  where
    this : (i : ℕ) (other : Dbkey × Line) → i ≡ at → slice_get lines i ≡ Some other → line ≡ other
    this i other same is = one_of line other (sym got ∙ ap (λ (n : ℕ). slice_get lines n) (sym same) ∙ is)

pub some_there : {A : Type 0} (xs : List A) (i : ℕ) → i < length xs → (x : A) × (slice_get xs i ≡ Some x)
some_there [] i less = absurd (omega arith)
some_there (y ∷ ys) zero less = (y, refl)
some_there (y ∷ ys) (suc i) less = let rest = some_there ys i (omega arith) in (rest.0, rest.1)

-- what indexing gives
pub got_pair : (xs : ChangedLines) (i : ℕ) (a b : Dbkey × Line) → i < length xs → slice_get xs i ≡ Some ((slice_index_or xs i a).0, (slice_index_or xs i b).1)
got_pair [] i a b less = absurd (omega (arith, less))
got_pair (y ∷ ys) zero a b less = refl
got_pair (y ∷ ys) (suc i) a b less = got_pair ys i a b (omega (arith, less))

-- what fits a page fits it with other lines put
pub fits_filled : (lines : ChangedLines) (from next : ℕ) (place : Place) (z y : List ℕ) (key : Dbkey) (line : Line) → Fills lines from next place z y → Fits key line z → Fits key line y
fits_filled lines from next place z y key line fills fits = record {
  placed = same_place key y z fills.same_owner fills.same_class ∙ fits.placed;
  allowed = subst (λ (c : ℕ). IsAllowedLine c line) (sym fills.same_class) fits.allowed;
}

-- ---- what the page is then

-- a line of these has the key, or none has
pub record HasKey (lines : ChangedLines) (from next : ℕ) (key : Dbkey) : Type 0 where
  pub index : ℕ
  pub line : Dbkey × Line
  pub begun : from ≤ index
  pub less : index < next
  pub got : slice_get lines index ≡ Some line
  pub keys : line.0 ≡ key

has_or_not : (lines : ChangedLines) (from count : ℕ) (key : Dbkey) → HasKey lines from (from + count) key ⊎ IsNoKeyOf lines from (from + count) key
has_or_not lines from zero key = inr (λ i line le lt got keys. absurd (omega (arith, le, lt)))
has_or_not lines from (suc count) key = ⊎_elim
    (λ has. inl (record { index = has.index; line = has.line; begun = has.begun; less = let less = has.less in omega (arith, less); got = has.got; keys = has.keys }))
    (λ none. last none (slice_get lines (from + count)) refl)
    (has_or_not lines from count key)
  where
    last : IsNoKeyOf lines from (from + count) key → (o : Option (Dbkey × Line)) → slice_get lines (from + count) ≡ o → HasKey lines from (from + suc count) key ⊎ IsNoKeyOf lines from (from + suc count) key
    last none None nothing = inr (λ i line le lt got keys. ⊎_elim (λ same. let bad : None ≡ Some line = sym nothing ∙ ap (λ (n : ℕ). slice_get lines n) (sym same) ∙ got in absurd (cc)) (λ apart. none i line le (omega (arith, lt, apart)) got keys) (nat_cases i (from + count)))
    last none (Some here) got = ⊎_elim
        (λ keys. inl (record { index = from + count; line = here; begun = omega arith; less = omega arith; got = got; keys = keys }))
        (λ other. inr (λ i line le lt is keys. ⊎_elim (λ same. other (ap (λ (l : Dbkey × Line). l.0) (one_of here line (sym got ∙ ap (λ (n : ℕ). slice_get lines n) (sym same) ∙ is)) ∙ keys)) (λ apart. none i line le (omega (arith, lt, apart)) is keys) (nat_cases i (from + count))))
        (same_key here.0 key)

pub has_key : (lines : ChangedLines) (from next : ℕ) (key : Dbkey) → from ≤ next → HasKey lines from next key ⊎ IsNoKeyOf lines from next key
has_key lines from next key le = let long : from + (next - from) ≡ next = omega (arith, le) in
    subst (λ (n : ℕ). HasKey lines from n key ⊎ IsNoKeyOf lines from n key) long (has_or_not lines from (next - from) key)

-- it is sure, where the lines may be put
pub sure_filled : (P : PendingContents) (now : Progress) (lines : ChangedLines) (from next : ℕ) (place : Place) (y x : List ℕ) → from ≤ next → IsSurePage P now place.file place.page y → Fills lines from next place y x → MayPutAll P now lines → IsSurePage P now place.file place.page x
sure_filled P now lines from next place y x le was fills may = record {
  page = fills.page;
  within = was.within;
  line = by_key (λ k l. IsCommitted P now k l ⊎ IsChanged P now k l) was.line (λ i line got. (may i line got).sure);
  below = by_key (λ k l. l.tsn.number < now.next_tsn) was.below (λ i line got. (may i line got).below);
  owner = λ z owned p. was.owner z (subst (λ (n : ℕ). 1 ≤ n) fills.same_owner owned) p ∙ sym fills.same_owner;
  class = λ k bytes got on. fits (now.classes k.area) bytes (was.class k bytes got on);
  flight = λ f is. record {
    landed = λ i of got on. ⊎_elim (λ has. absurd ((may has.index has.line has.got).free f is i of got (sym has.keys)))
        (λ none. subst (λ (l : Line). HasLanded f.group of l) (sym (fills.others of.key on none)) ((was.flight f is).landed i of got on)) (has_key lines from next of.key le);
    class = λ k bytes got on. fits (f.classes k.area) bytes ((was.flight f is).class k bytes got on);
  };
}
  where
    by_key : (T : Dbkey → Line → Type 0) → ((k : Dbkey) → IsOn place.file place.page k → T k (line_on k y)) → ((i : ℕ) (line : Dbkey × Line) → slice_get lines i ≡ Some line → T line.0 line.1) → (k : Dbkey) → IsOn place.file place.page k → T k (line_on k x)
    by_key T old new k on = ⊎_elim
        (λ has. subst (λ (z : Dbkey). T z (line_on z x)) has.keys (subst (λ (l : Line). T has.line.0 l) (sym (fills.stand has.index has.line has.begun has.less has.got)) (new has.index has.line has.got)))
        (λ none. subst (λ (l : Line). T k l) (sym (fills.others k on none)) (old k on)) (has_key lines from next k le)

    fits : (c : ℕ) (bytes : List ℕ) → FitsClass y c bytes → FitsClass x c bytes
    fits c bytes f = record { same = fills.same_class ∙ f.same; fits = f.fits }

-- ---- over all pages

-- what was said of each line of the page, it being used or never
abbrev pub SameLines : Place → List ℕ → List ℕ → Type 0
SameLines place y z = (key : Dbkey) → IsOn place.file place.page key → line_on key z ≡ line_on key y

-- behind the write all lines up to the next page are on their pages
pub put_more : (old new : Image) (lines : ChangedLines) (from next : ℕ) (place : Place) (z x : List ℕ) → AreDistinct lines → SameLines place (old (area_file place.file) (place.page - 1)) z → Fills lines from next place z x → new (area_file place.file) (place.page - 1) ≡ x
    → ((f : FileId) (i : ℕ) → (f ≡ area_file place.file → i ≢ place.page - 1) → new f i ≡ old f i) → ArePut old lines from → ArePut new lines next
put_more old new lines from next place z x distinct lines_of fills here elsewhere was i line less got = by_place (nat_le from i) refl
  where
    on_page : IsOn place.file place.page line.0 → line_on line.0 (new (file_of line.0) (slot_of line.0)) ≡ line_on line.0 x
    on_page on = ap (λ (b : List ℕ). line_on line.0 b) ((λ k. new (on.in_file k) (on.in_slot k)) ∙ here)

    fresh : from ≤ i → line_on line.0 (new (file_of line.0) (slot_of line.0)) ≡ line.1
    fresh le = on_page (fills.on i line le less got) ∙ fills.stand i line le less got

    on_it : i < from → IsOn place.file place.page line.0 → line_on line.0 (new (file_of line.0) (slot_of line.0)) ≡ line.1
    on_it lt on =
        let apart : IsNoKeyOf lines from next line.0 = λ k other le more is keys. (let same : k ≡ i = distinct k i other line is got keys in omega (arith, same, le, lt)) in
        on_page on ∙ fills.others line.0 on apart ∙ lines_of line.0 on ∙ ap (λ (b : List ℕ). line_on line.0 b) (λ k. old (sym on.in_file k) (sym on.in_slot k)) ∙ was i line lt got

    off_it : i < from → (file_of line.0 ≡ area_file place.file → slot_of line.0 ≢ place.page - 1) → line_on line.0 (new (file_of line.0) (slot_of line.0)) ≡ line.1
    off_it lt apart = ap (λ (b : List ℕ). line_on line.0 b) (elsewhere (file_of line.0) (slot_of line.0) apart) ∙ was i line lt got

    earlier : i < from → line_on line.0 (new (file_of line.0) (slot_of line.0)) ≡ line.1
    earlier lt = ⊎_elim
        (λ slot. ⊎_elim (λ file. on_it lt (record { in_file = ap area_file file; in_slot = slot })) (λ apart. off_it lt (λ same at. apart (ap (λ (f : FileId). f.number) same))) (nat_cases (storage_area line.0.area) place.file))
        (λ apart. off_it lt (λ same at. apart at)) (nat_cases (slot_of line.0) (place.page - 1))

    by_place : (b : Bool) → nat_le from i ≡ b → line_on line.0 (new (file_of line.0) (slot_of line.0)) ≡ line.1
    by_place true is = fresh (leb-true from i is)
    by_place false isnt = earlier (grind (arith, nat_tests))
