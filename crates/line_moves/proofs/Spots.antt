-- Whether a page has a place for a line.
use Rattle.std.proofs.Common.{◌≡◌, ◌≢◌, ℕ, ◌≤◌, ◌<◌, Bool, true, false, List, [], ◌∷◌, length, ◌⊎◌, ⊎_elim, sym, subst, ◌∙◌, arith, refl}
use Rattle.std.proofs.lemmas.Bool.{eq-eqb, le-leb, lt-ltb, and_from}
use Rattle.rdb_types.specs.declared.keys.Dbkey.{Dbkey}
use Rattle.line_store.specs.rdb_page.declared.head.Head.{Head}
use Rattle.slot_fields.proofs.Laws.{word_not_zeros}
use Rattle.rdb_types.specs.declared.keys.Line.{Line}
use Rattle.line_store.specs.rdb_page.Whole.{IsPageOf, IsUsedPage}
use Rattle.stable_lines.proofs.Never.{zeros_owner}
use Rattle.line_store.specs.rdb_page.Page.{IsHead, IsUnused, StandsAs, class_at, lines_of}
use Rattle.line_store.specs.rdb_page.Lines.{IsLine, never}
use Rattle.stable_lines.specs.Slots.{owner_at, has_place, line_on}
use Rattle.line_moves.specs.declared.places.Place.{Place}
use Rattle.line_moves.specs.Changes.{IsPlaceOf}
use Rattle.line_moves.proofs.Reading.{owner_is, class_is, line_none}
use Rattle.line_moves.proofs.Putting.{place_says}
use Rattle.line_moves.proofs.KeyPlaces.{some_area}

isnt : (b : Bool) → (b ≡ true → ⊥) → b ≡ false
isnt true no_it = absurd (no_it refl)
isnt false no_it = refl

pub place_has : (key : Dbkey) (place : Place) (page : List ℕ) (head : Head) → IsPlaceOf key place → IsHead page head → head.owner ≡ key.area → key.line < lines_of head.class → has_place key page ≡ true
place_has key place page head names is owned within =
    let first : 1 ≤ key.page = subst (λ (n : ℕ). 1 ≤ n) names.page names.is_data.is_page.first in
    let last : key.page ≤ 65536 = subst (λ (n : ℕ). n ≤ 65536) names.page names.is_data.is_page.last in
    let owner : owner_at page ≡ key.area = owner_is page head is ∙ owned in
    let line : key.line < lines_of (class_at page) = subst (λ (c : ℕ). key.line < lines_of c) (sym (class_is page head is)) within in
    and_from _ _ (and_from _ _ (and_from _ _ (and_from _ _ (le-leb 1 key.area (some_area key place names)) (le-leb 1 key.page first)) (le-leb key.page 65536 last)) (eq-eqb (owner_at page) key.area owner)) (lt-ltb key.line (lines_of (class_at page)) line)

pub never_of_another : (key : Dbkey) (page : List ℕ) (head : Head) → IsHead page head → head.owner ≢ key.area → line_on key page ≡ never
never_of_another key page head is apart =
    line_none key page (isnt (has_place key page) (λ has. apart (sym (owner_is page head is) ∙ (place_says key page has).owned)))

pub never_past : (key : Dbkey) (page : List ℕ) (head : Head) → IsHead page head → lines_of head.class ≤ key.line → line_on key page ≡ never
never_past key page head is past =
    line_none key page (isnt (has_place key page) (λ has.
    let less : key.line < lines_of head.class = subst (λ (c : ℕ). key.line < lines_of c) (class_is page head is) (place_says key page has).line in absurd (omega (arith, less, past))))

pub never_elsewhere : (key : Dbkey) (page : List ℕ) (head : Head) → IsHead page head → (head.owner ≢ key.area) ⊎ (lines_of head.class ≤ key.line) → line_on key page ≡ never
never_elsewhere key page head is either = ⊎_elim (never_of_another key page head is) (never_past key page head is) either

-- a page that was never used has no place
pub unused_place : (key : Dbkey) (page : List ℕ) → IsUnused page → has_place key page ≡ true → ⊥
unused_place key page unused has =
    let says = place_says key page has in let none = zeros_owner page unused in let owned = says.owned in let area = says.area in omega (arith, none, owned, area)

-- a page with no head has none
pub no_used : (page : List ℕ) (file number : ℕ) (key : Dbkey) → IsPageOf file number page → has_place key page ≡ true → ((head : Head) → StandsAs page file number head → ⊥) → ⊥
no_used page file number key is has none = ⊎_elim (λ unused. unused_place key page unused has) (λ (used : IsUsedPage file number page). none used.head used.stands) is

pub not_unused : (y : List ℕ) (file number : ℕ) (head : Head) → StandsAs y file number head → IsUnused y → ⊥
not_unused y file number head stands none = word_not_zeros y (length y) 79 (65 ∷ 71 ∷ 69 ∷ []) none stands.head.fields.0

-- a page with a head has a line in each place
pub no_line : (page : List ℕ) (file number : ℕ) (head : Head) (line : ℕ) → StandsAs page file number head → line < lines_of head.class → ((value : Line) → IsLine page (class_at page) line value → ⊥) → IsPageOf file number page → ⊥
no_line page file number head line found less none is = ⊎_elim (λ unused. not_unused page file number head found unused) used is
  where
    used : IsUsedPage file number page → ⊥
    used u =
        let class : head.class ≡ u.head.class = sym (class_is page head found.head) ∙ class_is page u.head u.stands.head in
        let there = u.lines line (subst (λ (c : ℕ). line < lines_of c) class less) in
        none there.0 (subst (λ (c : ℕ). IsLine page c line there.0) (sym (class_is page u.head u.stands.head)) there.1)
