-- The lines that tables of pages have can be counted.
use Rattle.std.proofs.Common.{◌≡◌, ◌≤◌, ◌<◌, ◌+◌, ◌*◌, ◌-◌, ◌∙◌, ◌||◌, ◌%◌, nat_eq, ℕ, Bool, true, false, cond, List, [], ◌∷◌, length, map, Some, None, inl, inr, ap, sym, subst, refl, eqb, arith}
use Rattle.std.specs.Prelude.{if◌then◌else◌}
use Rattle.std.specs.List.{list_any, AllByRecursion, IsDistinct}
use Rattle.std.specs.declared.cmp.Ordering.{Ordering}
use Rattle.std.specs.declared.cmp.Ordering.TheVariants.{Less, Equal, Greater}
use Rattle.std.specs.Ordering.{is_eq, is_lt}
use Rattle.std.specs.Cmp.{tied_itself}
use Rattle.std.specs.FinMap.Entries.{is_sorted, below_all}
use Rattle.std.proofs.lemmas.Bool.{and_parts, eqb-true}
use Rattle.std.proofs.lemmas.Bool.Decides.{nat_tests}
use Rattle.std.proofs.lemmas.List.{length-map}
use Rattle.std.proofs.lemmas.Map.Steps.{length-le_from_distinct_below}
use Rattle.rdb_types.specs.declared.keys.Dbkey.{Dbkey}
use Rattle.rdb_types.specs.Order.{dbkey_order}
use Rattle.rdb_types.specs.OrderLaws.{dbkey_total, same_dbkey}
use Rattle.rdb_page.specs.Page.{IsOwner, lines_of}
use Rattle.line_versions.specs.Lines.{storage_area}
use Rattle.line_view.specs.Knowledge.{Lines, IsInOrder, line_in}
use Rattle.member_rooms.specs.page_table.Pages.{class_in, owner_in}
use Rattle.disk_store.specs.declared.held.Tables.{Tables}
use Rattle.disk_store.specs.Shown.{pages_of}
use Rattle.disk_store.specs.Sound.{IsUsedIn}

-- ---- each entry of a map is found by its key

not-equal : (r : Ordering) → is_lt r ≡ true → is_eq r ≡ false
not-equal Less h = refl
not-equal Equal h = let bad : ⊥ = cc in absurd bad
not-equal Greater h = refl

equal-of : (r : Ordering) → is_eq r ≡ true → r ≡ Equal
equal-of Less h = let bad : ⊥ = cc in absurd bad
equal-of Equal h = refl
equal-of Greater h = let bad : ⊥ = cc in absurd bad

none-below : (key : Dbkey) (es : Lines) → below_all dbkey_order key es ≡ true → line_in key es ≡ None
none-below key [] below = refl
none-below key (e ∷ es) below =
    let parts = and_parts (is_lt (dbkey_order key e.0)) (below_all dbkey_order key es) below in
    ap (λ (b : Bool). cond b (Some e.1) (line_in key es)) (not-equal (dbkey_order key e.0) parts.0) ∙ none-below key es parts.1

abbrev IsUsed : Tables → Dbkey → Type 0
IsUsed tables key = (file : ℕ) × IsUsedIn tables file key

abbrev AllUsed : Tables → Lines → Type 0
AllUsed tables [] = Unit {0}
AllUsed tables (e ∷ es) = IsUsed tables e.0 × AllUsed tables es

all-used : (tables : Tables) (lines : Lines) → IsInOrder lines → ((key : Dbkey) (image : List ℕ) → line_in key lines ≡ Some image → IsUsed tables key) → AllUsed tables lines
all-used tables [] ordered used = tt
all-used tables (e ∷ es) ordered used = (
  used e.0 e.1 (ap (λ (r : Ordering). cond (is_eq r) (Some e.1) (line_in e.0 es)) (tied_itself dbkey_total e.0)),
  all-used tables es parts.1 (λ key image there. used key image (later key image there (is_eq (dbkey_order key e.0)) refl)),
)
  where
    parts : (below_all dbkey_order e.0 es ≡ true) × (is_sorted dbkey_order es ≡ true)
    parts = and_parts (below_all dbkey_order e.0 es) (is_sorted dbkey_order es) ordered

    -- a key behind the first isn't the first
    later : (key : Dbkey) (image : List ℕ) → line_in key es ≡ Some image → (b : Bool) → is_eq (dbkey_order key e.0) ≡ b → line_in key (e ∷ es) ≡ Some image
    later key image there true tied =
        let same : key ≡ e.0 = same_dbkey key e.0 (equal-of (dbkey_order key e.0) tied) in
        let bad : None ≡ Some image = sym (none-below e.0 es parts.0) ∙ (ap (λ (k : Dbkey). line_in k es) (sym same) ∙ there) in
        absurd (cc)
    later key image there false apart = ap (λ (b : Bool). cond b (Some e.1) (line_in key es)) apart ∙ there

-- ---- the file of an area

by-tests : (area : ℕ) (a b : Bool) → nat_eq area 1 ≡ a → nat_eq (area % 2) 0 ≡ b → storage_area area ≡ (if a then 1 else (if b then 2 else 3))
by-tests area a b one two = λ i. if one i then 1 else (if two i then 2 else 3)

not-one : (area : ℕ) → 16 ≤ area → nat_eq area 1 ≡ false
not-one area le = grind (arith, nat_tests)

even : (area : ℕ) → area % 2 ≡ 0 → nat_eq (area % 2) 0 ≡ true
even area is = grind (arith, nat_tests)

odd : (area : ℕ) → area % 2 ≡ 1 → nat_eq (area % 2) 0 ≡ false
odd area is = grind (arith, nat_tests)

owner_file : (file area : ℕ) → IsOwner file area → file ≡ storage_area area
owner_file file area (inl first) = first.0 ∙ sym (ap storage_area first.1)
owner_file file area (inr (inl second)) = second.0 ∙ sym (by-tests area false true (not-one area second.1) (even area second.2))
owner_file file area (inr (inr third)) = third.0 ∙ sym (by-tests area false false (not-one area (let le = third.1 in omega (arith, le))) (odd area third.2))

-- ---- a line's place among all that area files may have

abbrev code : Dbkey → ℕ
code key = (storage_area key.area * 65536 + (key.page - 1)) * 4 + key.line

-- the file, the page and the line of a key that was used
record HasPlace (tables : Tables) (key : Dbkey) : Type 0 where
  file : ℕ
  its : IsUsedIn tables file key
  is : file ≡ storage_area key.area
  low : file ≤ 3
  first : 1 ≤ key.page
  last : key.page ≤ 65536
  line : key.line < 4

four : (class : ℕ) → lines_of class ≤ 4
four class = by (nat_eq class 208)
  where
    by : (b : Bool) → (if b then 4 else 2) ≤ 4
    by true = omega arith
    by false = omega arith

three : (area : ℕ) → storage_area area ≤ 3
three area = by (nat_eq area 1) (nat_eq (area % 2) 0)
  where
    by : (a b : Bool) → (if a then 1 else (if b then 2 else 3)) ≤ 3
    by true b = omega arith
    by false true = omega arith
    by false false = omega arith

module _ (tables : Tables) (long : (file : ℕ) → length (pages_of tables file) ≤ 65536) where
  place : (key : Dbkey) → IsUsed tables key → HasPlace tables key
  place key used =
      let file = used.0 in
      let its : IsUsedIn tables file key = used.1 in
      let same : file ≡ storage_area key.area = owner_file file key.area its.owner in
      let most = long file in
      let within = its.used.is_line.within.last in
      let few = four (class_in (pages_of tables file) key.page) in
      let line = its.used.is_line.line in
      let low = three key.area in
      record {
        file = file;
        its = its;
        is = same;
        low = omega (arith, same, low);
        first = its.used.is_line.within.first;
        last = omega (arith, most, within);
        line = omega (arith, line, few);
      }

  code-below : (key : Dbkey) → IsUsed tables key → code key < 1048576
  code-below key used =
      let at : HasPlace tables key = place key used in
      let is = at.is in let low = at.low in let first = at.first in let last = at.last in let line = at.line in
      omega (arith, is, low, first, last, line)

  -- who has the same place is the same line
  one-code : (a b : Dbkey) → IsUsed tables a → IsUsed tables b → code a ≡ code b → a ≡ b
  one-code a b used-a used-b same =
      let x : HasPlace tables a = place a used-a in
      let y : HasPlace tables b = place b used-b in
      let ax = x.is in let af = x.first in let al = x.last in let an = x.line in
      let bx = y.is in let bf = y.first in let bl = y.last in let bn = y.line in
      let file : x.file ≡ y.file = omega (arith, same, ax, af, al, an, bx, bf, bl, bn) in
      let page : a.page ≡ b.page = omega (arith, same, ax, af, al, an, bx, bf, bl, bn) in
      let line : a.line ≡ b.line = omega (arith, same, ax, af, al, an, bx, bf, bl, bn) in
      let area : a.area ≡ b.area = sym x.its.used.is_line.owner ∙ ((λ i. owner_in (pages_of tables (file i)) (page i)) ∙ y.its.used.is_line.owner) in
      λ i. record { area = area i; page = page i; line = line i }

  -- ---- no two lines have one place

  apart-from : (a : Dbkey) → IsUsed tables a → (es : Lines) → AllUsed tables es → below_all dbkey_order a es ≡ true → AllByRecursion (λ y. eqb (code a) y ≡ false) (map (λ e. code e.0) es)
  apart-from a used [] all below = tt
  apart-from a used (e ∷ es) all below =
      let parts = and_parts (is_lt (dbkey_order a e.0)) (below_all dbkey_order a es) below in
      (by (eqb (code a) (code e.0)) refl parts.0, apart-from a used es all.1 parts.1)
    where
      by : (b : Bool) → eqb (code a) (code e.0) ≡ b → is_lt (dbkey_order a e.0) ≡ true → eqb (code a) (code e.0) ≡ false
      by false is less = is
      by true is less =
          let same : a ≡ e.0 = one-code a e.0 used all.0 (eqb-true (code a) (code e.0) is) in
          let tied : is_lt (dbkey_order a a) ≡ true = ap (λ (k : Dbkey). is_lt (dbkey_order a k)) same ∙ less in
          let bad : false ≡ true = sym (ap is_lt (tied_itself dbkey_total a)) ∙ tied in absurd (cc)

  distinct : (es : Lines) → AllUsed tables es → IsInOrder es → IsDistinct eqb (map (λ e. code e.0) es)
  unfolding IsDistinct
  distinct [] all ordered = tt
  distinct (e ∷ es) all ordered =
      let parts = and_parts (below_all dbkey_order e.0 es) (is_sorted dbkey_order es) ordered in
      (apart-from e.0 all.0 es all.1 parts.0, distinct es all.1 parts.1)

  all-below : (es : Lines) → AllUsed tables es → (q : ℕ) → list_any (eqb q) (map (λ e. code e.0) es) ≡ true → q < 1048576
  all-below [] all q is = let bad : ⊥ = cc in absurd bad
  all-below (e ∷ es) all q is = by (λ rest. all-below es all.1 q rest) (eqb q (code e.0)) refl is
    where
      by : (list_any (eqb q) (map (λ x. code x.0) es) ≡ true → q < 1048576) → (b : Bool) → eqb q (code e.0) ≡ b → list_any (eqb q) (code e.0 ∷ map (λ x. code x.0) es) ≡ true → q < 1048576
      by later true same any = let here = eqb-true q (code e.0) same in let below = code-below e.0 all.0 in omega (arith, here, below)
      by later false apart any = later (subst (λ (b : Bool). (b || list_any (eqb q) (map (λ x. code x.0) es)) ≡ true) apart any)

pub few-lines : (tables : Tables) (lines : Lines) → IsInOrder lines → ((file : ℕ) → length (pages_of tables file) ≤ 65536) → ((key : Dbkey) (image : List ℕ) → line_in key lines ≡ Some image → (file : ℕ) × IsUsedIn tables file key) → length lines ≤ 1048576
few-lines tables lines ordered long used =
    let all = all-used tables lines ordered used in
    let most = length-le_from_distinct_below (map (λ (e : Dbkey × List ℕ). code e.0) lines) 1048576 (distinct tables long lines all ordered) (all-below tables long lines all) in
    let count = length-map lines (λ (e : Dbkey × List ℕ). code e.0) in
    omega (arith, most, count)
