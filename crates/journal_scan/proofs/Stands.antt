-- What is computed from a slot's bytes stands there.
use Rattle.std.proofs.Common.{◌≡◌, ℕ, ◌+◌, ◌^◌, ◌==◌, ◌&&◌, ◌||◌, nat_le, nat_lt, true, false, List, [], ◌∷◌, length, take, drop, replicate, map, Option, Some, None, if◌then◌else◌, refl, sym, ◌∙◌, ap, subst, inl, inr}
use Rattle.std.proofs.lemmas.Bool.{eqb-true, eq-eqb, leb-true, le-leb, ltb-true, lt-ltb, and_parts, and_from, or_cases, both_ways}
use Rattle.aij_journal.specs.slot_fields.Fields.{Field, number, text, gap, number_at, HasFrom}
use Rattle.aij_journal.specs.rdb_types.declared.keys.LineState.{LineState}
use Rattle.aij_journal.specs.rdb_types.declared.keys.LineState.TheVariants.{Never, Present, Erased}
use Rattle.aij_journal.specs.rdb_page.Lines.{byte_of}
use Rattle.aij_journal.specs.rdb_page.Page.{IsClass}
use Rattle.aij_journal.specs.declared.part.GroupLine.{GroupLine}
use Rattle.aij_journal.specs.declared.part.AijPart.{AijPart}
use Rattle.aij_journal.specs.Part.{IsPart, IsAllowedWhat, LeavesLine, part_fields, what_fields}
use Rattle.journal_scan.specs.Whole.{Holds, Hold}
use Rattle.journal_scan.specs.Standing.{are_same, has_from, leaves, is_allowed_what, is_part, said_state, said_line, said_part, what_stands}

-- ---- the tests mean what they say

same-yes : (xs ys : List ℕ) → are_same xs ys ≡ true → xs ≡ ys
same-yes [] [] e = refl
same-yes [] (y ∷ ys) e = let bad : ⊥ = cc in absurd bad
same-yes (x ∷ xs) [] e = let bad : ⊥ = cc in absurd bad
same-yes (x ∷ xs) (y ∷ ys) e =
    let parts = and_parts (x == y) (are_same xs ys) e in
    let first : x ≡ y = eqb-true x y parts.0 in
    λ i. first i ∷ same-yes xs ys parts.1 i

same-itself : (xs : List ℕ) → are_same xs xs ≡ true
same-itself [] = refl
same-itself (x ∷ xs) = and_from (x == x) (are_same xs xs) (eq-eqb x x refl) (same-itself xs)

yes-same : (xs ys : List ℕ) → xs ≡ ys → are_same xs ys ≡ true
yes-same xs ys e = ap (λ (l : List ℕ). are_same l ys) e ∙ same-itself ys

has-yes : (at : ℕ) (fields : List Field) (slot : List ℕ) → has_from at fields slot ≡ true → HasFrom at fields slot
has-yes at [] slot e = eqb-true (length slot) at e
has-yes at (number n x ∷ fields) slot e =
    let parts = and_parts (number_at n at slot == x) (has_from (at + n) fields slot) e in
    (eqb-true (number_at n at slot) x parts.0, has-yes (at + n) fields slot parts.1)
has-yes at (text bytes ∷ fields) slot e =
    let parts = and_parts (are_same (take (length bytes) (drop at slot)) bytes) (has_from (at + length bytes) fields slot) e in
    (same-yes (take (length bytes) (drop at slot)) bytes parts.0, has-yes (at + length bytes) fields slot parts.1)
has-yes at (gap n ∷ fields) slot e =
    let parts = and_parts (are_same (take n (drop at slot)) (replicate n 0)) (has_from (at + n) fields slot) e in
    (same-yes (take n (drop at slot)) (replicate n 0) parts.0, has-yes (at + n) fields slot parts.1)

yes-has : (at : ℕ) (fields : List Field) (slot : List ℕ) → HasFrom at fields slot → has_from at fields slot ≡ true
yes-has at [] slot has = eq-eqb (length slot) at has
yes-has at (number n x ∷ fields) slot has =
    and_from (number_at n at slot == x) (has_from (at + n) fields slot) (eq-eqb (number_at n at slot) x has.0) (yes-has (at + n) fields slot has.1)
yes-has at (text bytes ∷ fields) slot has =
    and_from (are_same (take (length bytes) (drop at slot)) bytes) (has_from (at + length bytes) fields slot) (yes-same (take (length bytes) (drop at slot)) bytes has.0) (yes-has (at + length bytes) fields slot has.1)
yes-has at (gap n ∷ fields) slot has =
    and_from (are_same (take n (drop at slot)) (replicate n 0)) (has_from (at + n) fields slot) (yes-same (take n (drop at slot)) (replicate n 0) has.0) (yes-has (at + n) fields slot has.1)

class-yes : (class : ℕ) → ((class == 208) || (class == 440)) ≡ true → IsClass class
class-yes class e = elim (or_cases (class == 208) (class == 440) e) [
  | inl small ↦ inl (eqb-true class 208 small)
  | inr large ↦ inr (eqb-true class 440 large)
]

yes-class : (class : ℕ) → IsClass class → ((class == 208) || (class == 440)) ≡ true
yes-class class (inl small) = rw small refl
yes-class class (inr large) = rw large refl

leaves-yes : (state : LineState) (image : List ℕ) → leaves state image ≡ true → LeavesLine state image
leaves-yes Never image e = let bad : ⊥ = cc in bad
leaves-yes Present image e = tt
leaves-yes Erased image e = eqb-true (length image) 0 e

yes-leaves : (state : LineState) (image : List ℕ) → LeavesLine state image → leaves state image ≡ true
yes-leaves Never image none = absurd none
yes-leaves Present image is = refl
yes-leaves Erased image is = eq-eqb (length image) 0 is

what-yes : (what : Option GroupLine) → is_allowed_what what ≡ true → IsAllowedWhat what
what-yes None e = tt
what-yes (Some l) e =
    let first = and_parts (((l.class == 208) || (l.class == 440)) && nat_le (length l.image) l.class) (leaves l.state l.image) e in
    let second = and_parts ((l.class == 208) || (l.class == 440)) (nat_le (length l.image) l.class) first.0 in
    record { class = class-yes l.class second.0; image = leb-true (length l.image) l.class second.1; leaves = leaves-yes l.state l.image first.1 }

yes-what : (what : Option GroupLine) → IsAllowedWhat what → is_allowed_what what ≡ true
yes-what None is = refl
yes-what (Some l) is =
    and_from (((l.class == 208) || (l.class == 440)) && nat_le (length l.image) l.class) (leaves l.state l.image)
    (and_from ((l.class == 208) || (l.class == 440)) (nat_le (length l.image) l.class) (yes-class l.class is.class) (le-leb (length l.image) l.class is.image))
    (yes-leaves l.state l.image is.leaves)

part-yes : (slot : List ℕ) (p : AijPart) → is_part slot p ≡ true → IsPart slot p
part-yes slot p e =
    let first = and_parts ((has_from 0 (part_fields p) slot && nat_le p.number (2 ^ 62)) && nat_lt p.tsn.number (2 ^ 62)) (is_allowed_what p.line) e in
    let second = and_parts (has_from 0 (part_fields p) slot && nat_le p.number (2 ^ 62)) (nat_lt p.tsn.number (2 ^ 62)) first.0 in
    let third = and_parts (has_from 0 (part_fields p) slot) (nat_le p.number (2 ^ 62)) second.0 in
    record {
      fields = has-yes 0 (part_fields p) slot third.0;
      number = leb-true p.number (2 ^ 62) third.1;
      tsn = ltb-true p.tsn.number (2 ^ 62) second.1;
      what = what-yes p.line first.1;
    }

yes-part : (slot : List ℕ) (p : AijPart) → IsPart slot p → is_part slot p ≡ true
yes-part slot p is =
    and_from ((has_from 0 (part_fields p) slot && nat_le p.number (2 ^ 62)) && nat_lt p.tsn.number (2 ^ 62)) (is_allowed_what p.line)
    (and_from (has_from 0 (part_fields p) slot && nat_le p.number (2 ^ 62)) (nat_lt p.tsn.number (2 ^ 62))
    (and_from (has_from 0 (part_fields p) slot) (nat_le p.number (2 ^ 62)) (yes-has 0 (part_fields p) slot is.fields) (le-leb p.number (2 ^ 62) is.number))
    (lt-ltb p.tsn.number (2 ^ 62) is.tsn))
    (yes-what p.line is.what)

-- ---- what stands there is what the bytes say

state-said : (state : LineState) → said_state (byte_of state) ≡ state
state-said Never = refl
state-said Present = refl
state-said Erased = refl

line-said : (slot : List ℕ) (l : GroupLine) → HasFrom 28 (what_fields (Some l)) slot → l ≡ said_line slot
line-said slot l has =
    let fields = has.1 in
    let area : l.key.area ≡ number_at 4 29 slot = sym fields.0 in
    let page : l.key.page ≡ number_at 4 33 slot = sym fields.1.0 in
    let line : l.key.line ≡ number_at 2 37 slot = sym fields.1.1.0 in
    let state : l.state ≡ said_state (number_at 1 39 slot) = sym (state-said l.state) ∙ ap said_state (sym fields.1.1.1.0) in
    let class : l.class ≡ number_at 2 42 slot = sym fields.1.1.1.1.1.0 in
    let image : l.image ≡ take (number_at 2 40 slot) (drop 48 slot) = sym fields.1.1.1.1.1.1.1.0 ∙ ap (λ n. take n (drop 48 slot)) (sym fields.1.1.1.1.0) in
    λ i. record { key = record { area = area i; page = page i; line = line i }; class = class i; state = state i; image = image i }

what-said : (slot : List ℕ) (what : Option GroupLine) → HasFrom 28 (what_fields what) slot → what ≡ (said_part slot).line
what-said slot None has = rw has.0 refl
what-said slot (Some l) has = rw has.0 (ap Some (line-said slot l has))

part-said : (slot : List ℕ) (p : AijPart) → IsPart slot p → p ≡ said_part slot
part-said slot p is =
    let fields = is.fields.1 in
    let number : p.number ≡ number_at 8 4 slot = sym fields.0 in
    let tsn : p.tsn.number ≡ number_at 8 12 slot = sym fields.1.0 in
    let index : p.index ≡ number_at 4 20 slot = sym fields.1.1.0 in
    let count : p.count ≡ number_at 4 24 slot = sym fields.1.1.1.0 in
    let line : p.line ≡ (said_part slot).line = what-said slot p.line fields.1.1.1.1 in
    λ i. record { number = number i; tsn = record { number = tsn i }; index = index i; count = count i; line = line i }

pub stands : (slot : List ℕ) → Holds slot (what_stands slot)
unfolding what_stands
stands slot =
    elim (is_part slot (said_part slot)) as (λ v. is_part slot (said_part slot) ≡ v → Holds slot (if v then Some (said_part slot) else None)) [
      | true ↦ λ e. part-yes slot (said_part slot) e
      | false ↦ λ e. λ part is. both_ways (is_part slot (said_part slot)) e (yes-part slot (said_part slot) (subst (λ (p : AijPart). IsPart slot p) (part-said slot part is) is))
    ] refl

pub only_stands : (slot : List ℕ) (what : Option AijPart) → Holds slot what → what ≡ what_stands slot
unfolding what_stands
only_stands slot (Some part) is =
    let said : part ≡ said_part slot = part-said slot part is in
    let yes : is_part slot (said_part slot) ≡ true = yes-part slot (said_part slot) (subst (λ (p : AijPart). IsPart slot p) said is) in
    rw yes (ap Some said)
only_stands slot None none =
    elim (is_part slot (said_part slot)) as (λ v. is_part slot (said_part slot) ≡ v → None ≡ (if v then Some (said_part slot) else None)) [
      | true ↦ λ e. absurd (none (said_part slot) (part-yes slot (said_part slot) e))
      | false ↦ λ e. refl
    ] refl

pub all_stand : (slots : List (List ℕ)) (whats : List (Option AijPart)) → Hold slots whats → map what_stands slots ≡ whats
all_stand [] [] held = refl
all_stand [] (what ∷ whats) held = absurd held
all_stand (slot ∷ slots) [] held = absurd held
all_stand (slot ∷ slots) (what ∷ whats) held = λ i. sym (only_stands slot what held.0) i ∷ all_stand slots whats held.1 i
