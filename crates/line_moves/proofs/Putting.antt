-- A line that is laid out in its place on a page in use leaves all other lines as they are.
use Rattle.std.proofs.Common.{◌≡◌, ◌≢◌, ℕ, ◌+◌, ◌-◌, ◌≤◌, ◌<◌, ◌==◌, ◌&&◌, nat_le, nat_lt, Bool, true, false, List, [], ◌∷◌, take, drop, ◌⊎◌, inl, inr, ⊎_elim, sym, subst, ◌∙◌, arith, refl}
use Rattle.std.proofs.lemmas.Bool.{eqb-true, eq-eqb, leb-true, ltb-true, and_parts}
use Rattle.slot_fields.proofs.Laws.{part_before, part_behind}
use Rattle.slot_fields.specs.Fields.{gap}
use Rattle.rdb_types.specs.declared.keys.Dbkey.{Dbkey}
use Rattle.rdb_types.specs.declared.keys.Line.{Line}
use Rattle.line_store.specs.rdb_page.declared.head.Head.{Head}
use Rattle.line_store.specs.rdb_page.Lines.{line_place, IsLine}
use Rattle.line_store.specs.rdb_page.Page.{IsClass, IsHead, HasNoMore, lines_of, lines_end, class_at, head_fields}
use Rattle.stable_lines.specs.Slots.{owner_at, has_place, line_on}
use Rattle.line_store.specs.rdb_page.Whole.{IsUsedPage}
use Rattle.line_moves.specs.Contents.{IsOn, PutsLine}
use Rattle.line_moves.proofs.Reading.{owner_is, class_is, line_is, line_none, same_place}

abbrev EndsWithin : ℕ → ℕ → Type 0
EndsWithin line class = line < lines_of class → line_place class (line + 1) ≤ lines_end class

small_end : (line : ℕ) → EndsWithin line 208
small_end line less = omega (arith, less)

large_end : (line : ℕ) → EndsWithin line 440
large_end line less = omega (arith, less)

end_within : (class line : ℕ) → IsClass class → EndsWithin line class
end_within class line is =
    ⊎_elim (λ (small : class ≡ 208). subst (EndsWithin line) (sym small) (small_end line)) (λ (large : class ≡ 440). subst (EndsWithin line) (sym large) (large_end line)) is

place_from : (class line : ℕ) → 24 ≤ line_place class line
place_from class line = omega arith

pub nat_cases : (a b : ℕ) → (a ≡ b) ⊎ (a ≢ b)
nat_cases a b = by_test (a == b) refl
  where
    by_test : (t : Bool) → (a == b) ≡ t → (a ≡ b) ⊎ (a ≢ b)
    by_test true is = inl (eqb-true a b is)
    by_test false is = inr (λ same. let yes_it_is = eq-eqb a b same in let bad : true ≡ false = sym yes_it_is ∙ is in cc)

-- what a place says of its key
pub record HasPlace (key : Dbkey) (page : List ℕ) : Type 0 where
  pub area : 1 ≤ key.area
  pub first : 1 ≤ key.page
  pub last : key.page ≤ 65536
  pub owned : owner_at page ≡ key.area
  pub line : key.line < lines_of (class_at page)

pub place_says : (key : Dbkey) (page : List ℕ) → has_place key page ≡ true → HasPlace key page
place_says key page is =
    let a = nat_le 1 key.area in let b = nat_le 1 key.page in let c = nat_le key.page 65536 in let d = owner_at page == key.area in let e = nat_lt key.line (lines_of (class_at page)) in
    let all = and_parts (a && b && c && d) e is in
    let four = and_parts (a && b && c) d all.0 in
    let three = and_parts (a && b) c four.0 in
    let two = and_parts a b three.0 in
    record { area = leb-true 1 key.area two.0; first = leb-true 1 key.page two.1; last = leb-true key.page 65536 three.1; owned = eqb-true (owner_at page) key.area four.1; line = ltb-true key.line (lines_of (class_at page)) all.1 }

module _ (file number : ℕ) (key : Dbkey) (y x : List ℕ) (value : Line) (used : IsUsedPage file number y) (owned : key.area ≡ used.head.owner) (numbered : key.page ≡ number) (nonzero : 1 ≤ number) (within : key.line < lines_of (class_at y))
    (here : IsLine x (class_at y) key.line value) (others : (j : ℕ) (other : Line) → j ≢ key.line → IsLine y (class_at y) j other → IsLine x (class_at y) j other)
    (before : take (line_place (class_at y) key.line) x ≡ take (line_place (class_at y) key.line) y) (behind : drop (line_place (class_at y) (key.line + 1)) x ≡ drop (line_place (class_at y) (key.line + 1)) y) where
  h : Head
  h = used.head

  was : IsHead y used.head
  was = used.stands.head

  class : class_at y ≡ used.head.class
  class = class_is y used.head was

  is_class : IsClass (class_at y)
  is_class = subst IsClass (sym class) was.class

  head_there : IsHead x used.head
  head_there = record {
    fields = part_before (head_fields used.head) 0 (line_place (class_at y) key.line) y x (omega (arith, place_from (class_at y) key.line)) before was.fields;
    class = was.class;
    rest = subst (λ (c : ℕ). HasNoMore x c) class
        (part_behind (gap (1024 - lines_end (class_at y)) ∷ []) (lines_end (class_at y)) (line_place (class_at y) (key.line + 1)) y x (end_within (class_at y) key.line is_class within) behind
        (subst (λ (c : ℕ). HasNoMore y c) (sym class) was.rest));
  }

  same_owner : owner_at x ≡ owner_at y
  same_owner = owner_is x used.head head_there ∙ sym (owner_is y used.head was)

  same_class : class_at x ≡ class_at y
  same_class = class_is x used.head head_there ∙ sym class

  old_line : (j : ℕ) → j < lines_of (class_at y) → (v : Line) × IsLine y (class_at y) j v
  old_line j less = subst (λ (c : ℕ). (v : Line) × IsLine y c j v) (sym class) (used.lines j (subst (λ (c : ℕ). j < lines_of c) class less))

  new_line : (j : ℕ) → j < lines_of (class_at y) → (v : Line) × IsLine x (class_at y) j v
  new_line j less = ⊎_elim (λ same. (value, subst (λ (k : ℕ). IsLine x (class_at y) k value) (sym same) here)) (λ apart. let old = old_line j less in (old.0, others j old.0 apart old.1)) (nat_cases j key.line)

  used_there : IsUsedPage file number x
  used_there = record {
    head = used.head;
    stands = record { head = head_there; page_number = used.stands.page_number; owner = used.stands.owner };
    lines = λ j less. subst (λ (c : ℕ). (v : Line) × IsLine x c j v) class (new_line j (subst (λ (c : ℕ). j < lines_of c) (sym class) less));
  }

  other_line : (k : Dbkey) → IsOn file number k → k ≢ key → has_place k y ≡ true → line_on k x ≡ line_on k y
  other_line k on apart has =
      let says = place_says k y has in
      let area : k.area ≡ key.area = sym says.owned ∙ owner_is y used.head was ∙ sym owned in
      let slot : k.page - 1 ≡ number - 1 = on.in_slot in
      let first : 1 ≤ number = nonzero in
      let page : k.page ≡ key.page = omega (arith, slot, says.first, first, numbered) in
      let lines_apart : k.line ≢ key.line = λ line. apart (λ i. record { area = area i; page = page i; line = line i }) in
      let old = old_line k.line says.line in
      let there : IsLine x (class_at x) k.line old.0 = subst (λ (c : ℕ). IsLine x c k.line old.0) (sym same_class) (others k.line old.0 lines_apart old.1) in
      line_is k x old.0 (same_place k x y same_owner same_class ∙ has) there ∙ sym (line_is k y old.0 has old.1)

  no_line : (k : Dbkey) → has_place k y ≡ false → line_on k x ≡ line_on k y
  no_line k none = line_none k x (same_place k x y same_owner same_class ∙ none) ∙ sym (line_none k y none)

  by_place : (k : Dbkey) → IsOn file number k → k ≢ key → (b : Bool) → has_place k y ≡ b → line_on k x ≡ line_on k y
  by_place k on apart true has = other_line k on apart has
  by_place k on apart false none = no_line k none

  pub puts_line : PutsLine file number key y x
  puts_line = record {
    page = inr used_there;
    same_owner = same_owner;
    same_class = same_class;
    others = λ k on apart. by_place k on apart (has_place k y) refl;
  }
