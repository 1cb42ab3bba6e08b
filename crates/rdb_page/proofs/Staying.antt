-- A line that is laid out in its place leaves the rest of its page as it is.
use Rattle.std.proofs.Common.{◌≡◌, ◌≢◌, ℕ, ◌+◌, ◌-◌, ◌≤◌, ◌<◌, ◌==◌, Bool, true, false, List, [], ◌∷◌, take, drop, ⊎_elim, sym, subst, ◌∙◌, arith, refl}
use Rattle.std.proofs.lemmas.Bool.{eqb-true, eq-eqb}
use Rattle.slot_fields.proofs.Laws.{number_before, part_before, part_behind}
use Rattle.slot_fields.specs.Fields.{gap}
use Rattle.rdb_types.specs.declared.keys.Line.{Line}
use Rattle.rdb_page.specs.declared.head.Head.{Head}
use Rattle.rdb_page.specs.Lines.{line_place, IsLine, never}
use Rattle.rdb_page.specs.Page.{IsClass, IsHead, IsOwner, StandsAs, HasNoMore, lines_of, lines_end, class_at, head_fields}
use Rattle.rdb_page.specs.Whole.{IsUsedPage}

abbrev EndsWithin : ℕ → ℕ → Type 0
EndsWithin line class = line < lines_of class → line_place class line + (16 + class) ≤ lines_end class

small_end : (line : ℕ) → EndsWithin line 208
small_end line less = omega (arith, less)

large_end : (line : ℕ) → EndsWithin line 440
large_end line less = omega (arith, less)

end_within : (class line : ℕ) → IsClass class → EndsWithin line class
end_within class line is =
    ⊎_elim (λ (small : class ≡ 208). subst (EndsWithin line) (sym small) (small_end line)) (λ (large : class ≡ 440). subst (EndsWithin line) (sym large) (large_end line)) is

place_from : (class line : ℕ) → 24 ≤ line_place class line
place_from class line = omega arith

module _ (old new : List ℕ) (line : ℕ) (is_class : IsClass (class_at old)) (within : line < lines_of (class_at old))
    (before : take (line_place (class_at old) line) new ≡ take (line_place (class_at old) line) old) (behind : drop (line_place (class_at old) line + (16 + class_at old)) new ≡ drop (line_place (class_at old) line + (16 + class_at old)) old) where
  pub class_stays : class_at new ≡ class_at old
  class_stays = number_before 2 12 (line_place (class_at old) line) old new (omega (arith, place_from (class_at old) line)) before

  pub rest_stays : HasNoMore old (class_at old) → HasNoMore new (class_at old)
  rest_stays was = part_behind (gap (1024 - lines_end (class_at old)) ∷ []) (lines_end (class_at old)) (line_place (class_at old) line + (16 + class_at old)) old new (end_within (class_at old) line is_class within) behind was

  pub head_stays : (h : Head) → IsHead old h → IsHead new h
  head_stays h was =
      let same : class_at old ≡ h.class = was.fields.1.1.1.0 in
      record {
        fields = part_before (head_fields h) 0 (line_place (class_at old) line) old new (omega (arith, place_from (class_at old) line)) before was.fields;
        class = was.class;
        rest = subst (λ (c : ℕ). HasNoMore new c) same (rest_stays (subst (λ (c : ℕ). HasNoMore old c) (sym same) was.rest));
      }

  pub whole_stays : (value : Line) → IsLine new (class_at old) line value → ((j : ℕ) (other : Line) → j ≢ line → IsLine old (class_at old) j other → IsLine new (class_at old) j other)
      → (file number : ℕ) → IsUsedPage file number old → IsUsedPage file number new
  whole_stays value here others file number was =
      let same : class_at old ≡ was.head.class = was.stands.head.fields.1.1.1.0 in
      record {
        head = was.head;
        stands = record { head = head_stays was.head was.stands.head; page_number = was.stands.page_number; owner = was.stands.owner };
        lines = subst (λ (c : ℕ). (j : ℕ) → j < lines_of c → (l : Line) × IsLine new c j l) same (each (subst (λ (c : ℕ). (j : ℕ) → j < lines_of c → (l : Line) × IsLine old c j l) (sym same) was.lines));
      }
    where
      each : ((j : ℕ) → j < lines_of (class_at old) → (l : Line) × IsLine old (class_at old) j l) → (j : ℕ) → j < lines_of (class_at old) → (l : Line) × IsLine new (class_at old) j l
      each all j less = by_test (j == line) refl
        where
          by_test : (t : Bool) → (j == line) ≡ t → (l : Line) × IsLine new (class_at old) j l
          by_test true is = (value, subst (λ (n : ℕ). IsLine new (class_at old) n value) (sym (eqb-true j line is)) here)
          by_test false is = let there = all j less in (there.0, others j there.0 (λ same. let yes = eq-eqb j line same in let bad : true ≡ false = sym yes ∙ is in cc) there.1)

-- a page with a head and lines that were never used
pub laid_stands : (page : List ℕ) (h : Head) → IsHead page h → (file : ℕ) → IsOwner file h.owner → StandsAs page file h.page h
laid_stands page h is file owner = record { head = is; page_number = refl; owner = owner }

pub laid_whole : (page : List ℕ) (h : Head) → IsHead page h → ((line : ℕ) → line < lines_of h.class → IsLine page h.class line never) → (file : ℕ) → IsOwner file h.owner → IsUsedPage file h.page page
laid_whole page h is lines file owner = record { head = h; stands = laid_stands page h is file owner; lines = λ line less. (never, lines line less) }
