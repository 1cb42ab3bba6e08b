-- What the bytes of a page say of it, and what is kept.
use Rattle.std.proofs.Common.{◌≡◌, ℕ, zero, suc, ◌≤◌, ◌<◌, Bool, true, List, length, replicate, drop, get_or, ◌⊎◌, inl, inr, ⊎_elim, refl, sym, ◌∙◌, ap, subst, arith, if◌then◌else◌}
use Rattle.std.proofs.lemmas.Bool.{eq-eqb, le-leb, lt-ltb, and_from}
use Rattle.slot_fields.specs.Fields.{number_at}
use Rattle.byteorder.specs.Endian.{little_from}
use Rattle.rdb_types.specs.declared.keys.Line.{Line}
use Rattle.rdb_types.specs.declared.keys.LineState.{LineState}
use Rattle.rdb_types.specs.declared.keys.LineState.TheVariants.{Never}
use Rattle.rdb_page.specs.declared.head.Head.{Head}
use Rattle.rdb_page.specs.Page.{IsOwner, IsUnused, StandsAs, class_at, lines_of}
use Rattle.rdb_page.specs.Lines.{line_place, never}
use Rattle.area_files.specs.Areas.{IsPage}
use Rattle.database_opening.specs.stable_lines.Slots.{owner_at, has_place, said_at, line_on}
use Rattle.database_opening.proofs.of_stable_lines.Never.{nothing_on, zeros_owner, little_zeros, zero_behind}
use Rattle.database_opening.proofs.of_line_moves.Reading.{owner_is, class_is}
use Rattle.database_opening.proofs.of_line_moves.Spots.{never_past}
use Rattle.page_table.specs.Pages.{nobodys, no_lines}
use Rattle.page_table.specs.Reading.{line_of, SaysUse}

pub none_has : (line : ℕ) → get_or no_lines line Never ≡ Never
none_has zero = refl
none_has (suc zero) = refl
none_has (suc (suc zero)) = refl
none_has (suc (suc (suc zero))) = refl
none_has (suc (suc (suc (suc n)))) = refl

zeros_class : (page : List ℕ) → page ≡ replicate (length page) 0 → class_at page ≡ 0
unfolding number_at
zeros_class page is = ap (λ (l : List ℕ). little_from 0 2 (drop 12 l)) is ∙ little_zeros 0 2 (drop 12 (replicate (length page) 0)) (zero_behind 12 (length page))

-- a page of zeros is nobody's
pub unused_says : (number : ℕ) (page : List ℕ) → IsUnused page → SaysUse number page nobodys
unused_says number page unused = record {
  owner = sym (zeros_owner page unused);
  class = sym (zeros_class page unused);
  states = λ line. none_has line ∙ sym (ap (λ (l : Line). l.state) (nothing_on (record { area = owner_at page; page = number; line = line }) page (zeros_owner page unused)));
}

owned : (file owner : ℕ) → IsOwner file owner → 1 ≤ owner
owned file owner (inl first) = omega (arith, first.1)
owned file owner (inr (inl second)) = omega (arith, second.1)
owned file owner (inr (inr third)) = omega (arith, third.1)

module _ (file : ℕ) (page : List ℕ) (head : Head) (stands : StandsAs page file head.page head) (numbered : IsPage head.page) where
  within : (line : ℕ) → line < lines_of head.class → line_of head.page page line ≡ said_at (line_place (class_at page) line) page
  unfolding line_on
  within line less = ap (λ (b : Bool). if b then said_at (line_place (class_at page) line) page else never) has
    where
      first : 1 ≤ owner_at page
      first = subst (λ (n : ℕ). 1 ≤ n) (sym (owner_is page head stands.head)) (owned file head.owner stands.owner)

      room : line < lines_of (class_at page)
      room = subst (λ (c : ℕ). line < lines_of c) (sym (class_is page head stands.head)) less

      has : has_place (record { area = owner_at page; page = head.page; line = line }) page ≡ true
      has = and_from _ _ (and_from _ _ (and_from _ _ (and_from _ _ (le-leb 1 (owner_at page) first) (le-leb 1 head.page numbered.first)) (le-leb head.page 65536 numbered.last)) (eq-eqb (owner_at page) (owner_at page) refl)) (lt-ltb line (lines_of (class_at page)) room)

  past : (line : ℕ) → lines_of head.class ≤ line → (line_of head.page page line).state ≡ Never
  past line behind = ap (λ (l : Line). l.state) (never_past (record { area = owner_at page; page = head.page; line = line }) page head stands.head behind)

  -- of each line what its bytes say, and nothing of a line that there is not
  pub states_are : (states : List LineState) → ((line : ℕ) → line < lines_of head.class → get_or states line Never ≡ (said_at (line_place (class_at page) line) page).state)
      → ((line : ℕ) → lines_of head.class ≤ line → get_or states line Never ≡ Never)
      → (line : ℕ) → get_or states line Never ≡ (line_of head.page page line).state
  states_are states here none line = ⊎_elim (λ less. here line less ∙ sym (ap (λ (l : Line). l.state) (within line less))) (λ behind. none line behind ∙ sym (past line behind)) (cases line (lines_of head.class))
    where
      cases : (a b : ℕ) → (a < b) ⊎ (b ≤ a)
      cases a b = grind arith
