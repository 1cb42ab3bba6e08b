-- A line put in its place on a page in use.
use Rattle.std.proofs.Common.{◌≡◌, ◌≢◌, ℕ, ◌+◌, ◌<◌, List, take, drop, ⊎_elim, sym, subst, ◌∙◌}
use Rattle.rdb_types.specs.declared.keys.Dbkey.{Dbkey}
use Rattle.rdb_types.specs.declared.keys.Line.{Line}
use Rattle.line_store.specs.rdb_page.declared.head.Head.{Head}
use Rattle.line_store.specs.rdb_page.Lines.{line_place, IsLine}
use Rattle.line_store.specs.rdb_page.Page.{StandsAs, class_at, lines_of}
use Rattle.stable_lines.specs.Slots.{line_on}
use Rattle.line_store.specs.rdb_page.Whole.{IsPageOf, IsUsedPage}
use Rattle.line_moves.specs.declared.places.Place.{Place}
use Rattle.line_moves.specs.Contents.{PutsLine}
use Rattle.line_moves.specs.Changes.{IsPlaceOf}
use Rattle.line_moves.proofs.Reading.{owner_is, class_is, line_is, same_place}
use Rattle.line_moves.proofs.Spots.{place_has, not_unused}
use Rattle.line_moves.proofs.Putting.{puts_line}

-- the line that is put
pub record PutsAt (key : Dbkey) (y x : List ℕ) (value : Line) : Type 0 where
  pub here : IsLine x (class_at y) key.line value
  pub others : (j : ℕ) (other : Line) → j ≢ key.line → IsLine y (class_at y) j other → IsLine x (class_at y) j other
  pub before : take (line_place (class_at y) key.line) x ≡ take (line_place (class_at y) key.line) y
  pub behind : drop (line_place (class_at y) (key.line + 1)) x ≡ drop (line_place (class_at y) (key.line + 1)) y

module _ (key : Dbkey) (place : Place) (y x : List ℕ) (value : Line) (head : Head) (names : IsPlaceOf key place) (is : IsPageOf place.file place.page y)
    (stands : StandsAs y place.file place.page head) (owned : head.owner ≡ key.area) (within : key.line < lines_of head.class) (puts : PutsAt key y x value) where
  used : IsUsedPage place.file place.page y
  used = ⊎_elim (λ none. absurd (not_unused y place.file place.page head stands none)) (λ used. used) is

  within_class : key.line < lines_of (class_at y)
  within_class = subst (λ (c : ℕ). key.line < lines_of c) (sym (class_is y head stands.head)) within

  owned_by : key.area ≡ used.head.owner
  owned_by = sym (owner_is y head stands.head ∙ owned) ∙ owner_is y used.head used.stands.head

  pub placed : PutsLine place.file place.page key y x
  placed = puts_line place.file place.page key y x value used owned_by (sym names.page) names.is_data.is_page.first within_class puts.here puts.others puts.before puts.behind

  pub placed_is : line_on key x ≡ value
  placed_is = line_is key x value (same_place key x y placed.same_owner placed.same_class ∙ place_has key place y head names stands.head owned within) (subst (λ (c : ℕ). IsLine x c key.line value) (sym placed.same_class) puts.here)
