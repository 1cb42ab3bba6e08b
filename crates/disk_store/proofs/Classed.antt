-- The class of each line of a list, one behind another.
use Rattle.std.proofs.Common.{◌≡◌, ◌⊎◌, inl, inr, ◌++◌, ℕ, zero, suc, List, [], ◌∷◌, length, Some, refl, sym, ap, subst}
use Rattle.std.specs.Prelude.{slice_get}
use Rattle.std.proofs.lemmas.Option.{same_Some, none-some}
use Rattle.aij_journal.specs.Part.{IsAllowedLine}
use Rattle.rdb_types.specs.declared.keys.Dbkey.{Dbkey}
use Rattle.rdb_types.specs.declared.keys.Line.{Line}
use Rattle.line_moves.specs.declared.places.Place.{Place}
use Rattle.line_moves.specs.Changes.{IsPlaceOf}
use Rattle.line_seat.specs.Groups.{group_line}
use Rattle.member_rooms.specs.page_table.Pages.{class_in}
use Rattle.disk_store.specs.declared.held.Tables.{Tables}
use Rattle.disk_store.specs.Commits.{HasClass}
use Rattle.disk_store.specs.Shown.{pages_of}
use Rattle.disk_store.specs.Sound.{LiesIn}

-- what is got of a list with one more is got of the list, or is that
pub got-more : {X : Type 0} (xs : List X) (x y : X) (i : ℕ) → slice_get (xs ++ x ∷ []) i ≡ Some y → (slice_get xs i ≡ Some y) ⊎ ((i ≡ length xs) × (x ≡ y))
got-more [] x y zero is = inr (refl, same_Some _ _ is)
got-more [] x y (suc i) is = absurd (none-some y is)
got-more (z ∷ zs) x y zero is = inl is
got-more (z ∷ zs) x y (suc i) is = elim (got-more zs x y i is) [ inl before ↦ inl before | inr last ↦ inr (ap suc last.0, last.1) ]

-- a line that lies in the tables has the class of its page
pub classed : (tables : Tables) (line : Dbkey × Line) (class : ℕ) → LiesIn tables line.0 line.1 → ((place : Place) → IsPlaceOf line.0 place → class ≡ class_in (pages_of tables place.file) line.0.page) → HasClass tables line class
classed tables line class lies is = record {
  place = lies.place;
  is = lies.is;
  is_line = lies.is_line;
  class_is = is lies.place lies.is;
  allowed = subst (λ (k : ℕ). IsAllowedLine (group_line line k)) (sym (is lies.place lies.is)) lies.allowed;
}
