-- A line that has no place was there for no reader.
use Rattle.std.proofs.Common.{◌≡◌, ◌∙◌, ℕ, List, [], ◌∷◌, Option, None, ⊎_elim, sym, subst, arith}
use Rattle.rdb_types.specs.declared.keys.Dbkey.{Dbkey}
use Rattle.rdb_types.specs.declared.keys.Line.{Line}
use Rattle.rdb_outside.specs.Disk.{View, LeftNow}
use Rattle.rdb_page.specs.Lines.{never}
use Rattle.line_view.specs.Knowledge.{Lines, line_in}
use Rattle.line_versions.specs.Versions.{Entries, Followed, Start, Walk, Sees}
use Rattle.line_versions.specs.Files.{entries_in}
use Rattle.line_versions.proofs.Steps.{reader_is_right}
use Rattle.stable_lines.specs.Slots.{line_at}
use Rattle.line_moves.specs.declared.places.Place.{Place}
use Rattle.line_moves.specs.Changes.{IsPlaceOf}
use Rattle.seen_lines.specs.disk_seats.Ledgers.{Ledger}
use Rattle.seen_lines.proofs.of_committed_lines.Nowhere.{never_there}
use Rattle.reader_lines.specs.Readers.{IsReader}

-- no version leads on from a line that was never used
walk_from_never : (E : Entries) (followed : Followed) (start : Start) (key : Dbkey) (over : List ℕ) (answer : Option (List ℕ)) → Walk E followed start key over never answer → answer ≡ None
walk_from_never E followed start key [] answer ends = ⊎_elim (λ seen. seen.1) (λ unseen. unseen.2) ends
walk_from_never E followed start key (at ∷ rest) answer walk = let none = walk.0.chain in let some = walk.0.number in absurd (omega (arith, none, some))

module _ (v : View) (left : LeftNow v v.content) (g : Ledger) (limit : ℕ) (start : Start) (lines : Lines) (is : IsReader v g limit start lines) (key : Dbkey) where
  pub unseen_nowhere : ((place : Place) → IsPlaceOf key place → ⊥) → line_in key lines ≡ None
  unseen_nowhere none = sym (is.shows key) ∙ walk_from_never (entries_in v.content) is.course.followed is.reading.start key sees.over (is.reading.lines key) sees.walk
    where
      sees : Sees (entries_in v.content) is.course.followed is.reading.start key never (is.reading.lines key)
      sees = subst (λ (line : Line). Sees (entries_in v.content) is.course.followed is.reading.start key line (is.reading.lines key)) (never_there v left g is.facts key none)
          (reader_is_right (entries_in v.content) (line_at v.content) is.course is.versions.right is.session is.reading is.goes key)
