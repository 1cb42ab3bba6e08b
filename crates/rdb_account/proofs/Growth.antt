-- An account grows at its end, by the events of one step.
use Rattle.std.proofs.Common.{◌≡◌, ℕ, ◌++◌, ◌∷◌, [], true, List, refl}
use Rattle.rdb_account.specs.Events.{Event}
use Rattle.rdb_account.specs.Places.{Opening, Place, Line, Folded, place_from, place, start, after, folded, told}
use Rattle.rdb_account.specs.Legal.{MayFollow, IsLegal, is_free}

pub place-grown : (o : Opening) (p : Place) (es fs : List Event) → place_from o p (es ++ fs) ≡ place_from o (place_from o p es) fs
place-grown o p [] fs = refl
place-grown o p (e ∷ es) fs = place-grown o (after o p e) es fs

pub follow-grown : (o : Opening) (p : Place) (es fs : List Event) → MayFollow o p es → MayFollow o (place_from o p es) fs → MayFollow o p (es ++ fs)
follow-grown o p [] fs h k = k
follow-grown o p (e ∷ es) fs h k = (h.0, follow-grown o (after o p e) es fs h.1 k)

-- A legal account stays legal where a step's events may follow at its place, and leave nothing that must come next.
pub legal-grown : (o : Opening) (es fs : List Event) → IsLegal o es → MayFollow o (place o es) fs → is_free (place_from o (place o es) fs).due ≡ true → IsLegal o (es ++ fs)
legal-grown o es fs h k free = record {
  steps = follow-grown o (start o) es fs h.steps k;
  settled = rw (place-grown o (start o) es fs) free;
}

pub folded-grown : (word : List ℕ) (f : Folded) (ls : List Line) (l : Line) → folded word f (ls ++ l ∷ []) ≡ told word (folded word f ls) l
folded-grown word f [] l = refl
folded-grown word f (m ∷ ls) l = folded-grown word (told word f m) ls l
