-- The rule of the log, and what its one step tells.
use Rattle.std.specs.Prelude.{ℕ, ◌≡◌, ◌==◌, true, List, [], ◌∷◌, ◌++◌, length, MatchBool}
use Rattle.logbook.specs.Pages.{Cell, Step, View, Book, Named}

-- the first word is the length of the log. A book has two words, of which this one leaves the second at 0
abbrev pub IsKept : {A : Type 0} → List Cell → List A → Type 0
IsKept cells log = cells ≡ (length log, true) ∷ (0, true) ∷ []

abbrev pub head_of : Book → Named
head_of b = record { tracked = true; key = 0; book = b }

-- the value was added to all that had been seen; or the log was longer, and was seen
abbrev pub Adds : {A : Type 0} → Step A → View A ℕ → ℕ → View A ℕ → Type 0
Adds s v found w = MatchBool (found == s.old) (w.0 ≡ v.0 ++ s.ask ∷ []) (length w.0 ≡ found)
