-- What it means that events keep to an order of turns.
use Rattle.std.specs.Prelude.{◌≡◌, ℕ, zero, suc, ◌+◌, ◌≤◌, List, [], ◌∷◌, ◌++◌, length}
use Rattle.rdb_drive.specs.Boards.{Mark, Board, AllOf, answers}

-- the sessions from the given one on, so many of them
abbrev pub upward : ℕ → ℕ → List ℕ
upward first zero = []
upward first (suc n) = first ∷ upward (first + 1) n

-- all sessions in ascending order, so many times
abbrev pub rounds : ℕ → ℕ → List ℕ
rounds sessions zero = []
rounds sessions (suc n) = upward 1 sessions ++ rounds sessions n

-- the part of a turn of s, which begins at this length of the marks: each mark is of s or of nobody, at most one is an answer,
-- and s rests at the end of a part without an answer
pub record IsPart (rests : ℕ → ℕ → Type 0) (at s : ℕ) (part : List Mark) : Type 0 where
  pub of_s : AllOf s part
  pub one : answers part ≤ 1
  pub rests_there : answers part ≡ 0 → rests (at + length part) s

-- the marks from this length on are consecutive parts, one for each turn
abbrev pub AreParts : (ℕ → ℕ → Type 0) → ℕ → List ℕ → List Mark → Type 0
AreParts rests at [] marks = marks ≡ []
AreParts rests at (s ∷ turns) marks = (part : List Mark) × (rest : List Mark) × (marks ≡ part ++ rest) × IsPart rests at s part × AreParts rests (at + length part) turns rest

-- the marks added between two boards keep to these turns
pub record Keeps (turns : List ℕ) (old new : Board) : Type 0 where
  pub added : List Mark
  pub marks : new.marks ≡ old.marks ++ added
  pub parts : AreParts new.rests (length old.marks) turns added

-- they keep to the order, and then to all sessions in ascending order, again and again
pub record KeepsOrder (order : List ℕ) (sessions : ℕ) (old new : Board) : Type 0 where
  pub times : ℕ
  pub keeps : Keeps (order ++ rounds sessions times) old new
