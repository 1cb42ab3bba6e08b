-- Capitals and numbers in a word.
use Rattle.std.specs.Prelude.{ℕ, Bool, ◌&&◌, ◌+◌, ◌-◌, ◌*◌, nat_le, nat_eq, List, [], ◌∷◌, map, bytes_eq, Option, Some, None, if◌then◌else◌}

-- the capital of a letter, and any other byte itself
abbrev pub upper_of : ℕ → ℕ
upper_of b = if nat_le 97 b && nat_le b 122 then (b - 32) else b

-- what digits stand for, behind a number that they go on from
abbrev pub digits_from : ℕ → List ℕ → ℕ
digits_from n [] = n
digits_from n (d ∷ ds) = digits_from (10 * n + (d - 48)) ds

-- the bytes behind a name in capitals, case disregarded
abbrev pub behind : List ℕ → List ℕ → Option (List ℕ)
behind [] word = Some word
behind (c ∷ name) [] = None
behind (c ∷ name) (b ∷ word) = if nat_eq (upper_of b) c then behind name word else None

-- a word that is named in capitals, case disregarded
abbrev pub is_command : List ℕ → List ℕ → Bool
is_command name word = bytes_eq (map upper_of word) name
