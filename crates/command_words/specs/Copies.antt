-- The copies of the journal that RMU/RECOVER names.
use Rattle.std.specs.Prelude.{ℕ, Bool, List, drop, is_some}
use Rattle.std.specs.List.{filter_map}
use Rattle.command_words.specs.Options.{number_in}

-- the number of a copy, from 1 to 9
abbrev pub is_copy : List ℕ → Bool
is_copy word = is_some (number_in 1 9 word)

-- the copies that such words name, in order
abbrev pub numbers_in : List (List ℕ) → List ℕ
numbers_in words = filter_map (number_in 1 9) words

-- those that stand behind a command word and a database
abbrev pub copies_in : List (List ℕ) → List ℕ
copies_in words = numbers_in (drop 2 words)
