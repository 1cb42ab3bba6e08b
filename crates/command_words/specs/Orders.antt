-- The order of turns that `--ORDER` names.
use Rattle.std.specs.Prelude.{ℕ, Bool, ◌&&◌, ◌==◌, nat_le, List, length, is_some}
use Rattle.std.specs.List.{list_all, filter_map, slice_split}
use Rattle.command_words.specs.Options.{number_in}

-- the parts of a list between its commas
abbrev pub parts_of : List ℕ → List (List ℕ)
parts_of list = slice_split (λ b. b == 44) list

-- the number of one of so many sessions
abbrev pub is_session : ℕ → List ℕ → Bool
is_session sessions part = is_some (number_in 1 sessions part)

-- 1 to 1,000 numbers of sessions, with commas between
abbrev pub is_order : ℕ → List ℕ → Bool
is_order sessions list = nat_le (length (parts_of list)) 1000 && list_all (is_session sessions) (parts_of list)

-- the sessions that a list names, in order
abbrev pub sessions_in : ℕ → List ℕ → List ℕ
sessions_in sessions list = filter_map (number_in 1 sessions) (parts_of list)
