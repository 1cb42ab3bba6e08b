-- What the cases drive: session 1 has so many steps left, and session 2, which sleeps until those are made, so many answers.
use Rattle.std.specs.Prelude.{ℕ, ◌+◌, ◌==◌, nat_lt, if◌then◌else◌, Bool, false, List, [], ◌∷◌, map}
use Rattle.rdb_drive.specs.Boards.{Board, Says}

-- `said` are the sessions that were answered, in order
abbrev pub talk_board : List ℕ → ℕ → ℕ → Bool → Board
talk_board said first second stopped =
    record {
      measure = (first + second) ∷ [];
      marks = map (λ s. Says s) said;
      rests = λ n s. Unit {0};
      asleep = λ s. if s == 1 then false else nat_lt 0 first;
      ended = λ s. if s == 1 then first == 0 else second == 0;
      mourns = false;
      stopped = stopped;
    }
