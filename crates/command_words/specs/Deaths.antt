-- The death that `--DIE` names.
use Rattle.std.specs.Prelude.{ℕ, ◌-◌, ◌==◌, List, [], ◌∷◌, length, take, codes, Option, Some, None, if◌then◌else◌}
use Rattle.command_words.specs.Bytes.{is_command}
use Rattle.command_words.specs.Options.{number_in}
use Rattle.command_words.specs.declared.deaths.Death.{Death}
use Rattle.command_words.specs.declared.deaths.DeathPoint.{DeathPoint}
use Rattle.command_words.specs.declared.deaths.DeathPoint.TheVariants.{Step, Barrier}

abbrev pub as_step : Option ℕ → Option DeathPoint
as_step None = None
as_step (Some n) = Some (Step n)

-- a step, counted from 1, or the barrier behind a commit record
abbrev pub point_of : List ℕ → Option DeathPoint
point_of text = if is_command (codes "BARRIER") text then Some Barrier else as_step (number_in 1 9999999999 text)

abbrev pub death_of : Option ℕ → Option DeathPoint → Option Death
death_of None at = None
death_of (Some s) None = None
death_of (Some s) (Some at) = Some (record { session = s; at = at })

-- what stands behind the first colon
abbrev pub behind_colon : List ℕ → Option (List ℕ)
behind_colon [] = None
behind_colon (b ∷ bs) = if b == 58 then Some bs else behind_colon bs

abbrev pub death_by : ℕ → List ℕ → Option (List ℕ) → Option Death
death_by sessions text None = None
death_by sessions text (Some p) = death_of (number_in 1 sessions (take (length text - length p - 1) text)) (point_of p)

-- one of so many sessions, a colon and where it dies
abbrev pub death_in : ℕ → List ℕ → Option Death
death_in sessions text = death_by sessions text (behind_colon text)
