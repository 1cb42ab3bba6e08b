-- Who may die in a run because of `--DIE`.
use Rattle.std.specs.Prelude.{ℕ, Bool, false, ◌||◌, ◌==◌, List, [], ◌∷◌, Option, Some, None}
use Rattle.rdb_types.specs.declared.session.Cause.{Cause}
use Rattle.rdb_types.specs.declared.session.Cause.TheVariants.{Device, Gate, Stop, Memory}
use Rattle.rdb_account.specs.Places.{Opening}
use Rattle.command_words.specs.declared.deaths.Death.{Death}

-- the session that is to die
abbrev pub sessions_dying : Option Death → List ℕ
sessions_dying None = []
sessions_dying (Some death) = death.session ∷ []

-- it dies of the gate, and of nothing else
abbrev pub is_let_die : Option Death → ℕ → Cause → Bool
is_let_die None s cause = false
is_let_die (Some death) s Device = false
is_let_die (Some death) s Gate = s == death.session
is_let_die (Some death) s Stop = false
is_let_die (Some death) s Memory = false

-- what an account opens with that lets it die besides
abbrev pub letting : Option Death → Opening → Opening
letting death o = record o { may_die = λ s cause. o.may_die s cause || is_let_die death s cause }
