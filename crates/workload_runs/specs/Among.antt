-- Who may die in the runs of a workload.
use Rattle.std.specs.Prelude.{ℕ, Bool, true, false, ◌&&◌, nat_eq, nat_le, List}
use Rattle.std.specs.List.{filter, list_any}
use Rattle.rdb_types.specs.declared.session.Cause.{Cause}
use Rattle.rdb_types.specs.declared.session.Cause.TheVariants.{Device, Gate, Stop, Memory}

-- a session whose device call fails, one for which no memory is found, and one that the gate names
abbrev pub may_die_by : List ℕ → ℕ → Cause → Bool
may_die_by mortals s Device = true
may_die_by mortals s Gate = list_any (nat_eq s) mortals
may_die_by mortals s Stop = false
may_die_by mortals s Memory = true

-- those of so many sessions
abbrev pub first_of : ℕ → List ℕ → List ℕ
first_of sessions mortals = filter (λ s. nat_le 1 s && nat_le s sessions) mortals
