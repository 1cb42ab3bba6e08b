-- Who is asleep.
use Rattle.std.specs.Prelude.{ℕ, nat_lt, Bool, false, not, ◌&&◌, ◌||◌, Option, Some, None}
use Rattle.lock_tree.specs.Sleeping.{is_sleeping}
use Rattle.session_states.specs.declared.stage.Member.{Member}
use Rattle.line_account.specs.session_stands.Sessions.{dead_in, member_at}
use Rattle.line_account.specs.stage_steps.Nearer.{is_patient_at}
use Rattle.line_cluster.specs.Turned.{Sessions}

abbrev pub is_patient : Option Member → Bool
is_patient None = false
is_patient (Some m) = is_patient_at m.phase

abbrev pub is_mourning : Sessions → Bool
is_mourning c = nat_lt 0 (dead_in c.members)

-- its want is queued, and it waits for that
abbrev pub is_asleep : Sessions → ℕ → Bool
is_asleep c s = is_patient (member_at c.members s) && is_sleeping c.locks s

-- Behind a halt nobody sleeps, nor while one that died awaits its recovery.
abbrev pub sleeps : Sessions → ℕ → Bool
sleeps c s = not (c.halted || is_mourning c) && is_asleep c s
