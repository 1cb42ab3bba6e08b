-- Of what the sessions of a workload die.
use Rattle.std.specs.Prelude.{◌≡◌, ◌++◌, ℕ, true, List, ◌∷◌, nat_eq}
use Rattle.std.specs.List.{AllByRecursion, list_any}
use Rattle.rdb_types.specs.declared.session.Cause.{Cause}
use Rattle.rdb_types.specs.declared.session.Cause.TheVariants.{Device, Gate, Stop, Memory}
use Rattle.rdb_account.specs.Events.{Event, Died}

-- why session s may have died of this: a device call failed, the gate names it, or no memory was found for it. No script of a workload comes to a stop.
abbrev pub DiesOf : (mortals : List ℕ) (Failed : Type 0) → ℕ → Cause → Type 0
DiesOf mortals Failed s Device = Failed
DiesOf mortals Failed s Gate = list_any (nat_eq s) mortals ≡ true
DiesOf mortals Failed s Stop = ⊥
DiesOf mortals Failed s Memory = Unit {0}

-- where the event is a death it has its cause
abbrev pub HasCause : (mortals : List ℕ) (Failed : Type 0) → Event → Type 0
HasCause mortals Failed (Died s cause) = DiesOf mortals Failed s cause
HasCause mortals Failed event = Unit {0}

-- each death of an account has
abbrev pub HaveCauses : (mortals : List ℕ) (Failed : Type 0) → List Event → Type 0
HaveCauses mortals Failed events = AllByRecursion (HasCause mortals Failed) events

-- Some session died, and why.
pub record SomeDied (mortals : List ℕ) (Failed : Type 0) (events : List Event) : Type 0 where
  pub session : ℕ
  pub cause : Cause
  pub before : List Event
  pub behind : List Event
  pub is : events ≡ before ++ Died session cause ∷ behind
  pub why : DiesOf mortals Failed session cause
