-- As many device calls failed as an account and a halt tell of.
use Rattle.std.proofs.Common.{◌≡◌, ◌≤◌, ◌+◌, ℕ, [], List, map, Option, Some, None, ◌⊎◌, inl, inr, subst, sym, arith}
use Rattle.rdb_outside.specs.Causes.{Rose}
use Rattle.rdb_account.specs.declared.event.Event.{Event as Declared}
use Rattle.rdb_account.specs.Events.{Event, event_of}
use Rattle.line_store.specs.declared.answers.Fault.TheVariants as faulty
use Rattle.workload_runs.specs.line_cluster.declared.sessions.Halt.{Halt}
use Rattle.workload_runs.specs.line_cluster.declared.sessions.Halt.TheVariants as halts
use Rattle.workload_runs.specs.line_cluster.Deaths.{RoseBy, device_deaths, failures, faults_in}

rose-fewer : (m n a b : ℕ) → m ≤ n → RoseBy n a b → RoseBy m a b
rose-fewer m n a b fewer rose = omega (arith, fewer, rose)

no-more-without : (events : List Event) (halt : Option Halt) → failures events None ≤ failures events halt
no-more-without events halt = omega arith

deaths-within : (events : List Event) (halt : Option Halt) → device_deaths events ≤ failures events halt
deaths-within events halt = omega arith

-- where the halt is told, or not
pub rose-seen : (events : List Event) (old new : Option Halt) (a b : ℕ) → (new ≡ old) ⊎ (new ≡ None) → RoseBy (failures events old) a b → RoseBy (failures events new) a b
rose-seen events old new a b (inl same) rose = subst (λ (h : Option Halt). RoseBy (failures events h) a b) (sym same) rose
rose-seen events old new a b (inr none) rose = subst (λ (h : Option Halt). RoseBy (failures events h) a b) (sym none) (rose-fewer (failures events None) (failures events old) a b (no-more-without events old) rose)

-- for the deaths alone
pub rose-deaths : (events : List Event) (halt : Option Halt) (a b : ℕ) → RoseBy (failures events halt) a b → RoseBy (device_deaths events) a b
rose-deaths events halt a b rose = rose-fewer (device_deaths events) (failures events halt) a b (deaths-within events halt) rose

-- and for a recovery that failed
pub rose-stopped : (events : List Event) (halt : Option Halt) (a b : ℕ) → halt ≡ Some (halts.Device faulty.Failed) → RoseBy (failures events halt) a b → RoseBy (device_deaths events + 1) a b
rose-stopped events halt a b is rose = subst (λ (h : Option Halt). RoseBy (failures events h) a b) is rose

-- or for an opening that failed, behind which nothing was said
pub rose-unopened : (events : List Declared) (a b : ℕ) → events ≡ [] → Rose a b → RoseBy (device_deaths (map event_of events) + 1) a b
rose-unopened events a b none rose = subst (λ (es : List Declared). RoseBy (device_deaths (map event_of es) + 1) a b) (sym none) rose
