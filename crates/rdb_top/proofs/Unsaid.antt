-- Scripts of which nothing is said.
use Rattle.std.proofs.Common.{◌≡◌, [], List, map, ℕ, Option, Some, None, refl, subst, sym, ◌⊎◌, inl, inr, arith}
use Rattle.std.proofs.lemmas.Option.{none-some}
use Rattle.rdb_account.specs.declared.event.Event.{Event}
use Rattle.rdb_account.specs.Events.{event_of}
use Rattle.rdb_account.specs.Places.{Opening}
use Rattle.rdb_account.specs.Legal.{IsLegal}
use Rattle.script_streams.specs.declared.read.ReadStop.{ReadStop}
use Rattle.script_streams.specs.declared.read.ReadStop.TheVariants.{Failed, OutOfMemory, TooLong}
use Rattle.workload_runs.specs.line_cluster.declared.sessions.Halt.{Halt}
use Rattle.workload_runs.specs.line_cluster.Deaths.{RoseBy, failures}
use Rattle.rdb_top.specs.Runs.{IsWhole, status_at}

pub nothing-said : (o : Opening) → IsLegal o []
nothing-said o = record { steps = tt; settled = refl }

pub stop-is-no-end : (stop : ReadStop) → IsWhole (status_at stop) → ⊥
stop-is-no-end Failed w = grind arith
stop-is-no-end OutOfMemory w = grind arith
stop-is-no-end TooLong w = grind arith

pub stop-is-no-failure : (stop : ReadStop) → status_at stop ≡ 3 → ⊥
stop-is-no-failure Failed is = grind arith
stop-is-no-failure OutOfMemory is = grind arith
stop-is-no-failure TooLong is = grind arith

pub stop-is-no-fault : (stop : ReadStop) → status_at stop ≡ 4 → ⊥
stop-is-no-fault Failed is = grind arith
stop-is-no-fault OutOfMemory is = grind arith
stop-is-no-fault TooLong is = grind arith

rose-none : (a : ℕ) → RoseBy 0 a a
rose-none a = omega arith

-- where nothing was said nobody died
pub nobody-died : (events : List Event) (halt : Option Halt) (a : ℕ) → events ≡ [] → halt ≡ None → RoseBy (failures (map event_of events) halt) a a
nobody-died events halt a none going = subst (λ (es : List Event). RoseBy (failures (map event_of es) halt) a a) (sym none) (subst (λ (h : Option Halt). RoseBy (failures [] h) a a) (sym going) (rose-none a))

-- where something was said the database was opened
pub is-opened : {A B : Type 0} (fault : Option A) (said : List B) → ((fault ≡ None → ⊥) → said ≡ []) → (said ≡ [] → ⊥) → fault ≡ None
is-opened None said unsaid some = refl
is-opened (Some f) said unsaid some = absurd (some (unsaid (λ e. none-some f (sym e))))
