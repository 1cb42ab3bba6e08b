-- What a death is, and what a step of a recovery comes to.
use Rattle.std.specs.Prelude.{◌≡◌, ◌+◌, ◌-◌, ℕ, true, List, [], ◌∷◌, Result, Ok, Err}
use Rattle.rdb_types.specs.declared.session.Cause.{Cause}
use Rattle.rdo_ast.specs.declared.syntax.Item.{Item}
use Rattle.rdb_account.specs.Events.{Event, Died, Recovered}
use Rattle.rdb_account.specs.Places.{Opening}
use Rattle.line_store.specs.declared.answers.Fault.{Fault}
use Rattle.session_jobs.specs.Records.{Model}
use Rattle.session_limits.specs.session_states.declared.stage.Phase.{Phase}
use Rattle.session_limits.specs.session_states.declared.stage.Life.{Life}
use Rattle.session_limits.specs.session_states.declared.stage.Life.TheVariants.{Alive, Dead, Gone}
use Rattle.session_limits.specs.session_states.declared.stage.Member.{Member}
use Rattle.session_limits.specs.session_states.States.{session, dead_session, gone_session, may_die_in}
use Rattle.session_limits.specs.session_states.Steps.{Fall}
use Rattle.session_measure.specs.Weights.{Falls}
use Rattle.stage_steps.specs.Nearer.{NearerRecovered}
use Rattle.stage_steps.specs.Scenes.{Scene, Goes, HasFailed, on_shelf, beside}
use Rattle.stage_steps.specs.declared.dying.Recovery.{Recovery}
use Rattle.stage_steps.specs.declared.dying.Recovery.TheVariants.{More, Done}

-- a session of this phase dies, for each cause of which it may
abbrev pub DiesIn : Model → ℕ → Phase → Scene → Scene → Type 0
DiesIn M s x old new = Goes s x Alive x Dead
    (λ h g. (o : Opening) (dead : ℕ) (left : List Item) (total : ℕ) (cause : Cause) → may_die_in o s left x cause ≡ true →
    Fall M o s (on_shelf old h dead) (session left total x) (on_shelf new g (dead + 1)) (dead_session left total x) (Died s cause ∷ []))
    ((left : List Item) (total k l : ℕ) → Falls k l (beside old) (beside new) s (session left total x) (dead_session left total x))
    old new

-- the session behind a step of its recovery
abbrev pub life_behind : Result Recovery Fault → Life
life_behind (Ok (Done committed moment)) = Gone
life_behind (Ok More) = Dead
life_behind (Err fault) = Dead

abbrev pub recovered_by : Result Recovery Fault → List Item → ℕ → Phase → Member
recovered_by (Ok (Done committed moment)) left total x = gone_session left total x
recovered_by (Ok More) left total x = dead_session left total x
recovered_by (Err fault) left total x = dead_session left total x

-- how many dead await recovery behind it, of so many before
abbrev pub dead_behind : Result Recovery Fault → ℕ → ℕ
dead_behind (Ok (Done committed moment)) n = n - 1
dead_behind (Ok More) n = n
dead_behind (Err fault) n = n

abbrev pub recovery_events : ℕ → Result Recovery Fault → List Event
recovery_events s (Ok (Done committed moment)) = Recovered s committed moment.number ∷ []
recovery_events s (Ok More) = []
recovery_events s (Err fault) = []

-- Where a device call is said to have failed, one did; else the dead session comes nearer.
abbrev pub NearerRecoveredIn : ℕ → Result Recovery Fault → Scene → Scene → List Item → ℕ → Phase → Type 0
NearerRecoveredIn s (Err fault) old new left total x = HasFailed s fault old.sight new.sight
NearerRecoveredIn s result old new left total x = NearerRecovered s result (beside old) (beside new) left total x

-- a step of the recovery of a session that died in this phase
abbrev pub RecoversIn : Model → ℕ → Phase → Scene → Scene → Result Recovery Fault → Type 0
RecoversIn M s x old new result = Goes s x Dead x (life_behind result)
    (λ h g. (o : Opening) (dead : ℕ) (left : List Item) (total : ℕ) →
    Fall M o s (on_shelf old h dead) (dead_session left total x) (on_shelf new g (dead_behind result dead)) (recovered_by result left total x) (recovery_events s result))
    ((left : List Item) (total : ℕ) → NearerRecoveredIn s result old new left total x)
    old new
