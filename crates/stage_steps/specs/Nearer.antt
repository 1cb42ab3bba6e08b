-- What a step of a stage is for the measure, by what happened in it.
use Rattle.std.specs.Prelude.{◌≡◌, ◌||◌, ℕ, Bool, true, false, Result, Ok, Err, List, Some}
use Rattle.rdo_ast.specs.declared.syntax.Item.{Item}
use Rattle.lock_needs.specs.Wants.{sleeps_at}
use Rattle.lock_needs.specs.declared.party.OpenWant.{OpenWant}
use Rattle.lock_tree_laws.specs.Forest.{State, opened_of, party_of}
use Rattle.lock_tree_laws.specs.LockTable.{granted_at}
use Rattle.lock_tree_laws.specs.Progress.{is_spare}
use Rattle.line_store.specs.declared.answers.Fault.{Fault}
use Rattle.session_limits.specs.session_states.declared.stage.End.TheVariants.{Preparing, Journal}
use Rattle.session_limits.specs.session_states.declared.stage.Stage.{Stage}
use Rattle.session_limits.specs.session_states.declared.stage.Stage.TheVariants.{Ending}
use Rattle.session_limits.specs.session_states.declared.stage.Phase.{Phase}
use Rattle.session_limits.specs.session_states.declared.stage.Phase.TheVariants.{Writing}
use Rattle.session_limits.specs.session_states.declared.stage.Member.{Member}
use Rattle.session_limits.specs.session_states.States.{dead_session, gone_session}
use Rattle.session_measure.specs.Weights.{Beside, Falls}
use Rattle.session_measure.specs.Nearer.{ComesNearer, StaysNear}
use Rattle.stage_steps.specs.declared.dying.Recovery.{Recovery}
use Rattle.stage_steps.specs.declared.dying.Recovery.TheVariants.{More, Done}
use Rattle.stage_steps.specs.declared.happening.Happening.{Happening}
use Rattle.stage_steps.specs.declared.happening.Happening.TheVariants.{Asleep, Noticed, Failed, Unlaid, Unworked, Unsound, Unanswered}

-- a COMMIT wants the journal, or will once it is prepared
abbrev pub is_for_journal : Stage → Bool
is_for_journal (Ending Preparing) = true
is_for_journal (Ending Journal) = true
is_for_journal stage = false

-- whether a want of this phase waits where it isn't got at once: under NOWAIT a COMMIT's want of the journal alone does
abbrev pub is_patient_at : Phase → Bool
is_patient_at (Writing w) = is_for_journal w.stage || w.waits
is_patient_at phase = false

-- no want of session s is queued
abbrev pub IsUnqueued : State → ℕ → Type 0
IsUnqueued locks s = (w : OpenWant) → opened_of locks s ≡ Some w → sleeps_at (granted_at locks.table s) (Some w) w.here ≡ false

-- Session s comes nearer to its end, no device call failed, and nothing that it knows is unsound. One that waits is one that may wait, and comes nearer unless it was queued before. One that finds a notice due comes no farther away, and the lock in its way is stronger than it has to be. Where the session has to stop, nothing is said.
abbrev pub Nearer : ℕ → Happening → Beside → Beside → (m n : Member) → Type 0
Nearer s (Asleep t x) c d m n = StaysNear c d s m n × (IsUnqueued c.locks s → ComesNearer c d s m n) × (is_patient_at m.phase ≡ true)
Nearer s (Noticed t node mode x) c d m n = StaysNear c d s m n × (is_spare (granted_at d.locks.table t) (party_of d.locks.parties t) node ≡ true)
Nearer s (Failed fault) c d m n = ⊥
Nearer s (Unlaid key) c d m n = Unit {0}
Nearer s Unworked c d m n = Unit {0}
Nearer s (Unsound key) c d m n = ⊥
Nearer s (Unanswered item) c d m n = Unit {0}
Nearer s _ c d m n = ComesNearer c d s m n

-- a dead session comes nearer with a step of its recovery
abbrev pub NearerRecovered : ℕ → Result Recovery Fault → Beside → Beside → List Item → ℕ → Phase → Type 0
NearerRecovered s (Ok (Done committed moment)) c d left total x = (k l : ℕ) → Falls k l c d s (dead_session left total x) (gone_session left total x)
NearerRecovered s (Ok More) c d left total x = (k : ℕ) → Falls k k c d s (dead_session left total x) (dead_session left total x)
NearerRecovered s (Err fault) c d left total x = Unit {0}
