-- When a step brings a session nearer to its end.
use Rattle.std.specs.Prelude.{◌≡◌, ◌<◌, ◌⊎◌, ◌&&◌, ℕ, Bool, true, false}
use Rattle.lock_tree_laws.specs.Progress.{Falls as LocksFall, NeverRises}
use Rattle.session_states.specs.declared.stage.Work.TheVariants.{Due, Out}
use Rattle.session_states.specs.declared.stage.Stage.{Stage}
use Rattle.session_states.specs.declared.stage.Laying.{Laying}
use Rattle.session_states.specs.declared.stage.Laying.TheVariants.{Broken}
use Rattle.session_states.specs.declared.stage.Stage.TheVariants.{Between, Working, Saying}
use Rattle.session_states.specs.declared.stage.ReaderWork.TheVariants as work
use Rattle.session_states.specs.declared.stage.ReaderStage.{ReaderStage}
use Rattle.session_states.specs.declared.stage.ReaderStage.TheVariants as look
use Rattle.session_states.specs.declared.stage.Phase.{Phase}
use Rattle.session_states.specs.declared.stage.Phase.TheVariants.{Outside, Writing, Reading}
use Rattle.session_states.specs.declared.stage.Member.{Member}
use Rattle.session_measure.specs.Weights.{Beside, weight, Falls}

-- ---- rounds

-- no item is under way, and the next one may be taken up
abbrev pub is_between : Stage → Bool
is_between Between = true
is_between stage = false

abbrev pub is_reader_between : ReaderStage → Bool
is_reader_between look.Between = true
is_reader_between stage = false

abbrev pub takes_next : Phase → Bool
takes_next Outside = true
takes_next (Writing w) = is_between w.stage
takes_next (Reading r) = is_reader_between r.stage
takes_next x = false

-- the job of the statement is due
abbrev pub is_due : Stage → Bool
is_due (Working item Due) = true
is_due stage = false

abbrev pub is_reader_due : ReaderStage → Bool
is_reader_due (look.Working item work.Due) = true
is_reader_due stage = false

abbrev pub has_due : Phase → Bool
has_due (Writing w) = is_due w.stage
has_due (Reading r) = is_reader_due r.stage
has_due x = false

-- the job of the statement is handed out
abbrev pub is_out : Stage → Bool
is_out (Working item Out) = true
is_out stage = false

abbrev pub is_reader_out : ReaderStage → Bool
is_reader_out (look.Working item work.Out) = true
is_reader_out stage = false

abbrev pub has_out : Phase → Bool
has_out (Writing w) = is_out w.stage
has_out (Reading r) = is_reader_out r.stage
has_out x = false

abbrev pub RoundsBy : (takes hands : Bool) → ℕ → ℕ → Type 0
RoundsBy true hands k l = Unit {0}
RoundsBy false true k l = l < k
RoundsBy false false k l = l ≡ k

-- Of so many rounds before a step from x to y, so many are left behind it: one fewer at least where the job that was due is handed out, else as many. Where the next item is taken up it is given any number.
abbrev pub AreRounds : Phase → Phase → ℕ → ℕ → Type 0
AreRounds x y = RoundsBy (takes_next x) (has_due x && has_out y)

-- ---- nearer

-- The numbers of session s fall, or they stay and the measure of the tree of locks falls.
abbrev pub Nears : (k l : ℕ) → Beside → Beside → ℕ → (m n : Member) → Type 0
Nears k l c d s m n = Falls k l c d s m n ⊎ ((weight l d s n ≡ weight k c s m) × LocksFall s c.locks d.locks)

-- The numbers of session s fall, or they stay and the measure of the tree of locks doesn't rise.
abbrev pub Keeps : (k l : ℕ) → Beside → Beside → ℕ → (m n : Member) → Type 0
Keeps k l c d s m n = Falls k l c d s m n ⊎ ((weight l d s n ≡ weight k c s m) × NeverRises s c.locks d.locks)

-- It comes nearer, whatever rounds it has.
pub record ComesNearer (c d : Beside) (s : ℕ) (m n : Member) : Type 0 where
  pub nears : (k l : ℕ) → AreRounds m.phase n.phase k l → Nears k l c d s m n

-- It comes no farther away.
pub record StaysNear (c d : Beside) (s : ℕ) (m n : Member) : Type 0 where
  pub keeps : (k l : ℕ) → AreRounds m.phase n.phase k l → Keeps k l c d s m n

-- ---- broken

abbrev pub is_laid_broken : Laying → Bool
is_laid_broken Broken = true
is_laid_broken laying = false

abbrev pub is_stage_broken : Stage → Bool
is_stage_broken (Saying item r laying) = is_laid_broken laying
is_stage_broken stage = false

-- the store failed at a change of it, and it can only die
abbrev pub is_broken : Phase → Bool
is_broken (Writing w) = is_stage_broken w.stage
is_broken x = false
