-- A session whose job is out.
use Rattle.std.proofs.Common.{◌≡◌, List, false, None, refl}
use Rattle.rdo_ast.specs.declared.syntax.Item.{Item}
use Rattle.session_jobs.specs.declared.jobs.Job.{Job}
use Rattle.session_states.specs.States.{copies_in, has_said_all}
use Rattle.answered_steps.specs.declared.answered.Absence.{Absence}
use Rattle.answered_steps.specs.declared.answered.Absence.TheVariants.{Writing, Reading}
use Rattle.answered_steps.specs.Absences.{phase_with}
use Rattle.line_arms.specs.Going.{is_done}
use Rattle.lent_members.specs.Going.{takes_item}

module _ (left : List Item) (job : Job) where
  pub out-isnt-done : (a : Absence) → is_done left (phase_with a job) ≡ false
  out-isnt-done (Writing spoken waits) = refl
  out-isnt-done (Reading spoken) = refl

  pub out-hasnt-said-all : (a : Absence) → has_said_all left (phase_with a job) ≡ false
  out-hasnt-said-all (Writing spoken waits) = refl
  out-hasnt-said-all (Reading spoken) = refl

  -- nothing is copied
  pub out-copies : (a : Absence) → copies_in (phase_with a job) ≡ None
  out-copies (Writing spoken waits) = refl
  out-copies (Reading spoken) = refl

  pub out-takes-none : (a : Absence) → takes_item left (phase_with a job) ≡ false
  out-takes-none (Writing spoken waits) = refl
  out-takes-none (Reading spoken) = refl
