-- The phase of a session whose job is out, by the job and what the session has beside it.
use Rattle.session_jobs.specs.declared.jobs.Job.{Job}
use Rattle.job_steps.specs.session_states.declared.stage.Phase.{Phase}
use Rattle.job_steps.specs.session_states.declared.stage.Phase.TheVariants as phase
use Rattle.job_steps.specs.session_states.declared.stage.Work.TheVariants as work
use Rattle.job_steps.specs.session_states.declared.stage.Stage.TheVariants as stage
use Rattle.job_steps.specs.session_states.declared.stage.ReaderWork.TheVariants as look
use Rattle.job_steps.specs.session_states.declared.stage.ReaderStage.TheVariants as reading
use Rattle.job_steps.specs.session_states.States.{writer, reader}
use Rattle.answered_steps.specs.declared.answered.Absence.{Absence}
use Rattle.answered_steps.specs.declared.answered.Absence.TheVariants.{Writing, Reading}

abbrev pub phase_with : Absence → Job → Phase
phase_with (Writing spoken waits) job = phase.Writing (writer job.standing job.known spoken waits (stage.Working job.item work.Out))
phase_with (Reading spoken) job = phase.Reading (reader job.standing job.known spoken (reading.Working job.item look.Out))
